use Rattle.std.proofs.Common.{refl}
use Rattle.ms_ir.specs.declared.syntax.Init.TheBlock.{hidden-the_row-Init-Array-0-2-0, shape-the_row-Init-Array-0-2-0}
use Rattle.ms_runs_examples.proofs.faults.initialisers_differ.Goals as goal

pub returns-clause-items : goal.returns-clause-items
unfolding hidden-the_row-Init-Array-0-2-0 shape-the_row-Init-Array-0-2-0 denote.Hole.Carrier.hidden
returns-clause-items c = refl

pub returns-clause-few_items : goal.returns-clause-few_items
unfolding hidden-the_row-Init-Array-0-2-0 shape-the_row-Init-Array-0-2-0 denote.Hole.Carrier.hidden
returns-clause-few_items c = refl

pub returns-clause-other_items : goal.returns-clause-other_items
unfolding hidden-the_row-Init-Array-0-2-0 shape-the_row-Init-Array-0-2-0 denote.Hole.Carrier.hidden
returns-clause-other_items c = refl

pub returns-clause-fields_of_a_named_type : goal.returns-clause-fields_of_a_named_type
unfolding hidden-the_row-Init-Array-0-2-0 shape-the_row-Init-Array-0-2-0 denote.Hole.Carrier.hidden
returns-clause-fields_of_a_named_type c = refl
