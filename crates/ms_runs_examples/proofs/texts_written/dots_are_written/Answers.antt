use Rattle.std.proofs.Common.{refl}
use Rattle.ms_ir.specs.declared.syntax.Init.TheBlock.{hidden-the_row-Init-Array-0-2-0, shape-the_row-Init-Array-0-2-0}
use Rattle.ms_ir.specs.declared.syntax.Ty.TheBlock.{hidden-the_row-Ty-0, hidden-the_row-Ty-1, shape-the_row-Ty-0}
use Rattle.ms_text_grammar.specs.Layout.{layout}
use Rattle.ms_runs_examples.proofs.texts_written.dots_are_written.Goals as goal

pub returns-clause-one_pointer : goal.returns-clause-one_pointer
unfolding layout hidden-the_row-Ty-0 hidden-the_row-Ty-1 shape-the_row-Ty-0 hidden-the_row-Init-Array-0-2-0 shape-the_row-Init-Array-0-2-0 denote.Hole.Carrier.hidden
returns-clause-one_pointer c = refl

pub returns-clause-call_without_a_result : goal.returns-clause-call_without_a_result
unfolding layout hidden-the_row-Ty-0 hidden-the_row-Ty-1 shape-the_row-Ty-0 hidden-the_row-Init-Array-0-2-0 shape-the_row-Init-Array-0-2-0 denote.Hole.Carrier.hidden
returns-clause-call_without_a_result c = refl

pub returns-clause-two_parameters : goal.returns-clause-two_parameters
unfolding layout hidden-the_row-Ty-0 hidden-the_row-Ty-1 shape-the_row-Ty-0 hidden-the_row-Init-Array-0-2-0 shape-the_row-Init-Array-0-2-0 denote.Hole.Carrier.hidden
returns-clause-two_parameters c = refl
