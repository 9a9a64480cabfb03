use Rattle.std.proofs.Common.{refl}
use Rattle.ms_ir.specs.declared.syntax.Init.TheBlock.{hidden-the_row-Init-Array-0-2-0, shape-the_row-Init-Array-0-2-0}
use Rattle.ms_ir.specs.declared.syntax.Ty.TheBlock.{hidden-the_row-Ty-0, hidden-the_row-Ty-1, shape-the_row-Ty-0}
use Rattle.ms_text_grammar.specs.Layout.{layout}
use Rattle.ms_runs_examples.proofs.texts_written.modules_are_written.Goals as goal

pub returns-clause-returns_zero : goal.returns-clause-returns_zero
unfolding layout hidden-the_row-Ty-0 hidden-the_row-Ty-1 shape-the_row-Ty-0 hidden-the_row-Init-Array-0-2-0 shape-the_row-Init-Array-0-2-0 denote.Hole.Carrier.hidden
returns-clause-returns_zero c = refl

pub returns-clause-odd_names : goal.returns-clause-odd_names
unfolding layout hidden-the_row-Ty-0 hidden-the_row-Ty-1 shape-the_row-Ty-0 hidden-the_row-Init-Array-0-2-0 shape-the_row-Init-Array-0-2-0 denote.Hole.Carrier.hidden
returns-clause-odd_names c = refl

pub returns-clause-many_parts : goal.returns-clause-many_parts
unfolding layout hidden-the_row-Ty-0 hidden-the_row-Ty-1 shape-the_row-Ty-0 hidden-the_row-Init-Array-0-2-0 shape-the_row-Init-Array-0-2-0 denote.Hole.Carrier.hidden
returns-clause-many_parts c = refl

pub returns-clause-marked_parts : goal.returns-clause-marked_parts
unfolding layout hidden-the_row-Ty-0 hidden-the_row-Ty-1 shape-the_row-Ty-0 hidden-the_row-Init-Array-0-2-0 shape-the_row-Init-Array-0-2-0 denote.Hole.Carrier.hidden
returns-clause-marked_parts c = refl
