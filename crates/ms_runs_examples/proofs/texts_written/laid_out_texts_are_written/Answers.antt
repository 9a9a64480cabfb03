use Rattle.std.proofs.Common.{refl}
use Rattle.ms_ir.specs.declared.syntax.Init.TheBlock.{hidden-the_row-Init-Array-0-2-0, shape-the_row-Init-Array-0-2-0}
use Rattle.ms_ir.specs.declared.syntax.Ty.TheBlock.{hidden-the_row-Ty-0, hidden-the_row-Ty-1, shape-the_row-Ty-0}
use Rattle.ms_text_grammar.specs.Layout.{layout}
use Rattle.ms_runs_examples.proofs.texts_written.laid_out_texts_are_written.Goals as goal

pub returns-clause-branch_on_unset : goal.returns-clause-branch_on_unset
unfolding layout hidden-the_row-Ty-0 hidden-the_row-Ty-1 shape-the_row-Ty-0 hidden-the_row-Init-Array-0-2-0 shape-the_row-Init-Array-0-2-0 denote.Hole.Carrier.hidden
returns-clause-branch_on_unset c = refl

pub returns-clause-masked_to_zero : goal.returns-clause-masked_to_zero
unfolding layout hidden-the_row-Ty-0 hidden-the_row-Ty-1 shape-the_row-Ty-0 hidden-the_row-Init-Array-0-2-0 shape-the_row-Init-Array-0-2-0 denote.Hole.Carrier.hidden
returns-clause-masked_to_zero c = refl

pub returns-clause-ordered_compare : goal.returns-clause-ordered_compare
unfolding layout hidden-the_row-Ty-0 hidden-the_row-Ty-1 shape-the_row-Ty-0 hidden-the_row-Init-Array-0-2-0 shape-the_row-Init-Array-0-2-0 denote.Hole.Carrier.hidden
returns-clause-ordered_compare c = refl

pub returns-clause-select_undef : goal.returns-clause-select_undef
unfolding layout hidden-the_row-Ty-0 hidden-the_row-Ty-1 shape-the_row-Ty-0 hidden-the_row-Init-Array-0-2-0 shape-the_row-Init-Array-0-2-0 denote.Hole.Carrier.hidden
returns-clause-select_undef c = refl

pub returns-clause-recursion : goal.returns-clause-recursion
unfolding layout hidden-the_row-Ty-0 hidden-the_row-Ty-1 shape-the_row-Ty-0 hidden-the_row-Init-Array-0-2-0 shape-the_row-Init-Array-0-2-0 denote.Hole.Carrier.hidden
returns-clause-recursion c = refl

pub returns-clause-nested_call : goal.returns-clause-nested_call
unfolding layout hidden-the_row-Ty-0 hidden-the_row-Ty-1 shape-the_row-Ty-0 hidden-the_row-Init-Array-0-2-0 shape-the_row-Init-Array-0-2-0 denote.Hole.Carrier.hidden
returns-clause-nested_call c = refl

pub returns-clause-store_to_shadow : goal.returns-clause-store_to_shadow
unfolding layout hidden-the_row-Ty-0 hidden-the_row-Ty-1 shape-the_row-Ty-0 hidden-the_row-Init-Array-0-2-0 shape-the_row-Init-Array-0-2-0 denote.Hole.Carrier.hidden
returns-clause-store_to_shadow c = refl
