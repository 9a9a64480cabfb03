use Rattle.std.proofs.Common.{refl}
use Rattle.ms_ir.specs.declared.syntax.Init.TheBlock.{hidden-the_row-Init-Array-0-2-0, shape-the_row-Init-Array-0-2-0}
use Rattle.ms_ir.specs.declared.syntax.Ty.TheBlock.{hidden-the_row-Ty-0, hidden-the_row-Ty-1, shape-the_row-Ty-0}
use Rattle.ms_ir.specs.Names.{bit_moves}
use Rattle.ms_text_grammar.specs.Pieces.{pieces}
use Rattle.ms_text_grammar.specs.Layout.{layout}
use Rattle.ms_runs_examples.proofs.texts_written.examples_are_read_back.Goals as goal

pub returns-clause-returns_zero : goal.returns-clause-returns_zero
unfolding pieces layout hidden-the_row-Ty-0 hidden-the_row-Ty-1 shape-the_row-Ty-0 hidden-the_row-Init-Array-0-2-0 shape-the_row-Init-Array-0-2-0 denote.Hole.Carrier.hidden
returns-clause-returns_zero c = refl

pub returns-clause-branch_on_unset : goal.returns-clause-branch_on_unset
unfolding pieces layout hidden-the_row-Ty-0 hidden-the_row-Ty-1 shape-the_row-Ty-0 hidden-the_row-Init-Array-0-2-0 shape-the_row-Init-Array-0-2-0 denote.Hole.Carrier.hidden
returns-clause-branch_on_unset c = refl

pub returns-clause-masked_to_zero : goal.returns-clause-masked_to_zero
unfolding pieces layout hidden-the_row-Ty-0 hidden-the_row-Ty-1 shape-the_row-Ty-0 hidden-the_row-Init-Array-0-2-0 shape-the_row-Init-Array-0-2-0 denote.Hole.Carrier.hidden
returns-clause-masked_to_zero c = refl

pub returns-clause-ordered_compare : goal.returns-clause-ordered_compare
unfolding pieces layout hidden-the_row-Ty-0 hidden-the_row-Ty-1 shape-the_row-Ty-0 hidden-the_row-Init-Array-0-2-0 shape-the_row-Init-Array-0-2-0 denote.Hole.Carrier.hidden
returns-clause-ordered_compare c = refl

pub returns-clause-set_bit_is_not_zero : goal.returns-clause-set_bit_is_not_zero
unfolding pieces layout hidden-the_row-Ty-0 hidden-the_row-Ty-1 shape-the_row-Ty-0 hidden-the_row-Init-Array-0-2-0 shape-the_row-Init-Array-0-2-0 denote.Hole.Carrier.hidden
returns-clause-set_bit_is_not_zero c = refl

pub returns-clause-select_undef : goal.returns-clause-select_undef
unfolding pieces layout hidden-the_row-Ty-0 hidden-the_row-Ty-1 shape-the_row-Ty-0 hidden-the_row-Init-Array-0-2-0 shape-the_row-Init-Array-0-2-0 denote.Hole.Carrier.hidden
returns-clause-select_undef c = refl

pub returns-clause-two_unset : goal.returns-clause-two_unset
unfolding pieces layout hidden-the_row-Ty-0 hidden-the_row-Ty-1 shape-the_row-Ty-0 hidden-the_row-Init-Array-0-2-0 shape-the_row-Init-Array-0-2-0 denote.Hole.Carrier.hidden
returns-clause-two_unset c = refl

pub returns-clause-shared_cell : goal.returns-clause-shared_cell
unfolding pieces layout hidden-the_row-Ty-0 hidden-the_row-Ty-1 shape-the_row-Ty-0 hidden-the_row-Init-Array-0-2-0 shape-the_row-Init-Array-0-2-0 denote.Hole.Carrier.hidden
returns-clause-shared_cell c = refl

pub returns-clause-lost_in_addition : goal.returns-clause-lost_in_addition
unfolding pieces layout hidden-the_row-Ty-0 hidden-the_row-Ty-1 shape-the_row-Ty-0 hidden-the_row-Init-Array-0-2-0 shape-the_row-Init-Array-0-2-0 denote.Hole.Carrier.hidden
returns-clause-lost_in_addition c = refl

pub returns-clause-recursion : goal.returns-clause-recursion
unfolding pieces layout hidden-the_row-Ty-0 hidden-the_row-Ty-1 shape-the_row-Ty-0 hidden-the_row-Init-Array-0-2-0 shape-the_row-Init-Array-0-2-0 denote.Hole.Carrier.hidden
returns-clause-recursion c = refl

pub returns-clause-nested_call : goal.returns-clause-nested_call
unfolding pieces layout hidden-the_row-Ty-0 hidden-the_row-Ty-1 shape-the_row-Ty-0 hidden-the_row-Init-Array-0-2-0 shape-the_row-Init-Array-0-2-0 denote.Hole.Carrier.hidden
returns-clause-nested_call c = refl

pub returns-clause-write_with_gap : goal.returns-clause-write_with_gap
unfolding pieces layout hidden-the_row-Ty-0 hidden-the_row-Ty-1 shape-the_row-Ty-0 hidden-the_row-Init-Array-0-2-0 shape-the_row-Init-Array-0-2-0 denote.Hole.Carrier.hidden
returns-clause-write_with_gap c = refl

pub returns-clause-store_to_shadow : goal.returns-clause-store_to_shadow
unfolding pieces layout hidden-the_row-Ty-0 hidden-the_row-Ty-1 shape-the_row-Ty-0 hidden-the_row-Init-Array-0-2-0 shape-the_row-Init-Array-0-2-0 denote.Hole.Carrier.hidden
returns-clause-store_to_shadow c = refl

pub returns-clause-clang_unoptimised : goal.returns-clause-clang_unoptimised
unfolding pieces layout hidden-the_row-Ty-0 hidden-the_row-Ty-1 shape-the_row-Ty-0 hidden-the_row-Init-Array-0-2-0 shape-the_row-Init-Array-0-2-0 denote.Hole.Carrier.hidden
returns-clause-clang_unoptimised c = refl

pub returns-clause-store_and_load : goal.returns-clause-store_and_load
unfolding pieces layout hidden-the_row-Ty-0 hidden-the_row-Ty-1 shape-the_row-Ty-0 hidden-the_row-Init-Array-0-2-0 shape-the_row-Init-Array-0-2-0 denote.Hole.Carrier.hidden
returns-clause-store_and_load c = refl

pub returns-clause-sum_wraps : goal.returns-clause-sum_wraps
unfolding pieces layout hidden-the_row-Ty-0 hidden-the_row-Ty-1 shape-the_row-Ty-0 hidden-the_row-Init-Array-0-2-0 shape-the_row-Init-Array-0-2-0 denote.Hole.Carrier.hidden
returns-clause-sum_wraps c = refl

pub returns-clause-undef_divisor : goal.returns-clause-undef_divisor
unfolding pieces layout hidden-the_row-Ty-0 hidden-the_row-Ty-1 shape-the_row-Ty-0 hidden-the_row-Init-Array-0-2-0 shape-the_row-Init-Array-0-2-0 denote.Hole.Carrier.hidden
returns-clause-undef_divisor c = refl

pub returns-clause-frozen : goal.returns-clause-frozen
unfolding pieces layout hidden-the_row-Ty-0 hidden-the_row-Ty-1 shape-the_row-Ty-0 hidden-the_row-Init-Array-0-2-0 shape-the_row-Init-Array-0-2-0 denote.Hole.Carrier.hidden
returns-clause-frozen c = refl

pub returns-clause-three_branches : goal.returns-clause-three_branches
unfolding pieces layout hidden-the_row-Ty-0 hidden-the_row-Ty-1 shape-the_row-Ty-0 hidden-the_row-Init-Array-0-2-0 shape-the_row-Init-Array-0-2-0 denote.Hole.Carrier.hidden
returns-clause-three_branches c = refl

pub returns-clause-undef_sum : goal.returns-clause-undef_sum
unfolding pieces layout hidden-the_row-Ty-0 hidden-the_row-Ty-1 shape-the_row-Ty-0 hidden-the_row-Init-Array-0-2-0 shape-the_row-Init-Array-0-2-0 denote.Hole.Carrier.hidden
returns-clause-undef_sum c = refl

pub returns-clause-undef_stored : goal.returns-clause-undef_stored
unfolding pieces layout hidden-the_row-Ty-0 hidden-the_row-Ty-1 shape-the_row-Ty-0 hidden-the_row-Init-Array-0-2-0 shape-the_row-Init-Array-0-2-0 denote.Hole.Carrier.hidden
returns-clause-undef_stored c = refl

pub returns-clause-carry_of_undef : goal.returns-clause-carry_of_undef
unfolding pieces layout hidden-the_row-Ty-0 hidden-the_row-Ty-1 shape-the_row-Ty-0 hidden-the_row-Init-Array-0-2-0 shape-the_row-Init-Array-0-2-0 denote.Hole.Carrier.hidden
returns-clause-carry_of_undef c = refl

pub returns-clause-chooses : goal.returns-clause-chooses
unfolding pieces layout hidden-the_row-Ty-0 hidden-the_row-Ty-1 shape-the_row-Ty-0 hidden-the_row-Init-Array-0-2-0 shape-the_row-Init-Array-0-2-0 denote.Hole.Carrier.hidden
returns-clause-chooses c = refl

pub returns-clause-swaps : goal.returns-clause-swaps
unfolding pieces layout hidden-the_row-Ty-0 hidden-the_row-Ty-1 shape-the_row-Ty-0 hidden-the_row-Init-Array-0-2-0 shape-the_row-Init-Array-0-2-0 denote.Hole.Carrier.hidden
returns-clause-swaps c = refl

pub returns-clause-odd_width : goal.returns-clause-odd_width
unfolding pieces layout hidden-the_row-Ty-0 hidden-the_row-Ty-1 shape-the_row-Ty-0 hidden-the_row-Init-Array-0-2-0 shape-the_row-Init-Array-0-2-0 denote.Hole.Carrier.hidden
returns-clause-odd_width c = refl

pub returns-clause-with_globals : goal.returns-clause-with_globals
unfolding pieces layout hidden-the_row-Ty-0 hidden-the_row-Ty-1 shape-the_row-Ty-0 hidden-the_row-Init-Array-0-2-0 shape-the_row-Init-Array-0-2-0 denote.Hole.Carrier.hidden
returns-clause-with_globals c = refl

pub returns-clause-branch_on_unset_checked : goal.returns-clause-branch_on_unset_checked
unfolding pieces layout hidden-the_row-Ty-0 hidden-the_row-Ty-1 shape-the_row-Ty-0 hidden-the_row-Init-Array-0-2-0 shape-the_row-Init-Array-0-2-0 denote.Hole.Carrier.hidden
returns-clause-branch_on_unset_checked c = refl

pub returns-clause-nested_call_checked : goal.returns-clause-nested_call_checked
unfolding pieces layout hidden-the_row-Ty-0 hidden-the_row-Ty-1 shape-the_row-Ty-0 hidden-the_row-Init-Array-0-2-0 shape-the_row-Init-Array-0-2-0 denote.Hole.Carrier.hidden bit_moves
returns-clause-nested_call_checked c = refl
