use Rattle.std.proofs.Common.{refl}
use Rattle.ms_bits.specs.Words.{words}
use Rattle.ms_runs_examples.proofs.plain_runs.modules.Goals as goal

pub returns-clause-returns_zero : goal.returns-clause-returns_zero
unfolding words
returns-clause-returns_zero c = refl

pub returns-clause-branch_on_unset : goal.returns-clause-branch_on_unset
unfolding words
returns-clause-branch_on_unset c = refl

pub returns-clause-branch_on_zero : goal.returns-clause-branch_on_zero
unfolding words
returns-clause-branch_on_zero c = refl

pub returns-clause-masked_to_zero : goal.returns-clause-masked_to_zero
unfolding words
returns-clause-masked_to_zero c = refl

pub returns-clause-ordered_compare : goal.returns-clause-ordered_compare
unfolding words
returns-clause-ordered_compare c = refl

pub returns-clause-ordered_compare_above : goal.returns-clause-ordered_compare_above
unfolding words
returns-clause-ordered_compare_above c = refl

pub returns-clause-set_bit_is_not_zero : goal.returns-clause-set_bit_is_not_zero
unfolding words
returns-clause-set_bit_is_not_zero c = refl

pub returns-clause-select_undef : goal.returns-clause-select_undef
unfolding words
returns-clause-select_undef c = refl

pub returns-clause-two_unset : goal.returns-clause-two_unset
unfolding words
returns-clause-two_unset c = refl

pub returns-clause-shared_cell : goal.returns-clause-shared_cell
unfolding words
returns-clause-shared_cell c = refl

pub returns-clause-addition_of_zeros : goal.returns-clause-addition_of_zeros
unfolding words
returns-clause-addition_of_zeros c = refl

pub returns-clause-addition_of_ones : goal.returns-clause-addition_of_ones
unfolding words
returns-clause-addition_of_ones c = refl

pub returns-clause-recursion : goal.returns-clause-recursion
unfolding words
returns-clause-recursion c = refl

pub returns-clause-nested_call : goal.returns-clause-nested_call
unfolding words
returns-clause-nested_call c = refl

pub returns-clause-write_with_gap : goal.returns-clause-write_with_gap
unfolding words
returns-clause-write_with_gap c = refl

pub returns-clause-store_to_shadow : goal.returns-clause-store_to_shadow
unfolding words
returns-clause-store_to_shadow c = refl

pub returns-clause-clang_unoptimised : goal.returns-clause-clang_unoptimised
unfolding words
returns-clause-clang_unoptimised c = refl

pub returns-clause-store_and_load : goal.returns-clause-store_and_load
unfolding words
returns-clause-store_and_load c = refl

pub returns-clause-load_of_unset : goal.returns-clause-load_of_unset
unfolding words
returns-clause-load_of_unset c = refl

pub returns-clause-sum_wraps : goal.returns-clause-sum_wraps
unfolding words
returns-clause-sum_wraps c = refl

pub returns-clause-undef_divisor : goal.returns-clause-undef_divisor
unfolding words
returns-clause-undef_divisor c = refl

pub returns-clause-frozen : goal.returns-clause-frozen
unfolding words
returns-clause-frozen c = refl

pub returns-clause-frozen_zero : goal.returns-clause-frozen_zero
unfolding words
returns-clause-frozen_zero c = refl

pub returns-clause-undef_sum : goal.returns-clause-undef_sum
unfolding words
returns-clause-undef_sum c = refl

pub returns-clause-undef_sum_wraps : goal.returns-clause-undef_sum_wraps
unfolding words
returns-clause-undef_sum_wraps c = refl

pub returns-clause-undef_stored : goal.returns-clause-undef_stored
unfolding words
returns-clause-undef_stored c = refl

pub returns-clause-carry_of_undef : goal.returns-clause-carry_of_undef
unfolding words
returns-clause-carry_of_undef c = refl

pub returns-clause-carry_of_ones : goal.returns-clause-carry_of_ones
unfolding words
returns-clause-carry_of_ones c = refl

pub returns-clause-three_branches : goal.returns-clause-three_branches
unfolding words
returns-clause-three_branches c = refl
