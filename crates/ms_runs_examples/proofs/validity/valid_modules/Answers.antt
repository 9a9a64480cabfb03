use Rattle.std.proofs.Common.{refl}
use Rattle.ms_ir.specs.declared.syntax.Ty.TheBlock.{hidden-the_row-Ty-0, shape-the_row-Ty-0}
use Rattle.ms_runs_examples.specs.Programs.{returns_zero, branch_on_unset, masked_to_zero, ordered_compare, set_bit_is_not_zero, select_undef, two_unset, shared_cell, lost_in_addition, recursion, nested_call, write_with_gap, store_to_shadow, clang_unoptimised, sum_wraps, undef_divisor, frozen, three_branches, undef_sum, undef_stored, carry_of_undef}
use Rattle.ms_runs_examples.specs.Marks.{branch_on_unset_checked, nested_call_checked}
use Rattle.ms_ir.specs.Names.{word_externals, bit_moves, is_kept}
use Rattle.ms_check_valid.proofs.TestedPaths.{tested_uses}
use Rattle.ms_runs_examples.proofs.validity.valid_modules.Goals as goal

pub returns-clause-returns_zero : goal.returns-clause-returns_zero
unfolding is_kept bit_moves
returns-clause-returns_zero c = record { names_once = refl; names_known = refl; types_agree = refl; phis_fit = refl; has_main = refl; externals_fit = refl; uses_defined = tested_uses returns_zero refl; marks_fit = refl; sizes_fit = refl }

pub returns-clause-branch_on_unset : goal.returns-clause-branch_on_unset
unfolding is_kept bit_moves
returns-clause-branch_on_unset c = record { names_once = refl; names_known = refl; types_agree = refl; phis_fit = refl; has_main = refl; externals_fit = refl; uses_defined = tested_uses branch_on_unset refl; marks_fit = refl; sizes_fit = refl }

pub returns-clause-masked_to_zero : goal.returns-clause-masked_to_zero
unfolding is_kept bit_moves
returns-clause-masked_to_zero c = record { names_once = refl; names_known = refl; types_agree = refl; phis_fit = refl; has_main = refl; externals_fit = refl; uses_defined = tested_uses masked_to_zero refl; marks_fit = refl; sizes_fit = refl }

pub returns-clause-ordered_compare : goal.returns-clause-ordered_compare
unfolding is_kept bit_moves
returns-clause-ordered_compare c = record { names_once = refl; names_known = refl; types_agree = refl; phis_fit = refl; has_main = refl; externals_fit = refl; uses_defined = tested_uses (ordered_compare 16) refl; marks_fit = refl; sizes_fit = refl }

pub returns-clause-set_bit_is_not_zero : goal.returns-clause-set_bit_is_not_zero
unfolding is_kept bit_moves
returns-clause-set_bit_is_not_zero c = record { names_once = refl; names_known = refl; types_agree = refl; phis_fit = refl; has_main = refl; externals_fit = refl; uses_defined = tested_uses set_bit_is_not_zero refl; marks_fit = refl; sizes_fit = refl }

pub returns-clause-select_undef : goal.returns-clause-select_undef
unfolding is_kept bit_moves
returns-clause-select_undef c = record { names_once = refl; names_known = refl; types_agree = refl; phis_fit = refl; has_main = refl; externals_fit = refl; uses_defined = tested_uses select_undef refl; marks_fit = refl; sizes_fit = refl }

pub returns-clause-two_unset : goal.returns-clause-two_unset
unfolding is_kept bit_moves
returns-clause-two_unset c = record { names_once = refl; names_known = refl; types_agree = refl; phis_fit = refl; has_main = refl; externals_fit = refl; uses_defined = tested_uses two_unset refl; marks_fit = refl; sizes_fit = refl }

pub returns-clause-shared_cell : goal.returns-clause-shared_cell
unfolding is_kept bit_moves
returns-clause-shared_cell c = record { names_once = refl; names_known = refl; types_agree = refl; phis_fit = refl; has_main = refl; externals_fit = refl; uses_defined = tested_uses shared_cell refl; marks_fit = refl; sizes_fit = refl }

pub returns-clause-lost_in_addition : goal.returns-clause-lost_in_addition
unfolding is_kept bit_moves
returns-clause-lost_in_addition c = record { names_once = refl; names_known = refl; types_agree = refl; phis_fit = refl; has_main = refl; externals_fit = refl; uses_defined = tested_uses lost_in_addition refl; marks_fit = refl; sizes_fit = refl }

pub returns-clause-recursion : goal.returns-clause-recursion
unfolding is_kept bit_moves
returns-clause-recursion c = record { names_once = refl; names_known = refl; types_agree = refl; phis_fit = refl; has_main = refl; externals_fit = refl; uses_defined = tested_uses (recursion 1023) refl; marks_fit = refl; sizes_fit = refl }

pub returns-clause-nested_call : goal.returns-clause-nested_call
unfolding is_kept bit_moves
returns-clause-nested_call c = record { names_once = refl; names_known = refl; types_agree = refl; phis_fit = refl; has_main = refl; externals_fit = refl; uses_defined = tested_uses nested_call refl; marks_fit = refl; sizes_fit = refl }

pub returns-clause-write_with_gap : goal.returns-clause-write_with_gap
unfolding is_kept bit_moves
returns-clause-write_with_gap c = record { names_once = refl; names_known = refl; types_agree = refl; phis_fit = refl; has_main = refl; externals_fit = refl; uses_defined = tested_uses write_with_gap refl; marks_fit = refl; sizes_fit = refl }

pub returns-clause-store_to_shadow : goal.returns-clause-store_to_shadow
unfolding is_kept bit_moves
returns-clause-store_to_shadow c = record { names_once = refl; names_known = refl; types_agree = refl; phis_fit = refl; has_main = refl; externals_fit = refl; uses_defined = tested_uses store_to_shadow refl; marks_fit = refl; sizes_fit = refl }

pub returns-clause-clang_unoptimised : goal.returns-clause-clang_unoptimised
unfolding is_kept bit_moves
returns-clause-clang_unoptimised c = record { names_once = refl; names_known = refl; types_agree = refl; phis_fit = refl; has_main = refl; externals_fit = refl; uses_defined = tested_uses clang_unoptimised refl; marks_fit = refl; sizes_fit = refl }

pub returns-clause-sum_wraps : goal.returns-clause-sum_wraps
unfolding is_kept bit_moves
returns-clause-sum_wraps c = record { names_once = refl; names_known = refl; types_agree = refl; phis_fit = refl; has_main = refl; externals_fit = refl; uses_defined = tested_uses sum_wraps refl; marks_fit = refl; sizes_fit = refl }

pub returns-clause-undef_divisor : goal.returns-clause-undef_divisor
unfolding is_kept bit_moves
returns-clause-undef_divisor c = record { names_once = refl; names_known = refl; types_agree = refl; phis_fit = refl; has_main = refl; externals_fit = refl; uses_defined = tested_uses undef_divisor refl; marks_fit = refl; sizes_fit = refl }

pub returns-clause-frozen : goal.returns-clause-frozen
unfolding is_kept bit_moves
returns-clause-frozen c = record { names_once = refl; names_known = refl; types_agree = refl; phis_fit = refl; has_main = refl; externals_fit = refl; uses_defined = tested_uses frozen refl; marks_fit = refl; sizes_fit = refl }

pub returns-clause-three_branches : goal.returns-clause-three_branches
unfolding is_kept bit_moves
returns-clause-three_branches c = record { names_once = refl; names_known = refl; types_agree = refl; phis_fit = refl; has_main = refl; externals_fit = refl; uses_defined = tested_uses three_branches refl; marks_fit = refl; sizes_fit = refl }

pub returns-clause-undef_sum : goal.returns-clause-undef_sum
unfolding is_kept bit_moves
returns-clause-undef_sum c = record { names_once = refl; names_known = refl; types_agree = refl; phis_fit = refl; has_main = refl; externals_fit = refl; uses_defined = tested_uses undef_sum refl; marks_fit = refl; sizes_fit = refl }

pub returns-clause-undef_stored : goal.returns-clause-undef_stored
unfolding is_kept bit_moves
returns-clause-undef_stored c = record { names_once = refl; names_known = refl; types_agree = refl; phis_fit = refl; has_main = refl; externals_fit = refl; uses_defined = tested_uses undef_stored refl; marks_fit = refl; sizes_fit = refl }

pub returns-clause-carry_of_undef : goal.returns-clause-carry_of_undef
unfolding is_kept bit_moves
returns-clause-carry_of_undef c = record { names_once = refl; names_known = refl; types_agree = refl; phis_fit = refl; has_main = refl; externals_fit = refl; uses_defined = tested_uses carry_of_undef refl; marks_fit = refl; sizes_fit = refl }

pub returns-clause-branch_on_unset_checked : goal.returns-clause-branch_on_unset_checked
unfolding word_externals is_kept bit_moves
returns-clause-branch_on_unset_checked c = record { names_once = refl; names_known = refl; types_agree = refl; phis_fit = refl; has_main = refl; externals_fit = refl; uses_defined = tested_uses branch_on_unset_checked refl; marks_fit = refl; sizes_fit = refl }

pub returns-clause-nested_call_checked : goal.returns-clause-nested_call_checked
unfolding hidden-the_row-Ty-0 shape-the_row-Ty-0 denote.Hole.Carrier.hidden word_externals is_kept bit_moves
returns-clause-nested_call_checked c = record { names_once = refl; names_known = refl; types_agree = refl; phis_fit = refl; has_main = refl; externals_fit = refl; uses_defined = tested_uses nested_call_checked refl; marks_fit = refl; sizes_fit = refl }
