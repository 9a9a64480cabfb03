use Rattle.std.proofs.Common.{refl, ◌∙◌, [], ◌∷◌}
use Rattle.ms_bits.specs.Words.{words}
use Rattle.ms_runs_examples.specs.Programs.{branch_on_unset, masked_to_zero, ordered_compare, returns_zero, select_undef, set_bit_is_not_zero, two_unset, undef_divisor}
use Rattle.ms_runs_examples.specs.Setups.{defaults, filled}
use Rattle.ms_runs_laws.specs.Formulas.{formulas}
use Rattle.ms_runs_laws.proofs.ExactRules.{computed}
use Rattle.ms_runs_examples.proofs.shadow_runs.masks_of_words.Goals as goal

pub returns-clause-returns_zero : goal.returns-clause-returns_zero
unfolding words formulas
returns-clause-returns_zero c = computed returns_zero defaults ∙ refl

pub returns-clause-branch_on_unset : goal.returns-clause-branch_on_unset
unfolding words formulas
returns-clause-branch_on_unset c = computed branch_on_unset defaults ∙ refl

pub returns-clause-masked_to_zero : goal.returns-clause-masked_to_zero
unfolding words formulas
returns-clause-masked_to_zero c = computed masked_to_zero defaults ∙ refl

pub returns-clause-never_below : goal.returns-clause-never_below
unfolding words formulas
returns-clause-never_below c = computed (ordered_compare 16) defaults ∙ refl

pub returns-clause-maybe_below : goal.returns-clause-maybe_below
unfolding words formulas
returns-clause-maybe_below c = computed (ordered_compare 40) defaults ∙ refl

pub returns-clause-set_bit_is_not_zero : goal.returns-clause-set_bit_is_not_zero
unfolding words formulas
returns-clause-set_bit_is_not_zero c = computed set_bit_is_not_zero defaults ∙ refl

pub returns-clause-six_or_four : goal.returns-clause-six_or_four
unfolding words formulas
returns-clause-six_or_four c = computed select_undef defaults ∙ refl

pub returns-clause-two_unset : goal.returns-clause-two_unset
unfolding words formulas
returns-clause-two_unset c = computed two_unset defaults ∙ refl

pub returns-clause-undef_divisor : goal.returns-clause-undef_divisor
unfolding words formulas
returns-clause-undef_divisor c = computed undef_divisor (filled (0 ∷ [])) ∙ refl
