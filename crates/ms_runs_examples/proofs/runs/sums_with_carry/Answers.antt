use Rattle.std.proofs.Common.{refl, ◌∙◌, [], ◌∷◌}
use Rattle.ms_bits.specs.Words.{words}
use Rattle.ms_runs_examples.specs.Programs.{lost_in_addition, carry_of_undef}
use Rattle.ms_runs_examples.specs.Setups.{defaults, filled}
use Rattle.ms_runs_examples.specs.RunPrograms.{indexed_by_undef}
use Rattle.ms_runs_laws.specs.Formulas.{formulas}
use Rattle.ms_runs_laws.proofs.ExactRules.{computed}
use Rattle.ms_runs_examples.proofs.runs.sums_with_carry.Goals as goal

pub returns-clause-found : goal.returns-clause-found
unfolding words formulas
returns-clause-found c = computed lost_in_addition defaults ∙ refl

pub returns-clause-found_under_zeros : goal.returns-clause-found_under_zeros
unfolding words formulas
returns-clause-found_under_zeros c = computed lost_in_addition (filled (0 ∷ [])) ∙ refl

pub returns-clause-found_under_ones : goal.returns-clause-found_under_ones
unfolding words formulas
returns-clause-found_under_ones c = computed lost_in_addition (filled (1 ∷ [])) ∙ refl

pub returns-clause-one_bit : goal.returns-clause-one_bit
unfolding words formulas
returns-clause-one_bit c = computed carry_of_undef defaults ∙ refl

pub returns-clause-index : goal.returns-clause-index
unfolding words formulas
returns-clause-index c = computed indexed_by_undef defaults ∙ refl
