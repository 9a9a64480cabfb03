use Rattle.std.proofs.Common.{refl, ◌∙◌}
use Rattle.ms_bits.specs.Words.{words}
use Rattle.ms_runs_examples.specs.Setups.{defaults}
use Rattle.ms_runs_examples.specs.RunPrograms.{masked_undef}
use Rattle.ms_runs_laws.specs.Formulas.{formulas}
use Rattle.ms_runs_laws.proofs.ExactRules.{computed}
use Rattle.ms_runs_examples.proofs.runs.undefined_bits.Goals as goal

pub returns-clause-low_bits_kept : goal.returns-clause-low_bits_kept
unfolding words formulas
returns-clause-low_bits_kept c = computed (masked_undef 255) defaults ∙ refl

pub returns-clause-no_bit_kept : goal.returns-clause-no_bit_kept
unfolding words formulas
returns-clause-no_bit_kept c = computed (masked_undef 0) defaults ∙ refl
