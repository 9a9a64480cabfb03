use Rattle.std.proofs.Common.{refl, ◌∙◌, [], ◌∷◌}
use Rattle.ms_bits.specs.Words.{words}
use Rattle.ms_runs_examples.specs.Programs.{frozen, undef_sum}
use Rattle.ms_runs_examples.specs.Setups.{filled}
use Rattle.ms_runs_laws.specs.Formulas.{formulas}
use Rattle.ms_runs_laws.proofs.ExactRules.{computed}
use Rattle.ms_runs_examples.proofs.runs.blind_uses.Goals as goal

pub returns-clause-frozen_zero : goal.returns-clause-frozen_zero
unfolding words formulas
returns-clause-frozen_zero c = computed frozen (filled (0 ∷ [])) ∙ refl

pub returns-clause-flag_traps : goal.returns-clause-flag_traps
unfolding words formulas
returns-clause-flag_traps c = computed undef_sum (filled (0xff ∷ 0xff ∷ 0xff ∷ 0x7f ∷ [])) ∙ refl

pub returns-clause-flag_holds : goal.returns-clause-flag_holds
unfolding words formulas
returns-clause-flag_holds c = computed undef_sum (filled (0 ∷ [])) ∙ refl
