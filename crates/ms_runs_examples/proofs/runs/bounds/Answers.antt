use Rattle.std.proofs.Common.{refl, ◌∙◌}
use Rattle.ms_bits.specs.Words.{words}
use Rattle.ms_runs_examples.specs.Programs.{returns_zero}
use Rattle.ms_runs_examples.specs.Setups.{defaults, steps}
use Rattle.ms_runs.specs.Origins.{depth_limit}
use Rattle.ms_runs_examples.specs.RunPrograms.{sixteen_copies}
use Rattle.ms_runs_laws.specs.Formulas.{formulas}
use Rattle.ms_runs_laws.proofs.ExactRules.{computed}
use Rattle.ms_runs_examples.proofs.runs.bounds.Goals as goal

pub returns-clause-no_step : goal.returns-clause-no_step
unfolding words formulas
returns-clause-no_step c = computed returns_zero (steps 0) ∙ refl

pub returns-clause-one_step : goal.returns-clause-one_step
unfolding words formulas
returns-clause-one_step c = computed returns_zero (steps 1) ∙ refl

pub returns-clause-sixteen_copies : goal.returns-clause-sixteen_copies
unfolding words formulas depth_limit
returns-clause-sixteen_copies c = computed sixteen_copies defaults ∙ refl
