use Rattle.std.proofs.Common.{refl, ◌∙◌}
use Rattle.ms_bits.specs.Words.{words}
use Rattle.ms_runs_examples.specs.Programs.{shared_cell}
use Rattle.ms_runs_examples.specs.Setups.{defaults}
use Rattle.ms_runs.specs.Origins.{depth_limit}
use Rattle.ms_runs_laws.specs.Formulas.{formulas}
use Rattle.ms_runs_laws.proofs.ExactRules.{computed}
use Rattle.ms_runs_examples.proofs.runs.shared_cells.Goals as goal

pub returns-clause-shared_cell : goal.returns-clause-shared_cell
unfolding words formulas depth_limit
returns-clause-shared_cell c = computed shared_cell (record defaults { reports = 3 }) ∙ refl

pub returns-clause-first_alone : goal.returns-clause-first_alone
unfolding words formulas depth_limit
returns-clause-first_alone c = computed shared_cell defaults ∙ refl
