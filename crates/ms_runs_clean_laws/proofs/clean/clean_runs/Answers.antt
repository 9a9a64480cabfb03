use Rattle.ms_runs_clean_laws.proofs.CleanRuns.{walks_clean, walks_read}
use Rattle.ms_runs_clean_laws.proofs.clean.clean_runs.Goals as goal

pub returns-clause-values : goal.returns-clause-values
returns-clause-values c = walks_clean

pub returns-clause-operands : goal.returns-clause-operands
returns-clause-operands c = walks_read
