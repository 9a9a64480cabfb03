use Rattle.ms_runs_clean_laws.proofs.CleanSteps.{steps_clean}
use Rattle.ms_runs_clean_laws.proofs.CleanRuns.{start_clean}
use Rattle.ms_runs_clean_laws.proofs.clean.clean_steps.Goals as goal

pub returns-clause-starts : goal.returns-clause-starts
returns-clause-starts c = start_clean

pub returns-clause-steps : goal.returns-clause-steps
returns-clause-steps c = steps_clean
