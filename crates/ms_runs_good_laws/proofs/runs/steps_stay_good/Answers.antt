use Rattle.ms_runs_good_laws.proofs.Sound.{plain_keeps, shadow_keeps}
use Rattle.ms_runs_good_laws.proofs.runs.steps_stay_good.Goals as goal

pub returns-clause-plain_runs : goal.returns-clause-plain_runs
returns-clause-plain_runs c = plain_keeps

pub returns-clause-shadow_runs : goal.returns-clause-shadow_runs
returns-clause-shadow_runs c = shadow_keeps
