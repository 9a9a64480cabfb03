use Rattle.ms_threads_schedules_laws.proofs.Covered.{runs_as_one}
use Rattle.ms_threads_schedules_laws.proofs.promise.clean_schedules.Goals as goal

pub returns : goal.returns
returns c = runs_as_one
