use Rattle.ms_threads_schedules_laws.proofs.Tried.{all_tried}
use Rattle.ms_threads_schedules_laws.proofs.promise.schedules_that_were_tried.Goals as goal

pub returns : goal.returns
returns c = all_tried
