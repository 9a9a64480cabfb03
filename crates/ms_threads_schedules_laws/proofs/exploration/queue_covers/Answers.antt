use Rattle.ms_threads_schedules_laws.proofs.Queued.{covers_all}
use Rattle.ms_threads_schedules_laws.proofs.exploration.queue_covers.Goals as goal

pub returns : goal.returns
returns c = covers_all
