use Rattle.ms_threads_schedules_laws.proofs.PicksFollowed.{picks_followed}
use Rattle.ms_threads_schedules_laws.proofs.followed.picks_followed.Goals as goal

pub returns : goal.returns
returns c = picks_followed
