use Rattle.ms_threads_explore.proofs.Holding.{all_hold}
use Rattle.ms_threads_explore.proofs.laws.all_schedules_hold.Goals as goal

pub returns : goal.returns
returns c = all_hold
