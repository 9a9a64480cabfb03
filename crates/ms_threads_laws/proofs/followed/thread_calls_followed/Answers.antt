use Rattle.ms_threads_laws.proofs.KeptRuns.{calls_followed}
use Rattle.ms_threads_laws.proofs.followed.thread_calls_followed.Goals as goal

pub returns : goal.returns
returns c = calls_followed
