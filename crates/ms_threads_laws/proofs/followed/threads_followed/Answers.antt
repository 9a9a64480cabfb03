use Rattle.ms_threads_laws.proofs.KeptRuns.{threads_followed}
use Rattle.ms_threads_laws.proofs.followed.threads_followed.Goals as goal

pub returns : goal.returns
returns c = threads_followed
