use Rattle.ms_threads_laws.proofs.KeptRuns.{end_followed}
use Rattle.ms_threads_laws.proofs.blind.thread_ends_followed.Goals as goal

pub returns : goal.returns
returns c = end_followed
