use Rattle.ms_threads_laws.proofs.KeptRuns.{blind_followed}
use Rattle.ms_threads_laws.proofs.blind.thread_blind_followed.Goals as goal

pub returns : goal.returns
returns c = blind_followed
