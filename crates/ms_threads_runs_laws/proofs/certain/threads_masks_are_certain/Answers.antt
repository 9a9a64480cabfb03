use Rattle.ms_threads_runs_laws.proofs.CertainRuns.{certain_threads}
use Rattle.ms_threads_runs_laws.proofs.certain.threads_masks_are_certain.Goals as goal

pub returns : goal.returns
returns c = λ m formed valid can setup bytes schedule n told fills are. certain_threads m formed valid can setup bytes schedule fills are n told
