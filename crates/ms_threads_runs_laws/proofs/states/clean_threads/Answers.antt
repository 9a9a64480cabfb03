use Rattle.ms_threads_runs_laws.proofs.ShadowThreads.{shadow_clean}
use Rattle.ms_threads_runs_laws.proofs.states.clean_threads.Goals as goal

pub returns : goal.returns
returns c = λ d clean keep m formed valid bare setup bytes schedule n. shadow_clean d keep m formed valid bare setup bytes clean schedule n
