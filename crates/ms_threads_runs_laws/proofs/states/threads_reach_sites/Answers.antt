use Rattle.ms_threads_runs_laws.proofs.PlainThreads.{plain_sited}
use Rattle.ms_threads_runs_laws.proofs.ShadowThreads.{shadow_sited}
use Rattle.ms_threads_runs_laws.proofs.states.threads_reach_sites.Goals as goal

pub returns-clause-plain_ends : goal.returns-clause-plain_ends
returns-clause-plain_ends c = λ m formed valid setup bytes schedule. plain_sited m formed valid setup bytes schedule

pub returns-clause-shadow_ends : goal.returns-clause-shadow_ends
returns-clause-shadow_ends c = λ d m formed valid bare setup bytes schedule. shadow_sited d m formed valid bare setup bytes schedule
