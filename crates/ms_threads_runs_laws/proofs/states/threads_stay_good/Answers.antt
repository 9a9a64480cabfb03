use Rattle.ms_runs.specs.Plain.{setting_of}
use Rattle.ms_runs_threads.specs.PlainFibers.{plain_fiber, plain_threads_start}
use Rattle.ms_runs_threads.specs.ShadowFibers.{shadow_fiber, shadow_threads_start}
use Rattle.ms_threads_runs_laws.proofs.PlainThreads.{ends_told, plain_good, plain_bytes}
use Rattle.ms_threads_runs_laws.proofs.ShadowThreads.{shadow_good}
use Rattle.ms_threads_runs_laws.proofs.states.threads_stay_good.Goals as goal

pub returns-clause-plain_runs : goal.returns-clause-plain_runs
returns-clause-plain_runs c = λ m formed valid setup bytes schedule n. plain_good m formed valid setup bytes schedule n

pub returns-clause-shadow_runs : goal.returns-clause-shadow_runs
returns-clause-shadow_runs c = λ d keep m formed valid bare setup bytes schedule n. shadow_good d keep m formed valid bare setup bytes schedule n

pub returns-clause-plain_answers : goal.returns-clause-plain_answers
returns-clause-plain_answers c = λ m setup schedule. ends_told (plain_fiber (setting_of m setup) m) schedule setup.steps (plain_threads_start m setup)

pub returns-clause-shadow_answers : goal.returns-clause-shadow_answers
returns-clause-shadow_answers c = λ d m setup schedule. ends_told (shadow_fiber d (setting_of m setup) m) schedule setup.steps (shadow_threads_start m setup)

pub returns-clause-output : goal.returns-clause-output
returns-clause-output c = λ m formed valid setup bytes schedule. plain_bytes m formed valid setup bytes schedule
