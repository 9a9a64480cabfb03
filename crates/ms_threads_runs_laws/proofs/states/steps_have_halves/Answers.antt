use Rattle.ms_runs_threads.specs.PlainFibers.{plain_fiber}
use Rattle.ms_runs_threads.specs.ShadowFibers.{shadow_fiber}
use Rattle.ms_threads_runs_laws.proofs.Halves.{halves}
use Rattle.ms_threads_runs_laws.proofs.states.steps_have_halves.Goals as goal

pub returns-clause-plain_runs : goal.returns-clause-plain_runs
returns-clause-plain_runs c = λ s m schedule d. halves (plain_fiber s m) schedule d

pub returns-clause-shadow_runs : goal.returns-clause-shadow_runs
returns-clause-shadow_runs c = λ d s m schedule x. halves (shadow_fiber d s m) schedule x
