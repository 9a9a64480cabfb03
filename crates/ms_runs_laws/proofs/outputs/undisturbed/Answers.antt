use Rattle.ms_runs_laws.proofs.SameOutput.{shadow_undisturbed, faithful_undisturbed}
use Rattle.ms_runs_laws.proofs.outputs.undisturbed.Goals as goal

pub returns-clause-shadow_runs : goal.returns-clause-shadow_runs
returns-clause-shadow_runs c = shadow_undisturbed

pub returns-clause-instrumented : goal.returns-clause-instrumented
returns-clause-instrumented c = faithful_undisturbed
