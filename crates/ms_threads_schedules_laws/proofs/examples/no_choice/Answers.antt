use Rattle.std.proofs.Common.{refl}
use Rattle.ms_threads_schedules_laws.proofs.examples.no_choice.Goals as goal

pub returns-clause-runs : goal.returns-clause-runs
returns-clause-runs c = refl

pub returns-clause-left : goal.returns-clause-left
returns-clause-left c = refl
