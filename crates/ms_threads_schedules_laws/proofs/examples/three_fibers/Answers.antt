use Rattle.std.proofs.Common.{refl}
use Rattle.ms_threads_schedules_laws.proofs.examples.three_fibers.Goals as goal

pub returns-clause-runs : goal.returns-clause-runs
returns-clause-runs c = refl

pub returns-clause-one_left : goal.returns-clause-one_left
returns-clause-one_left c = refl

pub returns-clause-none_left : goal.returns-clause-none_left
returns-clause-none_left c = refl
