use Rattle.std.proofs.Common.{refl}
use Rattle.ms_threads_schedules_laws.proofs.examples.deadlock_in_some_orders.Goals as goal

pub returns-clause-runs : goal.returns-clause-runs
returns-clause-runs c = refl

pub returns-clause-none_left : goal.returns-clause-none_left
returns-clause-none_left c = refl

pub returns-clause-blocked : goal.returns-clause-blocked
returns-clause-blocked c = refl

pub returns-clause-second_blocked : goal.returns-clause-second_blocked
returns-clause-second_blocked c = refl

pub returns-clause-third_blocked : goal.returns-clause-third_blocked
returns-clause-third_blocked c = refl

pub returns-clause-goes_on : goal.returns-clause-goes_on
returns-clause-goes_on c = refl

pub returns-clause-last_goes_on : goal.returns-clause-last_goes_on
returns-clause-last_goes_on c = refl
