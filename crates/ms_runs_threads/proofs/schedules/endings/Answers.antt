use Rattle.std.proofs.Common.{refl}
use Rattle.ms_runs_threads.proofs.schedules.endings.Goals as goal

pub returns-clause-deadlock : goal.returns-clause-deadlock
returns-clause-deadlock c = refl

pub returns-clause-spent : goal.returns-clause-spent
returns-clause-spent c = refl

pub returns-clause-returned : goal.returns-clause-returned
returns-clause-returned c = refl
