use Rattle.std.proofs.Common.{refl}
use Rattle.ms_runs_threads.proofs.schedules.picks.Goals as goal

pub returns-clause-first : goal.returns-clause-first
returns-clause-first c = refl

pub returns-clause-second : goal.returns-clause-second
returns-clause-second c = refl

pub returns-clause-remainder : goal.returns-clause-remainder
returns-clause-remainder c = refl
