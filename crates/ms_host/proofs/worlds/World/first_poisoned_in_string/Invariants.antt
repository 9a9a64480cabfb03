use Rattle.std.proofs.Common.{◌≡◌, ◌+◌, ◌-◌}
use Rattle.ms_runs.specs.World.{World}
use Rattle.ms_runs.specs.Origins.{first_in_string}
use Rattle.ms_host.specs.State.{Beside}
use Rattle.ms_host.specs.Shows.{Shows}
use Rattle.ms_host.proofs.worlds.World.first_poisoned_in_string.Given as goal

abbrev pub invariant-loop-k : goal.invariant-loop-k
invariant-loop-k l = (beside : Beside) (world : World) → Shows l.self beside world → first_in_string world (l.addr + l.k) (l.room - l.k) ≡ first_in_string world l.addr l.room
