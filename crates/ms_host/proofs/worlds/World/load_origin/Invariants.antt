use Rattle.std.proofs.Common.{◌≡◌, ◌+◌, ◌-◌}
use Rattle.ms_runs.specs.World.{World}
use Rattle.ms_runs.specs.Origins.{origin_within}
use Rattle.ms_host.specs.State.{Beside}
use Rattle.ms_host.specs.Shows.{Shows}
use Rattle.ms_host.proofs.worlds.World.load_origin.Given as goal

abbrev pub invariant-loop-k : goal.invariant-loop-k
invariant-loop-k l = (beside : Beside) (world : World) → Shows l.self beside world → origin_within (8 - l.k) (l.addr + l.k) l.rest world ≡ origin_within 8 l.addr l.mask world
