use Rattle.std.proofs.Common.{◌≡◌, ◌+◌, ◌-◌}
use Rattle.ms_bits.specs.Maps.{bytes_at}
use Rattle.ms_runs.specs.World.{World}
use Rattle.ms_runs.specs.Externals.{compared}
use Rattle.ms_host.specs.State.{Beside}
use Rattle.ms_host.specs.Shows.{Shows}
use Rattle.ms_host.proofs.worlds.World.compare.Given as goal

abbrev pub invariant-loop-k : goal.invariant-loop-k
invariant-loop-k l = (beside : Beside) (world : World) → Shows l.self beside world →
    compared (bytes_at world.bytes l.a l.n) (bytes_at world.bytes l.b l.n) ≡ compared (bytes_at world.bytes (l.a + l.k) (l.n - l.k)) (bytes_at world.bytes (l.b + l.k) (l.n - l.k))
