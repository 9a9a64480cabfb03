use Rattle.std.proofs.Common.{◌≡◌, ◌<◌}
use Rattle.ms_bits.specs.Maps.{bytes_at}
use Rattle.ms_runs.specs.World.{World}
use Rattle.ms_runs.specs.Formats.{asks_string}
use Rattle.ms_host.specs.State.{Beside}
use Rattle.ms_host.specs.Shows.{Shows}
use Rattle.ms_printf.specs.Walks.{IsRest}
use Rattle.ms_printf.proofs.asking.asks_within.Given as goal

abbrev pub invariant-parts : goal.invariant-parts
invariant-parts l = record {
  rest : IsRest l.world.planes.table l.addr l.left;
  some : 0 < l.number;
  same : (beside : Beside) (meant : World) → Shows l.world beside meant → asks_string (bytes_at meant.bytes l.format l.length) l.index ≡ asks_string (bytes_at meant.bytes l.addr l.left) l.number;
}

abbrev pub decreases-parts : goal.decreases-parts
decreases-parts l = l.left
