use Rattle.std.proofs.Common.{◌≡◌, ◌+◌, ◌-◌, ◌++◌, option_map}
use Rattle.ms_bits.specs.Maps.{bytes_at, string_within}
use Rattle.ms_runs.specs.World.{World}
use Rattle.ms_host.specs.State.{Beside}
use Rattle.ms_host.specs.Shows.{Shows}
use Rattle.ms_host.proofs.worlds.World.string_length.Given as goal

abbrev pub invariant-loop-k : goal.invariant-loop-k
invariant-loop-k l = (beside : Beside) (world : World) → Shows l.self beside world →
    string_within world.bytes l.addr l.room ≡ option_map (λ rest. bytes_at world.bytes l.addr l.k ++ rest) (string_within world.bytes (l.addr + l.k) (l.room - l.k))
