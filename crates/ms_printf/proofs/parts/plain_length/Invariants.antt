use Rattle.std.proofs.Common.{◌≡◌, ◌+◌, ◌-◌}
use Rattle.ms_bits.specs.Maps.{bytes_at}
use Rattle.ms_runs.specs.World.{World}
use Rattle.ms_runs.specs.Formats.{plain_bytes}
use Rattle.ms_host.specs.State.{Beside}
use Rattle.ms_host.specs.Shows.{Shows}
use Rattle.ms_printf.proofs.parts.plain_length.Given as goal

abbrev pub invariant-loop-n : goal.invariant-loop-n
invariant-loop-n l = (beside : Beside) (meant : World) → Shows l.world beside meant →
    plain_bytes (bytes_at meant.bytes l.addr l.left) ≡ l.n + plain_bytes (bytes_at meant.bytes (l.addr + l.n) (l.left - l.n))
