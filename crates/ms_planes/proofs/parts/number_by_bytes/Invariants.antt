use Rattle.std.proofs.Common.{◌≡◌, ◌≤◌, ◌<◌, ◌+◌, ◌-◌, ◌^◌}
use Rattle.ms_bits.specs.Maps.{number_at}
use Rattle.ms_planes.specs.Areas.{held}
use Rattle.ms_planes.specs.Blocks.{bytes_in}
use Rattle.ms_planes.proofs.parts.number_by_bytes.Given as goal

abbrev pub invariant-loop-left : goal.invariant-loop-left
invariant-loop-left l = record {
  left : l.left ≤ l.n;
  value : l.value ≡ number_at (held (bytes_in l.part l.block)) (l.at + l.left) (l.n - l.left);
  fits : l.value < 256 ^ (l.n - l.left);
}

abbrev pub decreases-loop-left : goal.decreases-loop-left
decreases-loop-left l = l.left
