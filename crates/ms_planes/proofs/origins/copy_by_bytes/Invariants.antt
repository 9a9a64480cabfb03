use Rattle.std.proofs.Common.{◌≡◌, ◌+◌, ◌-◌, length}
use Rattle.ms_bits.specs.Maps.{copied_cells}
use Rattle.ms_planes.specs.Areas.{held}
use Rattle.ms_planes.proofs.origins.copy_by_bytes.Given as goal

abbrev pub invariant-loop-i : goal.invariant-loop-i
invariant-loop-i l = record {
  shown : copied_cells (held l.source.shadow) (held l.source.origins) (l.at + l.i) (l.from + l.i) (l.n - l.i) (held l.copied.origins) ≡ copied_cells (held l.source.shadow) (held l.source.origins) l.at l.from l.n (held l.fn.block.origins);
  len : length l.copied.origins ≡ length l.fn.block.origins;
  bytes : l.copied.bytes ≡ l.fn.block.bytes;
  shadow : l.copied.shadow ≡ l.fn.block.shadow;
}
