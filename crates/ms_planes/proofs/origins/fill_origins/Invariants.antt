use Rattle.std.proofs.Common.{◌≡◌, length}
use Rattle.ms_bits.specs.Maps.{with_range}
use Rattle.ms_planes.specs.Areas.{held}
use Rattle.ms_planes.proofs.origins.fill_origins.Given as goal

abbrev pub invariant-loop-i : goal.invariant-loop-i
invariant-loop-i l = record {
  shown : held l.block.origins ≡ with_range (held l.initial.block.origins) l.first l.i (λ k. l.origin);
  len : length l.block.origins ≡ length l.initial.block.origins;
  bytes : l.block.bytes ≡ l.initial.block.bytes;
  shadow : l.block.shadow ≡ l.initial.block.shadow;
}
