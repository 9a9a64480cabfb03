use Rattle.std.proofs.Common.{◌≡◌, ◌+◌, ◌%◌, length}
use Rattle.ms_bits.specs.Maps.{with_range}
use Rattle.ms_bits.specs.Fill.{made_byte}
use Rattle.ms_planes.specs.Areas.{held}
use Rattle.ms_planes.specs.Blocks.{KeepsOthers}
use Rattle.ms_planes.specs.declared.parts.Plane.TheVariants.{Bytes}
use Rattle.ms_planes.proofs.parts.put_made.Given as goal

abbrev pub invariant-loop-i : goal.invariant-loop-i
invariant-loop-i l = record {
  shown : held l.block.bytes ≡ with_range (held l.initial.block.bytes) l.at l.i (λ k. made_byte l.fill (l.made + k));
  others : KeepsOthers Bytes l.initial.block l.block;
  next : l.next ≡ (l.made + l.i) % length l.fill;
}
