use Rattle.std.proofs.Common.{◌≡◌}
use Rattle.ms_bits.specs.Maps.{with_range}
use Rattle.ms_planes.specs.Areas.{held}
use Rattle.ms_planes.specs.Blocks.{bytes_in, KeepsOthers}
use Rattle.ms_planes.proofs.parts.fill.Given as goal

abbrev pub invariant-loop-i : goal.invariant-loop-i
invariant-loop-i l = record {
  shown : held (bytes_in l.part l.filled) ≡ with_range (held (bytes_in l.part l.fn.block)) l.at l.i (λ k. l.v);
  others : KeepsOthers l.part l.fn.block l.filled;
}
