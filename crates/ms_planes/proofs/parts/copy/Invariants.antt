use Rattle.std.proofs.Common.{◌≡◌, ◌+◌}
use Rattle.ms_bits.specs.Maps.{with_range}
use Rattle.ms_planes.specs.Areas.{held}
use Rattle.ms_planes.specs.Blocks.{bytes_in, KeepsOthers}
use Rattle.ms_planes.proofs.parts.copy.Given as goal

abbrev pub invariant-loop-i : goal.invariant-loop-i
invariant-loop-i l = record {
  shown : held (bytes_in l.part l.copied) ≡ with_range (held (bytes_in l.part l.fn.block)) l.at l.i (λ k. held (bytes_in l.part l.source) (l.from + k));
  others : KeepsOthers l.part l.fn.block l.copied;
}
