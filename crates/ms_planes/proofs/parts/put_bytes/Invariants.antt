use Rattle.std.proofs.Common.{◌≡◌, ℕ, ◌+◌}
use Rattle.ms_bits.specs.Maps.{with_range, byte_of}
use Rattle.ms_planes.specs.Areas.{held}
use Rattle.ms_planes.specs.Blocks.{bytes_in, KeepsOthers}
use Rattle.ms_planes.proofs.parts.put_bytes.Given as goal

abbrev pub invariant-loop-i : goal.invariant-loop-i
invariant-loop-i l = record {
  shown : held (bytes_in l.part l.block) ≡ with_range (held (bytes_in l.part l.initial.block)) l.at l.i (byte_of l.v);
  others : KeepsOthers l.part l.initial.block l.block;
  rest : (k : ℕ) → byte_of l.rest k ≡ byte_of l.v (l.i + k);
}
