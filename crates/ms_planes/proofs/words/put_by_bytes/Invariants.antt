use Rattle.std.proofs.Common.{◌≡◌, ℕ, ◌+◌, length}
use Rattle.ms_bits.specs.Maps.{with_range, byte_of}
use Rattle.ms_planes.specs.Areas.{held}
use Rattle.ms_planes.proofs.words.put_by_bytes.Given as goal

abbrev pub invariant-loop-i : goal.invariant-loop-i
invariant-loop-i l = record {
  len : length l.bytes.items ≡ length l.initial.bytes.items;
  shown : held l.bytes.items ≡ with_range (held l.initial.bytes.items) l.at l.i (byte_of l.v);
  rest : (k : ℕ) → byte_of l.rest k ≡ byte_of l.v (l.i + k);
}
