use Rattle.std.proofs.Common.{replicate, ◌≡◌}
use Rattle.ms_raw.proofs.bytes.RawBytes.zeros.Given as goal

abbrev pub invariant-loop-i : goal.invariant-loop-i
invariant-loop-i l = (l.zeros.items ≡ replicate l.i 0) × (l.zeros.at ≡ l.fn.memory.at) × (l.zeros.len ≡ l.fn.len) × (l.zeros.size ≡ l.fn.memory.size)
