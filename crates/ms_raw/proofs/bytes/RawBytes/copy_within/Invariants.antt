use Rattle.std.proofs.Common.{◌≡◌, ◌≤◌}
use Rattle.ms_raw.proofs.Copying.{IsPartly}
use Rattle.ms_raw.proofs.bytes.RawBytes.copy_within.Given as goal

abbrev pub invariant-loop-k : goal.invariant-loop-k
invariant-loop-k l = IsPartly l.initial.self.items l.to l.from 0 l.k l.self.items × (l.self.at ≡ l.initial.self.at) × (l.self.size ≡ l.initial.self.size)

abbrev pub invariant-loop-k-else-to-from : goal.invariant-loop-k-else-to-from
invariant-loop-k-else-to-from l = IsPartly l.initial.self.items l.to l.from l.k l.n l.self.items × (l.k ≤ l.n) × (l.self.at ≡ l.initial.self.at) × (l.self.size ≡ l.initial.self.size)

abbrev pub decreases-loop-k-else-to-from : goal.decreases-loop-k-else-to-from
decreases-loop-k-else-to-from l = l.k
