use Rattle.std.proofs.Common.{ℕ, ◌<◌, ◌≤◌, get_or}
use Rattle.ms_flow.proofs.definitions.bounds.Given as goal

abbrev pub invariant-loop-value : goal.invariant-loop-value
invariant-loop-value l = (k : ℕ) → k < l.value-index → (l.low ≤ get_or l.values k 0) × (get_or l.values k 0 ≤ l.high)
