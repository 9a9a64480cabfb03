use Rattle.std.proofs.Common.{◌≡◌, ℕ, ◌⊎◌, ◌↔◌, take, Contains}
use Rattle.ms_flow.proofs.definitions.add_definitions.Given as goal

abbrev pub invariant-loop-value : goal.invariant-loop-value
invariant-loop-value l =
    (b v : ℕ) → Contains l.pairs.items (b, v) ↔ (Contains l.initial.pairs.items (b, v) ⊎ ((b ≡ l.block) × Contains (take l.value-index l.values) v))
