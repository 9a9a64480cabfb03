use Rattle.std.proofs.Common.{◌≡◌, ℕ, ◌<◌, ◌⊎◌, ◌↔◌, length, get_or}
use Rattle.ms_flow.specs.Search.{Has}
use Rattle.ms_flow.proofs.definitions.with_value.Given as goal

abbrev pub invariant-loop-place : goal.invariant-loop-place
invariant-loop-place l =
    (i : ℕ) → i < length l.values → Has l.places i ↔ (Has l.word i ⊎ ((i < l.place) × (get_or l.values i 0 ≡ l.value)))
