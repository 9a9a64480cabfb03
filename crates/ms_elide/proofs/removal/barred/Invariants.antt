use Rattle.std.proofs.Common.{◌≡◌, ◌<◌, ◌↔◌, ℕ, false, Contains, get_or}
use Rattle.ms_elide.proofs.removal.barred.Given as goal

abbrev pub invariant-loop-item : goal.invariant-loop-item
invariant-loop-item l = (k : ℕ) → Contains l.barred.items k ↔ ((k < l.item) × (get_or l.able k false ≡ false))
