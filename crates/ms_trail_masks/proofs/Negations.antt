-- 0 less a number, in so many bits.
use Rattle.std.proofs.Common.{◌≡◌, ◌≢◌, ◌<◌, ◌+◌, ◌-◌, ◌%◌, ℕ, sym, ◌∙◌, arith}
use Rattle.std.proofs.Math.Nat.{mod-eq_of_lt}

pub negated_none : (n s : ℕ) → s ≡ 0 → 0 ≡ (0 + (n - s)) % n
negated_none n s e = grind (arith, e)

pub negated_some : (n s : ℕ) → s < n → s ≢ 0 → (n - 1) - s + 1 ≡ (0 + (n - s)) % n
negated_some n s l h =
    let low : 0 + (n - s) < n = omega (arith, l, h) in
    let is : (n - 1) - s + 1 ≡ 0 + (n - s) = omega (arith, l, h) in
    is ∙ sym (mod-eq_of_lt low)
