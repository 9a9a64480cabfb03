-- Places of a fill that is gone through again and again.
use Rattle.std.proofs.Common.{◌≡◌, ℕ, ◌+◌, ◌-◌, ◌*◌, ◌/◌, ◌%◌, ◌<◌, List, length, ap, ◌∙◌, arith}
use Rattle.std.proofs.Math.Nat.{mul-add-mod_self_right, mod_self}
use Rattle.std.proofs.lemmas.Nat.{div-add-mod', mod-mul-add}
use Rattle.ms_bits.specs.Fill.{made_byte}
use Rattle.ms_planes.specs.Areas.{held}

-- a later place of the same round
pub mod-next : (m n j from : ℕ) → m % n ≡ from → from + j < n → (m + j) % n ≡ from + j
mod-next m n j from is low =
    ap (λ (q : ℕ). q % n) (apart (m / n * n) (m % n) (div-add-mod' m n) is) ∙ mod-mul-add (m / n) n (from + j) low
  where
    apart : (q r : ℕ) → q + r ≡ m → r ≡ from → m + j ≡ q + (from + j)
    apart q r e f = omega (arith, e, f)

-- the next round
pub mod-wrap : (m n from : ℕ) → m % n ≡ from → from < n → (m + (n - from)) % n ≡ 0
mod-wrap m n from is low =
    ap (λ (q : ℕ). q % n) (apart (m / n * n) (m % n) (div-add-mod' m n) is) ∙ mul-add-mod_self_right (m / n) n n ∙ mod_self n
  where
    apart : (q r : ℕ) → q + r ≡ m → r ≡ from → m + (n - from) ≡ q + n
    apart q r e f = omega (arith, e, f, low)

pub byte-made : (fill : List ℕ) (k from : ℕ) → k % length fill ≡ from → made_byte fill k ≡ held fill from
unfolding made_byte
byte-made fill k from e = ap (held fill) e
