-- Bytes that are written one after the other.
use Rattle.std.proofs.Common.{◌≡◌, ◌≢◌, ℕ, ◌+◌, ◌-◌, ◌%◌, ◌<◌, ap, ◌∙◌, arith, ⊎_elim}
use Rattle.std.proofs.lemmas.Bool.{cases_eq}
use Rattle.ms_bits.specs.Maps.{with_range, byte_of}
use Rattle.ms_planes.proofs.Ranges.{range-is, range-in, range-low, range-high}

-- one byte more
pub range-next : (f h g : ℕ → ℕ) (a k b : ℕ) → h ≡ with_range f a k g → b ≡ g k → b < 256 → with_range h (a + k) 1 (byte_of b) ≡ with_range f a (k + 1) g
range-next f h g a k b before is small =
    range-is f g (with_range h (a + k) 1 (byte_of b)) a (k + 1)
    (λ x low. range-low h (byte_of b) (a + k) 1 x (omega arith) ∙ at x ∙ range-low f g a k x low)
    (λ x high. range-high h (byte_of b) (a + k) 1 x (omega arith) ∙ at x ∙ range-high f g a k x (omega arith))
    (λ x low high. ⊎_elim
    (λ (e : x ≡ a + k).
    let first : x - (a + k) ≡ 0 = omega arith in
    let here : k ≡ x - a = omega arith in
    let whole : b % 256 ≡ b = omega arith in
    range-in h (byte_of b) (a + k) 1 x (omega arith) (omega arith) ∙ ap (byte_of b) first ∙ whole ∙ is ∙ ap g here)
    (λ (e : x ≢ a + k). range-low h (byte_of b) (a + k) 1 x (strict x high e) ∙ at x ∙ range-in f g a k x low (strict x high e))
    (cases_eq x (a + k)))
  where
    at : (x : ℕ) → h x ≡ with_range f a k g x
    at x = ap (λ (m : ℕ → ℕ). m x) before

    strict : (x : ℕ) → x < a + (k + 1) → x ≢ a + k → x < a + k
    strict x q e = grind arith
