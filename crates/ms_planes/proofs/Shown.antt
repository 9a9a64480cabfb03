-- A number of bytes.
use Rattle.std.proofs.Common.{◌≡◌, ℕ, zero, suc, ◌+◌, ◌*◌, ◌<◌, refl, ap, ◌∙◌, arith}
use Rattle.ms_bits.specs.Maps.{number_at}

-- a number is the same wherever its bytes are
pub number-same : (f g : ℕ → ℕ) (a b n : ℕ) → ((k : ℕ) → k < n → f (a + k) ≡ g (b + k)) → number_at f a n ≡ number_at g b n
number-same f g a b zero same = refl
number-same f g a b (suc n) same =
    let first : f a ≡ g b = ap f (let e : a ≡ a + 0 = omega arith in e) ∙ same 0 (omega arith) ∙ ap g (let e : b + 0 ≡ b = omega arith in e) in
    ap (λ (x : ℕ). x + 256 * number_at f (a + 1) n) first
    ∙ ap (λ (x : ℕ). g b + 256 * x) (number-same f g (a + 1) (b + 1) n (λ k l.
    ap f (let e : a + 1 + k ≡ a + suc k = omega arith in e) ∙ same (suc k) (omega arith) ∙ ap g (let e : b + suc k ≡ b + 1 + k = omega arith in e)))
