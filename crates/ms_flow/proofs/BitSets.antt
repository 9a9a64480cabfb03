-- Which places the sets have that `src/places.rt` makes.
use Rattle.std.proofs.Common.{◌≡◌, ℕ, ◌-◌, ◌*◌, ◌%◌, ◌^◌, ◌<◌, ◌⊎◌, ◌↔◌, max, min, sym, ◌∙◌, inl, inr, ⊎_elim, arith, w64}
use Rattle.std.proofs.lemmas.Bool.{cases_eq}
use Rattle.std.specs.Int.{bit_at}
use Rattle.std.specs.Int.RustNames.{bit_or}
use lib.Bits.{bit_and}
use Rattle.std.proofs.lemmas.Nat.Bits.{bit_at_or, bit_at_and, bit_at_not, bit_at-lt, bit_at_set_same, bit_at_set_other, bit_at-zero, bit_at_ones}
use Rattle.ms_flow.specs.Search.{Has}

one_of_max : (x y : ℕ) → x < 2 → max x y ≡ 1 → (x ≡ 1) ⊎ (y ≡ 1)
one_of_max x y small h = elim (cases_eq x 1) [ inl e ↦ inl e | inr ne ↦ inr (omega arith) ]

max_of_one : (x y : ℕ) → x < 2 → y < 2 → (x ≡ 1) ⊎ (y ≡ 1) → max x y ≡ 1
max_of_one x y p q (inl e) = omega arith
max_of_one x y p q (inr e) = omega arith

both_of_min : (x y : ℕ) → x < 2 → y < 2 → min x (1 - y) ≡ 1 → (x ≡ 1) × (y ≡ 1 → ⊥)
both_of_min x y p q h = (omega arith, λ e. omega arith)

min_of_both : (x y : ℕ) → x < 2 → y < 2 → (x ≡ 1) × (y ≡ 1 → ⊥) → min x (1 - y) ≡ 1
min_of_both x y p q (e, f) = let ne : y ≡ 1 → ⊥ = f in omega arith

pub has_union : (a b i : ℕ) → Has (bit_or a b) i ↔ (Has a i ⊎ Has b i)
has_union a b i = (
  λ h. one_of_max (bit_at a i) (bit_at b i) (bit_at-lt a i) (sym (bit_at_or a b i) ∙ h),
  λ h. bit_at_or a b i ∙ max_of_one (bit_at a i) (bit_at b i) (bit_at-lt a i) (bit_at-lt b i) h,
)

pub has_without : (a b i : ℕ) → b < 2 ^ 64 → i < 64 → Has (bit_and a (2 ^ 64 - 1 - b)) i ↔ (Has a i × (Has b i → ⊥))
has_without a b i below place =
    let e = bit_at_not w64 b i below place in
    let m = bit_at_and a (2 ^ 64 - 1 - b) i in (
      λ h. both_of_min (bit_at a i) (bit_at b i) (bit_at-lt a i) (bit_at-lt b i) (cc (e, m, h)),
      λ h. cc (e, m, min_of_both (bit_at a i) (bit_at b i) (bit_at-lt a i) (bit_at-lt b i) h),
    )

pub has_with : (a k : ℕ) → k < 64 → (i : ℕ) → Has (bit_or a (1 * 2 ^ k % 2 ^ 64)) i ↔ (Has a i ⊎ (i ≡ k))
has_with a k small i =
    elim (cases_eq i k) as (λ _. Has (bit_or a (1 * 2 ^ k % 2 ^ 64)) i ↔ (Has a i ⊎ (i ≡ k))) [
      | inl e ↦ (λ _. inr e, λ _. rw e (bit_at_set_same w64 a k small))
      | inr ne ↦ let e = bit_at_set_other w64 a k small i ne in
          (λ h. inl (sym e ∙ h), λ h. ⊎_elim (λ p. e ∙ p) (λ q. absurd (ne q)) h)
    ]

pub has_none : (i : ℕ) → Has 0 i → ⊥
has_none i h = let e = bit_at-zero i in cc (e, h)

pub has_all : (i : ℕ) → i < 64 → Has 18446744073709551615 i
has_all i small = bit_at_ones 64 i small
