-- The mask of a sum: a poisoned bit reaches every higher one.
use Rattle.std.proofs.Common.{◌≡◌, ℕ, zero, suc, ◌+◌, ◌-◌, ◌/◌, ◌%◌, ◌^◌, ◌<◌, ◌≤◌, ◌↔◌, max, sym, ap, ap₂, ◌∙◌, arith, bit_or, ◌⊎◌, inl, inr, ⊎_elim, zero-add}
use Rattle.std.specs.Int.{bit_at}
use Rattle.std.proofs.Math.Nat.{pow-suc, mod-eq_of_lt, mod_self}
use Rattle.std.proofs.lemmas.Bool.{cases_eq}
use Rattle.std.proofs.lemmas.Nat.{pow_pos, or_lt, mod_below}
use Rattle.std.proofs.lemmas.Nat.Bits.{bit_at_or, bit_at-lt, bit_at_lowest, bit_at-suc}
use Rattle.ms_bits.specs.Formulas.{carry_mask, union_mask, HasBitUpTo}

-- 0 - s modulo 2 ^ w
abbrev pub negated : ℕ → ℕ → ℕ
negated w s = (2 ^ w - s) % 2 ^ w

negated_some : (w s : ℕ) → 0 < s → s < 2 ^ w → negated w s ≡ 2 ^ w - s
negated_some w s some fits = mod-eq_of_lt (omega arith)

negated_zero : (w s : ℕ) → s ≡ 0 → negated w s ≡ 0
negated_zero w s e = let z : 2 ^ w - s ≡ 2 ^ w = omega arith in ap (λ n. n % 2 ^ w) z ∙ mod_self (2 ^ w)

-- an even number's is twice that of its half
half_even : (w s : ℕ) → s % 2 ≡ 0 → s < 2 ^ suc w → negated (suc w) s / 2 ≡ negated w (s / 2)
half_even w s e l =
    ⊎_elim
    (λ z. ap (λ n. n / 2) (negated_zero (suc w) s z) ∙ sym (negated_zero w (s / 2) (omega arith)))
    (λ n. ap (λ n. n / 2) (negated_some (suc w) s (omega arith) l) ∙ omega (arith, pow-suc 2 w) ∙ sym (negated_some w (s / 2) (omega arith) (omega (arith, pow-suc 2 w))))
    (cases_eq s 0)

half_odd : (w s : ℕ) → s % 2 ≡ 1 → s < 2 ^ suc w → negated (suc w) s / 2 ≡ 2 ^ w - 1 - s / 2
half_odd w s e l = ap (λ n. n / 2) (negated_some (suc w) s (omega arith) l) ∙ omega (arith, pow-suc 2 w)

low_bit : (w s : ℕ) → s < 2 ^ suc w → negated (suc w) s % 2 ≡ s % 2
low_bit w s l =
    ⊎_elim
    (λ z. ap (λ n. n % 2) (negated_zero (suc w) s z) ∙ omega arith)
    (λ n. ap (λ n. n % 2) (negated_some (suc w) s (omega arith) l) ∙ omega (arith, pow-suc 2 w))
    (cases_eq s 0)

-- the bits of 2 ^ k - 1 - n are turned
pub bit_at_turned : (k n i : ℕ) → n < 2 ^ k → i < k → bit_at (2 ^ k - 1 - n) i ≡ 1 - bit_at n i
bit_at_turned zero n i fits within = absurd (omega arith)
bit_at_turned (suc k) n zero fits within = omega (arith, bit_at_lowest (2 ^ suc k - 1 - n), bit_at_lowest n, pow-suc 2 k)
bit_at_turned (suc k) n (suc i) fits within =
    let half : (2 ^ suc k - 1 - n) / 2 ≡ 2 ^ k - 1 - n / 2 = omega (arith, pow-suc 2 k) in
    bit_at-suc _ i ∙ ap (λ x. bit_at x i) half ∙ bit_at_turned k (n / 2) i (omega (arith, pow-suc 2 k)) (omega arith) ∙ ap (λ d. 1 - d) (sym (bit_at-suc n i))

-- ---- the mask's bits

either_one : (x y : ℕ) → x < 2 → y ≡ 1 - x → max x y ≡ 1
either_one x y p e = omega arith

set_forth : (w s i : ℕ) → s < 2 ^ w → i < w → max (bit_at s i) (bit_at (negated w s) i) ≡ 1 → HasBitUpTo s i
set_forth zero s i fits l h = absurd (omega arith)
set_forth (suc w) s zero fits l h = (0, omega arith, omega (arith, h, bit_at_lowest s, bit_at_lowest (negated (suc w) s), low_bit w s fits))
set_forth (suc w) s (suc i) fits l h =
    ⊎_elim
    (λ e.
    let turn : bit_at (negated (suc w) s) (suc i) ≡ bit_at (negated w (s / 2)) i = bit_at-suc _ i ∙ ap (λ n. bit_at n i) (half_even w s e fits) in
    let (j, lj, one) = set_forth w (s / 2) i (omega (arith, pow-suc 2 w)) (omega arith) (ap₂ max (sym (bit_at-suc s i)) (sym turn) ∙ h) in
    (suc j, omega arith, bit_at-suc s j ∙ one))
    (λ n. (0, omega arith, omega (arith, bit_at_lowest s)))
    (cases_eq (s % 2) 0)

odd_back : (w s i : ℕ) → s % 2 ≡ 1 → s < 2 ^ suc w → suc i < suc w → max (bit_at s (suc i)) (bit_at (negated (suc w) s) (suc i)) ≡ 1
odd_back w s i e fits l =
    let turn : bit_at (negated (suc w) s) (suc i) ≡ 1 - bit_at s (suc i) =
    bit_at-suc _ i ∙ ap (λ n. bit_at n i) (half_odd w s e fits) ∙ bit_at_turned w (s / 2) i (omega (arith, pow-suc 2 w)) (omega arith) ∙ ap (λ d. 1 - d) (sym (bit_at-suc s i)) in
    either_one _ _ (bit_at-lt s (suc i)) turn

set_back : (w s i j : ℕ) → s < 2 ^ w → i < w → j ≤ i → bit_at s j ≡ 1 → max (bit_at s i) (bit_at (negated w s) i) ≡ 1
set_back zero s i j fits l lj one = absurd (omega arith)
set_back (suc w) s zero j fits l lj one =
    let z : j ≡ 0 = omega arith in
    let b : bit_at s 0 ≡ 1 = ap (bit_at s) (sym z) ∙ one in
    omega (arith, b, bit_at-lt (negated (suc w) s) 0)
set_back (suc w) s (suc i) zero fits l lj one = odd_back w s i (omega (arith, one, bit_at_lowest s)) fits l
set_back (suc w) s (suc i) (suc j) fits l lj one =
    ⊎_elim
    (λ e. ap₂ max (bit_at-suc s i) (bit_at-suc _ i ∙ ap (λ n. bit_at n i) (half_even w s e fits))
    ∙ set_back w (s / 2) i j (omega (arith, pow-suc 2 w)) (omega arith) (omega arith) (sym (bit_at-suc s j) ∙ one))
    (λ n. odd_back w s i (omega arith) fits l)
    (cases_eq (s % 2) 0)

carry_is : (w s : ℕ) → carry_mask w s ≡ bit_or s (negated w s)
unfolding carry_mask
carry_is w s = ap (λ n. bit_or s (n % 2 ^ w)) (zero-add (2 ^ w - s))

pub carry_bit : (w s i : ℕ) → s < 2 ^ w → i < w → (bit_at (carry_mask w s) i ≡ 1) ↔ HasBitUpTo s i
carry_bit w s i p l =
    let e = ap (λ n. bit_at n i) (carry_is w s) ∙ bit_at_or s (negated w s) i in
    (λ h. set_forth w s i p l (sym e ∙ h), λ (j, lj, one). e ∙ set_back w s i j p l lj one)

-- ---- what a clear bit of the mask says: the low bits of both operands are defined, so sums, differences and products agree

pub clear_below : (w s i : ℕ) → s < 2 ^ w → i < w → bit_at (carry_mask w s) i ≡ 0 → (j : ℕ) → j ≤ i → bit_at s j ≡ 0
clear_below w s i p l z j lj = omega (arith, bit_at-lt s j, no)
  where
    no : bit_at s j ≡ 1 → ⊥
    no one = absurd (omega (arith, z, (carry_bit w s i p l).1 (j, lj, one)))

-- a bit of either mask at i or below
pub some_below_either : (m k i : ℕ) → HasBitUpTo (bit_or m k) i ↔ (HasBitUpTo m i ⊎ HasBitUpTo k i)
some_below_either m k i = (forth, back)
  where
    which : (x y : ℕ) → x < 2 → y < 2 → max x y ≡ 1 → (x ≡ 1) ⊎ (y ≡ 1)
    which zero y p q h = inr (omega arith)
    which (suc x) y p q h = inl (omega arith)

    forth : (j : ℕ) × (j ≤ i) × (bit_at (bit_or m k) j ≡ 1) → ((j : ℕ) × (j ≤ i) × (bit_at m j ≡ 1)) ⊎ ((j : ℕ) × (j ≤ i) × (bit_at k j ≡ 1))
    forth (j, l, o) = ⊎_elim (λ e. inl (j, l, e)) (λ e. inr (j, l, e)) (which (bit_at m j) (bit_at k j) (bit_at-lt m j) (bit_at-lt k j) (sym (bit_at_or m k j) ∙ o))

    back : (((j : ℕ) × (j ≤ i) × (bit_at m j ≡ 1)) ⊎ ((j : ℕ) × (j ≤ i) × (bit_at k j ≡ 1))) → (j : ℕ) × (j ≤ i) × (bit_at (bit_or m k) j ≡ 1)
    back (inl (j, l, e)) = (j, l, omega (arith, bit_at_or m k j, bit_at-lt k j))
    back (inr (j, l, e)) = (j, l, omega (arith, bit_at_or m k j, bit_at-lt m j))

pub carry_mask-lt : (w s : ℕ) → s < 2 ^ w → carry_mask w s < 2 ^ w
unfolding carry_mask
carry_mask-lt w s p = or_lt w s _ p (mod_below (0 + (2 ^ w - s)) (2 ^ w) (pow_pos w))

pub union_bit : (m k i : ℕ) → (bit_at (union_mask m k) i ≡ 1) ↔ ((bit_at m i ≡ 1) ⊎ (bit_at k i ≡ 1))
unfolding union_mask
union_bit m k i = (
  λ o. which (bit_at m i) (bit_at k i) (bit_at-lt m i) (bit_at-lt k i) (sym (bit_at_or m k i) ∙ o),
  λ e. bit_at_or m k i ∙ ⊎_elim (λ x. omega (arith, x, bit_at-lt k i)) (λ x. omega (arith, x, bit_at-lt m i)) e,
)
  where
    which : (x y : ℕ) → x < 2 → y < 2 → max x y ≡ 1 → (x ≡ 1) ⊎ (y ≡ 1)
    which zero y p q h = inr (omega arith)
    which (suc x) y p q h = inl (omega arith)

pub union_bit_up_to : (m k i : ℕ) → HasBitUpTo (union_mask m k) i ↔ (HasBitUpTo m i ⊎ HasBitUpTo k i)
unfolding union_mask
union_bit_up_to m k i = some_below_either m k i
