-- A shift to the left with 'nsw': the signed product fits exactly where each shifted-out bit is the result's sign bit.
use Rattle.std.proofs.Common.{◌≡◌, ℕ, zero, suc, ◌+◌, ◌-◌, ◌*◌, ◌%◌, ◌^◌, ◌<◌, ◌≤◌, ◌↔◌, Bool, true, false, not, cond, Ok, Err, ltb, pos, neg_ℤ, ◌*ℤ◌, refl, sym, ap, ◌∙◌, arith, ⊎_elim}
use Rattle.std.specs.Int.{bit_at}
use Rattle.std.proofs.Math.Nat.{pow-suc, mul-lt-mul_of_pos_right, mul-le-mul_right, mod-le}
use Rattle.std.proofs.lemmas.Bool.{cases_lt, cases_eq, lt-ltb, ltb-true, lt-leb}
use Rattle.std.proofs.lemmas.Nat.{pow_pos, pow-add, mod_below}
use Rattle.std.proofs.lemmas.Nat.Bits.{bit_at_above, bit_at-lt, same_from_bits_below}
use Rattle.ms_bits.specs.declared.operations.Flags.{Flags}
use Rattle.ms_bits.specs.declared.operations.BinOp.TheVariants.{Shl}
use Rattle.ms_bits.specs.declared.traps.Trap.TheVariants.{Nsw}
use Rattle.ms_bits.specs.Arithmetic.{binary_of, shl_of}
use Rattle.ms_bits.specs.Signed.{signed, fits_signed}
use Rattle.ms_bits_laws.proofs.Results.{answered}
use Rattle.ms_bits_laws.proofs.BitLemmas.{bit_at_mod}
use Rattle.ms_bits_laws.proofs.CarryMasks.{bit_at_turned}
use Rattle.ms_bits_laws.proofs.SignedMasks.{signed_low, signed_high}
use Rattle.ms_bits_laws.proofs.BitSources.{top_bit, shl_high}

-- a number with no bit from n on is below 2 ^ n
pub below_from_bits : (w n a : ℕ) → a < 2 ^ w → ((j : ℕ) → n ≤ j → j < w → bit_at a j ≡ 0) → a < 2 ^ n
below_from_bits w n a p h = omega (arith, mod_below a (2 ^ n) (pow_pos n), sym same)
  where
    same : a ≡ a % 2 ^ n
    same = same_from_bits_below w a (a % 2 ^ n) p (omega (arith, mod-le a (2 ^ n))) (λ j l. ⊎_elim
        (λ lt. sym (bit_at_mod a n j lt))
        (λ ge. h j ge l ∙ sym (bit_at_above (a % 2 ^ n) n j (mod_below a (2 ^ n) (pow_pos n)) ge))
        (cases_lt j n))

smaller : (a p m : ℕ) → 0 < m → a * m < p * m → a < p
smaller a p m mp h = ⊎_elim (λ l. l) (λ g. absurd (omega (arith, h, mul-le-mul_right m g))) (cases_lt a p)

-- the bits from n to h of a are one
SameTop : ℕ → ℕ → ℕ → Type 0
SameTop h n a = (j : ℕ) → n ≤ j → j ≤ h → bit_at a j ≡ bit_at a n

neg_fits : (w n : ℕ) → 0 < n → fits_signed w (neg_ℤ (pos n)) ≡ ltb (2 * (n - 1)) (2 ^ w)
unfolding fits_signed
neg_fits w zero p = absurd (omega arith)
neg_fits w (suc n) p = let e : n ≡ suc n - 1 = omega arith in ap (λ x. ltb (2 * x) (2 ^ w)) e

module _ (h k a : ℕ) (le : k ≤ h) (pa : a < 2 ^ suc h) where
  n : ℕ
  n = h - k

  half : 2 ^ h ≡ 2 ^ n * 2 ^ k
  unfolding n
  half = let e : h ≡ (h - k) + k = omega arith in ap (λ x. 2 ^ x) e ∙ pow-add 2 (h - k) k

  n_le : n ≤ h
  unfolding n
  n_le = omega arith

  low_fits : a < 2 ^ h → (fits_signed (suc h) (signed (suc h) a *ℤ pos (2 ^ k)) ≡ true) ↔ (a < 2 ^ n)
  unfolding fits_signed
  low_fits lt = (forth, back)
    where
      turn : fits_signed (suc h) (signed (suc h) a *ℤ pos (2 ^ k)) ≡ ltb (2 * (a * 2 ^ k)) (2 ^ suc h)
      turn = ap (λ z. fits_signed (suc h) (z *ℤ pos (2 ^ k))) (signed_low h a lt)

      forth : fits_signed (suc h) (signed (suc h) a *ℤ pos (2 ^ k)) ≡ true → a < 2 ^ n
      forth t = smaller a (2 ^ n) (2 ^ k) (pow_pos k) (omega (arith, ltb-true _ _ (sym turn ∙ t), half, pow-suc 2 h))

      back : a < 2 ^ n → fits_signed (suc h) (signed (suc h) a *ℤ pos (2 ^ k)) ≡ true
      back l = turn ∙ lt-ltb _ _ (omega (arith, mul-lt-mul_of_pos_right l (pow_pos k), half, pow-suc 2 h))

  low_bits : a < 2 ^ h → (a < 2 ^ n) ↔ SameTop h n a
  unfolding SameTop
  low_bits lt = (
    λ l j g t. bit_at_above a n j l g ∙ sym (bit_at_above a n n l (omega arith)),
    λ s. below_from_bits (suc h) n a pa (λ j g t. s j g (omega arith) ∙ sym (s h n_le (omega arith)) ∙ bit_at_above a h h lt (omega arith)),
  )

  c : ℕ
  c = 2 ^ suc h - 1 - a

  c_bit : (j : ℕ) → j ≤ h → bit_at c j ≡ 1 - bit_at a j
  unfolding c
  c_bit j l = bit_at_turned (suc h) a j pa (omega arith)

  high_fits : 2 ^ h ≤ a → (fits_signed (suc h) (signed (suc h) a *ℤ pos (2 ^ k)) ≡ true) ↔ (c < 2 ^ n)
  unfolding c
  high_fits ge = (forth, back)
    where
      some : 0 < suc c * 2 ^ k
      some = omega (arith, mul-le-mul_right (2 ^ k) one, pow_pos k)
        where
          one : 1 ≤ suc c
          one = omega arith

      turn : fits_signed (suc h) (signed (suc h) a *ℤ pos (2 ^ k)) ≡ ltb (2 * (suc c * 2 ^ k - 1)) (2 ^ suc h)
      turn = ap (λ z. fits_signed (suc h) (z *ℤ pos (2 ^ k))) (signed_high h a ge) ∙ neg_fits (suc h) (suc c * 2 ^ k) some

      forth : fits_signed (suc h) (signed (suc h) a *ℤ pos (2 ^ k)) ≡ true → c < 2 ^ n
      forth t =
          let b : suc c * 2 ^ k < (2 ^ n + 1) * 2 ^ k = omega (arith, ltb-true _ _ (sym turn ∙ t), half, pow-suc 2 h, some, pow_pos k) in
          let s : suc c < 2 ^ n + 1 = smaller (suc c) (2 ^ n + 1) (2 ^ k) (pow_pos k) b in
          omega (arith, s)

      back : c < 2 ^ n → fits_signed (suc h) (signed (suc h) a *ℤ pos (2 ^ k)) ≡ true
      back l =
          let s : suc c ≤ 2 ^ n = omega arith in
          turn ∙ lt-ltb _ _ (omega (arith, mul-le-mul_right (2 ^ k) s, half, pow-suc 2 h, some))

  high_bits : 2 ^ h ≤ a → (c < 2 ^ n) ↔ SameTop h n a
  unfolding SameTop c
  high_bits ge = (forth, back)
    where
      top : bit_at a h ≡ 1
      top = top_bit h a ge pa

      one : c < 2 ^ n → (j : ℕ) → n ≤ j → j ≤ h → bit_at a j ≡ 1
      one l j g t = omega (arith, bit_at_above c n j l g, c_bit j t, bit_at-lt a j)

      forth : c < 2 ^ n → (j : ℕ) → n ≤ j → j ≤ h → bit_at a j ≡ bit_at a n
      forth l j g t = one l j g t ∙ sym (one l n (omega arith) n_le)

      back : ((j : ℕ) → n ≤ j → j ≤ h → bit_at a j ≡ bit_at a n) → c < 2 ^ n
      back s = below_from_bits (suc h) n c (omega arith) (λ j g t. omega (arith, c_bit j (omega arith), s j g (omega arith), s h n_le (omega arith), top))

  pub shl_nsw_bits : (fits_signed (suc h) (signed (suc h) a *ℤ pos (2 ^ k)) ≡ true) ↔ ((j : ℕ) → h - k ≤ j → j ≤ h → bit_at a j ≡ bit_at a (h - k))
  unfolding n SameTop
  shl_nsw_bits = ⊎_elim
      (λ lt. (λ t. (low_bits lt).0 ((low_fits lt).0 t), λ s. (low_fits lt).1 ((low_bits lt).1 s)))
      (λ ge. (λ t. (high_bits ge).0 ((high_fits ge).0 t), λ s. (high_fits ge).1 ((high_bits ge).1 s)))
      (cases_lt a (2 ^ h))

-- the same at a width, with the sign bit of the result
pub product_fits : (w a k : ℕ) → k < w → a < 2 ^ w
    → (fits_signed w (signed w a *ℤ pos (2 ^ k)) ≡ true) ↔ ((j : ℕ) → w - k ≤ j → j < w → bit_at a j ≡ bit_at ((a * 2 ^ k) % 2 ^ w) (w - 1))
product_fits zero a k l pa = absurd (omega arith)
product_fits (suc h) a k l pa = (
  λ t j g lj. (shl_nsw_bits h k a (omega arith) pa).0 t j (omega arith) (omega arith) ∙ sym top,
  λ s. (shl_nsw_bits h k a (omega arith) pa).1 (λ j g lj. ⊎_elim
      (λ e. ap (bit_at a) e)
      (λ n. s j (omega (arith, n)) (omega arith) ∙ top)
      (cases_eq j (h - k))),
)
  where
    top : bit_at ((a * 2 ^ k) % 2 ^ suc h) (suc h - 1) ≡ bit_at a (h - k)
    top =
        let e : suc h - 1 ≡ h = omega arith in
        ap (bit_at ((a * 2 ^ k) % 2 ^ suc h)) e ∙ shl_high (suc h) a k h (omega arith) (omega arith)

-- a last test that alone decides whether a number is answered
last : (x : ℕ) (b : Bool) → (cond (not b) (Err Nsw) (answered x) ≡ answered x) ↔ (b ≡ true)
last x true = (λ h. refl, λ h. refl)
last x false = (λ h. cc, λ h. cc)

-- what a shift to the left answers with this flag alone
shl_nsw_tests : (f : Flags) (w a k : ℕ) → f.nsw ≡ true → f.nuw ≡ false → k < w
    → binary_of Shl f w a k ≡ cond (not (fits_signed w (signed w a *ℤ pos (2 ^ k)))) (Err Nsw) (Ok ((a * 2 ^ k) % 2 ^ w))
unfolding binary_of shl_of
shl_nsw_tests f w a k s u l = rw (lt-leb w k l, u, s) refl

pub shl_nsw_answers : (f : Flags) (w a k : ℕ) → f.nsw ≡ true → f.nuw ≡ false → k < w → a < 2 ^ w
    → (binary_of Shl f w a k ≡ Ok ((a * 2 ^ k) % 2 ^ w)) ↔ ((j : ℕ) → w - k ≤ j → j < w → bit_at a j ≡ bit_at ((a * 2 ^ k) % 2 ^ w) (w - 1))
shl_nsw_answers f w a k s u l pa =
    let t = shl_nsw_tests f w a k s u l in
    let d = last ((a * 2 ^ k) % 2 ^ w) (fits_signed w (signed w a *ℤ pos (2 ^ k))) in
    let b = product_fits w a k l pa in
    (λ h. b.0 (d.0 (sym t ∙ h)), λ h. t ∙ d.1 (b.1 h))
