-- The masks of counts of bits: outside them all completions have one count.
use Rattle.std.proofs.Common.{zero-add, ◌≡◌, ℕ, zero, suc, ◌+◌, ◌-◌, ◌/◌, ◌%◌, ◌^◌, ◌<◌, ◌≤◌, ◌≢◌, Bool, true, false, leb, eqb, subst, refl, sym, ap, ◌∙◌, arith, ⊎_elim, bit_or, bit_and, count_ones}
use lib.Count.{count_leading_zeros, count_trailing_zeros, under}
use Rattle.std.specs.Int.{bit_at}
use Rattle.std.proofs.Math.Nat.{pow-suc, mod-eq_of_lt}
use Rattle.std.proofs.Math.Pow.{pow_mono}
use Rattle.std.proofs.lemmas.Bool.{cases_eq, cases_lt, leb-true, eqb-true}
use Rattle.std.proofs.lemmas.Nat.{or_lt, pow_pos, leading_top, leading_le, trailing_le, ones-le}
use Rattle.std.proofs.lemmas.Nat.Bits.{bit_at-lt, bit_at_or, bit_at_and, bit_at_above, bit_at_ones, bit_at_lowest, bit_at-suc, same_from_bits, same_from_bits_below, bit_at-zero}
use Rattle.ms_bits.specs.Completion.{Agrees, Completes}
use Rattle.ms_bits.specs.Formulas.{least, greatest}
use Rattle.ms_bits_laws.proofs.Extremes.{greatest_completes, greatest_bit, least_bit, below_greatest, above_least}
use Rattle.ms_bits.specs.WordFunctions.{places, count_mask, ctpop_mask, ctlz_mask, cttz_mask}

pub within_places : (w n : ℕ) → w ≤ 64 → n ≤ w → n < 2 ^ places w
unfolding places
within_places w n p q = grind arith

-- counts are one, or differ in the places of a count alone
counts_agree : (w r s : ℕ) (known : Bool) → w ≤ 64 → r ≤ w → s ≤ w → (known ≡ true → r ≡ s) → Agrees w (count_mask w known) r s
unfolding count_mask
counts_agree w r s true le p q h i l z = ap (λ x. bit_at x i) (h refl)
counts_agree w r s false le p q h i l z = ⊎_elim
    (λ lt. absurd (omega (arith, z, bit_at_ones (places w) i lt)))
    (λ ge. bit_at_above r (places w) i (within_places w r le p) ge ∙ sym (bit_at_above s (places w) i (within_places w s le q) ge))
    (cases_lt i (places w))

-- completions of a word without a poisoned bit are one
pub defined_same : (w v m a c : ℕ) → m ≡ 0 → Completes w v m a → Completes w v m c → a ≡ c
defined_same w v m a c e ha hc = same_from_bits_below w a c ha.fits hc.fits (λ i l. let z : bit_at m i ≡ 0 = ap (λ x. bit_at x i) e ∙ bit_at-zero i in ha.agrees i l z ∙ sym (hc.agrees i l z))

pub ctpop_agrees : (w v m a c : ℕ) → w ≤ 64 → Completes w v m a → Completes w v m c → Agrees w (ctpop_mask w m) (count_ones a) (count_ones c)
unfolding ctpop_mask
ctpop_agrees w v m a c le ha hc = counts_agree w _ _ (eqb m 0) le (ones-le w a ha.fits) (ones-le w c hc.fits) (λ t. ap count_ones (defined_same w v m a c (eqb-true m 0 t) ha hc))

-- the greatest completion is the least one with the poisoned bits
greatest_is : (v m : ℕ) → greatest v m ≡ bit_or (least v m) m
greatest_is v m = same_from_bits _ _ (λ i. omega (arith, greatest_bit v m i, bit_at_or (least v m) m i, least_bit v m i, bit_at-lt v i, bit_at-lt m i))

-- two numbers between 2 ^ j and 2 ^ (j + 1) have the same leading zeros
same_leading : (w j a : ℕ) → 2 ^ j ≤ a → a < 2 ^ suc j → a < 2 ^ w → count_leading_zeros w a + suc j ≡ w
same_leading w j a p q r =
    let (h, e, x, y) = leading_top w a (omega (arith, pow_pos j)) r in
    let same : h ≡ j = ⊎_elim
    (λ lt. let s : 2 ^ suc h ≤ 2 ^ j = pow_mono lt in absurd (omega arith))
    (λ ge. ⊎_elim (λ lt. let s : 2 ^ suc j ≤ 2 ^ h = pow_mono lt in absurd (omega arith)) (λ ge'. omega arith) (cases_lt j h))
    (cases_lt h j) in
    omega arith

pub ctlz_agrees : (w v m a c : ℕ) → w ≤ 64 → v < 2 ^ w → m < 2 ^ w → Completes w v m a → Completes w v m c
    → Agrees w (ctlz_mask w v m) (count_leading_zeros w a) (count_leading_zeros w c)
unfolding ctlz_mask
ctlz_agrees w v m a c le pv pm ha hc = counts_agree w _ _ (leb m (least v m)) le (leading_le w a) (leading_le w c) (λ t. known (leb-true m (least v m) t))
  where
    known : m ≤ least v m → count_leading_zeros w a ≡ count_leading_zeros w c
    known lm = ⊎_elim
        (λ z. ap (count_leading_zeros w) (defined_same w v m a c (omega arith) ha hc))
        (λ n.
        let (j, e, x, y) = leading_top w (least v m) (omega arith) (omega (arith, above_least pv pm ha, ha.fits)) in
        let top : greatest v m < 2 ^ suc j = subst (λ g. g < 2 ^ suc j) (sym (greatest_is v m)) (or_lt (suc j) (least v m) m y (omega arith)) in
        let fa = same_leading w j a (omega (arith, above_least pv pm ha)) (omega (arith, below_greatest pv pm ha)) ha.fits in
        let fc = same_leading w j c (omega (arith, above_least pv pm hc)) (omega (arith, below_greatest pv pm hc)) hc.fits in
        omega arith)
        (cases_eq (least v m) 0)

-- ---- trailing zeros

-- 0 - s modulo 2 ^ w, as a carry mask has it

negated_some : (w s : ℕ) → 0 < s → s < 2 ^ w → (0 + (2 ^ w - s)) % 2 ^ w ≡ 2 ^ w - s
negated_some w s some fits = ap (λ n. n % 2 ^ w) (zero-add (2 ^ w - s)) ∙ mod-eq_of_lt (omega arith)

-- the lowest bit of a word is also one of its negation
lowest_negated : (w g i : ℕ) → g < 2 ^ w → i < w → bit_at g i ≡ 1 → ((j : ℕ) → j < i → bit_at g j ≡ 0) → bit_at (2 ^ w - g) i ≡ 1
lowest_negated zero g i p l one low = absurd (omega arith)
lowest_negated (suc w) g zero p l one low = omega (arith, bit_at_lowest g, bit_at_lowest (2 ^ suc w - g), one, pow-suc 2 w)
lowest_negated (suc w) g (suc i) p l one low =
    let even : g % 2 ≡ 0 = omega (arith, bit_at_lowest g, low 0 (omega arith)) in
    let half : (2 ^ suc w - g) / 2 ≡ 2 ^ w - g / 2 = omega (arith, pow-suc 2 w) in
    bit_at-suc (2 ^ suc w - g) i ∙ ap (λ x. bit_at x i) half
    ∙ lowest_negated w (g / 2) i (omega (arith, pow-suc 2 w)) (omega arith) (sym (bit_at-suc g i) ∙ one) (λ j lj. sym (bit_at-suc g j) ∙ low (suc j) (omega arith))

at_odd : (d r : ℕ) → d ≡ 1 → under d r ≡ 0
at_odd zero r e = absurd (omega arith)
at_odd (suc d) r e = refl

at_even : (d r : ℕ) → d ≡ 0 → under d r ≡ suc r
at_even zero r e = refl
at_even (suc d) r e = absurd (omega arith)

-- words with the same lowest bit have the same trailing zeros
same_trailing : (w i a : ℕ) → i < w → a < 2 ^ w → bit_at a i ≡ 1 → ((j : ℕ) → j < i → bit_at a j ≡ 0) → count_trailing_zeros w a ≡ i
unfolding count_trailing_zeros
same_trailing zero i a l p one low = absurd (omega arith)
same_trailing (suc w) zero a l p one low = at_odd (a % 2) (count_trailing_zeros w (a / 2)) (omega (arith, bit_at_lowest a))
same_trailing (suc w) (suc i) a l p one low =
    at_even (a % 2) (count_trailing_zeros w (a / 2)) (omega (arith, bit_at_lowest a, low 0 (omega arith)))
    ∙ ap suc (same_trailing w i (a / 2) (omega arith) (omega (arith, pow-suc 2 w)) (sym (bit_at-suc a i) ∙ one) (λ j lj. sym (bit_at-suc a j) ∙ low (suc j) (omega arith)))

-- a word that isn't 0 has a lowest bit
pub lowest_of : (w g : ℕ) → g < 2 ^ w → g ≢ 0 → (i : ℕ) × (i < w) × (bit_at g i ≡ 1) × ((j : ℕ) → j < i → bit_at g j ≡ 0)
lowest_of zero g p h = absurd (h (omega arith))
lowest_of (suc w) g p h = ⊎_elim
    (λ e.
    let some : g / 2 ≢ 0 = λ z. h (omega arith) in
    let (i, l, one, low) = lowest_of w (g / 2) (omega (arith, pow-suc 2 w)) some in
    (suc i, omega arith, bit_at-suc g i ∙ one, below e i low))
    (λ n. (0, omega arith, omega (arith, bit_at_lowest g), λ j l. absurd (omega arith)))
    (cases_eq (g % 2) 0)
  where
    below : g % 2 ≡ 0 → (i : ℕ) → ((j : ℕ) → j < i → bit_at (g / 2) j ≡ 0) → (j : ℕ) → j < suc i → bit_at g j ≡ 0
    below e i low zero l = omega (arith, bit_at_lowest g)
    below e i low (suc j) l = bit_at-suc g j ∙ low j (omega arith)

bit_of_zero : (x i : ℕ) → x ≡ 0 → bit_at x i ≡ 0
bit_of_zero x i e = ap (λ n. bit_at n i) e ∙ bit_at-zero i

pub cttz_agrees : (w v m a c : ℕ) → w ≤ 64 → v < 2 ^ w → m < 2 ^ w → Completes w v m a → Completes w v m c
    → Agrees w (cttz_mask w v m) (count_trailing_zeros w a) (count_trailing_zeros w c)
unfolding cttz_mask
cttz_agrees w v m a c le pv pm ha hc = counts_agree w _ _ (eqb (bit_and (bit_and (greatest v m) ((0 + (2 ^ w - greatest v m)) % 2 ^ w)) m) 0) le (trailing_le w a) (trailing_le w c) (λ t. known (eqb-true _ 0 t))
  where
    known : bit_and (bit_and (greatest v m) ((0 + (2 ^ w - greatest v m)) % 2 ^ w)) m ≡ 0 → count_trailing_zeros w a ≡ count_trailing_zeros w c
    known z = ⊎_elim
        (λ e. let a0 : a ≡ 0 = omega (arith, below_greatest pv pm ha) in let c0 : c ≡ 0 = omega (arith, below_greatest pv pm hc) in ap (count_trailing_zeros w) (a0 ∙ sym c0))
        some
        (cases_eq (greatest v m) 0)
      where
        fits : greatest v m < 2 ^ w
        fits = (greatest_completes w v m pv pm).fits

        some : greatest v m ≢ 0 → count_trailing_zeros w a ≡ count_trailing_zeros w c
        some n =
            let (i, l, one, low) = lowest_of w (greatest v m) fits n in
            let turned : (0 + (2 ^ w - greatest v m)) % 2 ^ w ≡ 2 ^ w - greatest v m = negated_some w (greatest v m) (omega arith) fits in
            let same : bit_at ((0 + (2 ^ w - greatest v m)) % 2 ^ w) i ≡ 1 = ap (λ x. bit_at x i) turned ∙ lowest_negated w (greatest v m) i fits l one low in
            let clear : bit_at m i ≡ 0 = omega (
              arith,
              bit_of_zero _ i z,
              bit_at_and (bit_and (greatest v m) ((0 + (2 ^ w - greatest v m)) % 2 ^ w)) m i,
              bit_at_and (greatest v m) ((0 + (2 ^ w - greatest v m)) % 2 ^ w) i,
              same,
              one,
              bit_at-lt m i,
            ) in
            let set : bit_at v i ≡ 1 = omega (arith, greatest_bit v m i, one, clear) in
            let off : (j : ℕ) → j < i → (bit_at m j ≡ 0) × (bit_at v j ≡ 0) = λ j lj. (omega (arith, greatest_bit v m j, low j lj), omega (arith, greatest_bit v m j, low j lj)) in
            let ta = same_trailing w i a l ha.fits (ha.agrees i l clear ∙ set) (λ j lj. ha.agrees j (omega arith) (off j lj).0 ∙ (off j lj).1) in
            let tc = same_trailing w i c l hc.fits (hc.agrees i l clear ∙ set) (λ j lj. hc.agrees j (omega arith) (off j lj).0 ∙ (off j lj).1) in
            ta ∙ sym tc
