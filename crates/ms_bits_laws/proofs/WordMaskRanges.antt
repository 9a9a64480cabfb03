-- The masks fit, are 0 of words without a poisoned bit, and are the same whichever completions are taken as the numbers.
use Rattle.std.proofs.Common.{◌≡◌, ℕ, zero, suc, ◌+◌, ◌-◌, ◌%◌, ◌^◌, ◌<◌, ◌≤◌, max, Bool, true, false, cond, leb, eqb, refl, sym, ap, ◌∙◌, arith, bit_or, bit_xor, bit_and}
use Rattle.std.specs.Int.{bit_at}
use Rattle.std.proofs.Math.Pow.{pow_mono}
use Rattle.std.proofs.lemmas.Nat.{pow_pos, or_lt, xor_lt}
use Rattle.std.proofs.lemmas.Nat.Bits.{bit_at-lt, bit_at_or, bit_at_xor, same_from_bits_below}
use Rattle.ms_bits.specs.Completion.{Completes}
use Rattle.ms_bits.specs.Formulas.{greatest, least}
use Rattle.ms_bits_laws.proofs.CarryMasks.{carry_mask-lt}
use Rattle.ms_bits_laws.proofs.Extremes.{greatest_completes, least_completes, greatest_bit, least_bit}
use Rattle.ms_bits.specs.WordFunctions.{greater_mask, smaller_mask, places, count_mask, ctpop_mask, ctlz_mask, cttz_mask, abs_mask}

-- ---- the same extremes

pub greatest_same : (w v m a : ℕ) → v < 2 ^ w → m < 2 ^ w → Completes w v m a → greatest a m ≡ greatest v m
greatest_same w v m a pv pm h = same_from_bits_below w _ _ (greatest_completes w a m h.fits pm).fits (greatest_completes w v m pv pm).fits
    (λ i l. bits (bit_at a i) (bit_at v i) (bit_at m i) _ _ (bit_at-lt a i) (bit_at-lt v i) (bit_at-lt m i) (h.agrees i l) (greatest_bit a m i) (greatest_bit v m i))
  where
    bits : (x y z r s : ℕ) → x < 2 → y < 2 → z < 2 → (z ≡ 0 → x ≡ y) → r ≡ max x z → s ≡ max y z → r ≡ s
    bits x y z r s p q t e f g = grind arith

pub least_same : (w v m a : ℕ) → v < 2 ^ w → m < 2 ^ w → Completes w v m a → least a m ≡ least v m
least_same w v m a pv pm h = same_from_bits_below w _ _ (least_completes w a m h.fits pm).fits (least_completes w v m pv pm).fits
    (λ i l. bits (bit_at a i) (bit_at v i) (bit_at m i) _ _ (bit_at-lt a i) (bit_at-lt v i) (bit_at-lt m i) (h.agrees i l) (least_bit a m i) (least_bit v m i))
  where
    bits : (x y z r s : ℕ) → x < 2 → y < 2 → z < 2 → (z ≡ 0 → x ≡ y) → r ≡ x - z → s ≡ y - z → r ≡ s
    bits x y z r s p q t e f g = grind arith

-- ---- the greater and the smaller

all_bit : (v m u k i : ℕ) → bit_at (bit_or (bit_or (bit_xor v u) m) k) i ≡ max (max ((bit_at v i + bit_at u i) % 2) (bit_at m i)) (bit_at k i)
all_bit v m u k i = rw (bit_at_or (bit_or (bit_xor v u) m) k i, bit_at_or (bit_xor v u) m i, bit_at_xor v u i)

all_lt : (w v m u k : ℕ) → v < 2 ^ w → m < 2 ^ w → u < 2 ^ w → k < 2 ^ w → bit_or (bit_or (bit_xor v u) m) k < 2 ^ w
all_lt w v m u k pv pm pu pk = or_lt w _ k (or_lt w _ m (xor_lt w v u pv pu) pm) pk

all_same : (w v m u k a b : ℕ) → v < 2 ^ w → m < 2 ^ w → u < 2 ^ w → k < 2 ^ w → Completes w v m a → Completes w u k b
    → bit_or (bit_or (bit_xor a b) m) k ≡ bit_or (bit_or (bit_xor v u) m) k
all_same w v m u k a b pv pm pu pk ha hb = same_from_bits_below w _ _ (all_lt w a m b k ha.fits pm hb.fits pk) (all_lt w v m u k pv pm pu pk)
    (λ i l. all_bit a m b k i
    ∙ table (bit_at a i) (bit_at b i) (bit_at v i) (bit_at u i) (bit_at m i) (bit_at k i) (bit_at-lt m i) (bit_at-lt k i) (ha.agrees i l) (hb.agrees i l)
    ∙ sym (all_bit v m u k i))
  where
    table : (a b x y m k : ℕ) → m < 2 → k < 2 → (m ≡ 0 → a ≡ x) → (k ≡ 0 → b ≡ y) → max (max ((a + b) % 2) m) k ≡ max (max ((x + y) % 2) m) k
    table a b x y zero zero p q f g = rw (f refl, g refl) refl
    table a b x y (suc m) k p q f g = let e : suc m ≡ 1 = omega arith in omega arith
    table a b x y zero (suc k) p q f g = omega arith

module _ (w v m u k : ℕ) (pv : v < 2 ^ w) (pm : m < 2 ^ w) (pu : u < 2 ^ w) (pk : k < 2 ^ w) where
  pub greater_same : (a b : ℕ) → Completes w v m a → Completes w u k b → greater_mask a m b k ≡ greater_mask v m u k
  unfolding greater_mask
  greater_same a b ha hb = rw (greatest_same w v m a pv pm ha, greatest_same w u k b pu pk hb, least_same w v m a pv pm ha, least_same w u k b pu pk hb, all_same w v m u k a b pv pm pu pk ha hb) refl

  pub smaller_same : (a b : ℕ) → Completes w v m a → Completes w u k b → smaller_mask a m b k ≡ smaller_mask v m u k
  unfolding smaller_mask
  smaller_same a b ha hb = rw (greatest_same w v m a pv pm ha, greatest_same w u k b pu pk hb, least_same w v m a pv pm ha, least_same w u k b pu pk hb, all_same w v m u k a b pv pm pu pk ha hb) refl

choice_lt : (s t : Bool) (n x y z : ℕ) → x < n → y < n → z < n → cond s x (cond t y z) < n
choice_lt true t n x y z p q r = p
choice_lt false true n x y z p q r = q
choice_lt false false n x y z p q r = r

pub greater_lt : (w v m u k : ℕ) → v < 2 ^ w → m < 2 ^ w → u < 2 ^ w → k < 2 ^ w → greater_mask v m u k < 2 ^ w
unfolding greater_mask
greater_lt w v m u k pv pm pu pk = choice_lt _ _ (2 ^ w) m k _ pm pk (all_lt w v m u k pv pm pu pk)

pub smaller_lt : (w v m u k : ℕ) → v < 2 ^ w → m < 2 ^ w → u < 2 ^ w → k < 2 ^ w → smaller_mask v m u k < 2 ^ w
unfolding smaller_mask
smaller_lt w v m u k pv pm pu pk = choice_lt _ _ (2 ^ w) k m _ pk pm (all_lt w v m u k pv pm pu pk)

-- ---- counts

pub places_le : (w : ℕ) → 1 ≤ w → places w ≤ w
unfolding places
places_le w p = grind arith

count_mask-lt : (w : ℕ) (known : Bool) → 1 ≤ w → count_mask w known < 2 ^ w
unfolding count_mask
count_mask-lt w true p = pow_pos w
count_mask-lt w false p = let le : 2 ^ places w ≤ 2 ^ w = pow_mono (places_le w p) in omega (arith, pow_pos (places w))

pub counts_lt : (w v m : ℕ) → 1 ≤ w → (ctpop_mask w m < 2 ^ w) × (ctlz_mask w v m < 2 ^ w) × (cttz_mask w v m < 2 ^ w)
unfolding ctpop_mask ctlz_mask cttz_mask
counts_lt w v m p = (count_mask-lt w _ p, count_mask-lt w _ p, count_mask-lt w _ p)

pub ctlz_same : (w v m a : ℕ) → v < 2 ^ w → m < 2 ^ w → Completes w v m a → ctlz_mask w a m ≡ ctlz_mask w v m
unfolding ctlz_mask
ctlz_same w v m a pv pm h = ap (λ l. count_mask w (leb m l)) (least_same w v m a pv pm h)

pub cttz_same : (w v m a : ℕ) → v < 2 ^ w → m < 2 ^ w → Completes w v m a → cttz_mask w a m ≡ cttz_mask w v m
unfolding cttz_mask
cttz_same w v m a pv pm h = ap (λ g. count_mask w (eqb (bit_and (bit_and g ((0 + (2 ^ w - g)) % 2 ^ w)) m) 0)) (greatest_same w v m a pv pm h)

-- ---- the absolute value

pub abs_lt : (w v m : ℕ) → v < 2 ^ w → m < 2 ^ w → abs_mask w v m < 2 ^ w
unfolding abs_mask
abs_lt w v m pv pm = choice_lt _ _ (2 ^ w) _ _ m (carry_mask-lt w (greatest v m) (greatest_completes w v m pv pm).fits) (carry_mask-lt w m pm) pm
