-- The greatest and the least completion of a poisoned word.
use Rattle.std.proofs.Common.{◌≡◌, ℕ, zero, suc, ◌-◌, ◌^◌, ◌<◌, ◌≤◌, max, refl, ◌∙◌, arith, bit_or}
use Rattle.std.specs.Int.{bit_at}
use Rattle.std.proofs.lemmas.Nat.{or_lt, xor_lt}
use Rattle.std.proofs.lemmas.Nat.Bits.{bit_at_or, bit_at_xor, bit_at-lt}
use Rattle.ms_bits.specs.Completion.{Completes}
use Rattle.ms_bits.specs.Formulas.{greatest, least}
use Rattle.ms_bits_laws.proofs.BitLemmas.{le_from_bits}

pub greatest_bit : (v m i : ℕ) → bit_at (greatest v m) i ≡ max (bit_at v i) (bit_at m i)
unfolding greatest least
greatest_bit v m i = bit_at_or v m i

pub least_bit : (v m i : ℕ) → bit_at (least v m) i ≡ bit_at v i - bit_at m i
unfolding greatest least
least_bit v m i = omega (arith, bit_at_xor (bit_or v m) m i, bit_at_or v m i, bit_at-lt v i, bit_at-lt m i)

pub greatest_completes : (w v m : ℕ) → v < 2 ^ w → m < 2 ^ w → Completes w v m (greatest v m)
unfolding greatest least
greatest_completes w v m p q = record { fits = or_lt w v m p q; agrees = λ i l z. omega (arith, greatest_bit v m i) }

pub least_completes : (w v m : ℕ) → v < 2 ^ w → m < 2 ^ w → Completes w v m (least v m)
unfolding greatest least
least_completes w v m p q = record { fits = xor_lt w (bit_or v m) m (or_lt w v m p q) q; agrees = λ i l z. omega (arith, least_bit v m i) }

pub value_completes : (w v m : ℕ) → v < 2 ^ w → Completes w v m v
value_completes w v m p = record { fits = p; agrees = λ i l z. refl }

-- one bit of a completion lies between those of the least and the greatest
pub between : (x m c : ℕ) → x < 2 → m < 2 → c < 2 → (m ≡ 0 → c ≡ x) → (x - m ≤ c) × (c ≤ max x m)
between x m c p q r h = grind arith

-- the completion whose bit at a place is d, where the place is poisoned or has d
pub choose : ℕ → ℕ → ℕ → ℕ
choose v m zero = least v m
choose v m (suc d) = greatest v m

pub choose_completes : (w v m d : ℕ) → v < 2 ^ w → m < 2 ^ w → Completes w v m (choose v m d)
unfolding choose
choose_completes w v m zero p q = least_completes w v m p q
choose_completes w v m (suc d) p q = greatest_completes w v m p q

pub choose_bit : (v m d i : ℕ) → d < 2 → (bit_at m i ≡ 0 → d ≡ bit_at v i) → bit_at (choose v m d) i ≡ d
unfolding choose
choose_bit v m zero i l h = low (bit_at v i) (bit_at m i) _ (bit_at-lt v i) (bit_at-lt m i) h (least_bit v m i)
  where
    low : (x m r : ℕ) → x < 2 → m < 2 → (m ≡ 0 → 0 ≡ x) → r ≡ x - m → r ≡ 0
    low x m r p q h e = grind arith
choose_bit v m (suc d) i l h = high (bit_at v i) (bit_at m i) _ (bit_at-lt v i) (bit_at-lt m i) h (greatest_bit v m i) ∙ omega arith
  where
    high : (x m r : ℕ) → x < 2 → m < 2 → (m ≡ 0 → suc d ≡ x) → r ≡ max x m → r ≡ 1
    high x m r p q h e = grind arith

pub below_greatest : {w v m c : ℕ} → v < 2 ^ w → m < 2 ^ w → Completes w v m c → c ≤ greatest v m
unfolding greatest least
below_greatest {w} {v} {m} {c} p q h =
    le_from_bits w c (greatest v m) h.fits (or_lt w v m p q)
    (λ i l. omega (arith, greatest_bit v m i, between (bit_at v i) (bit_at m i) (bit_at c i) (bit_at-lt v i) (bit_at-lt m i) (bit_at-lt c i) (h.agrees i l)))

pub above_least : {w v m c : ℕ} → v < 2 ^ w → m < 2 ^ w → Completes w v m c → least v m ≤ c
unfolding greatest least
above_least {w} {v} {m} {c} p q h =
    le_from_bits w (least v m) c (xor_lt w (bit_or v m) m (or_lt w v m p q) q) h.fits
    (λ i l. omega (arith, least_bit v m i, between (bit_at v i) (bit_at m i) (bit_at c i) (bit_at-lt v i) (bit_at-lt m i) (bit_at-lt c i) (h.agrees i l)))
