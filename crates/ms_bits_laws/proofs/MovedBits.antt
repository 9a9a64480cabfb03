-- Masks of functions that move bits alone: they are exact.
use Rattle.std.proofs.Common.{◌↔◌, ◌≡◌, ℕ, ◌+◌, ◌-◌, ◌*◌, ◌/◌, ◌%◌, ◌^◌, ◌<◌, ◌≤◌, ◌≢◌, max, sym, ◌∙◌, arith, ⊎_elim}
use Rattle.std.specs.Int.{bit_at}
use Rattle.std.proofs.lemmas.Bool.{cases_eq, cases_lt}
use Rattle.std.proofs.Math.Pow.{ones_lt}
use Rattle.std.proofs.lemmas.Nat.{mod_below, pow_pos}
use Rattle.std.proofs.lemmas.Nat.Bits.{bit_at-lt, bit_at_cat_low, bit_at_cat_high, bit_at_ones, same_from_bits_below}
use Rattle.ms_bits.specs.Fill.{number_of_bits}
use Rattle.ms_bits.specs.Completion.{Completes, Differs, IsMaskOf}
use Rattle.ms_bits.specs.Formulas.{least, greatest}
use Rattle.ms_bits_laws.proofs.BitLemmas.{bit_at_mod}
use Rattle.ms_bits_laws.proofs.BitSources.{lshr_bit}
use Rattle.ms_bits_laws.proofs.Extremes.{greatest_completes, least_completes, value_completes, greatest_bit, least_bit}
use Rattle.ms_bits_laws.proofs.MaskFunctions.{number_bit}
use Rattle.ms_bits.specs.WordFunctions.{bswap_of, bitreverse_of, window, fshl_of, fshr_of}

pub lo_hi : (x m a b : ℕ) → m ≡ 1 → x < 2 → a ≡ x - m → b ≡ max x m → a ≡ b → ⊥
lo_hi x m a b e p q r s = omega arith

-- one operand's completions that differ at j show that it is poisoned there
shown : {w x n a c j : ℕ} → j < w → Completes w x n a → Completes w x n c → bit_at a j ≢ bit_at c j → bit_at n j ≡ 1
shown {w} {x} {n} {a} {c} {j} l ha hc h = ⊎_elim (λ z. absurd (h (ha.agrees j l z ∙ sym (hc.agrees j l z)))) (λ o. omega (arith, bit_at-lt n j)) (cases_eq (bit_at n j) 0)

-- bit i of what f gives is bit j of its first operand
module _ (f : ℕ → ℕ → ℕ) (w i j : ℕ) (lj : j < w) (law : (a b : ℕ) → a < 2 ^ w → bit_at (f a b) i ≡ bit_at a j) where
  pub first_forth : (v m u k : ℕ) → v < 2 ^ w → m < 2 ^ w → u < 2 ^ w → bit_at (f m k) i ≡ 1 → Differs f w v m u k i
  first_forth v m u k pv pm pu h = record {
    a = least v m;
    b = u;
    c = greatest v m;
    d = u;
    left = least_completes w v m pv pm;
    right = value_completes w u k pu;
    left_too = greatest_completes w v m pv pm;
    right_too = value_completes w u k pu;
    apart = λ e. lo_hi _ _ _ _ (sym (law m k pm) ∙ h) (bit_at-lt v j) (least_bit v m j) (greatest_bit v m j)
        (sym (law _ u (least_completes w v m pv pm).fits) ∙ e ∙ law _ u (greatest_completes w v m pv pm).fits);
  }

  pub first_back : (v m u k : ℕ) → m < 2 ^ w → Differs f w v m u k i → bit_at (f m k) i ≡ 1
  first_back v m u k pm h = law m k pm ∙ shown lj h.left h.left_too (λ e. h.apart (law h.a h.b h.left.fits ∙ e ∙ sym (law h.c h.d h.left_too.fits)))

-- bit i of what f gives is bit j of its second operand
module _ (f : ℕ → ℕ → ℕ) (w i j : ℕ) (lj : j < w) (law : (a b : ℕ) → b < 2 ^ w → bit_at (f a b) i ≡ bit_at b j) where
  pub second_forth : (v m u k : ℕ) → v < 2 ^ w → u < 2 ^ w → k < 2 ^ w → bit_at (f m k) i ≡ 1 → Differs f w v m u k i
  second_forth v m u k pv pu pk h = record {
    a = v;
    b = least u k;
    c = v;
    d = greatest u k;
    left = value_completes w v m pv;
    right = least_completes w u k pu pk;
    left_too = value_completes w v m pv;
    right_too = greatest_completes w u k pu pk;
    apart = λ e. lo_hi _ _ _ _ (sym (law m k pk) ∙ h) (bit_at-lt u j) (least_bit u k j) (greatest_bit u k j)
        (sym (law v _ (least_completes w u k pu pk).fits) ∙ e ∙ law v _ (greatest_completes w u k pu pk).fits);
  }

  pub second_back : (v m u k : ℕ) → k < 2 ^ w → Differs f w v m u k i → bit_at (f m k) i ≡ 1
  second_back v m u k pk h = law m k pk ∙ shown lj h.right h.right_too (λ e. h.apart (law h.a h.b h.right.fits ∙ e ∙ sym (law h.c h.d h.right_too.fits)))

-- a word whose bit i is bit from i of the first operand
module _ (w : ℕ) (from : ℕ → ℕ) (within : (i : ℕ) → i < w → from i < w) where
  moved : ℕ → ℕ
  moved a = number_of_bits (λ i. bit_at a (from i)) w

  moved_exact : (v m u k : ℕ) → v < 2 ^ w → m < 2 ^ w → u < 2 ^ w → IsMaskOf (λ a b. moved a) w v m u k w (moved m)
  unfolding moved
  moved_exact v m u k pv pm pu i l = (first_forth f w i (from i) (within i l) law v m u k pv pm pu, first_back f w i (from i) (within i l) law v m u k pm)
    where
      f : ℕ → ℕ → ℕ
      f a b = number_of_bits (λ i. bit_at a (from i)) w

      law : (a b : ℕ) → a < 2 ^ w → bit_at (number_of_bits (λ i. bit_at a (from i)) w) i ≡ bit_at a (from i)
      law a b p = number_bit (λ i. bit_at a (from i)) (λ i. bit_at-lt a (from i)) w i l

pub bswap_exact : (w v m u k : ℕ) → w % 8 ≡ 0 → v < 2 ^ w → m < 2 ^ w → u < 2 ^ w → IsMaskOf (λ a b. bswap_of w a) w v m u k w (bswap_of w m)
unfolding bswap_of moved
bswap_exact w v m u k e pv pm pu = moved_exact w (λ i. w - 8 - i / 8 * 8 + i % 8) (λ i l. omega arith) v m u k pv pm pu

pub bitreverse_exact : (w v m u k : ℕ) → v < 2 ^ w → m < 2 ^ w → u < 2 ^ w → IsMaskOf (λ a b. bitreverse_of w a) w v m u k w (bitreverse_of w m)
unfolding bitreverse_of moved
bitreverse_exact w v m u k pv pm pu = moved_exact w (λ i. w - 1 - i) (λ i l. omega arith) v m u k pv pm pu

-- ---- windows

pub window_lt : (w k a b : ℕ) → window w k a b < 2 ^ w
unfolding window
window_lt w k a b = mod_below _ (2 ^ w) (pow_pos w)

window_bit : (w k a b i : ℕ) → i < w → bit_at (window w k a b) i ≡ bit_at (a * 2 ^ w + b) (k + i)
unfolding window
window_bit w k a b i l = bit_at_mod ((a * 2 ^ w + b) / 2 ^ k) w i l ∙ lshr_bit (a * 2 ^ w + b) k i

pub window_exact : (w k v m u n : ℕ) → k ≤ w → v < 2 ^ w → m < 2 ^ w → u < 2 ^ w → n < 2 ^ w → IsMaskOf (window w k) w v m u n w (window w k m n)
window_exact w k v m u n lk pv pm pu pn i l = ⊎_elim low high (cases_lt (k + i) w)
  where
    low : k + i < w → (bit_at (window w k m n) i ≡ 1) ↔ Differs (window w k) w v m u n i
    low lt =
        let law : (a b : ℕ) → b < 2 ^ w → bit_at (window w k a b) i ≡ bit_at b (k + i) = λ a b p. window_bit w k a b i l ∙ bit_at_cat_low a w b (k + i) lt in
        (second_forth (window w k) w i (k + i) lt law v m u n pv pu pn, second_back (window w k) w i (k + i) lt law v m u n pn)

    high : w ≤ k + i → (bit_at (window w k m n) i ≡ 1) ↔ Differs (window w k) w v m u n i
    high ge = both
      where
        -- the second operand must fit for the first one's bits to stand there
        law : (a b : ℕ) → b < 2 ^ w → bit_at (window w k a b) i ≡ bit_at a (k + i - w)
        law a b p = window_bit w k a b i l ∙ bit_at_cat_high a w b (k + i) p ge

        both : (bit_at (window w k m n) i ≡ 1) ↔ Differs (window w k) w v m u n i
        both = (forth, back)
          where
            forth : bit_at (window w k m n) i ≡ 1 → Differs (window w k) w v m u n i
            forth h = record {
              a = least v m;
              b = u;
              c = greatest v m;
              d = u;
              left = least_completes w v m pv pm;
              right = value_completes w u n pu;
              left_too = greatest_completes w v m pv pm;
              right_too = value_completes w u n pu;
              apart = λ e. lo_hi _ _ _ _ (sym (law m n pn) ∙ h) (bit_at-lt v (k + i - w)) (least_bit v m (k + i - w)) (greatest_bit v m (k + i - w))
                  (sym (law _ u pu) ∙ e ∙ law _ u pu);
            }

            back : Differs (window w k) w v m u n i → bit_at (window w k m n) i ≡ 1
            back h = law m n pn ∙ shown (omega arith) h.left h.left_too (λ e. h.apart (law h.a h.b h.right.fits ∙ e ∙ sym (law h.c h.d h.right_too.fits)))

pub fshl_exact : (w v m u k amount : ℕ) → v < 2 ^ w → m < 2 ^ w → u < 2 ^ w → k < 2 ^ w
    → IsMaskOf (λ a b. fshl_of w a b amount) w v m u k w (fshl_of w m k amount)
unfolding fshl_of
fshl_exact w v m u k amount pv pm pu pk = window_exact w (w - amount % w) v m u k (omega arith) pv pm pu pk

pub fshr_exact : (w v m u k amount : ℕ) → 1 ≤ w → v < 2 ^ w → m < 2 ^ w → u < 2 ^ w → k < 2 ^ w
    → IsMaskOf (λ a b. fshr_of w a b amount) w v m u k w (fshr_of w m k amount)
unfolding fshr_of
fshr_exact w v m u k amount some pv pm pu pk = window_exact w (amount % w) v m u k (omega (arith, mod_below amount w some)) pv pm pu pk

-- ---- words with all bits set

ones_window : (w k : ℕ) → k ≤ w → window w k (2 ^ w - 1) (2 ^ w - 1) ≡ 2 ^ w - 1
ones_window w k le = same_from_bits_below w _ _ (window_lt w k (2 ^ w - 1) (2 ^ w - 1)) (ones_lt w) (λ i l. ⊎_elim (low i l) (high i l) (cases_lt (k + i) w))
  where
    low : (i : ℕ) → i < w → k + i < w → bit_at (window w k (2 ^ w - 1) (2 ^ w - 1)) i ≡ bit_at (2 ^ w - 1) i
    low i l lt = window_bit w k (2 ^ w - 1) (2 ^ w - 1) i l ∙ bit_at_cat_low (2 ^ w - 1) w (2 ^ w - 1) (k + i) lt ∙ bit_at_ones w (k + i) lt ∙ sym (bit_at_ones w i l)

    high : (i : ℕ) → i < w → w ≤ k + i → bit_at (window w k (2 ^ w - 1) (2 ^ w - 1)) i ≡ bit_at (2 ^ w - 1) i
    high i l ge =
        window_bit w k (2 ^ w - 1) (2 ^ w - 1) i l ∙ bit_at_cat_high (2 ^ w - 1) w (2 ^ w - 1) (k + i) (ones_lt w) ge ∙ bit_at_ones w (k + i - w) (omega arith) ∙ sym (bit_at_ones w i l)

pub fshl_ones : (w amount : ℕ) → fshl_of w (2 ^ w - 1) (2 ^ w - 1) amount ≡ 2 ^ w - 1
unfolding fshl_of
fshl_ones w amount = ones_window w (w - amount % w) (omega arith)

pub fshr_ones : (w amount : ℕ) → 1 ≤ w → fshr_of w (2 ^ w - 1) (2 ^ w - 1) amount ≡ 2 ^ w - 1
unfolding fshr_of
fshr_ones w amount some = ones_window w (amount % w) (omega (arith, mod_below amount w some))
