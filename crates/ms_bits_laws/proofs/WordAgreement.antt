-- Outside the masks of functions of whole words all choices of completions give the same bits.
use Rattle.std.proofs.Common.{◌≡◌, ℕ, ◌*◌, ◌/◌, ◌+◌, ◌-◌, ◌%◌, ◌^◌, ◌<◌, ◌≤◌, max, min, Bool, true, false, cond, if◌then◌else◌, eqb, Result, Ok, Err, leb, ℤ, pos, negsuc, subst, refl, sym, ap, ap₂, ◌∙◌, arith, ⊎_elim, bit_or, count_ones, ◌+ℤ◌, ◌-ℤ◌}
use Rattle.std.proofs.Math.Pow.{pow_mono}
use lib.Count.{count_leading_zeros, count_trailing_zeros}
use Rattle.std.specs.Int.{bit_at}
use Rattle.std.proofs.lemmas.Bool.{cases_Bool, eqb-true, leb-true}
use Rattle.std.proofs.lemmas.Nat.{pow_pos, xor_lt, pow_below, le_or_l, le_or_r, ones-le, leading_le, trailing_le}
use Rattle.std.proofs.lemmas.Nat.Bits.{bit_at-lt, bit_at_xor}
use Rattle.ms_bits.specs.declared.traps.Trap.{Trap}
use Rattle.ms_bits.specs.declared.word_functions.WordWidth.{WordWidth}
use Rattle.ms_bits.specs.declared.word_functions.WordWidth.TheVariants.{I8, I16, I32, I64}
use Rattle.ms_bits.specs.declared.word_functions.BitMove.{BitMove}
use Rattle.ms_bits.specs.Signed.{signed}
use Rattle.ms_bits.specs.Completion.{InRange, Agrees, Completes}
use Rattle.ms_bits.specs.Formulas.{turned_sign}
use Rattle.ms_bits_laws.proofs.Agreement.{agrees_from_exact}
use Rattle.ms_bits_laws.proofs.MovedBits.{bswap_exact, bitreverse_exact, window_lt, fshl_exact, fshr_exact}
use Rattle.ms_bits_laws.proofs.GreaterAndSmaller.{greater_agrees, smaller_agrees}
use Rattle.ms_bits_laws.proofs.Counts.{within_places, defined_same, ctpop_agrees, ctlz_agrees, cttz_agrees}
use Rattle.ms_bits_laws.proofs.AbsoluteValues.{abs_agrees_at, abs_same}
use Rattle.ms_bits_laws.proofs.MaskFunctions.{number_fits}
use Rattle.ms_bits_laws.proofs.WordMaskRanges.{places_le, counts_lt, abs_lt, greater_lt, smaller_lt, greater_same, smaller_same, ctlz_same, cttz_same}
use Rattle.ms_bits.specs.declared.word_functions.WordFn.{WordFn}
use Rattle.ms_bits.specs.declared.word_functions.WordFn.TheVariants.{Ctpop, Ctlz, Cttz, Bswap, Bitreverse, Abs, Smax, Smin, Umax, Umin, Fshl, Fshr, UaddSat, UsubSat, SaddSat, SsubSat, Expect}
use Rattle.ms_bits.specs.WordFunctions.{bswap_of, bitreverse_of, fshl_of, fshr_of, smax_of, smin_of, abs_of, HasForm, places, saturated, bits_of, word_answer, word_mask, whole_mask, move_fn, move_width, moved_by, moved}
use Rattle.ms_bits_laws.proofs.OperationAgreement.{nothing_outside_ones}

-- the word of an answer
abbrev value_of : Result ℕ Trap → ℕ
value_of (Ok v) = v
value_of (Err t) = 0

-- what a function answers where no flag is broken
abbrev plain_word : WordFn → (w a b c : ℕ) → ℕ
plain_word Ctpop w a b c = count_ones a
plain_word Ctlz w a b c = count_leading_zeros w a
plain_word Cttz w a b c = count_trailing_zeros w a
plain_word Bswap w a b c = bswap_of w a
plain_word Bitreverse w a b c = bitreverse_of w a
plain_word Abs w a b c = abs_of w a
plain_word Smax w a b c = smax_of w a b
plain_word Smin w a b c = smin_of w a b
plain_word Umax w a b c = max a b
plain_word Umin w a b c = min a b
plain_word Fshl w a b c = fshl_of w a b c
plain_word Fshr w a b c = fshr_of w a b c
plain_word UaddSat w a b c = min (a + b) (2 ^ w - 1)
plain_word UsubSat w a b c = a - b
plain_word SaddSat w a b c = saturated w (signed w a +ℤ signed w b)
plain_word SsubSat w a b c = saturated w (signed w a -ℤ signed w b)
plain_word Expect w a b c = a

judged : (t : Bool) (trap : Trap) (v x : ℕ) → cond t (Err trap) (Ok v) ≡ Ok x → v ≡ x
judged true trap v x h = cc
judged false trap v x h = ap value_of h

answer_is : (f : WordFn) (w a b c x : ℕ) → word_answer f w a b c ≡ Ok x → plain_word f w a b c ≡ x
answer_is Ctpop w a b c x h = ap value_of h
answer_is Ctlz w a b c x h = judged _ _ _ x h
answer_is Cttz w a b c x h = judged _ _ _ x h
answer_is Bswap w a b c x h = ap value_of h
answer_is Bitreverse w a b c x h = ap value_of h
answer_is Abs w a b c x h = judged _ _ _ x h
answer_is Smax w a b c x h = ap value_of h
answer_is Smin w a b c x h = ap value_of h
answer_is Umax w a b c x h = ap value_of h
answer_is Umin w a b c x h = ap value_of h
answer_is Fshl w a b c x h = ap value_of h
answer_is Fshr w a b c x h = ap value_of h
answer_is UaddSat w a b c x h = ap value_of h
answer_is UsubSat w a b c x h = ap value_of h
answer_is SaddSat w a b c x h = ap value_of h
answer_is SsubSat w a b c x h = ap value_of h
answer_is Expect w a b c x h = ap value_of h

turned_completes : (w v m a : ℕ) → 1 ≤ w → Completes w v m a → Completes w (turned_sign w v) m (turned_sign w a)
unfolding turned_sign
turned_completes w v m a some h = record {
  fits = xor_lt w a (2 ^ (w - 1)) h.fits (pow_below (w - 1) w (omega arith));
  agrees = λ i l z. bit_at_xor a (2 ^ (w - 1)) i ∙ ap (λ x. (x + bit_at (2 ^ (w - 1)) i) % 2) (h.agrees i l z) ∙ sym (bit_at_xor v (2 ^ (w - 1)) i);
}

turned_lt : (w v : ℕ) → 1 ≤ w → v < 2 ^ w → turned_sign w v < 2 ^ w
unfolding turned_sign
turned_lt w v some p = xor_lt w v (2 ^ (w - 1)) p (pow_below (w - 1) w (omega arith))

turned_agrees : (w m r s : ℕ) → Agrees w m r s → Agrees w m (turned_sign w r) (turned_sign w s)
unfolding turned_sign
turned_agrees w m r s h i l z = bit_at_xor r (2 ^ (w - 1)) i ∙ ap (λ x. (x + bit_at (2 ^ (w - 1)) i) % 2) (h i l z) ∙ sym (bit_at_xor s (2 ^ (w - 1)) i)

-- where no bit of an amount is poisoned, its completion is its number
known_amount : (w t n c : ℕ) → n ≡ 0 → t < 2 ^ w → Completes w t n c → c ≡ t
known_amount w t n c z fits h = defined_same w t n c t z h (record { fits = fits; agrees = λ i l y. refl })

module _ (w : ℕ) (v m u k t n : ℕ) (some : 1 ≤ w) (le : w ≤ 64)
    (ip : InRange w v m) (iq : InRange w u k) (ir : InRange w t n)
    (a b c d e g : ℕ) (ha : Completes w v m a) (hb : Completes w u k b) (hc : Completes w t n c)
    (hd : Completes w v m d) (he : Completes w u k e) (hg : Completes w t n g) where
  -- where a mask is 0 answers are one, and else nothing is said of them
  all_agree : (mask x y : ℕ) → (mask ≡ 0 → x ≡ y) → Agrees w (whole_mask w mask) x y
  all_agree mask x y same = ⊎_elim
      (λ (yes : eqb mask 0 ≡ true). rw yes (λ i l z. ap (λ j. bit_at j i) (same (eqb-true mask 0 yes))))
      (λ (no : eqb mask 0 ≡ false). rw no (nothing_outside_ones w _ _))
      (cases_Bool (eqb mask 0))

  two_agree : (f : ℕ → ℕ → ℕ) → Agrees w (whole_mask w (bit_or m k)) (f a b) (f d e)
  two_agree f = all_agree (bit_or m k) (f a b) (f d e) (λ z.
      ap₂ f (defined_same w v m a d (omega (arith, z, le_or_l m k)) ha hd) (defined_same w u k b e (omega (arith, z, le_or_r m k)) hb he))

  -- an amount that is known, or every bit
  by_amount : (f : ℕ → ℕ → ℕ → ℕ) → ((j : ℕ) → Agrees w (f m k j) (f a b j) (f d e j)) → Agrees w (if eqb n 0 then f m k t else (2 ^ w - 1)) (f a b c) (f d e g)
  by_amount f h = ⊎_elim
      (λ (yes : eqb n 0 ≡ true).
      let z : n ≡ 0 = eqb-true n 0 yes in
      let ec : c ≡ t = known_amount w t n c z ir.value hc in
      let eg : g ≡ t = known_amount w t n g z ir.value hg in
      rw (yes, ec, eg) (h t))
      (λ (no : eqb n 0 ≡ false). rw no (nothing_outside_ones w _ _))
      (cases_Bool (eqb n 0))

  plain_agrees : (f : WordFn) → HasForm f w → Agrees w (word_mask f w v m u k t n) (plain_word f w a b c) (plain_word f w d e g)
  unfolding smax_of smin_of
  plain_agrees Ctpop h = ctpop_agrees w v m a d le ha hd
  plain_agrees Ctlz h = ctlz_agrees w v m a d le ip.value ip.mask ha hd
  plain_agrees Cttz h = cttz_agrees w v m a d le ip.value ip.mask ha hd
  plain_agrees Bswap h = agrees_from_exact (λ a b. bswap_of w a) w v m u k w _ (bswap_exact w v m u k h ip.value ip.mask iq.value) a b d e ha hb hd he
  plain_agrees Bitreverse h = agrees_from_exact (λ a b. bitreverse_of w a) w v m u k w _ (bitreverse_exact w v m u k ip.value ip.mask iq.value) a b d e ha hb hd he
  plain_agrees Abs h = abs_agrees_at w v m a d some ip.value ip.mask ha hd
  plain_agrees Smax h = turned_agrees w _ _ _ (greater_agrees w (turned_sign w v) m (turned_sign w u) k
      (turned_lt w v some ip.value) ip.mask (turned_lt w u some iq.value) iq.mask (turned_sign w a) (turned_sign w b) (turned_sign w d) (turned_sign w e)
      (turned_completes w _ _ a some ha) (turned_completes w _ _ b some hb) (turned_completes w _ _ d some hd) (turned_completes w _ _ e some he))
  plain_agrees Smin h = turned_agrees w _ _ _ (smaller_agrees w (turned_sign w v) m (turned_sign w u) k
      (turned_lt w v some ip.value) ip.mask (turned_lt w u some iq.value) iq.mask (turned_sign w a) (turned_sign w b) (turned_sign w d) (turned_sign w e)
      (turned_completes w _ _ a some ha) (turned_completes w _ _ b some hb) (turned_completes w _ _ d some hd) (turned_completes w _ _ e some he))
  plain_agrees Umax h = greater_agrees w v m u k ip.value ip.mask iq.value iq.mask a b d e ha hb hd he
  plain_agrees Umin h = smaller_agrees w v m u k ip.value ip.mask iq.value iq.mask a b d e ha hb hd he
  plain_agrees Fshl h = by_amount (fshl_of w) (λ j. agrees_from_exact (λ a b. fshl_of w a b j) w v m u k w _ (fshl_exact w v m u k j ip.value ip.mask iq.value iq.mask) a b d e ha hb hd he)
  plain_agrees Fshr h = by_amount (fshr_of w) (λ j. agrees_from_exact (λ a b. fshr_of w a b j) w v m u k w _ (fshr_exact w v m u k j some ip.value ip.mask iq.value iq.mask) a b d e ha hb hd he)
  plain_agrees UaddSat h = two_agree (λ a b. min (a + b) (2 ^ w - 1))
  plain_agrees UsubSat h = two_agree (λ a b. a - b)
  plain_agrees SaddSat h = two_agree (λ a b. saturated w (signed w a +ℤ signed w b))
  plain_agrees SsubSat h = two_agree (λ a b. saturated w (signed w a -ℤ signed w b))
  plain_agrees Expect h = λ i l z. ha.agrees i l z ∙ sym (hd.agrees i l z)

  pub word_agrees : (f : WordFn) (x y : ℕ) → HasForm f w → word_answer f w a b c ≡ Ok x → word_answer f w d e g ≡ Ok y → Agrees w (word_mask f w v m u k t n) x y
  word_agrees f x y h hx hy i l z =
      ap (λ n. bit_at n i) (sym (answer_is f w a b c x hx)) ∙ plain_agrees f h i l z ∙ ap (λ n. bit_at n i) (answer_is f w d e g y hy)

pub word_same : (w : ℕ) (v m u k t n : ℕ) → 1 ≤ w → InRange w v m → InRange w u k → InRange w t n
    → (a b c : ℕ) → Completes w v m a → Completes w u k b → Completes w t n c
    → (f : WordFn) → word_mask f w a m b k c n ≡ word_mask f w v m u k t n
word_same w v m u k t n some ip iq ir a b c ha hb hc f = at f
  where
    by_known : (g : ℕ → ℕ) → (if eqb n 0 then g c else (2 ^ w - 1)) ≡ (if eqb n 0 then g t else (2 ^ w - 1))
    by_known g = ⊎_elim
        (λ (yes : eqb n 0 ≡ true). let ec : c ≡ t = known_amount w t n c (eqb-true n 0 yes) ir.value hc in rw ec refl)
        (λ (no : eqb n 0 ≡ false). rw no refl)
        (cases_Bool (eqb n 0))

    at : (f : WordFn) → word_mask f w a m b k c n ≡ word_mask f w v m u k t n
    at Ctpop = refl
    at Ctlz = ctlz_same w v m a ip.value ip.mask ha
    at Cttz = cttz_same w v m a ip.value ip.mask ha
    at Bswap = refl
    at Bitreverse = refl
    at Abs = abs_same w v m a some ip.value ip.mask ha
    at Smax = greater_same w (turned_sign w v) m (turned_sign w u) k (turned_lt w v some ip.value) ip.mask (turned_lt w u some iq.value) iq.mask
        (turned_sign w a) (turned_sign w b) (turned_completes w _ _ a some ha) (turned_completes w _ _ b some hb)
    at Smin = smaller_same w (turned_sign w v) m (turned_sign w u) k (turned_lt w v some ip.value) ip.mask (turned_lt w u some iq.value) iq.mask
        (turned_sign w a) (turned_sign w b) (turned_completes w _ _ a some ha) (turned_completes w _ _ b some hb)
    at Umax = greater_same w v m u k ip.value ip.mask iq.value iq.mask a b ha hb
    at Umin = smaller_same w v m u k ip.value ip.mask iq.value iq.mask a b ha hb
    at Fshl = by_known (fshl_of w m k)
    at Fshr = by_known (fshr_of w m k)
    at UaddSat = refl
    at UsubSat = refl
    at SaddSat = refl
    at SsubSat = refl
    at Expect = refl

pub ones_less : (w : ℕ) → 2 ^ w - 1 < 2 ^ w
ones_less w = omega (arith, pow_pos w)

chosen_lt : (t : Bool) (n x y : ℕ) → x < n → y < n → (if t then x else y) < n
chosen_lt true n x y p q = p
chosen_lt false n x y p q = q

bswap_lt : (w a : ℕ) → bswap_of w a < 2 ^ w
unfolding bswap_of
bswap_lt w a = number_fits (λ i. bit_at a (w - 8 - i / 8 * 8 + i % 8)) (λ i. bit_at-lt a (w - 8 - i / 8 * 8 + i % 8)) w

bitreverse_lt : (w a : ℕ) → bitreverse_of w a < 2 ^ w
unfolding bitreverse_of
bitreverse_lt w a = number_fits (λ i. bit_at a (w - 1 - i)) (λ i. bit_at-lt a (w - 1 - i)) w

fshl_lt : (w a b c : ℕ) → fshl_of w a b c < 2 ^ w
unfolding fshl_of
fshl_lt w a b c = window_lt w (w - c % w) a b

fshr_lt : (w a b c : ℕ) → fshr_of w a b c < 2 ^ w
unfolding fshr_of
fshr_lt w a b c = window_lt w (c % w) a b

whole_lt : (w m : ℕ) → whole_mask w m < 2 ^ w
whole_lt w m = chosen_lt (eqb m 0) (2 ^ w) 0 (2 ^ w - 1) (pow_pos w) (ones_less w)

pub word_fits : (f : WordFn) (w : ℕ) (v m u k t n : ℕ) → 1 ≤ w → InRange w v m → InRange w u k → word_mask f w v m u k t n < 2 ^ w
word_fits Ctpop w v m u k t n some ip iq = (counts_lt w v m some).0
word_fits Ctlz w v m u k t n some ip iq = (counts_lt w v m some).1
word_fits Cttz w v m u k t n some ip iq = (counts_lt w v m some).2
word_fits Bswap w v m u k t n some ip iq = bswap_lt w m
word_fits Bitreverse w v m u k t n some ip iq = bitreverse_lt w m
word_fits Abs w v m u k t n some ip iq = abs_lt w v m ip.value ip.mask
word_fits Smax w v m u k t n some ip iq = greater_lt w (turned_sign w v) m (turned_sign w u) k (turned_lt w v some ip.value) ip.mask (turned_lt w u some iq.value) iq.mask
word_fits Smin w v m u k t n some ip iq = smaller_lt w (turned_sign w v) m (turned_sign w u) k (turned_lt w v some ip.value) ip.mask (turned_lt w u some iq.value) iq.mask
word_fits Umax w v m u k t n some ip iq = greater_lt w v m u k ip.value ip.mask iq.value iq.mask
word_fits Umin w v m u k t n some ip iq = smaller_lt w v m u k ip.value ip.mask iq.value iq.mask
word_fits Fshl w v m u k t n some ip iq = chosen_lt (eqb n 0) (2 ^ w) (fshl_of w m k t) (2 ^ w - 1) (fshl_lt w m k t) (ones_less w)
word_fits Fshr w v m u k t n some ip iq = chosen_lt (eqb n 0) (2 ^ w) (fshr_of w m k t) (2 ^ w - 1) (fshr_lt w m k t) (ones_less w)
word_fits UaddSat w v m u k t n some ip iq = whole_lt w (bit_or m k)
word_fits UsubSat w v m u k t n some ip iq = whole_lt w (bit_or m k)
word_fits SaddSat w v m u k t n some ip iq = whole_lt w (bit_or m k)
word_fits SsubSat w v m u k t n some ip iq = whole_lt w (bit_or m k)
word_fits Expect w v m u k t n some ip iq = ip.mask

-- ---- answers fit

counted : (w n : ℕ) → 1 ≤ w → w ≤ 64 → n ≤ w → n < 2 ^ w
counted w n some few le = let more : 2 ^ places w ≤ 2 ^ w = pow_mono (places_le w some) in omega (arith, within_places w n few le, more)

saturated_lt : (w : ℕ) (z : ℤ) → saturated w z < 2 ^ w
saturated_lt w (pos n) = let less : 2 ^ (w - 1) ≤ 2 ^ w = pow_mono (omega arith) in omega (arith, less, pow_pos w, pow_pos (w - 1))
saturated_lt w (negsuc n) = omega (arith, pow_pos w)

abs_of-lt : (w a : ℕ) → a < 2 ^ w → abs_of w a < 2 ^ w
unfolding abs_of
abs_of-lt w a l = ⊎_elim
    (λ (yes : leb (2 ^ w) (2 * a) ≡ true). rw yes (omega (arith, leb-true (2 ^ w) (2 * a) yes)))
    (λ (no : leb (2 ^ w) (2 * a) ≡ false). rw no l)
    (cases_Bool (leb (2 ^ w) (2 * a)))

-- of the greater and the smaller of two, both fit
abbrev pub SecondFits : WordFn → (w b : ℕ) → Type 0
SecondFits Smax w b = b < 2 ^ w
SecondFits Smin w b = b < 2 ^ w
SecondFits Umax w b = b < 2 ^ w
SecondFits Umin w b = b < 2 ^ w
SecondFits f w b = Unit {0}

pub second_fits : (f : WordFn) (w b : ℕ) → b < 2 ^ w → SecondFits f w b
second_fits Smax w b l = l
second_fits Smin w b l = l
second_fits Umax w b l = l
second_fits Umin w b l = l
second_fits f w b l = tt

plain_lt : (f : WordFn) (w a b c : ℕ) → 1 ≤ w → w ≤ 64 → a < 2 ^ w → SecondFits f w b → plain_word f w a b c < 2 ^ w
unfolding smax_of smin_of
plain_lt Ctpop w a b c some few p q = counted w _ some few (ones-le w a p)
plain_lt Ctlz w a b c some few p q = counted w _ some few (leading_le w a)
plain_lt Cttz w a b c some few p q = counted w _ some few (trailing_le w a)
plain_lt Bswap w a b c some few p q = bswap_lt w a
plain_lt Bitreverse w a b c some few p q = bitreverse_lt w a
plain_lt Abs w a b c some few p q = abs_of-lt w a p
plain_lt Smax w a b c some few p q = turned_lt w _ some (omega (arith, turned_lt w a some p, turned_lt w b some q))
plain_lt Smin w a b c some few p q = turned_lt w _ some (omega (arith, turned_lt w a some p, turned_lt w b some q))
plain_lt Umax w a b c some few p q = omega arith
plain_lt Umin w a b c some few p q = omega arith
plain_lt Fshl w a b c some few p q = fshl_lt w a b c
plain_lt Fshr w a b c some few p q = fshr_lt w a b c
plain_lt UaddSat w a b c some few p q = omega (arith, pow_pos w)
plain_lt UsubSat w a b c some few p q = omega arith
plain_lt SaddSat w a b c some few p q = saturated_lt w (signed w a +ℤ signed w b)
plain_lt SsubSat w a b c some few p q = saturated_lt w (signed w a -ℤ signed w b)
plain_lt Expect w a b c some few p q = p

pub answer_lt : (f : WordFn) (w a b c x : ℕ) → 1 ≤ w → w ≤ 64 → a < 2 ^ w → SecondFits f w b → word_answer f w a b c ≡ Ok x → x < 2 ^ w
answer_lt f w a b c x some few p q h = subst (λ y. y < 2 ^ w) (answer_is f w a b c x h) (plain_lt f w a b c some few p q)

-- ---- widths

-- each width has whole bytes, and at most 64 bits
pub width_some : (n : WordWidth) → 8 ≤ bits_of n
width_some I8 = omega arith
width_some I16 = omega arith
width_some I32 = omega arith
width_some I64 = omega arith

pub width_few : (n : WordWidth) → bits_of n ≤ 64
width_few I8 = omega arith
width_few I16 = omega arith
width_few I32 = omega arith
width_few I64 = omega arith

pub width_form : (f : WordFn) (n : WordWidth) → HasForm f (bits_of n)
width_form Bswap I8 = refl
width_form Bswap I16 = refl
width_form Bswap I32 = refl
width_form Bswap I64 = refl
width_form f n = tt

-- ---- functions that move bits alone

-- and what each gives fits its width
moved_by-lt : (f : WordFn) (w a b c : ℕ) → moved_by f w a b c < 2 ^ w
moved_by-lt Bswap w a b c = bswap_lt w a
moved_by-lt Bitreverse w a b c = bitreverse_lt w a
moved_by-lt Fshl w a b c = fshl_lt w a b c
moved_by-lt Fshr w a b c = fshr_lt w a b c
moved_by-lt f w a b c = pow_pos w

pub moved_lt : (k : BitMove) (a b c : ℕ) → moved k a b c < 2 ^ bits_of (move_width k)
moved_lt k a b c = moved_by-lt (move_fn k) (bits_of (move_width k)) a b c
