-- Each formula is a mask below 2 ^ its width, and the mask that completions give.
use Rattle.std.proofs.Common.{◌≡◌, ℕ, zero, suc, ◌-◌, ◌^◌, ◌<◌, ◌≤◌, Bool, true, false, ap, bit_and, bit_or, bit_xor, arith}
use Rattle.std.specs.Int.{from_bool}
use Rattle.std.proofs.lemmas.Nat.{or_lt, xor_lt, and_le_l, and_le_r}
use Rattle.ms_bits.specs.declared.operations.Pred.{Pred}
use Rattle.ms_bits.specs.declared.operations.Pred.TheVariants.{Eq, Ne, Ugt, Uge, Ult, Ule, Sgt, Sge, Slt, Sle}
use Rattle.ms_bits.specs.Conversions.{holds, select_of}
use Rattle.ms_bits.specs.Completion.{InRange, Completes, IsMaskOf, IsSelectMaskOf, mask_of, select_mask_of}
use Rattle.ms_bits.specs.Formulas.{union_mask, and_mask, or_mask, eq_mask, order_mask, turned_sign, compare_mask, select_mask}
use Rattle.ms_bits_laws.proofs.BitwiseMasks.{and_exact, or_exact, xor_exact}
use Rattle.ms_bits_laws.proofs.EqualityMasks.{eq_exact}
use Rattle.ms_bits_laws.proofs.OrderMasks.{ult_exact, ule_exact}
use Rattle.ms_bits_laws.proofs.PredicateMasks.{ne_exact, ugt_exact, uge_exact, sle_exact, sgt_exact, sge_exact}
use Rattle.ms_bits_laws.proofs.SelectMasks.{select_exact}
use Rattle.ms_bits_laws.proofs.SignedMasks.{flip, signed_test, slt_exact}
use Rattle.ms_bits_laws.proofs.MaskFunctions.{mask_is, mask_unique, select_mask_is, select_mask_unique}
use Rattle.ms_bits_laws.proofs.Agreement.{same_mask, same_select_mask}

-- ---- the formulas fit

pub bit_fits : (b : Bool) → from_bool b < 2 ^ 1
bit_fits true = omega arith
bit_fits false = omega arith

eq_mask-lt : (v m u k : ℕ) → eq_mask v m u k < 2 ^ 1
unfolding eq_mask
eq_mask-lt v m u k = lt _ _ (bit_fits _)
  where
    lt : (x y : ℕ) → x < 2 ^ 1 → bit_and x y < 2 ^ 1
    lt x y p = omega (arith, and_le_l x y)

order_mask-lt : (p : ℕ → ℕ → Bool) (v m u k : ℕ) → order_mask p v m u k < 2 ^ 1
unfolding order_mask
order_mask-lt p v m u k = xor_lt 1 _ _ (bit_fits _) (bit_fits _)

pub compare_mask-lt : (o : Pred) (w v m u k : ℕ) → compare_mask o w v m u k < 2 ^ 1
unfolding compare_mask
compare_mask-lt Eq w v m u k = eq_mask-lt v m u k
compare_mask-lt Ne w v m u k = eq_mask-lt v m u k
compare_mask-lt Ugt w v m u k = order_mask-lt _ _ _ _ _
compare_mask-lt Uge w v m u k = order_mask-lt _ _ _ _ _
compare_mask-lt Ult w v m u k = order_mask-lt _ _ _ _ _
compare_mask-lt Ule w v m u k = order_mask-lt _ _ _ _ _
compare_mask-lt Sgt w v m u k = order_mask-lt _ _ _ _ _
compare_mask-lt Sge w v m u k = order_mask-lt _ _ _ _ _
compare_mask-lt Slt w v m u k = order_mask-lt _ _ _ _ _
compare_mask-lt Sle w v m u k = order_mask-lt _ _ _ _ _

pub select_mask-lt : (t n w v m u k : ℕ) → InRange w v m → InRange w u k → select_mask t n v m u k < 2 ^ w
unfolding select_mask select_of
select_mask-lt zero zero w v m u k a b = b.mask
select_mask-lt (suc t) zero w v m u k a b = a.mask
select_mask-lt t (suc n) w v m u k a b = or_lt w _ _ (or_lt w _ _ (xor_lt w v u a.value b.value) a.mask) b.mask

-- ---- bitwise operations

module _ (w v m u k : ℕ) (a : InRange w v m) (b : InRange w u k) where
  pub and_mask-lt : and_mask v m u k < 2 ^ w
  unfolding and_mask
  and_mask-lt = omega (arith, and_le_l (bit_and (bit_or v m) (bit_or u k)) (bit_or m k), and_le_l (bit_or v m) (bit_or u k), or_lt w v m a.value a.mask)

  pub or_mask-lt : or_mask w v m u k < 2 ^ w
  unfolding or_mask
  or_mask-lt = lt _ (bit_or m k) (or_lt w m k a.mask b.mask)
    where
      lt : (x y : ℕ) → y < 2 ^ w → bit_and x y < 2 ^ w
      lt x y p = omega (arith, and_le_r x y)

  pub union_mask-lt : union_mask m k < 2 ^ w
  unfolding union_mask
  union_mask-lt = or_lt w m k a.mask b.mask

  pub and_mask_exact : IsMaskOf bit_and w v m u k w (and_mask v m u k)
  and_mask_exact = and_exact w v m u k a.value a.mask b.value b.mask

  pub or_mask_exact : IsMaskOf bit_or w v m u k w (or_mask w v m u k)
  or_mask_exact = or_exact w v m u k a.value a.mask b.value b.mask

  pub union_mask_exact : IsMaskOf bit_xor w v m u k w (union_mask m k)
  unfolding union_mask
  union_mask_exact = xor_exact w v m u k a.value a.mask b.value b.mask

  pub and_mask_is : and_mask v m u k ≡ mask_of bit_and w v m u k w
  and_mask_is = mask_is bit_and w v m u k w _ and_mask-lt and_mask_exact

  pub or_mask_is : or_mask w v m u k ≡ mask_of bit_or w v m u k w
  or_mask_is = mask_is bit_or w v m u k w _ or_mask-lt or_mask_exact

  pub xor_mask_is : union_mask m k ≡ mask_of bit_xor w v m u k w
  xor_mask_is = mask_is bit_xor w v m u k w _ union_mask-lt union_mask_exact

-- ---- comparisons

-- a predicate's answer as a word of one bit
abbrev pub answer_bit : Pred → ℕ → ℕ → ℕ → ℕ
answer_bit o w a b = from_bool (holds o w a b)

one_less : (h : ℕ) → suc h - 1 ≡ h
one_less h = omega arith

turned : (h v : ℕ) → turned_sign (suc h) v ≡ flip h v
unfolding turned_sign flip
turned h v = ap (λ n. bit_xor v (2 ^ n)) (one_less h)

pub compare_mask_exact : (o : Pred) (w v m u k : ℕ) → 1 ≤ w → InRange w v m → InRange w u k → IsMaskOf (answer_bit o w) w v m u k 1 (compare_mask o w v m u k)
unfolding compare_mask holds signed_test
compare_mask_exact o zero v m u k p a b = absurd (omega arith)
compare_mask_exact Eq (suc h) v m u k p a b = eq_exact (suc h) v m u k a.value a.mask b.value b.mask
compare_mask_exact Ne (suc h) v m u k p a b = ne_exact (suc h) v m u k a.value a.mask b.value b.mask
compare_mask_exact Ugt (suc h) v m u k p a b = ugt_exact (suc h) v m u k a.value a.mask b.value b.mask
compare_mask_exact Uge (suc h) v m u k p a b = uge_exact (suc h) v m u k a.value a.mask b.value b.mask
compare_mask_exact Ult (suc h) v m u k p a b = ult_exact (suc h) v m u k a.value a.mask b.value b.mask
compare_mask_exact Ule (suc h) v m u k p a b = ule_exact (suc h) v m u k a.value a.mask b.value b.mask
compare_mask_exact Sgt (suc h) v m u k p a b = rw (turned h v, turned h u) (sgt_exact h v m u k a.value a.mask b.value b.mask)
compare_mask_exact Sge (suc h) v m u k p a b = rw (turned h v, turned h u) (sge_exact h v m u k a.value a.mask b.value b.mask)
compare_mask_exact Slt (suc h) v m u k p a b = rw (turned h v, turned h u) (slt_exact h v m u k a.value a.mask b.value b.mask)
compare_mask_exact Sle (suc h) v m u k p a b = rw (turned h v, turned h u) (sle_exact h v m u k a.value a.mask b.value b.mask)

pub compare_mask_is : (o : Pred) (w v m u k : ℕ) → 1 ≤ w → InRange w v m → InRange w u k → compare_mask o w v m u k ≡ mask_of (answer_bit o w) w v m u k 1
compare_mask_is o w v m u k p a b = mask_is (answer_bit o w) w v m u k 1 _ (compare_mask-lt o w v m u k) (compare_mask_exact o w v m u k p a b)

-- ---- selections

pub select_mask_exact : (t n w v m u k : ℕ) → InRange 1 t n → InRange w v m → InRange w u k → IsSelectMaskOf t n w v m u k (select_mask t n v m u k)
select_mask_exact t n w v m u k c a b i l = select_exact w v m u k i a.value a.mask b.value b.mask l t n c.value c.mask

pub select_mask-is : (t n w v m u k : ℕ) → InRange 1 t n → InRange w v m → InRange w u k → select_mask t n v m u k ≡ select_mask_of t n w v m u k
select_mask-is t n w v m u k c a b = select_mask_is t n w v m u k _ (select_mask-lt t n w v m u k a b) (select_mask_exact t n w v m u k c a b)

-- ---- a formula gives one mask whichever completions it is given

completed : {w v m c : ℕ} → InRange w v m → Completes w v m c → InRange w c m
completed p h = record { value = h.fits; mask = p.mask }

pub and_same : (w v m u k a b : ℕ) → InRange w v m → InRange w u k → Completes w v m a → Completes w u k b → and_mask a m b k ≡ and_mask v m u k
and_same w v m u k a b p q ha hb =
    mask_unique bit_and w v m u k w _ _ (and_mask-lt w a m b k (completed p ha) (completed q hb)) (and_mask-lt w v m u k p q)
    (same_mask bit_and w a m b k v u w _ ha.agrees hb.agrees (and_mask_exact w a m b k (completed p ha) (completed q hb))) (and_mask_exact w v m u k p q)

pub or_same : (w v m u k a b : ℕ) → InRange w v m → InRange w u k → Completes w v m a → Completes w u k b → or_mask w a m b k ≡ or_mask w v m u k
or_same w v m u k a b p q ha hb =
    mask_unique bit_or w v m u k w _ _ (or_mask-lt w a m b k (completed p ha) (completed q hb)) (or_mask-lt w v m u k p q)
    (same_mask bit_or w a m b k v u w _ ha.agrees hb.agrees (or_mask_exact w a m b k (completed p ha) (completed q hb))) (or_mask_exact w v m u k p q)

pub compare_same : (o : Pred) (w v m u k a b : ℕ) → 1 ≤ w → InRange w v m → InRange w u k → Completes w v m a → Completes w u k b → compare_mask o w a m b k ≡ compare_mask o w v m u k
compare_same o w v m u k a b s p q ha hb =
    mask_unique (answer_bit o w) w v m u k 1 _ _ (compare_mask-lt o w a m b k) (compare_mask-lt o w v m u k)
    (same_mask (answer_bit o w) w a m b k v u 1 _ ha.agrees hb.agrees (compare_mask_exact o w a m b k s (completed p ha) (completed q hb))) (compare_mask_exact o w v m u k s p q)

pub select_same : (t n w v m u k p a b : ℕ) → InRange 1 t n → InRange w v m → InRange w u k → Completes 1 t n p → Completes w v m a → Completes w u k b
    → select_mask p n a m b k ≡ select_mask t n v m u k
select_same t n w v m u k p a b x y z hp ha hb =
    select_mask_unique t n w v m u k _ _ (select_mask-lt p n w a m b k (completed y ha) (completed z hb)) (select_mask-lt t n w v m u k y z)
    (same_select_mask p n w a m b k t v u _ hp.agrees ha.agrees hb.agrees (select_mask_exact p n w a m b k (completed x hp) (completed y ha) (completed z hb)))
    (select_mask_exact t n w v m u k x y z)
