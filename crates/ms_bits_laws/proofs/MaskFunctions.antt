-- The mask as a number is the one number that `IsMaskOf` describes.
use Rattle.std.proofs.Common.{◌≡◌, ℕ, zero, suc, ◌+◌, ◌-◌, ◌*◌, ◌^◌, ◌<◌, Bool, true, false, refl, sym, ap, ◌∙◌, arith, ⊎_elim}
use Rattle.std.specs.Int.{bit_at, from_bool}
use Rattle.std.proofs.Math.Nat.{pow-suc}
use Rattle.std.proofs.lemmas.Bool.{cases_eq, cases_lt, or_cases, or_left, or_right, and_from, and_parts, eqb-true, eqb-false, eq-eqb, ne_eqb, not-true, not_from_false, false_from_ne_true, both_ways}
use Rattle.std.proofs.lemmas.Nat.Bits.{bit_at-lt, bit_at_cat_low, bit_at_cat_high, bit_at_lowest, same_from_bits_below}
use Rattle.ms_bits.specs.Fill.{number_of_bits}
use Rattle.ms_bits.specs.Completion.{Agrees, Completes, Differs, IsMaskOf, SelectionsDiffer, IsSelectMaskOf, any_below, completes, some_completion, differs, mask_of, selections_differ, select_mask_of}

pub any_below_gives : (p : ℕ → Bool) (n : ℕ) → any_below p n ≡ true → (a : ℕ) × (a < n) × (p a ≡ true)
unfolding any_below
any_below_gives p zero h = cc
any_below_gives p (suc n) h =
    ⊎_elim (λ e. (n, omega arith, e)) (λ e. let (a, l, t) = any_below_gives p n e in (a, omega arith, t)) (or_cases (p n) (any_below p n) h)

pub any_below_from : (p : ℕ → Bool) (n a : ℕ) → a < n → p a ≡ true → any_below p n ≡ true
unfolding any_below
any_below_from p zero a l t = absurd (omega arith)
any_below_from p (suc n) a l t =
    ⊎_elim
    (λ lt. or_right (p n) (any_below p n) (any_below_from p n a lt t))
    (λ ge. let e : n ≡ a = omega arith in or_left (p n) (any_below p n) (ap p e ∙ t))
    (cases_lt a n)

pub completes_from : (w v m c : ℕ) → Agrees w m c v → completes w v m c ≡ true
unfolding completes
completes_from w v m c h = not_from_false _ (false_from_ne_true _ (λ t.
    let (i, l, q) = any_below_gives _ w t in
    let r = and_parts _ _ q in
    eqb-false _ _ (not-true _ r.1) (h i l (eqb-true _ _ r.0))))

pub completes_gives : (w v m c : ℕ) → c < 2 ^ w → completes w v m c ≡ true → Completes w v m c
unfolding completes
completes_gives w v m c p t = record {
  fits = p;
  agrees = λ i l z. ⊎_elim (λ e. e)
      (λ n. absurd (both_ways _ (not-true _ t) (any_below_from _ w i l (and_from _ _ (eq-eqb _ _ z) (not_from_false _ (ne_eqb _ _ n))))))
      (cases_eq (bit_at c i) (bit_at v i));
}

pub some_from : (w v m : ℕ) (passes : ℕ → Bool) (c : ℕ) → Completes w v m c → passes c ≡ true → some_completion w v m passes ≡ true
unfolding some_completion
some_from w v m passes c h t = any_below_from _ _ c h.fits (and_from _ _ (completes_from w v m c h.agrees) t)

pub some_gives : (w v m : ℕ) (passes : ℕ → Bool) → some_completion w v m passes ≡ true → (c : ℕ) × Completes w v m c × (passes c ≡ true)
unfolding some_completion
some_gives w v m passes h =
    let (c, l, t) = any_below_gives _ _ h in
    let s = and_parts _ _ t in
    (c, completes_gives w v m c l s.0, s.1)

pub differs_from : (f : ℕ → ℕ → ℕ) (w v m u k i : ℕ) → Differs f w v m u k i → differs f w v m u k i ≡ true
unfolding differs
differs_from f w v m u k i h =
    some_from w v m _ h.a h.left (some_from w u k _ h.b h.right (some_from w v m _ h.c h.left_too (some_from w u k _ h.d h.right_too (not_from_false _ (ne_eqb _ _ h.apart)))))

pub differs_gives : (f : ℕ → ℕ → ℕ) (w v m u k i : ℕ) → differs f w v m u k i ≡ true → Differs f w v m u k i
unfolding differs
differs_gives f w v m u k i t =
    let (a, ha, ra) = some_gives w v m _ t in
    let (b, hb, rb) = some_gives w u k _ ra in
    let (c, hc, rc) = some_gives w v m _ rb in
    let (d, hd, rd) = some_gives w u k _ rc in
    record { a = a; b = b; c = c; d = d; left = ha; right = hb; left_too = hc; right_too = hd; apart = eqb-false _ _ (not-true _ rd) }

pub selections_from : (t n w v m u k i : ℕ) → SelectionsDiffer t n w v m u k i → selections_differ t n w v m u k i ≡ true
unfolding selections_differ
selections_from t n w v m u k i h =
    some_from 1 t n _ h.p h.condition (some_from w v m _ h.a h.left (some_from w u k _ h.b h.right
    (some_from 1 t n _ h.q h.condition_too (some_from w v m _ h.c h.left_too (some_from w u k _ h.d h.right_too (not_from_false _ (ne_eqb _ _ h.apart)))))))

pub selections_give : (t n w v m u k i : ℕ) → selections_differ t n w v m u k i ≡ true → SelectionsDiffer t n w v m u k i
unfolding selections_differ
selections_give t n w v m u k i h =
    let (p, hp, r1) = some_gives 1 t n _ h in
    let (a, ha, r2) = some_gives w v m _ r1 in
    let (b, hb, r3) = some_gives w u k _ r2 in
    let (q, hq, r4) = some_gives 1 t n _ r3 in
    let (c, hc, r5) = some_gives w v m _ r4 in
    let (d, hd, r6) = some_gives w u k _ r5 in
    record { p = p; a = a; b = b; q = q; c = c; d = d; condition = hp; left = ha; right = hb; condition_too = hq; left_too = hc; right_too = hd; apart = eqb-false _ _ (not-true _ r6) }

pub number_fits : (f : ℕ → ℕ) → ((i : ℕ) → f i < 2) → (n : ℕ) → number_of_bits f n < 2 ^ n
unfolding number_of_bits
number_fits f h zero = omega arith
number_fits f h (suc n) = step (f n) (h n) (number_fits f h n)
  where
    step : (d : ℕ) → d < 2 → number_of_bits f n < 2 ^ n → number_of_bits f n + d * 2 ^ n < 2 ^ suc n
    step d q r = grind (arith, pow-suc 2 n)

pub number_bit : (f : ℕ → ℕ) → ((i : ℕ) → f i < 2) → (n i : ℕ) → i < n → bit_at (number_of_bits f n) i ≡ f i
unfolding number_of_bits
number_bit f h zero i l = absurd (omega arith)
number_bit f h (suc n) i l =
    let turn : number_of_bits f n + f n * 2 ^ n ≡ f n * 2 ^ n + number_of_bits f n = omega arith in
    ap (λ x. bit_at x i) turn
    ∙ ⊎_elim
    (λ lt. bit_at_cat_low (f n) n (number_of_bits f n) i lt ∙ number_bit f h n i lt)
    (λ ge.
    let e : i ≡ n = omega arith in
    let z : i - n ≡ 0 = omega arith in
    bit_at_cat_high (f n) n (number_of_bits f n) i (number_fits f h n) ge ∙ ap (bit_at (f n)) z ∙ bit_at_lowest (f n) ∙ omega (arith, h n, ap f e))
    (cases_lt i n)

pub from_bool-lt : (b : Bool) → from_bool b < 2
from_bool-lt true = omega arith
from_bool-lt false = omega arith

one_from : (b : Bool) → b ≡ true → from_bool b ≡ 1
one_from true h = refl
one_from false h = cc

true_from : (b : Bool) → from_bool b ≡ 1 → b ≡ true
true_from true h = refl
true_from false h = absurd (omega arith)

pub mask_of-exact : (f : ℕ → ℕ → ℕ) (w v m u k n : ℕ) → IsMaskOf f w v m u k n (mask_of f w v m u k n)
unfolding mask_of
mask_of-exact f w v m u k n i l =
    let e = number_bit (λ i. from_bool (differs f w v m u k i)) (λ i. from_bool-lt (differs f w v m u k i)) n i l in
    (λ one. differs_gives f w v m u k i (true_from _ (sym e ∙ one)), λ d. e ∙ one_from _ (differs_from f w v m u k i d))

bits_equal : (x y : ℕ) → x < 2 → y < 2 → (x ≡ 1 → y ≡ 1) → (y ≡ 1 → x ≡ 1) → x ≡ y
bits_equal x y p q f g = grind arith

-- two exact masks are one
pub mask_unique : (f : ℕ → ℕ → ℕ) (w v m u k n r s : ℕ) → r < 2 ^ n → s < 2 ^ n → IsMaskOf f w v m u k n r → IsMaskOf f w v m u k n s → r ≡ s
mask_unique f w v m u k n r s pr ps hr hs = same_from_bits_below n r s pr ps
    (λ i l. bits_equal (bit_at r i) (bit_at s i) (bit_at-lt r i) (bit_at-lt s i) (λ o. (hs i l).1 ((hr i l).0 o)) (λ o. (hr i l).1 ((hs i l).0 o)))

pub mask_is : (f : ℕ → ℕ → ℕ) (w v m u k n r : ℕ) → r < 2 ^ n → IsMaskOf f w v m u k n r → r ≡ mask_of f w v m u k n
unfolding mask_of
mask_is f w v m u k n r p h = mask_unique f w v m u k n r _ p
    (number_fits (λ i. from_bool (differs f w v m u k i)) (λ i. from_bool-lt (differs f w v m u k i)) n) h (mask_of-exact f w v m u k n)

pub mask_of-lt : (f : ℕ → ℕ → ℕ) (w v m u k n : ℕ) → mask_of f w v m u k n < 2 ^ n
unfolding mask_of
mask_of-lt f w v m u k n = number_fits (λ i. from_bool (differs f w v m u k i)) (λ i. from_bool-lt (differs f w v m u k i)) n

-- ---- selections

pub select_mask_of-exact : (t n w v m u k : ℕ) → IsSelectMaskOf t n w v m u k (select_mask_of t n w v m u k)
unfolding select_mask_of
select_mask_of-exact t n w v m u k i l =
    let e = number_bit (λ i. from_bool (selections_differ t n w v m u k i)) (λ i. from_bool-lt (selections_differ t n w v m u k i)) w i l in
    (λ one. selections_give t n w v m u k i (true_from _ (sym e ∙ one)), λ d. e ∙ one_from _ (selections_from t n w v m u k i d))

pub select_mask_of-lt : (t n w v m u k : ℕ) → select_mask_of t n w v m u k < 2 ^ w
unfolding select_mask_of
select_mask_of-lt t n w v m u k = number_fits (λ i. from_bool (selections_differ t n w v m u k i)) (λ i. from_bool-lt (selections_differ t n w v m u k i)) w

pub select_mask_unique : (t n w v m u k r s : ℕ) → r < 2 ^ w → s < 2 ^ w → IsSelectMaskOf t n w v m u k r → IsSelectMaskOf t n w v m u k s → r ≡ s
select_mask_unique t n w v m u k r s pr ps hr hs = same_from_bits_below w r s pr ps
    (λ i l. bits_equal (bit_at r i) (bit_at s i) (bit_at-lt r i) (bit_at-lt s i) (λ o. (hs i l).1 ((hr i l).0 o)) (λ o. (hr i l).1 ((hs i l).0 o)))

pub select_mask_is : (t n w v m u k r : ℕ) → r < 2 ^ w → IsSelectMaskOf t n w v m u k r → r ≡ select_mask_of t n w v m u k
select_mask_is t n w v m u k r p h = select_mask_unique t n w v m u k r _ p (select_mask_of-lt t n w v m u k) h (select_mask_of-exact t n w v m u k)
