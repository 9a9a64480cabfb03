-- Results of one operation on words that agree outside their masks agree outside the result's mask.
use Rattle.std.proofs.Common.{◌≡◌, ℕ, zero, suc, ◌+◌, ◌-◌, ◌*◌, ◌/◌, ◌%◌, ◌^◌, ◌<◌, ◌≤◌, min, refl, sym, ap, ◌∙◌, subst, arith, ⊎_elim, ℤ, pos, negsuc, Ok}
use Rattle.std.specs.Int.{bit_at}
use lib.Signed.{shr_z}
use Rattle.std.proofs.Math.Pow.{pow_mono}
use Rattle.std.proofs.lemmas.Bool.{cases_lt}
use Rattle.std.proofs.lemmas.Nat.{pow_pos, mod_below, shr_le}
use Rattle.std.proofs.lemmas.Nat.Bits.{bit_at_above, bit_at_ones}
use Rattle.ms_bits.specs.declared.operations.Flags.{Flags}
use Rattle.ms_bits.specs.declared.operations.BinOp.TheVariants.{Add, Sub, Mul, Shl, Lshr, Ashr}
use Rattle.ms_bits.specs.declared.operations.CastOp.{CastOp}
use Rattle.ms_bits.specs.declared.operations.CastOp.TheVariants.{Trunc, Zext, Sext, PtrToInt, IntToPtr, Bitcast}
use Rattle.ms_bits.specs.Signed.{signed, wrap}
use Rattle.ms_bits.specs.Arithmetic.{binary_of}
use Rattle.ms_bits.specs.Conversions.{cast_of, Allows}
use Rattle.ms_bits.specs.Completion.{InRange, Agrees}
use Rattle.ms_bits.specs.Formulas.{union_mask, carry_mask}
use Rattle.ms_bits_laws.proofs.BitLemmas.{bit_at_mod}
use Rattle.ms_bits_laws.proofs.BitSources.{shl_low, shl_high, lshr_bit, sext_bit, ashr_bit}
use Rattle.ms_bits_laws.proofs.Agreement.{add_agrees, sub_agrees, mul_agrees}
use Rattle.ms_bits_laws.proofs.Results.{add_is, sub_is, mul_is, shl_is, lshr_is, ashr_is, trunc_is, zext_is, sext_is, ptrtoint_is, inttoptr_is, bitcast_is}

-- agreement of numbers that are equal to these
pub moved : (w n n' r r' s s' : ℕ) → n ≡ n' → r ≡ r' → s ≡ s' → Agrees w n r s → Agrees w n' r' s'
moved w n n' r r' s s' p q e h i l z = sym (ap (λ x. bit_at x i) q) ∙ h i l (ap (λ x. bit_at x i) p ∙ z) ∙ ap (λ x. bit_at x i) e

-- ---- sums, differences and products

pub sums_agree : (f g : Flags) (w m k a b c d r s : ℕ) → InRange w a m → InRange w b k → Agrees w m a c → Agrees w k b d
    → binary_of Add f w a b ≡ Ok r → binary_of Add g w c d ≡ Ok s → Agrees w (carry_mask w (union_mask m k)) r s
unfolding union_mask
sums_agree f g w m k a b c d r s ha hb p q e e' = moved w _ _ _ _ _ _ refl (add_is f w a b r e) (add_is g w c d s e') (add_agrees w m k ha.mask hb.mask a b c d p q)

pub differences_agree : (f g : Flags) (w m k a b c d r s : ℕ) → InRange w a m → InRange w b k → d < 2 ^ w → Agrees w m a c → Agrees w k b d
    → binary_of Sub f w a b ≡ Ok r → binary_of Sub g w c d ≡ Ok s → Agrees w (carry_mask w (union_mask m k)) r s
unfolding union_mask
differences_agree f g w m k a b c d r s ha hb pd p q e e' = moved w _ _ _ _ _ _ refl (sub_is f w a b r e) (sub_is g w c d s e') (sub_agrees w m k ha.mask hb.mask a b c d hb.value pd p q)

pub products_agree : (f g : Flags) (w m k a b c d r s : ℕ) → InRange w a m → InRange w b k → Agrees w m a c → Agrees w k b d
    → binary_of Mul f w a b ≡ Ok r → binary_of Mul g w c d ≡ Ok s → Agrees w (carry_mask w (union_mask m k)) r s
unfolding union_mask
products_agree f g w m k a b c d r s ha hb p q e e' = moved w _ _ _ _ _ _ refl (mul_is f w a b r e) (mul_is g w c d s e') (mul_agrees w m k ha.mask hb.mask a b c d p q)

-- ---- shifts

left_shifts : (w m a c k : ℕ) → Agrees w m a c → Agrees w ((m * 2 ^ k) % 2 ^ w) ((a * 2 ^ k) % 2 ^ w) ((c * 2 ^ k) % 2 ^ w)
left_shifts w m a c k h i l z =
    ⊎_elim
    (λ low. shl_low w a k i l low ∙ sym (shl_low w c k i l low))
    (λ high. shl_high w a k i l high ∙ h (i - k) (omega arith) (sym (shl_high w m k i l high) ∙ z) ∙ sym (shl_high w c k i l high))
    (cases_lt i k)

right_shifts : (w m a c k : ℕ) → a < 2 ^ w → c < 2 ^ w → Agrees w m a c → Agrees w (m / 2 ^ k) (a / 2 ^ k) (c / 2 ^ k)
right_shifts w m a c k pa pc h i l z =
    lshr_bit a k i ∙ ⊎_elim
    (λ low. h (k + i) low (sym (lshr_bit m k i) ∙ z))
    (λ high. bit_at_above a w (k + i) pa high ∙ sym (bit_at_above c w (k + i) pc high))
    (cases_lt (k + i) w) ∙ sym (lshr_bit c k i)

signed_shifts : (w m a c k : ℕ) → m < 2 ^ w → a < 2 ^ w → c < 2 ^ w → Agrees w m a c
    → Agrees w (wrap w (shr_z (signed w m) (2 ^ k))) (wrap w (shr_z (signed w a) (2 ^ k))) (wrap w (shr_z (signed w c) (2 ^ k)))
signed_shifts zero m a c k pm pa pc h i l z = absurd (omega arith)
signed_shifts (suc t) m a c k pm pa pc h i l z =
    ashr_bit t a k i pa l ∙ h (min (k + i) t) (omega arith) (sym (ashr_bit t m k i pm l) ∙ z) ∙ sym (ashr_bit t c k i pc l)

pub left_shifts_agree : (f g h : Flags) (w m a c k n r s : ℕ) → Agrees w m a c
    → binary_of Shl h w m k ≡ Ok n → binary_of Shl f w a k ≡ Ok r → binary_of Shl g w c k ≡ Ok s → Agrees w n r s
left_shifts_agree f g h w m a c k n r s p en er es = moved w _ _ _ _ _ _ (shl_is h w m k n en) (shl_is f w a k r er) (shl_is g w c k s es) (left_shifts w m a c k p)

pub right_shifts_agree : (f g h : Flags) (w m a c k n r s : ℕ) → InRange w a m → InRange w c m → Agrees w m a c
    → binary_of Lshr h w m k ≡ Ok n → binary_of Lshr f w a k ≡ Ok r → binary_of Lshr g w c k ≡ Ok s → Agrees w n r s
right_shifts_agree f g h w m a c k n r s ha hc p en er es =
    moved w _ _ _ _ _ _ (lshr_is h w m k n en) (lshr_is f w a k r er) (lshr_is g w c k s es) (right_shifts w m a c k ha.value hc.value p)

pub signed_shifts_agree : (f g h : Flags) (w m a c k n r s : ℕ) → InRange w a m → InRange w c m → Agrees w m a c
    → binary_of Ashr h w m k ≡ Ok n → binary_of Ashr f w a k ≡ Ok r → binary_of Ashr g w c k ≡ Ok s → Agrees w n r s
signed_shifts_agree f g h w m a c k n r s ha hc p en er es =
    moved w _ _ _ _ _ _ (ashr_is h w m k n en) (ashr_is f w a k r er) (ashr_is g w c k s es) (signed_shifts w m a c k ha.mask ha.value hc.value p)

pub nothing_outside_ones : (w r s : ℕ) → Agrees w (2 ^ w - 1) r s
nothing_outside_ones w r s i l z = absurd (omega (arith, bit_at_ones w i l, z))

-- ---- casts

-- a word cut to fewer bits
pub cut : (w to m a c : ℕ) → to ≤ w → Agrees w m a c → Agrees to (m % 2 ^ to) (a % 2 ^ to) (c % 2 ^ to)
cut w to m a c le h i l z = bit_at_mod a to i l ∙ h i (omega arith) (sym (bit_at_mod m to i l) ∙ z) ∙ sym (bit_at_mod c to i l)

-- a word as one of other width, with zeros above
padded : (w to m a c : ℕ) → a < 2 ^ w → c < 2 ^ w → Agrees w m a c → Agrees to m a c
padded w to m a c pa pc h i l z = ⊎_elim
    (λ low. h i low z)
    (λ high. bit_at_above a w i pa high ∙ sym (bit_at_above c w i pc high))
    (cases_lt i w)

-- a word widened with copies of its sign bit
pub extended : (w to m a c : ℕ) → 1 ≤ w → w ≤ to → m < 2 ^ w → a < 2 ^ w → c < 2 ^ w → Agrees w m a c → Agrees to (wrap to (signed w m)) (wrap to (signed w a)) (wrap to (signed w c))
extended zero to m a c some lt pm pa pc h i l z = absurd (omega arith)
extended (suc t) to m a c some lt pm pa pc h i l z =
    sext_bit t to a i (omega arith) pa l ∙ h (min i t) (omega arith) (sym (sext_bit t to m i (omega arith) pm l) ∙ z) ∙ sym (sext_bit t to c i (omega arith) pc l)

pub casts_agree : (o : CastOp) (f g h : Flags) (w to m a c n r s : ℕ) → 1 ≤ w → Allows o w to → InRange w a m → InRange w c m → Agrees w m a c
    → cast_of o h w m to ≡ Ok n → cast_of o f w a to ≡ Ok r → cast_of o g w c to ≡ Ok s → Agrees to n r s
casts_agree Trunc f g h w to m a c n r s some fit ha hc p en er es =
    moved to _ _ _ _ _ _ (trunc_is h w m to n en) (trunc_is f w a to r er) (trunc_is g w c to s es) (cut w to m a c (omega (arith, fit)) p)
casts_agree Zext f g h w to m a c n r s some fit ha hc p en er es =
    moved to _ _ _ _ _ _ (zext_is h w m to n en) (zext_is f w a to r er) (zext_is g w c to s es) (padded w to m a c ha.value hc.value p)
casts_agree Sext f g h w to m a c n r s some fit ha hc p en er es =
    moved to _ _ _ _ _ _ (sext_is h w m to n en) (sext_is f w a to r er) (sext_is g w c to s es) (extended w to m a c some (omega (arith, fit.0)) ha.mask ha.value hc.value p)
casts_agree PtrToInt f g h w to m a c n r s some fit ha hc p en er es =
    moved to _ _ _ _ _ _ (ptrtoint_is h w m to n en) (ptrtoint_is f w a to r er) (ptrtoint_is g w c to s es) (cut w to m a c (omega (arith, fit)) p)
casts_agree IntToPtr f g h w to m a c n r s some fit ha hc p en er es =
    moved to _ _ _ _ _ _ (inttoptr_is h w m to n en) (inttoptr_is f w a to r er) (inttoptr_is g w c to s es) (padded w to m a c ha.value hc.value p)
casts_agree Bitcast f g h w to m a c n r s some fit ha hc p en er es =
    moved to _ _ _ _ _ _ (bitcast_is h w m to n en) (bitcast_is f w a to r er) (bitcast_is g w c to s es) (padded w to m a c ha.value hc.value p)

-- ---- where the bits of shifted words come from, by what the operation answers

pub left_bit_low : (f : Flags) (w a k i r : ℕ) → binary_of Shl f w a k ≡ Ok r → i < w → i < k → bit_at r i ≡ 0
left_bit_low f w a k i r e l lk = sym (ap (λ x. bit_at x i) (shl_is f w a k r e)) ∙ shl_low w a k i l lk

pub left_bit_high : (f : Flags) (w a k i r : ℕ) → binary_of Shl f w a k ≡ Ok r → i < w → k ≤ i → bit_at r i ≡ bit_at a (i - k)
left_bit_high f w a k i r e l lk = sym (ap (λ x. bit_at x i) (shl_is f w a k r e)) ∙ shl_high w a k i l lk

pub right_bit : (f : Flags) (w a k i r : ℕ) → binary_of Lshr f w a k ≡ Ok r → bit_at r i ≡ bit_at a (k + i)
right_bit f w a k i r e = sym (ap (λ x. bit_at x i) (lshr_is f w a k r e)) ∙ lshr_bit a k i

pub signed_bit : (f : Flags) (w a k i r : ℕ) → a < 2 ^ w → binary_of Ashr f w a k ≡ Ok r → i < w → bit_at r i ≡ bit_at a (min (k + i) (w - 1))
signed_bit f zero a k i r p e l = absurd (omega arith)
signed_bit f (suc t) a k i r p e l =
    let one : suc t - 1 ≡ t = omega arith in
    sym (ap (λ x. bit_at x i) (ashr_is f (suc t) a k r e)) ∙ ashr_bit t a k i p l ∙ sym (ap (λ x. bit_at a (min (k + i) x)) one)

-- ---- where the bits of cast words come from

pub trunc_bit : (f : Flags) (w a to i r : ℕ) → cast_of Trunc f w a to ≡ Ok r → i < to → bit_at r i ≡ bit_at a i
trunc_bit f w a to i r e l = sym (ap (λ x. bit_at x i) (trunc_is f w a to r e)) ∙ bit_at_mod a to i l

pub ptrtoint_bit : (f : Flags) (w a to i r : ℕ) → cast_of PtrToInt f w a to ≡ Ok r → i < to → bit_at r i ≡ bit_at a i
ptrtoint_bit f w a to i r e l = sym (ap (λ x. bit_at x i) (ptrtoint_is f w a to r e)) ∙ bit_at_mod a to i l

pub zext_number : (f : Flags) (w a to r : ℕ) → cast_of Zext f w a to ≡ Ok r → r ≡ a
zext_number f w a to r e = sym (zext_is f w a to r e)

pub inttoptr_number : (f : Flags) (w a to r : ℕ) → cast_of IntToPtr f w a to ≡ Ok r → r ≡ a
inttoptr_number f w a to r e = sym (inttoptr_is f w a to r e)

pub bitcast_number : (f : Flags) (w a to r : ℕ) → cast_of Bitcast f w a to ≡ Ok r → r ≡ a
bitcast_number f w a to r e = sym (bitcast_is f w a to r e)

pub sext_bit_of : (f : Flags) (w a to i r : ℕ) → 1 ≤ w → w ≤ to → a < 2 ^ w → cast_of Sext f w a to ≡ Ok r → i < to → bit_at r i ≡ bit_at a (min i (w - 1))
sext_bit_of f zero a to i r s g p e l = absurd (omega arith)
sext_bit_of f (suc t) a to i r s g p e l =
    let one : suc t - 1 ≡ t = omega arith in
    sym (ap (λ x. bit_at x i) (sext_is f (suc t) a to r e)) ∙ sext_bit t to a i g p l ∙ sym (ap (λ x. bit_at a (min i x)) one)

-- ---- results fit

pub wrap-lt : (w : ℕ) (z : ℤ) → wrap w z < 2 ^ w
unfolding wrap
wrap-lt w (pos n) = mod_below n (2 ^ w) (pow_pos w)
wrap-lt w (negsuc n) = omega (arith, pow_pos w)

pub left_shift-lt : (f : Flags) (w a k r : ℕ) → binary_of Shl f w a k ≡ Ok r → r < 2 ^ w
left_shift-lt f w a k r e = subst (λ x. x < 2 ^ w) (shl_is f w a k r e) (mod_below (a * 2 ^ k) (2 ^ w) (pow_pos w))

pub right_shift-lt : (f : Flags) (w a k r : ℕ) → a < 2 ^ w → binary_of Lshr f w a k ≡ Ok r → r < 2 ^ w
right_shift-lt f w a k r p e = omega (arith, lshr_is f w a k r e, shr_le a k)

pub signed_shift-lt : (f : Flags) (w a k r : ℕ) → binary_of Ashr f w a k ≡ Ok r → r < 2 ^ w
signed_shift-lt f w a k r e = subst (λ x. x < 2 ^ w) (ashr_is f w a k r e) (wrap-lt w (shr_z (signed w a) (2 ^ k)))

widened-lt : (w to a r : ℕ) → w ≤ to → a < 2 ^ w → a ≡ r → r < 2 ^ to
widened-lt w to a r le p e = omega (arith, pow_mono le, p, e)

pub cast-lt : (o : CastOp) (f : Flags) (w to a r : ℕ) → w ≤ 64 → Allows o w to → a < 2 ^ w → cast_of o f w a to ≡ Ok r → r < 2 ^ to
cast-lt Trunc f w to a r l fit p e = subst (λ x. x < 2 ^ to) (trunc_is f w a to r e) (mod_below a (2 ^ to) (pow_pos to))
cast-lt Zext f w to a r l fit p e = widened-lt w to a r (omega (arith, fit.0)) p (zext_is f w a to r e)
cast-lt Sext f w to a r l fit p e = subst (λ x. x < 2 ^ to) (sext_is f w a to r e) (wrap-lt to (signed w a))
cast-lt PtrToInt f w to a r l fit p e = subst (λ x. x < 2 ^ to) (ptrtoint_is f w a to r e) (mod_below a (2 ^ to) (pow_pos to))
cast-lt IntToPtr f w to a r l fit p e = widened-lt w to a r (omega (arith, fit, l)) p (inttoptr_is f w a to r e)
cast-lt Bitcast f w to a r l fit p e = subst (λ x. x < 2 ^ to) (bitcast_is f w a to r e) (subst (λ x. a < 2 ^ x) (sym fit) p)
