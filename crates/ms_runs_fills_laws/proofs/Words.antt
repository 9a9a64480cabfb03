-- Words that agree outside their masks, and the results of operations on them.
use Rattle.std.proofs.Common.{◌≡◌, ℕ, ◌+◌, ◌-◌, ◌*◌, ◌/◌, ◌%◌, ◌^◌, ◌<◌, List, [], ◌∷◌, map, Bool, true, false, cond, ◌||◌, eqb, leb, Result, Ok, Err, refl, sym, ap, ap₂, ◌∙◌, subst, arith, bit_or, bit_and, bit_xor, ⊎_elim, if◌then◌else◌}
use Rattle.std.specs.Int.{bit_at}
use Rattle.std.proofs.lemmas.Bool.{cases_lt, eqb-true}
use Rattle.std.proofs.lemmas.Nat.{or_lt, xor_lt, and_le_l, mod_below, pow_pos}
use Rattle.std.proofs.lemmas.Nat.Bits.{bit_at_above, bit_at-zero, bit_at_or, same_from_bits, same_from_bits_below}
use Rattle.ms_bits.specs.declared.operations.Flags.{Flags}
use Rattle.ms_bits.specs.declared.operations.BinOp.{BinOp}
use Rattle.ms_bits.specs.declared.operations.BinOp.TheVariants.{Add, Sub, Mul, Udiv, Sdiv, Urem, Srem, Shl, Lshr, Ashr, And, Or, Xor}
use Rattle.ms_bits.specs.declared.traps.Trap.{Trap}
use Rattle.ms_bits.specs.declared.traps.Trap.TheVariants.{Shift}
use Rattle.ms_bits.specs.Arithmetic.{binary_of, add_of, sub_of, mul_of, shl_of, lshr_of, ashr_of, or_of}
use lib.Signed.{shr_z}
use Rattle.ms_bits.specs.Signed.{signed, wrap}
use Rattle.ms_bits.specs.Completion.{Agrees, Completes}
use Rattle.ms_bits.specs.Formulas as formulas
use Rattle.ms_runs.specs.Poisoned.{Poisoned, InRange}
use Rattle.ms_bits.specs.NoFlags.{no_flags}
use Rattle.ms_runs.specs.Masks.{by_formulas, union, binary_mask, shift_mask, value_or_zero}
use Rattle.ms_runs.specs.World.{World}
use Rattle.ms_runs.specs.Uses.{has_flag, binary_uses, blind_binary}
use Rattle.ms_bits_laws.proofs.Agreement.{agrees_from_exact, add_agrees, sub_agrees, mul_agrees}
use Rattle.ms_bits_laws.proofs.BitwiseMasks.{and_exact, or_exact, xor_exact}
use Rattle.ms_bits_laws.proofs.FormulaMasks.{and_same, or_same}
use Rattle.ms_bits_laws.proofs.OperationAgreement.{left_shifts_agree, right_shifts_agree, signed_shifts_agree, left_shift-lt, right_shift-lt, signed_shift-lt}
use Rattle.ms_runs.specs.LowEqual.{LowWord, SameBits}
use Rattle.ms_runs_fills_laws.proofs.Passed.{AllPassed}

-- two words of so many bits that agree outside their mask
pub record LowAt (w : ℕ) (p q : Poisoned) : Type 0 where
  pub mask : p.mask ≡ q.mask
  pub origin : p.origin ≡ q.origin
  pub value : Agrees w p.mask p.value q.value
  pub left : InRange w p
  pub right : InRange w q

-- agreement below a width is agreement, for numbers of that width
pub from_width : (w m a c : ℕ) → a < 2 ^ w → c < 2 ^ w → Agrees w m a c → SameBits m a c
from_width w m a c p q h i z = ⊎_elim (λ l. h i l z) (λ g. bit_at_above a w i p g ∙ sym (bit_at_above c w i q g)) (cases_lt i w)

pub alike_word : (w : ℕ) (p q : Poisoned) → LowAt w p q → LowWord p q
alike_word w p q h = record { mask = h.mask; origin = h.origin; value = from_width w p.mask p.value q.value h.left.value h.right.value h.value }

pub same_number : (w : ℕ) (p q : Poisoned) → LowAt w p q → p.mask ≡ 0 → p.value ≡ q.value
same_number w p q h z = same_from_bits_below w p.value q.value h.left.value h.right.value (λ i l. h.value i l (ap (λ m. bit_at m i) z ∙ bit_at-zero i))

pub other_completes : (w : ℕ) (p q : Poisoned) → LowAt w p q → Completes w p.value p.mask q.value
other_completes w p q h = record { fits = h.right.value; agrees = λ i l z. sym (h.value i l z) }

pub itself_completes : (w : ℕ) (p q : Poisoned) → LowAt w p q → Completes w p.value p.mask p.value
itself_completes w p q h = record { fits = h.left.value; agrees = λ i l z. refl }

-- ---- masks that are 0 together

or_zero : (m k : ℕ) → bit_or m k ≡ 0 → (m ≡ 0) × (k ≡ 0)
or_zero m k e = (
  same_from_bits m 0 (λ i. omega (arith, bit_at_or m k i, ap (λ x. bit_at x i) e, bit_at-zero i)),
  same_from_bits k 0 (λ i. omega (arith, bit_at_or m k i, ap (λ x. bit_at x i) e, bit_at-zero i)),
)

-- no word has a poisoned bit
abbrev pub AllClean : List Poisoned → Type 0
AllClean [] = Unit {0}
AllClean (p ∷ ps) = (p.mask ≡ 0) × AllClean ps

pub union_clean : (ps : List Poisoned) → union (map (λ p. p.mask) ps) ≡ 0 → AllClean ps
union_clean [] e = tt
union_clean (p ∷ ps) e = let both = or_zero p.mask (union (map (λ q. q.mask) ps)) e in (both.0, union_clean ps both.1)

-- ---- answers

-- answers agree outside a mask, or are the same trap
abbrev pub AnswersAlike : ℕ → Result ℕ Trap → Result ℕ Trap → Type 0
AnswersAlike m (Ok a) (Ok c) = SameBits m a c
AnswersAlike m (Err t) (Err u) = t ≡ u
AnswersAlike m (Ok a) (Err u) = ⊥
AnswersAlike m (Err t) (Ok c) = ⊥

answer_itself : (m : ℕ) (r : Result ℕ Trap) → AnswersAlike m r r
answer_itself m (Ok a) = λ i z. refl
answer_itself m (Err t) = refl

pub equal_answers : (m : ℕ) (r s : Result ℕ Trap) → r ≡ s → AnswersAlike m r s
equal_answers m r s e = subst (AnswersAlike m r) e (answer_itself m r)

-- ---- flags

none_of : (a b c d e f : Bool) → (a || b || c || d || e || f) ≡ false → (record { nuw = a; nsw = b; exact = c; disjoint = d; nneg = e; samesign = f }) ≡ no_flags
none_of false false false false false false h = refl
none_of true b c d e f h = grind arith
none_of false true c d e f h = grind arith
none_of false false true d e f h = grind arith
none_of false false false true e f h = grind arith
none_of false false false false true f h = grind arith
none_of false false false false false true h = grind arith

pub flagless : (f : Flags) → has_flag f ≡ false → f ≡ no_flags
flagless f h = none_of f.nuw f.nsw f.exact f.disjoint f.nneg f.samesign h

-- ---- shifts

shl_is : (w k x : ℕ) → binary_of Shl no_flags w x k ≡ cond (leb w k) (Err Shift) (Ok ((x * 2 ^ k) % 2 ^ w))
unfolding binary_of shl_of
shl_is w k x = refl

lshr_is : (w k x : ℕ) → binary_of Lshr no_flags w x k ≡ cond (leb w k) (Err Shift) (Ok (x / 2 ^ k))
unfolding binary_of lshr_of
lshr_is w k x = refl

ashr_is : (w k x : ℕ) → binary_of Ashr no_flags w x k ≡ cond (leb w k) (Err Shift) (Ok (wrap w (shr_z (signed w x) (2 ^ k))))
unfolding binary_of ashr_of
ashr_is w k x = refl

-- ---- masks of results of two operands

module _ (w : ℕ) (p q p' q' : Poisoned) (a : LowAt w p p') (b : LowAt w q q') where
  shift_same : (o : BinOp) → shift_mask o w p q ≡ shift_mask o w p' q'
  shift_same o = by_test (eqb q.mask 0) refl
    where
      by_test : (t : Bool) → eqb q.mask 0 ≡ t → (if t then value_or_zero (binary_of o no_flags w p.mask q.value) else (2 ^ w - 1)) ≡ shift_mask o w p' q'
      by_test true e =
          ap₂ (λ m k. value_or_zero (binary_of o no_flags w m k)) a.mask (same_number w q q' b (eqb-true q.mask 0 e))
          ∙ ap (λ t. if t then value_or_zero (binary_of o no_flags w p'.mask q'.value) else (2 ^ w - 1)) (sym e ∙ ap (λ m. eqb m 0) b.mask)
      by_test false e = ap (λ t. if t then value_or_zero (binary_of o no_flags w p'.mask q'.value) else (2 ^ w - 1)) (sym e ∙ ap (λ m. eqb m 0) b.mask)

  pub binary_masks : (o : BinOp) → binary_mask by_formulas o w p q ≡ binary_mask by_formulas o w p' q'
  binary_masks Add = ap₂ (λ m k. formulas.carry_mask w (bit_or m k)) a.mask b.mask
  binary_masks Sub = ap₂ (λ m k. formulas.carry_mask w (bit_or m k)) a.mask b.mask
  binary_masks Mul = ap₂ (λ m k. formulas.carry_mask w (bit_or m k)) a.mask b.mask
  binary_masks Udiv = a.mask
  binary_masks Sdiv = a.mask
  binary_masks Urem = a.mask
  binary_masks Srem = a.mask
  binary_masks Shl = shift_same Shl
  binary_masks Lshr = shift_same Lshr
  binary_masks Ashr = shift_same Ashr
  binary_masks And =
      sym (and_same w p.value p.mask q.value q.mask p'.value q'.value a.left b.left (other_completes w p p' a) (other_completes w q q' b))
      ∙ ap₂ (λ m k. formulas.and_mask p'.value m q'.value k) a.mask b.mask
  binary_masks Or =
      sym (or_same w p.value p.mask q.value q.mask p'.value q'.value a.left b.left (other_completes w p p' a) (other_completes w q q' b))
      ∙ ap₂ (λ m k. formulas.or_mask w p'.value m q'.value k) a.mask b.mask
  binary_masks Xor = ap₂ (λ m k. formulas.union_mask m k) a.mask b.mask

  -- ---- results

  both_clean : (f : Flags) (o : BinOp) → p.mask ≡ 0 → q.mask ≡ 0 → AnswersAlike (binary_mask by_formulas o w p q) (binary_of o f w p.value q.value) (binary_of o f w p'.value q'.value)
  both_clean f o y z = equal_answers _ _ _ (ap₂ (λ u v. binary_of o f w u v) (same_number w p p' a y) (same_number w q q' b z))

  and_alike : AnswersAlike (formulas.and_mask p.value p.mask q.value q.mask) (Ok (bit_and p.value q.value)) (Ok (bit_and p'.value q'.value))
  and_alike =
      from_width w _ _ _ (omega (arith, and_le_l p.value q.value, a.left.value)) (omega (arith, and_le_l p'.value q'.value, a.right.value))
      (agrees_from_exact bit_and w p.value p.mask q.value q.mask w _ (and_exact w p.value p.mask q.value q.mask a.left.value a.left.mask b.left.value b.left.mask)
      p.value q.value p'.value q'.value (itself_completes w p p' a) (itself_completes w q q' b) (other_completes w p p' a) (other_completes w q q' b))

  or_alike : AnswersAlike (formulas.or_mask w p.value p.mask q.value q.mask) (Ok (bit_or p.value q.value)) (Ok (bit_or p'.value q'.value))
  or_alike =
      from_width w _ _ _ (or_lt w p.value q.value a.left.value b.left.value) (or_lt w p'.value q'.value a.right.value b.right.value)
      (agrees_from_exact bit_or w p.value p.mask q.value q.mask w _ (or_exact w p.value p.mask q.value q.mask a.left.value a.left.mask b.left.value b.left.mask)
      p.value q.value p'.value q'.value (itself_completes w p p' a) (itself_completes w q q' b) (other_completes w p p' a) (other_completes w q q' b))

  xor_alike : AnswersAlike (formulas.union_mask p.mask q.mask) (Ok (bit_xor p.value q.value)) (Ok (bit_xor p'.value q'.value))
  unfolding formulas.union_mask
  xor_alike =
      from_width w _ _ _ (xor_lt w p.value q.value a.left.value b.left.value) (xor_lt w p'.value q'.value a.right.value b.right.value)
      (agrees_from_exact bit_xor w p.value p.mask q.value q.mask w _ (xor_exact w p.value p.mask q.value q.mask a.left.value a.left.mask b.left.value b.left.mask)
      p.value q.value p'.value q'.value (itself_completes w p p' a) (itself_completes w q q' b) (other_completes w p p' a) (other_completes w q q' b))

  add_alike : AnswersAlike (formulas.carry_mask w (bit_or p.mask q.mask)) (Ok ((p.value + q.value) % 2 ^ w)) (Ok ((p'.value + q'.value) % 2 ^ w))
  add_alike =
      from_width w _ _ _ (mod_below _ (2 ^ w) (pow_pos w)) (mod_below _ (2 ^ w) (pow_pos w))
      (add_agrees w p.mask q.mask a.left.mask b.left.mask p.value q.value p'.value q'.value a.value b.value)

  sub_alike : AnswersAlike (formulas.carry_mask w (bit_or p.mask q.mask)) (Ok ((p.value + (2 ^ w - q.value)) % 2 ^ w)) (Ok ((p'.value + (2 ^ w - q'.value)) % 2 ^ w))
  sub_alike =
      from_width w _ _ _ (mod_below _ (2 ^ w) (pow_pos w)) (mod_below _ (2 ^ w) (pow_pos w))
      (sub_agrees w p.mask q.mask a.left.mask b.left.mask p.value q.value p'.value q'.value b.left.value b.right.value a.value b.value)

  mul_alike : AnswersAlike (formulas.carry_mask w (bit_or p.mask q.mask)) (Ok ((p.value * q.value) % 2 ^ w)) (Ok ((p'.value * q'.value) % 2 ^ w))
  mul_alike =
      from_width w _ _ _ (mod_below _ (2 ^ w) (pow_pos w)) (mod_below _ (2 ^ w) (pow_pos w))
      (mul_agrees w p.mask q.mask a.left.mask b.left.mask p.value q.value p'.value q'.value a.value b.value)

  -- ---- shifts by an amount without a poisoned bit

  -- the mask's answer and both words' are numbers, or all three are the same trap
  abbrev Shifted : Result ℕ Trap → Result ℕ Trap → Result ℕ Trap → Type 0
  Shifted (Ok m) (Ok x) (Ok y) = SameBits m x y
  Shifted (Err s) (Err t) (Err u) = t ≡ u
  Shifted r s t = ⊥

  shifted : (r s t : Result ℕ Trap) → Shifted r s t → AnswersAlike (value_or_zero r) s t
  shifted (Ok m) (Ok x) (Ok y) h = h
  shifted (Err s) (Err t) (Err u) h = h
  shifted (Ok m) (Ok x) (Err u) h = absurd h
  shifted (Ok m) (Err t) u h = absurd h
  shifted (Err m) (Ok x) u h = absurd h
  shifted (Err m) (Err x) (Ok u) h = absurd h

  -- a number unless the amount is too great
  one_of : (o : BinOp) → (g : ℕ → ℕ) → ((x : ℕ) → binary_of o no_flags w x q.value ≡ cond (leb w q.value) (Err Shift) (Ok (g x)))
      → ((binary_of o no_flags w p.mask q.value ≡ Ok (g p.mask)) → (binary_of o no_flags w p.value q.value ≡ Ok (g p.value)) → (binary_of o no_flags w p'.value q.value ≡ Ok (g p'.value)) → SameBits (g p.mask) (g p.value) (g p'.value))
      → Shifted (binary_of o no_flags w p.mask q.value) (binary_of o no_flags w p.value q.value) (binary_of o no_flags w p'.value q.value)
  one_of o g is same = by_test (leb w q.value) is
    where
      by_test : (t : Bool) → ((x : ℕ) → binary_of o no_flags w x q.value ≡ cond t (Err Shift) (Ok (g x))) → Shifted (binary_of o no_flags w p.mask q.value) (binary_of o no_flags w p.value q.value) (binary_of o no_flags w p'.value q.value)
      by_test true e =
          subst (λ r. Shifted r (binary_of o no_flags w p.value q.value) (binary_of o no_flags w p'.value q.value)) (sym (e p.mask))
          (subst (λ r. Shifted (Err Shift) r (binary_of o no_flags w p'.value q.value)) (sym (e p.value))
          (subst (λ r. Shifted (Err Shift) (Err Shift) r) (sym (e p'.value)) refl))
      by_test false e =
          subst (λ r. Shifted r (binary_of o no_flags w p.value q.value) (binary_of o no_flags w p'.value q.value)) (sym (e p.mask))
          (subst (λ r. Shifted (Ok (g p.mask)) r (binary_of o no_flags w p'.value q.value)) (sym (e p.value))
          (subst (λ r. Shifted (Ok (g p.mask)) (Ok (g p.value)) r) (sym (e p'.value)) (same (e p.mask) (e p.value) (e p'.value))))

  in_range : InRange w (record p { value = p'.value })
  in_range = record { value = a.right.value; mask = a.left.mask }

  shl_shifted : Shifted (binary_of Shl no_flags w p.mask q.value) (binary_of Shl no_flags w p.value q.value) (binary_of Shl no_flags w p'.value q.value)
  shl_shifted =
      one_of Shl (λ x. (x * 2 ^ q.value) % 2 ^ w) (shl_is w q.value)
      (λ x y z. from_width w _ _ _ (left_shift-lt no_flags w p.value q.value _ y) (left_shift-lt no_flags w p'.value q.value _ z)
      (left_shifts_agree no_flags no_flags no_flags w p.mask p.value p'.value q.value _ _ _ a.value x y z))

  lshr_shifted : Shifted (binary_of Lshr no_flags w p.mask q.value) (binary_of Lshr no_flags w p.value q.value) (binary_of Lshr no_flags w p'.value q.value)
  lshr_shifted =
      one_of Lshr (λ x. x / 2 ^ q.value) (lshr_is w q.value)
      (λ x y z. from_width w _ _ _ (right_shift-lt no_flags w p.value q.value _ a.left.value y) (right_shift-lt no_flags w p'.value q.value _ a.right.value z)
      (right_shifts_agree no_flags no_flags no_flags w p.mask p.value p'.value q.value _ _ _ a.left in_range a.value x y z))

  ashr_shifted : Shifted (binary_of Ashr no_flags w p.mask q.value) (binary_of Ashr no_flags w p.value q.value) (binary_of Ashr no_flags w p'.value q.value)
  ashr_shifted =
      one_of Ashr (λ x. wrap w (shr_z (signed w x) (2 ^ q.value))) (ashr_is w q.value)
      (λ x y z. from_width w _ _ _ (signed_shift-lt no_flags w p.value q.value _ y) (signed_shift-lt no_flags w p'.value q.value _ z)
      (signed_shifts_agree no_flags no_flags no_flags w p.mask p.value p'.value q.value _ _ _ a.left in_range a.value x y z))

  shift_alike : (o : BinOp) → q.mask ≡ 0 → Shifted (binary_of o no_flags w p.mask q.value) (binary_of o no_flags w p.value q.value) (binary_of o no_flags w p'.value q.value)
      → AnswersAlike (shift_mask o w p q) (binary_of o no_flags w p.value q.value) (binary_of o no_flags w p'.value q'.value)
  shift_alike o z h =
      subst (λ k. AnswersAlike (if eqb k 0 then value_or_zero (binary_of o no_flags w p.mask q.value) else (2 ^ w - 1)) (binary_of o no_flags w p.value q.value) (binary_of o no_flags w p'.value q'.value)) (sym z)
      (subst (λ v. AnswersAlike (value_or_zero (binary_of o no_flags w p.mask q.value)) (binary_of o no_flags w p.value q.value) (binary_of o no_flags w p'.value v)) (same_number w q q' b z)
      (shifted _ _ _ h))

  -- ---- the operation

  -- without flags, where the words whose poison it would lose have none, and a divisor has none
  plain_alike : (u : World) (o : BinOp) → AllClean (blind_binary o (p ∷ q ∷ [])) → AllPassed u (p ∷ q ∷ []) (binary_uses o)
      → AnswersAlike (binary_mask by_formulas o w p q) (binary_of o no_flags w p.value q.value) (binary_of o no_flags w p'.value q'.value)
  unfolding binary_of add_of sub_of mul_of or_of
  plain_alike u Add z d = add_alike
  plain_alike u Sub z d = sub_alike
  plain_alike u Mul z d = mul_alike
  plain_alike u Udiv z d = both_clean no_flags Udiv z.0 d.0
  plain_alike u Sdiv z d = both_clean no_flags Sdiv z.0 d.0
  plain_alike u Urem z d = both_clean no_flags Urem z.0 d.0
  plain_alike u Srem z d = both_clean no_flags Srem z.0 d.0
  plain_alike u Shl z d = shift_alike Shl z.0 shl_shifted
  plain_alike u Lshr z d = shift_alike Lshr z.0 lshr_shifted
  plain_alike u Ashr z d = shift_alike Ashr z.0 ashr_shifted
  plain_alike u And z d = and_alike
  plain_alike u Or z d = or_alike
  plain_alike u Xor z d = xor_alike

  pub binary_alike : (u : World) (o : BinOp) (f : Flags) → union (map (λ r. r.mask) (if has_flag f then (p ∷ q ∷ []) else blind_binary o (p ∷ q ∷ []))) ≡ 0 → AllPassed u (p ∷ q ∷ []) (binary_uses o)
      → AnswersAlike (binary_mask by_formulas o w p q) (binary_of o f w p.value q.value) (binary_of o f w p'.value q'.value)
  binary_alike u o f quiet d = by_flags (has_flag f) refl quiet
    where
      by_flags : (t : Bool) → has_flag f ≡ t → union (map (λ r. r.mask) (if t then (p ∷ q ∷ []) else blind_binary o (p ∷ q ∷ []))) ≡ 0
          → AnswersAlike (binary_mask by_formulas o w p q) (binary_of o f w p.value q.value) (binary_of o f w p'.value q'.value)
      by_flags true e z = let c = union_clean (p ∷ q ∷ []) z in both_clean f o c.0 c.1.0
      by_flags false e z =
          subst (λ g. AnswersAlike (binary_mask by_formulas o w p q) (binary_of o g w p.value q.value) (binary_of o g w p'.value q'.value)) (sym (flagless f e))
          (plain_alike u o (union_clean (blind_binary o (p ∷ q ∷ [])) z) d)
