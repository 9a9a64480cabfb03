-- The masks of results are in the range of the results.
use Rattle.std.proofs.Common.{◌≡◌, ◌<◌, ℕ, zero, suc, ◌-◌, ◌%◌, ◌^◌, List, [], ◌∷◌, map, drop, get_or, Bool, Some, None, Result, Ok, Err, IfOk, refl, subst, arith, eqb, not, bit_and, bit_or, bit_xor}
use Rattle.std.specs.Prelude.{slice_get}
use Rattle.std.specs.Int.{from_bool}
use Rattle.std.proofs.Math.Pow.{ones_lt}
use Rattle.std.proofs.lemmas.Nat.{mod_below, pow_pos, or_lt, xor_lt, and_le_r}
use Rattle.ms_bits.specs.declared.operations.BinOp.{BinOp}
use Rattle.ms_bits.specs.declared.operations.BinOp.TheVariants.{Add, Sub, Mul, Udiv, Sdiv, Urem, Srem, Shl, Lshr, Ashr, And, Or, Xor}
use Rattle.ms_bits.specs.declared.operations.Pred.{Pred}
use Rattle.ms_bits.specs.declared.operations.Pred.TheVariants.{Eq, Ne, Ugt, Uge, Ult, Ule, Sgt, Sge, Slt, Sle}
use Rattle.ms_bits.specs.declared.traps.Trap.{Trap}
use Rattle.ms_bits.specs.Signed.{signed}
use Rattle.ms_bits.specs.Arithmetic.{binary_of}
use Rattle.ms_bits.specs.Conversions.{cast_of}
use Rattle.ms_bits.specs.Maps.{number_at}
use Rattle.ms_bits.specs.Formulas.{greatest, least, union_mask, and_mask, or_mask, eq_mask, order_mask, turned_sign, compare_mask, select_mask}
use Rattle.ms_bits.specs.NoFlags.{no_flags}
use Rattle.ms_ir.specs.declared.syntax.Ty.{Ty, Int, Ptr}
use Rattle.ms_ir.specs.declared.syntax.Operand.{Operand}
use Rattle.ms_ir.specs.declared.syntax.Op.{Op}
use Rattle.ms_ir.specs.declared.syntax.Op.TheVariants as op
use Rattle.ms_ir.specs.Layout.{width_of, stored_size, extended}
use Rattle.ms_runs.specs.World.{World}
use Rattle.ms_ir.specs.Names.{lookup, externals}
use Rattle.ms_ir.specs.Instructions.{operands}
use Rattle.ms_runs.specs.Act.{extended_all}
use Rattle.ms_runs.specs.Poisoned.{Poisoned, clean, InRange}
use Rattle.ms_runs.specs.Masks.{Rules, value_or_zero, by_completions, by_formulas, shift_mask, binary_mask, union, word_at, answer_mask, result_mask}
use Rattle.ms_ir.specs.Written.{result_type}
use Rattle.ms_runs_good_laws.specs.GoodStates.{PoisonedBelow}
use Rattle.ms_runs_good_laws.specs.Straight.{HaveTypes}
use Rattle.ms_runs_good_laws.specs.GoodRules.{KeepWidths}
use Rattle.ms_runs_good_laws.proofs.WordRanges.{binary_below, cast_below, select_below}
use Rattle.ms_runs_good_laws.proofs.WorldChanges.{either}
use Rattle.ms_runs_good_laws.proofs.ExternalEffects.{in_type}
use Rattle.ms_runs_good_laws.proofs.OpEffects.{CastFits, value_width, cast_allowed}
use Rattle.ms_bits_laws.proofs.CarryMasks.{carry_mask-lt}
use Rattle.ms_bits_laws.proofs.MaskFunctions.{number_fits, from_bool-lt, mask_of-lt, select_mask_of-lt}
use Rattle.ms_bits_laws.proofs.OperationAgreement.{wrap-lt}

-- ---- the rules by completions

pub completions_keep : KeepWidths by_completions
completions_keep = record {
  both = λ w p q a b. mask_of-lt _ w p.value p.mask q.value q.mask w;
  either = λ w p q a b. mask_of-lt _ w p.value p.mask q.value q.mask w;
  one = λ w p q a b. mask_of-lt _ w p.value p.mask q.value q.mask w;
  compare = λ o w p q a b. mask_of-lt _ w p.value p.mask q.value q.mask 1;
  select = λ w k p q c a b. select_mask_of-lt k.value k.mask w p.value p.mask q.value q.mask;
  sum = λ w u h. number_fits (λ i. from_bool (not (eqb (u % 2 ^ suc i) 0))) (λ i. from_bool-lt (not (eqb (u % 2 ^ suc i) 0))) w;
}

-- ---- the rules by formulas

and_below : (w v m u k : ℕ) → m < 2 ^ w → k < 2 ^ w → and_mask v m u k < 2 ^ w
unfolding and_mask
and_below w v m u k p q = omega (arith, and_le_r (bit_and (bit_or v m) (bit_or u k)) (bit_or m k), or_lt w m k p q)

or_below : (w v m u k : ℕ) → m < 2 ^ w → k < 2 ^ w → or_mask w v m u k < 2 ^ w
unfolding or_mask
or_below w v m u k p q = omega (arith, and_le_r (bit_and (bit_or (bit_xor v (2 ^ w - 1)) m) (bit_or (bit_xor u (2 ^ w - 1)) k)) (bit_or m k), or_lt w m k p q)

xor_below : (w m k : ℕ) → m < 2 ^ w → k < 2 ^ w → union_mask m k < 2 ^ w
unfolding union_mask
xor_below w m k p q = or_lt w m k p q

eq_below : (v m u k : ℕ) → eq_mask v m u k < 2
unfolding eq_mask
eq_below v m u k =
    omega (arith, and_le_r (from_bool (eqb (bit_or (bit_xor v u) (bit_or m k)) (bit_or m k))) (from_bool (not (eqb (bit_or m k) 0))), from_bool-lt (not (eqb (bit_or m k) 0)))

order_below : (before : ℕ → ℕ → Bool) (v m u k : ℕ) → order_mask before v m u k < 2
unfolding order_mask
order_below before v m u k =
    xor_lt 1 (from_bool (before (least v m) (greatest u k))) (from_bool (before (greatest v m) (least u k)))
    (from_bool-lt (before (least v m) (greatest u k))) (from_bool-lt (before (greatest v m) (least u k)))

compare_below : (o : Pred) (w v m u k : ℕ) → compare_mask o w v m u k < 2
unfolding compare_mask
compare_below Eq w v m u k = eq_below v m u k
compare_below Ne w v m u k = eq_below v m u k
compare_below Ugt w v m u k = order_below _ u k v m
compare_below Uge w v m u k = order_below _ u k v m
compare_below Ult w v m u k = order_below _ v m u k
compare_below Ule w v m u k = order_below _ v m u k
compare_below Sgt w v m u k = order_below _ (turned_sign w u) k (turned_sign w v) m
compare_below Sge w v m u k = order_below _ (turned_sign w u) k (turned_sign w v) m
compare_below Slt w v m u k = order_below _ (turned_sign w v) m (turned_sign w u) k
compare_below Sle w v m u k = order_below _ (turned_sign w v) m (turned_sign w u) k

choice_below : (w t n v m u k : ℕ) → v < 2 ^ w → m < 2 ^ w → u < 2 ^ w → k < 2 ^ w → select_mask t n v m u k < 2 ^ w
unfolding select_mask
choice_below w t n v m u k pv pm pu pk =
    select_below (2 ^ w) n (bit_or (bit_or (bit_xor v u) m) k) _ (or_lt w (bit_or (bit_xor v u) m) k (or_lt w (bit_xor v u) m (xor_lt w v u pv pu) pm) pk) (select_below (2 ^ w) t m k pm pk)

pub formulas_keep : KeepWidths by_formulas
formulas_keep = record {
  both = λ w p q a b. and_below w p.value p.mask q.value q.mask a.mask b.mask;
  either = λ w p q a b. or_below w p.value p.mask q.value q.mask a.mask b.mask;
  one = λ w p q a b. xor_below w p.mask q.mask a.mask b.mask;
  compare = λ o w p q a b. compare_below o w p.value p.mask q.value q.mask;
  select = λ w k p q c a b. choice_below w k.value k.mask p.value p.mask q.value q.mask a.value a.mask b.value b.mask;
  sum = carry_mask-lt;
}

-- ---- results

value_below : (w : ℕ) (r : Result ℕ Trap) → IfOk r (λ v. v < 2 ^ w) → value_or_zero r < 2 ^ w
value_below w (Ok v) h = h
value_below w (Err e) h = pow_pos w

shift_below : (o : BinOp) (w : ℕ) (p q : Poisoned) → InRange w p → InRange w q → shift_mask o w p q < 2 ^ w
shift_below o w p q a b =
    either (λ v. v < 2 ^ w) (eqb q.mask 0) (value_or_zero (binary_of o no_flags w p.mask q.value)) (2 ^ w - 1)
    (value_below w (binary_of o no_flags w p.mask q.value) (binary_below o no_flags w p.mask q.value a.mask b.value)) (ones_lt w)

binary_mask_below : (d : Rules) → KeepWidths d → (o : BinOp) (w : ℕ) (p q : Poisoned) → InRange w p → InRange w q → binary_mask d o w p q < 2 ^ w
binary_mask_below d keep Add w p q a b = keep.sum w (bit_or p.mask q.mask) (or_lt w p.mask q.mask a.mask b.mask)
binary_mask_below d keep Sub w p q a b = keep.sum w (bit_or p.mask q.mask) (or_lt w p.mask q.mask a.mask b.mask)
binary_mask_below d keep Mul w p q a b = keep.sum w (bit_or p.mask q.mask) (or_lt w p.mask q.mask a.mask b.mask)
binary_mask_below d keep Udiv w p q a b = a.mask
binary_mask_below d keep Sdiv w p q a b = a.mask
binary_mask_below d keep Urem w p q a b = a.mask
binary_mask_below d keep Srem w p q a b = a.mask
binary_mask_below d keep Shl w p q a b = shift_below Shl w p q a b
binary_mask_below d keep Lshr w p q a b = shift_below Lshr w p q a b
binary_mask_below d keep Ashr w p q a b = shift_below Ashr w p q a b
binary_mask_below d keep And w p q a b = keep.both w p q a b
binary_mask_below d keep Or w p q a b = keep.either w p q a b
binary_mask_below d keep Xor w p q a b = keep.one w p q a b

union_below : (indices : List (Ty × Operand)) (masks : List ℕ) → union (extended_all indices masks) < 2 ^ 64
union_below [] masks = pow_pos 64
union_below (i ∷ rest) [] = pow_pos 64
union_below (i ∷ rest) (m ∷ masks) =
    or_lt 64 (extended (width_of i.0) m) (union (extended_all rest masks)) (wrap-lt 64 (signed (width_of i.0) m)) (union_below rest masks)

word_is : (k : ℕ) (ps : List Poisoned) → get_or ps k clean ≡ word_at k ps
word_is k [] = refl
word_is zero (p ∷ ps) = refl
word_is (suc k) (p ∷ ps) = word_is k ps

-- the mask of a result is in the range of its type
pub result_mask_below : (d : Rules) → KeepWidths d → (o : Op) → CastFits o → (ps : List Poisoned) → HaveTypes PoisonedBelow clean ps (map (λ a. a.0) (operands o)) → (w : World) (t : Ty)
    → result_type o ≡ Some t → result_mask d o ps w < 2 ^ width_of t
result_mask_below d keep o c ps have w = by_op o c have
  where
    at : (types : List Ty) → HaveTypes PoisonedBelow clean ps types → (k : ℕ) (t : Ty) → slice_get types k ≡ Some t → InRange (width_of t) (word_at k ps)
    at types h k t e = let both : PoisonedBelow (word_at k ps) (2 ^ width_of t) = subst (λ p. PoisonedBelow p (2 ^ width_of t)) (word_is k ps) (h k t e) in record { value = both.0; mask = both.1 }

    nothing : (t : Ty) → 0 < 2 ^ width_of t
    nothing t = pow_pos (width_of t)

    by_op : (o : Op) → CastFits o → HaveTypes PoisonedBelow clean ps (map (λ a. a.0) (operands o)) → (t : Ty) → result_type o ≡ Some t → result_mask d o ps w < 2 ^ width_of t
    by_op (op.Binary o flags t a b) c h = in_type t (result_mask d (op.Binary o flags t a b) ps w) (binary_mask_below d keep o (width_of t) (word_at 0 ps) (word_at 1 ps) (at (t ∷ t ∷ []) h 0 t refl) (at (t ∷ t ∷ []) h 1 t refl))
    by_op (op.Icmp o flags t a b) c h = in_type (Int 1) (result_mask d (op.Icmp o flags t a b) ps w) (keep.compare o (width_of t) (word_at 0 ps) (word_at 1 ps) (at (t ∷ t ∷ []) h 0 t refl) (at (t ∷ t ∷ []) h 1 t refl))
    by_op (op.Cast o flags t a u) c h =
        in_type u (result_mask d (op.Cast o flags t a u) ps w)
        (value_below (width_of u) (cast_of o no_flags (width_of t) (word_at 0 ps).mask (width_of u))
        (cast_below o no_flags (width_of t) (word_at 0 ps).mask (width_of u) (value_width t c.1).1 (cast_allowed o t u c.0 c.2) (at (t ∷ []) h 0 t refl).mask))
    by_op (op.Select k t a b) c h =
        in_type t (result_mask d (op.Select k t a b) ps w)
        (keep.select (width_of t) (word_at 0 ps) (word_at 1 ps) (word_at 2 ps) (at (Int 1 ∷ t ∷ t ∷ []) h 0 (Int 1) refl) (at (Int 1 ∷ t ∷ t ∷ []) h 1 t refl) (at (Int 1 ∷ t ∷ t ∷ []) h 2 t refl))
    by_op (op.Load t addr) c h = in_type t (result_mask d (op.Load t addr) ps w) (mod_below (number_at w.shadow (word_at 0 ps).value (stored_size t)) (2 ^ width_of t) (pow_pos (width_of t)))
    by_op (op.Gep t base indices) c h =
        let masks = map (λ p. p.mask) (drop 1 ps) in
        in_type Ptr (result_mask d (op.Gep t base indices) ps w)
        (keep.sum 64 (bit_or (word_at 0 ps).mask (union (extended_all indices masks))) (or_lt 64 (word_at 0 ps).mask (union (extended_all indices masks)) (at (Ptr ∷ map (λ i. i.0) indices) h 0 Ptr refl).mask (union_below indices masks)))
    by_op (op.Freeze t a) c h = λ u e. nothing u
    by_op (op.Phi t edges) c h = λ u e. nothing u
    by_op (op.Alloca t u n) c h = λ z e. nothing z
    by_op (op.Store t v addr) c h = λ u e. nothing u
    by_op (op.Call None callee args) c h = λ u e. nothing u
    by_op (op.Call (Some t) callee args) c h = in_type t (result_mask d (op.Call (Some t) callee args) ps w) (mod_below (answer_mask (lookup externals callee) ps) (2 ^ width_of t) (pow_pos (width_of t)))
    by_op (op.Br to) c h = λ u e. nothing u
    by_op (op.CondBr k to other) c h = λ u e. nothing u
    by_op (op.Switch t v other cases) c h = λ u e. nothing u
    by_op (op.Ret v) c h = λ u e. nothing u
    by_op op.Unreachable c h = λ u e. nothing u
