-- How much is written round an instruction.
use Rattle.std.proofs.Common.{ℕ, suc, ◌+◌, ◌*◌, ◌≤◌, List, [], ◌∷◌, Bool, true, false, arith}
use Rattle.std.specs.Prelude.{length, eqb, if◌then◌else◌}
use Rattle.ms_bits.specs.declared.operations.BinOp.{BinOp}
use Rattle.ms_bits.specs.declared.operations.BinOp.TheVariants as binary
use Rattle.ms_bits.specs.declared.operations.CastOp.TheVariants as cast
use Rattle.ms_bits.specs.declared.operations.Pred.{Pred}
use Rattle.ms_bits.specs.declared.operations.Pred.TheVariants as pred
use Rattle.ms_ir.specs.declared.syntax.Ty.{Ty, Int, Ptr}
use Rattle.ms_ir.specs.Layout.{width_of}
use Rattle.ms_pass_tasks.specs.Tasks.{Expr, Turn, Pick}
use Rattle.ms_pass_tasks.specs.Environments.{Tracked, is_zero, is_set, mask_type, widened, widened_mask, extended_expr, extended_mask, joined, unknown, bits_at, mask_of, origin_of}
use Rattle.ms_pass_tasks.specs.ResultMasks.{carry_expr, sum_expr, address_expr, compare_expr, binary_expr, select_expr, last_expr, first_last}
use Rattle.ms_pass_tasks.specs.CheckTasks.{union_masks}
use Rattle.ms_pass_form_laws.proofs.Costs.{cost}

pub widened_cost : (w : ℕ) (e : Expr) → cost (widened w e) ≤ cost e + 2
widened_cost w e = by_test (eqb w 64)
  where
    by_test : (b : Bool) → cost (if b then e else Turn cast.Zext (Int w) e (Int 64)) ≤ cost e + 2
    by_test true = omega arith
    by_test false = omega arith

pub extended_cost : (w : ℕ) (e : Expr) → cost (extended_expr w e) ≤ cost e + 2
extended_cost w e = by_test (eqb w 64)
  where
    by_test : (b : Bool) → cost (if b then e else Turn cast.Sext (Int w) e (Int 64)) ≤ cost e + 2
    by_test true = omega arith
    by_test false = omega arith

pub bits_cost : (t : Ty) (e : Expr) → cost (bits_at t e) ≤ cost e + 2
bits_cost Ptr e = omega arith
bits_cost _ e = omega arith

pub compare_cost : (o : Pred) (w : ℕ) (v m u k : Expr) → cost (compare_expr o w v m u k) ≤ 60 + 4 * (cost v + (cost m + (cost u + cost k)))
compare_cost pred.Eq w v m u k = omega arith
compare_cost pred.Ne w v m u k = omega arith
compare_cost pred.Ugt w v m u k = omega arith
compare_cost pred.Uge w v m u k = omega arith
compare_cost pred.Ult w v m u k = omega arith
compare_cost pred.Ule w v m u k = omega arith
compare_cost pred.Sgt w v m u k = omega arith
compare_cost pred.Sge w v m u k = omega arith
compare_cost pred.Slt w v m u k = omega arith
compare_cost pred.Sle w v m u k = omega arith

pub select_cost : (w : ℕ) (t n v m u k : Expr) → cost (select_expr w t n v m u k) ≤ 20 + (cost t + (cost n + 2 * (cost v + (cost m + (cost u + cost k)))))
select_cost w t n v m u k = omega arith

sum_cost : (w : ℕ) (a b : Tracked) → cost (sum_expr w (a ∷ b ∷ [])) ≤ 12
sum_cost w a b = by_masks (is_zero a.mask) (is_zero b.mask)
  where
    by_masks : (x y : Bool) → let rest = (if y then [] else b ∷ []) in cost (carry_expr (Int w) (joined (Int w) mask_of (if x then rest else a ∷ rest))) ≤ 12
    by_masks true true = omega arith
    by_masks true false = omega arith
    by_masks false true = omega arith
    by_masks false false = omega arith

pub binary_cost : (o : BinOp) (w : ℕ) (a b : Tracked) → cost (binary_expr o w a b) ≤ 21
binary_cost binary.And w a b = omega arith
binary_cost binary.Or w a b = omega arith
binary_cost binary.Xor w a b = omega arith
binary_cost binary.Add w a b = let s = sum_cost w a b in omega (arith, s)
binary_cost binary.Sub w a b = let s = sum_cost w a b in omega (arith, s)
binary_cost binary.Mul w a b = let s = sum_cost w a b in omega (arith, s)
binary_cost _ w a b = omega arith

-- masks that are known to be 0 are left out where masks are joined
unknown_fewer : (ts : List Tracked) → length (unknown ts) ≤ length ts
unknown_fewer [] = omega arith
unknown_fewer (t ∷ ts) = by_mask (is_zero t.mask) (unknown_fewer ts)
  where
    by_mask : (b : Bool) → length (unknown ts) ≤ length ts → length (if b then unknown ts else t ∷ unknown ts) ≤ suc (length ts)
    by_mask true rest = omega (arith, rest)
    by_mask false rest = omega (arith, rest)

joined_cost : (f : Tracked → Expr) → ((t : Tracked) → cost (f t) ≤ 2) → (ts : List Tracked) → cost (joined (Int 64) f ts) ≤ 5 * length ts
joined_cost f part [] = omega arith
joined_cost f part (t ∷ []) = let p = part t in omega (arith, p)
joined_cost f part (t ∷ u ∷ us) = let p = part t in let rest = joined_cost f part (u ∷ us) in omega (arith, p, rest)

pub address_cost : (ts : List Tracked) → cost (address_expr ts) ≤ 6 + 10 * length ts
address_cost ts = let e = joined_cost extended_mask (λ t. extended_cost (width_of t.ty) (mask_of t)) (unknown ts) in omega (arith, e, unknown_fewer ts)

pub union_masks_cost : (ts : List Tracked) → cost (union_masks ts) ≤ 5 * length ts
union_masks_cost ts = let e = joined_cost widened_mask (λ t. widened_cost (width_of t.ty) (mask_of t)) (unknown ts) in omega (arith, e, unknown_fewer ts)

last_cost : (ts : List Tracked) (best : Expr) → cost (last_expr ts best) ≤ cost best + 7 * length ts
last_cost [] best = omega arith
last_cost (t ∷ ts) best = omega (arith, last_cost ts (Pick (is_set (mask_type t.ty) (mask_of t)) (Int 32) (origin_of t) best))

pub first_last_cost : (ts : List Tracked) → cost (first_last ts) ≤ 7 * length ts
first_last_cost [] = omega arith
first_last_cost (t ∷ ts) = omega (arith, last_cost ts (origin_of t))
