-- How much is written before and after an instruction.
use Rattle.std.proofs.Common.{◌≡◌, ℕ, suc, ◌+◌, ◌-◌, ◌*◌, ◌^◌, ◌≤◌, List, [], ◌∷◌, ◌++◌, Bool, true, false, Option, Some, None, arith}
use Rattle.std.specs.Prelude.{length, eqb, if◌then◌else◌, is_some}
use Rattle.ms_bits.specs.declared.operations.BinOp.{BinOp}
use Rattle.ms_bits.specs.declared.operations.BinOp.TheVariants as binary
use Rattle.ms_bits.specs.declared.operations.CastOp.{CastOp}
use Rattle.ms_bits.specs.declared.operations.CastOp.TheVariants as cast
use Rattle.ms_ir.specs.declared.syntax.Name.{Name}
use Rattle.ms_ir.specs.declared.syntax.Ty.{Ty, Int}
use Rattle.ms_ir.specs.declared.syntax.Operand.TheVariants as operand
use Rattle.ms_ir.specs.declared.syntax.Op.{Op}
use Rattle.ms_ir.specs.declared.syntax.Op.TheVariants as op
use Rattle.ms_runs.specs.World.{Here}
use Rattle.ms_ir.specs.Layout.{width_of}
use Rattle.ms_ir.specs.Instructions.{count_undefs, external_named}
use Rattle.ms_ir.specs.declared.calls.External.{External}
use Rattle.ms_ir.specs.declared.calls.External.TheVariants as called
use Rattle.ms_ir.specs.declared.calls.External.TheVariants.{Malloc, Realloc, Memset, LlvmMemset}
use Rattle.ms_runs.specs.Uses.{CheckedUse, Word, Bytes, Line, Asked}
use Rattle.ms_pass_tasks.specs.Tasks.{mask_name, origin_name, Expr, Leaf, Turn, Pick, Task, Sets}
use Rattle.ms_pass_tasks.specs.Environments.{Env, Given, Tracked, is_set, number, is_zero, tracked_at, mask_of, word_of, bits_of}
use Rattle.ms_pass_tasks.specs.CheckTasks.{check_task, use_tasks, check_tasks, all_zero, blind_tasks}
use Rattle.ms_pass_tasks.specs.ResultMasks.{known_expr, moved_args, cast_expr, word_expr, answer_expr, answer_origin_expr}
use Rattle.ms_bits.specs.declared.word_functions.WordFn.{WordFn}
use Rattle.ms_bits.specs.declared.word_functions.WordFn.TheVariants as word
use Rattle.ms_bits.specs.declared.word_functions.BitMove.{BitMove}
use Rattle.ms_bits.specs.WordFunctions.{move_fn, move_width, bits_of as width_bits}
use Rattle.ms_ir.specs.Names.{lookup, externals}
use Rattle.ms_pass_tasks.specs.ResultTasks.{result_width, external_move, answer_tasks, define_tasks, called_tasks}
use Rattle.ms_pass_tasks.specs.PlaneTasks.{plane_tasks, save_tasks, saved_tasks, external_tasks, callee_tasks, fill_task}
use Rattle.ms_pass_tasks.specs.SlotTasks.{hand_tasks, give_result, give_arguments, take_result, take_tasks, result_mask_slot, result_origin_slot}
use Rattle.ms_pass_form_laws.proofs.Costs.{cost, costs, task_cost, tasks_cost}
use Rattle.ms_pass_form_laws.proofs.CostRules.{widened_cost, bits_cost, compare_cost, select_cost, binary_cost, address_cost, union_masks_cost, first_last_cost}

pub tasks_cost_append : (a b : List Task) → tasks_cost (a ++ b) ≡ tasks_cost a + tasks_cost b
tasks_cost_append [] b = omega arith
tasks_cost_append (t ∷ a) b = let e = tasks_cost_append a b in omega (arith, e)

cast_cost : (o : CastOp) (w to : ℕ) (m : Expr) → cost (cast_expr o w to m) ≤ cost m + 2
cast_cost cast.Trunc w to m = omega arith
cast_cost cast.Zext w to m = omega arith
cast_cost cast.Sext w to m = omega arith
cast_cost cast.PtrToInt w to m = by_test (eqb to 64)
  where
    by_test : (b : Bool) → cost (if b then m else Turn cast.Trunc (Int w) m (Int to)) ≤ cost m + 2
    by_test true = omega arith
    by_test false = omega arith
cast_cost cast.IntToPtr w to m = widened_cost w m
cast_cost cast.Bitcast w to m = omega arith

-- what a function of whole words answers
word_cost : (f : WordFn) (w : ℕ) (a b c : Tracked) → cost (word_expr f w a b c) ≤ 90
word_cost word.Ctpop w a b c = omega arith
word_cost word.Ctlz w a b c = omega arith
word_cost word.Cttz w a b c = omega arith
word_cost word.Abs w a b c = omega arith
word_cost word.Smax w a b c = omega arith
word_cost word.Smin w a b c = omega arith
word_cost word.Umax w a b c = omega arith
word_cost word.Umin w a b c = omega arith
word_cost word.UaddSat w a b c = omega arith
word_cost word.UsubSat w a b c = omega arith
word_cost word.SaddSat w a b c = omega arith
word_cost word.SsubSat w a b c = omega arith
word_cost f w a b c = omega arith

known_cost : (w : ℕ) (c : Tracked) (m : Expr) → cost (known_expr w c m) ≤ cost m + 8
known_cost w c m = by_zero (is_zero c.mask)
  where
    by_zero : (b : Bool) → cost (if b then m else Pick (is_set (Int w) (mask_of c)) (Int w) (number (2 ^ w - 1)) m) ≤ cost m + 8
    by_zero true = omega arith
    by_zero false = omega arith

-- a call of what moves bits
moved_cost : (f : WordFn) (w : ℕ) (a b c : Tracked) → costs (moved_args f w a b c) + length (moved_args f w a b c) ≤ 50
moved_cost word.Fshl w a b c = omega (arith, known_cost w c (mask_of a), known_cost w c (mask_of b))
moved_cost word.Fshr w a b c = omega (arith, known_cost w c (mask_of a), known_cost w c (mask_of b))
moved_cost f w a b c = omega arith

pub define_cost : (func : Name → Option ℕ) (v : ℕ) (o : Op) (ts : List Tracked) → tasks_cost (define_tasks func v o ts) ≤ 110 + 17 * length ts
define_cost func v (op.Binary o f t a b) ts = by_op o
  where
    by_op : (c : BinOp) → tasks_cost (define_tasks func v (op.Binary c f t a b) ts) ≤ 110 + 17 * length ts
    by_op binary.Shl = omega (arith, first_last_cost ts)
    by_op binary.Lshr = omega (arith, first_last_cost ts)
    by_op binary.Ashr = omega (arith, first_last_cost ts)
    by_op c = omega (arith, first_last_cost ts, binary_cost c (width_of t) (tracked_at 0 ts) (tracked_at 1 ts))
define_cost func v (op.Icmp q f t a b) ts =
    let x = tracked_at 0 ts in let y = tracked_at 1 ts in
    omega (arith, first_last_cost ts, compare_cost q (width_of t) (bits_of x) (mask_of x) (bits_of y) (mask_of y), bits_cost x.ty (word_of x), bits_cost y.ty (word_of y))
define_cost func v (op.Cast o f t a u) ts = omega (arith, first_last_cost ts, cast_cost o (width_of t) (width_of u) (mask_of (tracked_at 0 ts)))
define_cost func v (op.Select c t a b) ts =
    let z = tracked_at 0 ts in let x = tracked_at 1 ts in let y = tracked_at 2 ts in
    omega (arith, select_cost (width_of t) (word_of z) (mask_of z) (bits_of x) (mask_of x) (bits_of y) (mask_of y), bits_cost x.ty (word_of x), bits_cost y.ty (word_of y))
define_cost func v (op.Freeze t a) ts = omega arith
define_cost func v (op.Gep t a is) ts = omega (arith, first_last_cost ts, address_cost ts)
define_cost func v (op.Alloca t u c) ts = omega arith
define_cost func v (op.Load t a) ts = omega (arith, widened_cost (width_of t) (Leaf (operand.Local (mask_name v))))
define_cost func v (op.Call r x as') ts = by_own (is_some (func x))
  where
    by_own : (b : Bool) → tasks_cost (called_tasks b v (op.Call r x as') ts) ≤ 110 + 17 * length ts
    by_own true = omega arith
    by_own false = by_move (external_move (lookup externals x))
      where
        origin_cost : (e : Option External) → cost (answer_origin_expr e ts) ≤ 7 * length ts
        origin_cost None = omega arith
        origin_cost (Some (called.Word f n)) = omega (arith, first_last_cost ts)
        origin_cost (Some e) = omega arith

        by_external : (e : Option External)
            → tasks_cost (Sets (origin_name v) (Int 32) (answer_origin_expr e ts) ∷ Sets (mask_name v) (Int (result_width (op.Call r x as'))) (answer_expr e ts) ∷ []) ≤ 110 + 17 * length ts
        by_external None = omega arith
        by_external (Some (called.Word f n)) = omega (arith, first_last_cost ts, word_cost f (width_bits n) (tracked_at 0 ts) (tracked_at 1 ts) (tracked_at 2 ts))
        by_external (Some e) = omega arith

        by_move : (k : Option BitMove) → tasks_cost (answer_tasks (mask_name v) (origin_name v) k (op.Call r x as') ts) ≤ 110 + 17 * length ts
        by_move None = by_external (lookup externals x)
        by_move (Some k) =
            omega (arith, origin_cost (lookup externals x), moved_cost (move_fn k) (width_bits (move_width k)) (tracked_at 0 ts) (tracked_at 1 ts) (tracked_at 2 ts))
define_cost func v _ ts = omega arith

unless_cost : (b : Bool) (t : Task) (k : ℕ) → task_cost t ≤ k → tasks_cost (if b then [] else t ∷ []) ≤ k
unless_cost true t k l = omega arith
unless_cost false t k l = omega (arith, l)

use_cost : (site : ℕ) (ts : List Tracked) (u : CheckedUse) → tasks_cost (use_tasks site ts u) ≤ 9
use_cost site ts (Word kind k) =
    let t = tracked_at k ts in
    unless_cost (is_zero t.mask) (check_task site kind k t) 9 (let w = widened_cost (width_of t.ty) (mask_of t) in omega (arith, w))
use_cost site ts (Bytes kind a n) = omega arith
use_cost site ts (Line a) = omega arith
use_cost site ts (Asked a) = omega arith

pub checks_cost : (site : ℕ) (ts : List Tracked) (us : List CheckedUse) → tasks_cost (check_tasks site ts us) ≤ 9 * length us
checks_cost site ts [] = omega arith
checks_cost site ts (u ∷ us) = omega (arith, tasks_cost_append (use_tasks site ts u) (check_tasks site ts us), use_cost site ts u, checks_cost site ts us)

pub blind_cost : (ts : List Tracked) → tasks_cost (blind_tasks ts) ≤ 2 + 5 * length ts
blind_cost ts = unless_cost (all_zero ts) _ (2 + 5 * length ts) (let w = union_masks_cost ts in omega (arith, w))

fill_cost : (site : ℕ) (a c n : Tracked) → tasks_cost (fill_task site a c n) ≤ 30
fill_cost site a c n = let w = widened_cost (width_of c.ty) (mask_of c) in omega (arith, w)

external_cost : (site root saved : ℕ) (r : Option Name) (e : External) (ts : List Tracked) → tasks_cost (external_tasks site root saved r e ts) ≤ 30
external_cost site root saved (Some x) Malloc ts = omega arith
external_cost site root saved (Some x) Memset ts = fill_cost site (tracked_at 0 ts) (tracked_at 1 ts) (tracked_at 2 ts)
external_cost site root saved (Some x) LlvmMemset ts = fill_cost site (tracked_at 0 ts) (tracked_at 1 ts) (tracked_at 2 ts)
external_cost site root saved (Some x) _ ts = omega arith
external_cost site root saved None Memset ts = fill_cost site (tracked_at 0 ts) (tracked_at 1 ts) (tracked_at 2 ts)
external_cost site root saved None LlvmMemset ts = fill_cost site (tracked_at 0 ts) (tracked_at 1 ts) (tracked_at 2 ts)
external_cost site root saved None _ ts = omega arith

take_cost : (env : Env) (r : Option Name) (t : Option Ty) → tasks_cost (take_result env r t) ≤ 30
take_cost env None t = omega arith
take_cost env (Some x) None = omega arith
take_cost env (Some x) (Some t) = by_clean (env.clean x)
  where
    by_number : (n : Option ℕ) → tasks_cost (elim n as (λ w. List Task) [ Some v ↦ take_tasks result_mask_slot result_origin_slot v t | None ↦ [] ]) ≤ 30
    by_number None = omega arith
    by_number (Some v) = omega arith

    by_clean : (b : Bool) → tasks_cost (if b then [] else elim (env.number x) as (λ w. List Task) [ Some v ↦ take_tasks result_mask_slot result_origin_slot v t | None ↦ [] ]) ≤ 30
    by_clean true = omega arith
    by_clean false = by_number (env.number x)

callee_cost : (env : Env) (site root saved : ℕ) (r : Option Name) (t : Option Ty) (own : Bool) (e : Option External) (ts : List Tracked)
    → tasks_cost (callee_tasks env site root saved r t own e ts) ≤ 30
callee_cost env site root saved r t true e ts = take_cost env r t
callee_cost env site root saved r t false None ts = omega arith
callee_cost env site root saved r t false (Some e) ts = external_cost site root saved r e ts

pub plane_cost : (given : Given) (env : Env) (h : Here) (saved : ℕ) (r : Option Name) (o : Op) (ts : List Tracked) → tasks_cost (plane_tasks given env h saved r o ts) ≤ 30
plane_cost given env h saved (Some x) (op.Alloca t u c) ts = omega (arith, widened_cost (width_of u) (word_of (tracked_at 0 ts)))
plane_cost given env h saved None (op.Alloca t u c) ts = omega arith
plane_cost given env h saved r (op.Store t v a) ts = omega (arith, widened_cost (width_of t) (mask_of (tracked_at 0 ts)))
plane_cost given env h saved (Some x) (op.Call q y as') ts = callee_cost env h.site (h.root + count_undefs as' + 1) saved (Some x) q (is_some (given.func y)) (external_named given.func y) ts
plane_cost given env h saved None (op.Call q y as') ts = callee_cost env h.site (h.root + count_undefs as' + 1) saved None q (is_some (given.func y)) (external_named given.func y) ts
plane_cost given env h saved r _ ts = omega arith

-- two slots for each argument
give_cost : (k : ℕ) (ts : List Tracked) → tasks_cost (give_arguments k ts) ≤ 10 * length ts
give_cost k [] = omega arith
give_cost k (t ∷ ts) = let e = give_cost (suc k) ts in omega (arith, e)

pub hand_cost : (func : Name → Option ℕ) (main : Bool) (o : Op) (ts : List Tracked) → tasks_cost (hand_tasks func main o ts) ≤ 10 * length ts
hand_cost func main (op.Call q y as') ts = by_own (is_some (func y))
  where
    by_own : (b : Bool) → tasks_cost (if b then give_arguments 0 ts else []) ≤ 10 * length ts
    by_own true = give_cost 0 ts
    by_own false = omega arith
hand_cost func true (op.Ret v) ts = omega arith
hand_cost func false (op.Ret v) ts = by_words ts
  where
    by_words : (l : List Tracked) → tasks_cost (give_result l) ≤ 10 * length l
    by_words [] = omega arith
    by_words (t ∷ l) = omega arith
hand_cost func main _ ts = omega arith

pub save_cost : (func : Name → Option ℕ) (saved : ℕ) (o : Op) (ts : List Tracked) → tasks_cost (save_tasks func saved o ts) ≤ 5
save_cost func saved (op.Call q y as') ts = by_name (external_named func y)
  where
    by_external : (e : External) → tasks_cost (saved_tasks saved e ts) ≤ 5
    by_external Realloc = omega arith
    by_external _ = omega arith

    by_name : (o : Option External) → tasks_cost (elim o as (λ w. List Task) [ Some e ↦ saved_tasks saved e ts | None ↦ [] ]) ≤ 5
    by_name None = omega arith
    by_name (Some e) = by_external e
save_cost func saved _ ts = omega arith
