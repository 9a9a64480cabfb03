-- What is inserted round an instruction reads and sets no inserted name that is free.
use Rattle.std.proofs.Common.{arith, ℕ, zero, suc, ◌+◌, ◌*◌, ◌<◌, ◌≤◌, List, [], ◌∷◌, ◌++◌, sym, subst, Bool, true, false}
use Rattle.std.specs.Prelude.{if◌then◌else◌, take, drop, eqb, Option, Some, None, is_some}
use Rattle.ms_bits.specs.declared.operations.BinOp.{BinOp}
use Rattle.ms_bits.specs.declared.operations.BinOp.TheVariants as binary
use Rattle.ms_bits.specs.declared.operations.CastOp.{CastOp}
use Rattle.ms_bits.specs.declared.operations.CastOp.TheVariants as cast
use Rattle.ms_bits.specs.declared.operations.Pred.{Pred}
use Rattle.ms_bits.specs.declared.operations.Pred.TheVariants as pred
use Rattle.ms_ir.specs.declared.syntax.Name.{Name}
use Rattle.ms_ir.specs.declared.syntax.Ty.{Ty, Int, Ptr}
use Rattle.ms_ir.specs.declared.syntax.Operand.{Operand}
use Rattle.ms_ir.specs.declared.syntax.Operand.TheVariants as operand
use Rattle.ms_ir.specs.declared.syntax.Op.{Op}
use Rattle.ms_ir.specs.declared.syntax.Op.TheVariants as op
use Rattle.ms_ir.specs.declared.syntax.Inst.{Inst}
use Rattle.ms_ir.specs.Layout.{width_of}
use Rattle.ms_runs.specs.World.{Setting, Here}
use Rattle.ms_ir.specs.Instructions.{operands, one_undef, count_undefs, external_named}
use Rattle.ms_ir.specs.declared.calls.External.{External}
use Rattle.ms_ir.specs.declared.calls.External.TheVariants.{Malloc, Realloc, Memcpy, Memmove, Memset, Read, LlvmMemcpy, LlvmMemmove, LlvmMemset, LifetimeStart, PthreadCreate, PthreadJoin}
use Rattle.ms_runs.specs.Uses.{CheckedUse, Word, Bytes, Line, Asked, uses, has_flag, has_true_flag, flagged_words}
use Rattle.ms_pass_tasks.specs.Tasks.{mask_name, origin_name, Expr, Leaf, Turn, Task, Sets}
use Rattle.ms_pass_tasks.specs.Meaning.{BelowOperand, BelowExpr, BelowExprs, BelowTasks}
use Rattle.ms_pass_tasks.specs.Environments.{Env, Given, Tracked, mask_operand, origin_operand, local_mask, local_origin, tracked, tracked_at, is_zero, mask_of, widened, widened_mask, extended_expr, extended_mask, joined, unknown, bits_at}
use Rattle.ms_bits.specs.declared.word_functions.BitMove.{BitMove}
use Rattle.ms_bits.specs.WordFunctions.{bits_of, is_flagged, move_fn, move_width}
use Rattle.ms_ir.specs.Names.{lookup, externals}
use Rattle.ms_ir.specs.declared.calls.External.TheVariants as called
use Rattle.ms_pass_tasks.proofs.WordReads.{ReadsWord, word_reads, AllRead, args_read}
use Rattle.ms_pass_tasks.specs.CheckTasks.{use_tasks, check_tasks, blind_binary_of, blinded_of, all_zero, union_masks, blind_tasks}
use Rattle.ms_pass_tasks.specs.ResultMasks.{carry_expr, order_expr, compare_expr, turned_expr, cast_expr, sum_expr, address_expr, binary_expr, answer_expr, mask_expr, move_args, last_expr, first_last, answer_origin_expr, origin_expr}
use Rattle.ms_pass_tasks.specs.ResultTasks.{word_tasks, shift_task, define_tasks, move_called, answer_tasks, called_tasks, result_tasks}
use Rattle.ms_pass_tasks.specs.PlaneTasks.{plane_tasks, saves, saved_by, saved_tasks, save_tasks, copy_task, fill_task, external_tasks, callee_tasks}
use Rattle.ms_pass_tasks.specs.Emit.{before_tasks, after_tasks, start}
use Rattle.ms_pass_tasks.specs.SlotTasks.{param_mask, param_origin, result_mask_slot, result_origin_slot, give_tasks, take_tasks, give_arguments, give_result, hand_tasks, take_value, take_result}
use Rattle.ms_pass_tasks.specs.Known.{KnownName, KnownOperand, KnownOperands, KnownResult}
use Rattle.ms_pass_tasks.specs.InstructionLaw.{given_of, Stands}
use Rattle.ms_pass_tasks.proofs.InsertedNames.{own_below, msan_below, mask_below, origin_below}

pub below_append : (base : ℕ) (a b : List Task) → BelowTasks base a → BelowTasks base b → BelowTasks base (a ++ b)
below_append base [] b p q = q
below_append base (t ∷ a) b p q = (p.0, p.1, below_append base a b p.2 q)

below_if : (base : ℕ) (b : Bool) (x y : List Task) → BelowTasks base x → BelowTasks base y → BelowTasks base (if b then x else y)
below_if base true x y p q = p
below_if base false x y p q = q

module _ (env : Env) (size base : ℕ) (room : 2 * size + 1 ≤ base) where
  -- an operand and what stands for its mask and its origin
  record LowTracked (t : Tracked) : Type 0 where
    pub own : BelowOperand base t.operand
    pub mask : BelowOperand base t.mask
    pub origin : BelowOperand base t.origin

  AllLow : List Tracked → Type 0
  AllLow [] = Unit {0}
  AllLow (t ∷ ts) = LowTracked t × AllLow ts

  own_low : (o : Operand) → KnownOperand env size o → BelowOperand base o
  own_low (operand.Local x) k = own_below base x k.own
  own_low _ k = tt

  local_mask_low : (x : Name) → KnownName env size x → BelowOperand base (local_mask env x)
  local_mask_low x k = subst (λ o. BelowOperand base (elim o [ Some v ↦ if env.clean x then operand.Int 0 else operand.Local (mask_name v) | None ↦ operand.Int 0 ])) (sym k.numbered) (by_clean (env.clean x))
    where
      by_clean : (b : Bool) → BelowOperand base (if b then operand.Int 0 else operand.Local (mask_name k.place))
      by_clean true = tt
      by_clean false = mask_below size base k.place room k.below

  local_origin_low : (x : Name) → KnownName env size x → BelowOperand base (local_origin env x)
  local_origin_low x k = subst (λ o. BelowOperand base (elim o [ Some v ↦ if env.clean x then operand.Int 0 else operand.Local (origin_name v) | None ↦ operand.Int 0 ])) (sym k.numbered) (by_clean (env.clean x))
    where
      by_clean : (b : Bool) → BelowOperand base (if b then operand.Int 0 else operand.Local (origin_name k.place))
      by_clean true = tt
      by_clean false = origin_below size base k.place room k.below

  mask_low : (w : ℕ) (o : Operand) → KnownOperand env size o → BelowOperand base (mask_operand env w o)
  mask_low w (operand.Local x) k = local_mask_low x k
  mask_low w operand.Undef k = tt
  mask_low w operand.Poison k = tt
  mask_low w _ k = tt

  origin_low : (root : ℕ) (o : Operand) → KnownOperand env size o → BelowOperand base (origin_operand env root o)
  origin_low root (operand.Local x) k = local_origin_low x k
  origin_low root operand.Undef k = tt
  origin_low root operand.Poison k = tt
  origin_low root _ k = tt

  tracked_low : (root : ℕ) (os : List (Ty × Operand)) → KnownOperands env size os → AllLow (tracked env root os)
  unfolding AllLow
  tracked_low root [] k = tt
  tracked_low root (o ∷ os) k = (
    record { own = own_low o.1 k.1; mask = mask_low (width_of o.0) o.1 k.1; origin = origin_low root o.1 k.1 },
    tracked_low (root + one_undef o.1) os k.2,
  )

  -- a place where no operand stands is low too
  at_low : (n : ℕ) (ts : List Tracked) → AllLow ts → LowTracked (tracked_at n ts)
  unfolding AllLow
  at_low n [] p = record { own = tt; mask = tt; origin = tt }
  at_low zero (t ∷ ts) p = p.0
  at_low (suc n) (t ∷ ts) p = at_low n ts p.1

  widened_low : (w : ℕ) (e : Expr) → BelowExpr base e → BelowExpr base (widened w e)
  widened_low w e p = by_test (eqb w 64)
    where
      by_test : (b : Bool) → BelowExpr base (if b then e else Turn cast.Zext (Int w) e (Int 64))
      by_test true = p
      by_test false = p

  -- ---- checks

  use_low : (site : ℕ) (ts : List Tracked) → AllLow ts → (u : CheckedUse) → BelowTasks base (use_tasks site ts u)
  use_low site ts p (Word kind n) =
      let t = tracked_at n ts in
      let l = at_low n ts p in
      below_if base (is_zero t.mask) _ _ tt (tt, (widened_low (width_of t.ty) (Leaf t.mask) l.mask, (tt, (l.origin, (tt, (tt, (tt, tt)))))), tt)
  use_low site ts p (Bytes kind a n) = (tt, ((at_low a ts p).own, ((at_low n ts p).own, (tt, (tt, tt)))), tt)
  use_low site ts p (Line a) = (tt, ((at_low a ts p).own, (tt, tt)), tt)
  use_low site ts p (Asked a) = (tt, ((at_low 0 ts p).own, (tt, ((at_low a ts p).own, (tt, tt)))), tt)

  checks_low : (site : ℕ) (ts : List Tracked) → AllLow ts → (us : List CheckedUse) → BelowTasks base (check_tasks site ts us)
  checks_low site ts p [] = tt
  checks_low site ts p (u ∷ us) = below_append base (use_tasks site ts u) (check_tasks site ts us) (use_low site ts p u) (checks_low site ts p us)

  -- ---- results

  extended_low : (w : ℕ) (e : Expr) → BelowExpr base e → BelowExpr base (extended_expr w e)
  extended_low w e p = by_test (eqb w 64)
    where
      by_test : (b : Bool) → BelowExpr base (if b then e else Turn cast.Sext (Int w) e (Int 64))
      by_test true = p
      by_test false = p

  bits_low : (t : Ty) (e : Expr) → BelowExpr base e → BelowExpr base (bits_at t e)
  bits_low Ptr e p = p
  bits_low t e p = p

  order_low : (q : Pred) (w : ℕ) (v m u k : Expr) → BelowExpr base v → BelowExpr base m → BelowExpr base u → BelowExpr base k → BelowExpr base (order_expr q w v m u k)
  order_low q w v m u k a b c d = ((((a, b), b), (c, d)), ((a, b), ((c, d), d)))

  compare_low : (q : Pred) (w : ℕ) (v m u k : Expr) → BelowExpr base v → BelowExpr base m → BelowExpr base u → BelowExpr base k → BelowExpr base (compare_expr q w v m u k)
  compare_low pred.Eq w v m u k a b c d = ((((a, c), (b, d)), (b, d)), ((b, d), tt))
  compare_low pred.Ne w v m u k a b c d = ((((a, c), (b, d)), (b, d)), ((b, d), tt))
  compare_low pred.Ugt w v m u k a b c d = order_low pred.Ult w u k v m c d a b
  compare_low pred.Uge w v m u k a b c d = order_low pred.Ule w u k v m c d a b
  compare_low pred.Ult w v m u k a b c d = order_low pred.Ult w v m u k a b c d
  compare_low pred.Ule w v m u k a b c d = order_low pred.Ule w v m u k a b c d
  compare_low pred.Sgt w v m u k a b c d = order_low pred.Ult w (turned_expr w u) k (turned_expr w v) m (c, tt) d (a, tt) b
  compare_low pred.Sge w v m u k a b c d = order_low pred.Ule w (turned_expr w u) k (turned_expr w v) m (c, tt) d (a, tt) b
  compare_low pred.Slt w v m u k a b c d = order_low pred.Ult w (turned_expr w v) m (turned_expr w u) k (a, tt) b (c, tt) d
  compare_low pred.Sle w v m u k a b c d = order_low pred.Ule w (turned_expr w v) m (turned_expr w u) k (a, tt) b (c, tt) d

  cast_low : (o : CastOp) (w to : ℕ) (m : Expr) → BelowExpr base m → BelowExpr base (cast_expr o w to m)
  cast_low cast.Trunc w to m p = p
  cast_low cast.Zext w to m p = p
  cast_low cast.Sext w to m p = p
  cast_low cast.PtrToInt w to m p = by_test (eqb to 64)
    where
      by_test : (b : Bool) → BelowExpr base (if b then m else Turn cast.Trunc (Int w) m (Int to))
      by_test true = p
      by_test false = p
  cast_low cast.IntToPtr w to m p = widened_low w m p
  cast_low cast.Bitcast w to m p = p

  low_if : (b : Bool) (x y : List Tracked) → AllLow x → AllLow y → AllLow (if b then x else y)
  low_if true x y p q = p
  low_if false x y p q = q

  unknown_low : (ts : List Tracked) → AllLow ts → AllLow (unknown ts)
  unfolding AllLow
  unknown_low [] p = tt
  unknown_low (t ∷ ts) p = low_if (is_zero t.mask) (unknown ts) (t ∷ unknown ts) (unknown_low ts p.1) (p.0, unknown_low ts p.1)

  joined_low : (ty : Ty) (f : Tracked → Expr) → ((t : Tracked) → LowTracked t → BelowExpr base (f t)) → (ts : List Tracked) → AllLow ts → BelowExpr base (joined ty f ts)
  unfolding AllLow
  joined_low ty f low [] p = tt
  joined_low ty f low (t ∷ []) p = low t p.0
  joined_low ty f low (t ∷ u ∷ us) p = (low t p.0, joined_low ty f low (u ∷ us) p.1)

  later_low : (ts : List Tracked) → AllLow ts → AllLow (drop 1 ts)
  unfolding AllLow
  later_low [] p = tt
  later_low (t ∷ ts) p = p.1

  take_low : (ts : List Tracked) → AllLow ts → AllLow (take 1 ts)
  unfolding AllLow
  take_low [] p = tt
  take_low (t ∷ ts) p = (p.0, tt)

  carry_low : (t : Ty) (e : Expr) → BelowExpr base e → BelowExpr base (carry_expr t e)
  carry_low t e p = (p, (tt, p))

  sum_low : (w : ℕ) (a b : Tracked) → LowTracked a → LowTracked b → BelowExpr base (sum_expr w (a ∷ b ∷ []))
  unfolding AllLow
  sum_low w a b p q = carry_low (Int w) (joined (Int w) mask_of (unknown (a ∷ b ∷ []))) (joined_low (Int w) mask_of (λ t l. l.mask) (unknown (a ∷ b ∷ [])) (unknown_low (a ∷ b ∷ []) (p, (q, tt))))

  address_low : (ts : List Tracked) → AllLow ts → BelowExpr base (address_expr ts)
  address_low ts p = carry_low (Int 64) (joined (Int 64) extended_mask (unknown ts)) (joined_low (Int 64) extended_mask (λ t l. extended_low (width_of t.ty) (Leaf t.mask) l.mask) (unknown ts) (unknown_low ts p))

  binary_low : (o : BinOp) (w : ℕ) (a b : Tracked) → LowTracked a → LowTracked b → BelowExpr base (binary_expr o w a b)
  binary_low binary.And w a b p q = (((p.own, p.mask), (q.own, q.mask)), (p.mask, q.mask))
  binary_low binary.Or w a b p q = ((((p.own, tt), p.mask), ((q.own, tt), q.mask)), (p.mask, q.mask))
  binary_low binary.Xor w a b p q = (p.mask, q.mask)
  binary_low binary.Add w a b p q = sum_low w a b p q
  binary_low binary.Sub w a b p q = sum_low w a b p q
  binary_low binary.Mul w a b p q = sum_low w a b p q
  binary_low _ w a b p q = p.mask

  mask_expr_low : (o : Op) (ts : List Tracked) → AllLow ts → BelowExpr base (mask_expr o ts)
  mask_expr_low (op.Binary o f t a b) ts p = binary_low o (width_of t) _ _ (at_low 0 ts p) (at_low 1 ts p)
  mask_expr_low (op.Icmp q f t a b) ts p =
      let x = at_low 0 ts p in let y = at_low 1 ts p in
      compare_low q (width_of t) _ _ _ _ (bits_low (tracked_at 0 ts).ty (Leaf (tracked_at 0 ts).operand) x.own) x.mask (bits_low (tracked_at 1 ts).ty (Leaf (tracked_at 1 ts).operand) y.own) y.mask
  mask_expr_low (op.Cast o f t a u) ts p = cast_low o (width_of t) (width_of u) _ (at_low 0 ts p).mask
  mask_expr_low (op.Select c t a b) ts p =
      let k = at_low 0 ts p in let x = at_low 1 ts p in let y = at_low 2 ts p in
      let v = bits_low (tracked_at 1 ts).ty (Leaf (tracked_at 1 ts).operand) x.own in
      let u = bits_low (tracked_at 2 ts).ty (Leaf (tracked_at 2 ts).operand) y.own in
      (k.mask, (((v, u), x.mask), y.mask), (k.own, x.mask, y.mask))
  mask_expr_low (op.Gep t a is) ts p = address_low ts p
  mask_expr_low (op.Call ret callee args) ts p = by_external (lookup externals callee)
    where
      words : (k : ℕ) → ReadsWord (BelowOperand base) (λ n. tt) (tracked_at k ts)
      words k = let x = at_low k ts p in record { own = x.own; mask = x.mask }

      by_external : (e : Option External) → BelowExpr base (answer_expr e ts)
      by_external None = tt
      by_external (Some (called.Word f n)) = word_reads (BelowOperand base) (λ n. tt) f (bits_of n) (tracked_at 0 ts) (tracked_at 1 ts) (tracked_at 2 ts) (words 0) (words 1) (words 2)
      by_external (Some e) = tt
  mask_expr_low _ ts p = tt

  last_low : (ts : List Tracked) → AllLow ts → (best : Expr) → BelowExpr base best → BelowExpr base (last_expr ts best)
  unfolding AllLow
  last_low [] p best q = q
  last_low (t ∷ ts) p best q = last_low ts p.1 _ ((p.0.mask, tt), p.0.origin, q)

  first_low : (ts : List Tracked) → AllLow ts → BelowExpr base (first_last ts)
  unfolding AllLow
  first_low [] p = tt
  first_low (t ∷ ts) p = last_low ts p.1 (Leaf t.origin) p.0.origin

  origin_expr_low : (o : Op) (ts : List Tracked) → AllLow ts → BelowExpr base (origin_expr o ts)
  origin_expr_low (op.Binary o f t a b) ts p = first_low ts p
  origin_expr_low (op.Icmp q f t a b) ts p = first_low ts p
  origin_expr_low (op.Cast o f t a u) ts p = first_low ts p
  origin_expr_low (op.Select c t a b) ts p = let k = at_low 0 ts p in (k.mask, k.origin, (k.own, (at_low 1 ts p).origin, (at_low 2 ts p).origin))
  origin_expr_low (op.Gep t a is) ts p = first_low ts p
  origin_expr_low (op.Call ret callee args) ts p = by_external (lookup externals callee)
    where
      by_external : (e : Option External) → BelowExpr base (answer_origin_expr e ts)
      by_external None = tt
      by_external (Some (called.Word f n)) = first_low ts p
      by_external (Some e) = tt
  origin_expr_low _ ts p = tt

  word_low : (v : ℕ) (o : Op) (ts : List Tracked) → v < size → AllLow ts → BelowTasks base (word_tasks (mask_name v) (origin_name v) o ts)
  word_low v o ts less p = (origin_below size base v room less, origin_expr_low o ts p, (mask_below size base v room less, mask_expr_low o ts p, tt))

  shift_low : (v w : ℕ) (b : BinOp) (o : Op) (ts : List Tracked) → v < size → AllLow ts
      → BelowTasks base (Sets (origin_name v) (Int 32) (origin_expr o ts) ∷ shift_task (mask_name v) b w (tracked_at 0 ts) (tracked_at 1 ts) ∷ [])
  shift_low v w b o ts less p =
      let x = at_low 0 ts p in let y = at_low 1 ts p in (
        origin_below size base v room less,
        origin_expr_low o ts p,
        (mask_below size base v room less, (((y.mask, tt), tt, x.mask), (((y.mask, tt), tt, y.own), tt)), tt),
      )

  exprs_low : (es : List (Ty × Expr)) → AllRead (BelowOperand base) (λ n. tt) es → BelowExprs base es
  exprs_low [] p = tt
  exprs_low (e ∷ es) p = (p.0, exprs_low es p.1)

  moved_low : (k : Option BitMove) (v : ℕ) (o : Op) (ts : List Tracked) → v < size → AllLow ts → BelowTasks base (answer_tasks (mask_name v) (origin_name v) k o ts)
  moved_low None v o ts less p = word_low v o ts less p
  moved_low (Some k) v o ts less p = (
    origin_below size base v room less,
    origin_expr_low o ts p,
    (mask_below size base v room less, exprs_low (move_args k ts) (args_read (BelowOperand base) (λ n. tt) (move_fn k) (bits_of (move_width k)) (tracked_at 0 ts) (tracked_at 1 ts) (tracked_at 2 ts) (words 0) (words 1) (words 2)), tt),
  )
    where
      words : (k : ℕ) → ReadsWord (BelowOperand base) (λ n. tt) (tracked_at k ts)
      words k = let x = at_low k ts p in record { own = x.own; mask = x.mask }

  called_low : (b : Bool) (v : ℕ) (o : Op) (ts : List Tracked) → v < size → AllLow ts → BelowTasks base (called_tasks b v o ts)
  called_low true v o ts less p = tt
  called_low false v o ts less p = moved_low (move_called o) v o ts less p

  define_low : (func : Name → Option ℕ) (v : ℕ) (o : Op) (ts : List Tracked) → v < size → AllLow ts → BelowTasks base (define_tasks func v o ts)
  define_low func v (op.Call ret callee args) ts less p = called_low (is_some (func callee)) v (op.Call ret callee args) ts less p
  define_low func v (op.Binary binary.Shl f t a b) ts less p = shift_low v (width_of t) binary.Shl (op.Binary binary.Shl f t a b) ts less p
  define_low func v (op.Binary binary.Lshr f t a b) ts less p = shift_low v (width_of t) binary.Lshr (op.Binary binary.Lshr f t a b) ts less p
  define_low func v (op.Binary binary.Ashr f t a b) ts less p = shift_low v (width_of t) binary.Ashr (op.Binary binary.Ashr f t a b) ts less p
  define_low func v (op.Binary o f t a b) ts less p = word_low v (op.Binary o f t a b) ts less p
  define_low func v (op.Icmp q f t a b) ts less p = word_low v (op.Icmp q f t a b) ts less p
  define_low func v (op.Cast o f t a u) ts less p = word_low v (op.Cast o f t a u) ts less p
  define_low func v (op.Select c t a b) ts less p = word_low v (op.Select c t a b) ts less p
  define_low func v (op.Freeze t a) ts less p = word_low v (op.Freeze t a) ts less p
  define_low func v (op.Gep t a is) ts less p = word_low v (op.Gep t a is) ts less p
  define_low func v (op.Alloca t u c) ts less p = word_low v (op.Alloca t u c) ts less p
  define_low func v (op.Load t a) ts less p =
      let x = at_low 0 ts p in
      let m = mask_below size base v room less in
      (m, ((x.own, tt), tt), (origin_below size base v room less, (x.own, (widened_low (width_of t) (Leaf (operand.Local (mask_name v))) m, tt)), tt))
  define_low func v _ ts less p = tt

  -- ---- blind uses

  masks_low : (ts : List Tracked) → AllLow ts → BelowExpr base (union_masks ts)
  masks_low ts p = joined_low (Int 64) widened_mask (λ t l. widened_low (width_of t.ty) (Leaf t.mask) l.mask) (unknown ts) (unknown_low ts p)

  blinded_low : (func : Name → Option ℕ) (o : Op) (ts : List Tracked) → AllLow ts → AllLow (blinded_of func o ts)
  unfolding AllLow
  blinded_low func (op.Binary o f t a b) ts p = low_if (has_flag f) ts (blind_binary_of o ts) p (by_op o)
    where
      by_op : (o : BinOp) → AllLow (blind_binary_of o ts)
      by_op binary.Udiv = take_low ts p
      by_op binary.Sdiv = take_low ts p
      by_op binary.Urem = take_low ts p
      by_op binary.Srem = take_low ts p
      by_op binary.Shl = later_low ts p
      by_op binary.Lshr = later_low ts p
      by_op binary.Ashr = later_low ts p
      by_op _ = tt
  blinded_low func (op.Icmp q f t a b) ts p = low_if (has_flag f) ts [] p tt
  blinded_low func (op.Cast o f t a u) ts p = low_if (has_flag f) ts [] p tt
  blinded_low func (op.Freeze t a) ts p = p
  blinded_low func (op.Call ret callee args) ts p = low_if (has_true_flag args) (flagged_words (external_named func callee) ts) [] (by_external (external_named func callee)) tt
    where
      by_external : (e : Option External) → AllLow (flagged_words e ts)
      by_external None = tt
      by_external (Some (called.Word f n)) = low_if (is_flagged f) (take 1 ts) [] (take_low ts p) tt
      by_external (Some e) = tt
  blinded_low func _ ts p = tt

  blind_low : (ts : List Tracked) → AllLow ts → BelowTasks base (blind_tasks ts)
  blind_low ts p = below_if base (all_zero ts) _ _ tt (tt, (masks_low ts p, tt), tt)

  result_low : (func : Name → Option ℕ) (x : Option Name) (o : Op) (ts : List Tracked) → KnownResult env size x → AllLow ts → BelowTasks base (result_tasks func env x o ts)
  result_low func None o ts k p = tt
  result_low func (Some x) o ts k p = below_if base (env.clean x) _ _ tt
      (subst (λ n. BelowTasks base (elim n [ Some v ↦ define_tasks func v o ts | None ↦ [] ])) (sym k.numbered) (define_low func k.place o ts k.below p))

  -- ---- slots

  give_low : (mask origin : Operand) (t : Tracked) → BelowOperand base mask → BelowOperand base origin → LowTracked t → BelowTasks base (give_tasks mask origin t)
  give_low mask origin t p q l = (tt, (l.mask, (p, tt)), (tt, (l.origin, (q, tt)), tt))

  arguments_low : (k : ℕ) (ts : List Tracked) → AllLow ts → BelowTasks base (give_arguments k ts)
  unfolding AllLow
  arguments_low k [] p = tt
  arguments_low k (t ∷ ts) p = below_append base (give_tasks (param_mask k) (param_origin k) t) (give_arguments (suc k) ts) (give_low (param_mask k) (param_origin k) t tt tt p.0) (arguments_low (suc k) ts p.1)

  answer_low : (ts : List Tracked) → AllLow ts → BelowTasks base (give_result ts)
  unfolding AllLow
  answer_low [] p = tt
  answer_low (t ∷ ts) p = give_low result_mask_slot result_origin_slot t tt tt p.0

  hand_low : (func : Name → Option ℕ) (main : Bool) (o : Op) (ts : List Tracked) → AllLow ts → BelowTasks base (hand_tasks func main o ts)
  hand_low func main (op.Call ret callee args) ts p = below_if base (is_some (func callee)) _ _ (arguments_low 0 ts p) tt
  hand_low func main (op.Ret v) ts p = below_if base main _ _ tt (answer_low ts p)
  hand_low func main _ ts p = tt

  pub value_low : (mask origin : Operand) → BelowOperand base mask → BelowOperand base origin → (x : Name) (t : Ty) → KnownName env size x → BelowTasks base (take_value env mask origin x t)
  value_low mask origin p q x t k = below_if base (env.clean x) _ _ tt
      (subst (λ n. BelowTasks base (elim n [ Some v ↦ take_tasks mask origin v t | None ↦ [] ])) (sym k.numbered)
      (mask_below size base k.place room k.below, (p, tt), (origin_below size base k.place room k.below, (q, tt), tt)))

  taken_low : (x : Option Name) (ret : Option Ty) → KnownResult env size x → BelowTasks base (take_result env x ret)
  taken_low (Some x) (Some t) k = value_low result_mask_slot result_origin_slot tt tt x t k
  taken_low (Some x) None k = tt
  taken_low None ret k = tt

  -- ---- memory

  saved_low : (saved : ℕ) (e : External) (ts : List Tracked) → saved + saved_by e ≤ base → AllLow ts → BelowTasks base (saved_tasks saved e ts)
  saved_low saved Realloc ts le p = (msan_below base saved (omega arith), ((at_low 0 ts p).own, tt), tt)
  saved_low saved _ ts le p = tt

  save_low : (func : Name → Option ℕ) (saved : ℕ) (o : Op) (ts : List Tracked) → saved + saves func o ≤ base → AllLow ts → BelowTasks base (save_tasks func saved o ts)
  save_low func saved (op.Call ret callee args) ts le p = by_callee (external_named func callee) le
    where
      by_callee : (e : Option External) → saved + elim e [ Some e ↦ saved_by e | None ↦ 0 ] ≤ base → BelowTasks base (elim e [ Some e ↦ saved_tasks saved e ts | None ↦ [] ])
      by_callee None le = tt
      by_callee (Some e) le = saved_low saved e ts le p
  save_low func saved _ ts le p = tt

  copy_low : (a b c : Tracked) → LowTracked a → LowTracked b → LowTracked c → BelowTasks base (copy_task a b c)
  copy_low a b c p q r = (tt, (p.own, (q.own, (r.own, tt))), tt)

  fill_low : (site : ℕ) (a b c : Tracked) → LowTracked a → LowTracked b → LowTracked c → BelowTasks base (fill_task site a b c)
  fill_low site a b c p q r = (tt, (p.own, (r.own, (widened_low (width_of b.ty) (Leaf b.mask) q.mask, (q.origin, (tt, tt))))), tt)

  outside_low : (site root saved : ℕ) (x : Option Name) (e : External) (ts : List Tracked) → saved + saved_by e ≤ base → KnownResult env size x → AllLow ts
      → BelowTasks base (external_tasks site root saved x e ts)
  outside_low site root saved (Some x) Malloc ts le k p = (tt, (own_below base x k.own, (tt, ((at_low 0 ts p).own, (tt, tt)))), tt)
  outside_low site root saved (Some x) Realloc ts le k p = (tt, (own_below base x k.own, (msan_below base saved (omega arith), ((at_low 1 ts p).own, (tt, tt)))), tt)
  outside_low site root saved (Some x) Read ts le k p = (tt, ((at_low 1 ts p).own, (own_below base x k.own, tt)), tt)
  outside_low site root saved (Some x) PthreadCreate ts le k p = (tt, ((at_low 0 ts p).own, (((own_below base x k.own, tt), tt, tt), tt)), tt)
  outside_low site root saved (Some x) PthreadJoin ts le k p = (tt, ((at_low 1 ts p).own, ((at_low 0 ts p).own, (own_below base x k.own, (tt, tt)))), tt)
  outside_low site root saved None Malloc ts le k p = tt
  outside_low site root saved None Realloc ts le k p = tt
  outside_low site root saved None Read ts le k p = tt
  outside_low site root saved None PthreadCreate ts le k p = tt
  outside_low site root saved None PthreadJoin ts le k p = tt
  outside_low site root saved r LifetimeStart ts le k p = (tt, ((at_low 1 ts p).own, (tt, ((at_low 0 ts p).own, (tt, tt)))), tt)
  outside_low site root saved r Memcpy ts le k p = copy_low (tracked_at 0 ts) (tracked_at 1 ts) (tracked_at 2 ts) (at_low 0 ts p) (at_low 1 ts p) (at_low 2 ts p)
  outside_low site root saved r Memmove ts le k p = copy_low (tracked_at 0 ts) (tracked_at 1 ts) (tracked_at 2 ts) (at_low 0 ts p) (at_low 1 ts p) (at_low 2 ts p)
  outside_low site root saved r LlvmMemcpy ts le k p = copy_low (tracked_at 0 ts) (tracked_at 1 ts) (tracked_at 2 ts) (at_low 0 ts p) (at_low 1 ts p) (at_low 2 ts p)
  outside_low site root saved r LlvmMemmove ts le k p = copy_low (tracked_at 0 ts) (tracked_at 1 ts) (tracked_at 2 ts) (at_low 0 ts p) (at_low 1 ts p) (at_low 2 ts p)
  outside_low site root saved r Memset ts le k p = fill_low site (tracked_at 0 ts) (tracked_at 1 ts) (tracked_at 2 ts) (at_low 0 ts p) (at_low 1 ts p) (at_low 2 ts p)
  outside_low site root saved r LlvmMemset ts le k p = fill_low site (tracked_at 0 ts) (tracked_at 1 ts) (tracked_at 2 ts) (at_low 0 ts p) (at_low 1 ts p) (at_low 2 ts p)
  outside_low site root saved r _ ts le k p = tt

  callee_low : (site root saved : ℕ) (x : Option Name) (ret : Option Ty) (own : Bool) (e : Option External) (ts : List Tracked)
      → saved + elim e [ Some e ↦ saved_by e | None ↦ 0 ] ≤ base → KnownResult env size x → AllLow ts → BelowTasks base (callee_tasks env site root saved x ret own e ts)
  callee_low site root saved x ret true e ts le k p = taken_low x ret k
  callee_low site root saved x ret false None ts le k p = tt
  callee_low site root saved x ret false (Some e) ts le k p = outside_low site root saved x e ts le k p

  plane_low : (given : Given) (h : Here) (saved : ℕ) (x : Option Name) (o : Op) (ts : List Tracked) → saved + saves given.func o ≤ base → KnownResult env size x → AllLow ts → BelowTasks base (plane_tasks given env h saved x o ts)
  plane_low given h saved (Some x) (op.Alloca t u count) ts le k p = (tt, (own_below base x k.own, (tt, ((tt, widened_low (width_of u) (Leaf (tracked_at 0 ts).operand) (at_low 0 ts p).own), (tt, tt)))), tt)
  plane_low given h saved x (op.Store t v a) ts le k p =
      let y = at_low 0 ts p in
      let z = at_low 1 ts p in
      (tt, (y.mask, ((z.own, tt), tt)), (tt, (z.own, (widened_low (width_of t) (Leaf (tracked_at 0 ts).mask) y.mask, (y.origin, (tt, tt)))), tt))
  plane_low given h saved x (op.Call ret callee args) ts le k p = callee_low h.site (h.root + count_undefs args + 1) saved x ret (is_some (given.func callee)) (external_named given.func callee) ts le k p
  plane_low given h saved x _ ts le k p = tt

-- ---- all of one instruction

pub before_low : (s : Setting) (env : Env) (size saved : ℕ) (h : Here) (i : Inst) → Stands s env size saved h i → BelowTasks (start (given_of s) i saved) (before_tasks (given_of s) env h i saved)
before_low s env size saved h i st =
    let base = start (given_of s) i saved in
    let room : 2 * size + 1 ≤ base = omega (arith, st.room) in
    let ts = tracked env h.root (operands i.op) in
    let low = tracked_low env size base room h.root (operands i.op) st.known.reads in
    below_append base (hand_tasks s.func h.main i.op ts) _ (hand_low env size base room s.func h.main i.op ts low)
    (below_append base (check_tasks h.site ts (uses s.func h.main i.op)) _
    (checks_low env size base room h.site ts low (uses s.func h.main i.op))
    (below_append base (blind_tasks (blinded_of s.func i.op ts)) _
    (blind_low env size base room (blinded_of s.func i.op ts) (blinded_low env size base room s.func i.op ts low))
    (below_append base (result_tasks s.func env i.result i.op ts) (save_tasks s.func saved i.op ts)
    (result_low env size base room s.func i.result i.op ts st.known.named low)
    (save_low env size base room s.func saved i.op ts (omega arith) low))))

pub after_low : (s : Setting) (env : Env) (size saved base : ℕ) (h : Here) (i : Inst) → Stands s env size saved h i → saved + saves s.func i.op ≤ base
    → BelowTasks base (after_tasks (given_of s) env h i saved)
after_low s env size saved base h i st le =
    let room : 2 * size + 1 ≤ base = omega (arith, st.room) in
    plane_low env size base room (given_of s) h saved i.result i.op (tracked env h.root (operands i.op)) le st.known.named
    (tracked_low env size base room h.root (operands i.op) st.known.reads)
