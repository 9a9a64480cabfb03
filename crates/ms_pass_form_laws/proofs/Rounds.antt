-- What is inserted round an instruction fits.
use Rattle.std.proofs.Common.{◌≡◌, ◌<◌, ◌≤◌, ℕ, zero, suc, ◌+◌, ◌*◌, ◌^◌, List, [], ◌∷◌, ◌++◌, Bool, true, false, Option, Some, None, refl, sym, ap, subst, ◌∙◌, arith, inl, inr}
use Rattle.std.specs.Prelude.{if◌then◌else◌, map, take, drop, length, slice_get, unwrap_or, is_some}
use Rattle.std.specs.List.{list_all}
use Rattle.std.proofs.Math.Path.{ap₂}
use Rattle.std.proofs.lemmas.Bool.{and_parts}
use Rattle.ms_bits.specs.declared.operations.Flags.{Flags}
use Rattle.ms_bits.specs.declared.operations.BinOp.{BinOp}
use Rattle.ms_bits.specs.declared.operations.BinOp.TheVariants as binary
use Rattle.ms_ir.specs.declared.syntax.Name.{Name}
use Rattle.ms_ir.specs.declared.syntax.Ty.{Ty, Int, Ptr, Array', Struct', Named}
use Rattle.ms_ir.specs.declared.syntax.Operand.{Operand}
use Rattle.ms_ir.specs.declared.syntax.Operand.TheVariants as operand
use Rattle.ms_ir.specs.declared.syntax.Op.{Op}
use Rattle.ms_ir.specs.declared.syntax.Op.TheVariants as op
use Rattle.ms_ir.specs.declared.syntax.Inst.{Inst}
use Rattle.ms_ir.specs.declared.calls.RuntimeFn.TheVariants as function
use Rattle.ms_ir.specs.Layout.{width_of, size_in}
use Rattle.ms_runs.specs.World.{Here}
use Rattle.ms_ir.specs.Instructions.{operands, count_undefs, one_undef, external_named}
use Rattle.ms_ir.specs.Written.{result_type}
use Rattle.ms_ir.specs.Signatures.{external_signature, word_params, called_params}
use Rattle.ms_ir.specs.declared.calls.External.{External}
use Rattle.ms_ir.specs.declared.calls.External.TheVariants.{Malloc, Realloc, Memcpy, Memmove, Memset, Read, LlvmMemcpy, LlvmMemmove, LlvmMemset, LifetimeStart, PthreadCreate, PthreadJoin}
use Rattle.ms_runs.specs.Uses.{CheckedUse, Word, Bytes, Line, uses, has_flag, has_true_flag, flagged_words, Asked}
use Rattle.ms_check_valid.specs.FormedCode.{is_int_type, is_value_type}
use Rattle.ms_pass_tasks.specs.Tasks.{msan_name, mask_name, origin_name, Expr, Leaf, Task, Sets, Fetches, Puts, Calls}
use Rattle.ms_pass_tasks.specs.Environments.{Env, Given, Tracked, mask_type, tracked, tracked_at, mask_of, origin_of, word_of, bits_of, widened, number, is_zero}
use Rattle.ms_pass_tasks.specs.ResultMasks.{word_expr, answer_expr, mask_expr, move_args, answer_origin_expr, origin_expr, first_last}
use Rattle.ms_bits.specs.declared.word_functions.BitMove.{BitMove}
use Rattle.ms_bits.specs.WordFunctions.{is_flagged, move_fn, move_width, bits_of as width_bits}
use Rattle.ms_bits_laws.proofs.WordAgreement.{width_some}
use Rattle.ms_ir.specs.declared.calls.External.TheVariants as called
use Rattle.ms_ir.specs.Names.{lookup, externals}
use Rattle.ms_pass_form_laws.proofs.WordTypes.{width_int, typed_at, word_typed, moved_shape, moved_typed}
use Rattle.ms_pass_tasks.proofs.WordExprs.{Moving}
use Rattle.ms_pass_tasks.proofs.WordMasks.{move_is, no_move}
use Rattle.ms_pass_tasks.specs.ResultTasks.{result_width, external_move, answer_tasks, called_tasks, shift_task, word_tasks, binary_tasks, shadow_address, define_tasks, result_tasks}
use Rattle.ms_pass_tasks.specs.CheckTasks.{memory_task, string_task, check_task, use_tasks, check_tasks, blind_binary_of, blinded_of, all_zero, union_masks, blind_tasks, format_task}
use Rattle.ms_pass_tasks.specs.PlaneTasks.{saves, saved_by, saved_tasks, poison_task, copy_task, fill_task, external_tasks, callee_tasks, plane_tasks, save_tasks}
use Rattle.ms_pass_tasks.specs.Emit.{before_tasks}
use Rattle.ms_pass_tasks.specs.SlotTasks.{hand_tasks, give_result, give_tasks, give_arguments, take_tasks, take_value, take_result, take_parameters, param_mask, param_origin, result_mask_slot, result_origin_slot}
use Rattle.ms_pass_form_laws.proofs.Checked.{Allowed, IsInt, OperandFits, Typed, TaskFits, sets, TasksFit}
use Rattle.ms_pass_form_laws.proofs.Emitted.{TrackedFits, AllTracked, CallGood, OpGood, MovesGood}
use Rattle.ms_pass_form_laws.proofs.Lists.{typed_more, all_more, operand_more, tasks_more}
use Rattle.ms_pass_form_laws.proofs.Words.{number_fits, no_bits, all_bits, wide, widened_typed, set_typed, bits_typed, address_typed, address_mask_typed, binary_typed, compare_typed, select_typed, cast_typed, union_masks_typed, first_last_typed}

-- an operand has a type
abbrev pub TypeAt : List (Ty × Operand) → ℕ → Ty → Type 0
TypeAt os k t = slice_get (map (λ o. o.0) os) k ≡ Some t

-- numbers of 32 bits in the uses that are checked, and operands of the types that are wanted
abbrev pub SmallUse : List (Ty × Operand) → CheckedUse → Type 0
SmallUse os (Word kind k) = (kind < 2 ^ 32) × (k < 2 ^ 32)
SmallUse os (Bytes kind a n) = (kind < 2 ^ 32) × TypeAt os a Ptr × TypeAt os n (Int 64)
SmallUse os (Line a) = TypeAt os a Ptr
SmallUse os (Asked a) = TypeAt os 0 Ptr × TypeAt os a Ptr × (a < 2 ^ 32)

abbrev pub SmallUses : List (Ty × Operand) → List CheckedUse → Type 0
SmallUses os [] = Unit {0}
SmallUses os (u ∷ us) = SmallUse os u × SmallUses os us

-- the slots may stand
pub record SlotsGood (C : Allowed) : Type 0 where
  pub mask : C.const Ptr result_mask_slot
  pub origin : C.const Ptr result_origin_slot
  pub masks : (k : ℕ) → k < 100 → C.const Ptr (param_mask k)
  pub origins : (k : ℕ) → k < 100 → C.const Ptr (param_origin k)

module _ (C : Allowed) where
  -- tasks in two parts, of which the second needs nothing of the first
  pub apart : (K : Name → Ty → Type 0) (a b : List Task) → TasksFit K C a → ((L : Name → Ty → Type 0) → ((x : Name) (t : Ty) → K x t → L x t) → TasksFit L C b) → TasksFit K C (a ++ b)
  apart K [] b p q = q K (λ x t k. k)
  apart K (t ∷ a) b p q = (p.0, apart (sets K t) a b p.1 (λ L h. q L (λ x u k. h x u (inl k))))

  tracked_more : (K L : Name → Ty → Type 0) → ((x : Name) (t : Ty) → K x t → L x t) → (t : Tracked) → TrackedFits K C t → TrackedFits L C t
  tracked_more K L h t p = record {
    value = p.value;
    own = operand_more C K L h t.ty t.operand p.own;
    mask = operand_more C K L h (mask_type t.ty) t.mask p.mask;
    origin = operand_more C K L h (Int 32) t.origin p.origin;
  }

  pub all_tracked_more : (K L : Name → Ty → Type 0) → ((x : Name) (t : Ty) → K x t → L x t) → (ts : List Tracked) → AllTracked K C ts → AllTracked L C ts
  all_tracked_more K L h [] p = tt
  all_tracked_more K L h (t ∷ ts) p = (tracked_more K L h t p.0, all_tracked_more K L h ts p.1)

  -- ---- checks

  width_fits : (t : Ty) → is_value_type t ≡ true → width_of t < 2 ^ 32
  width_fits (Int w) h = few w h
    where
      few : (n : ℕ) → is_int_type (Int n) ≡ true → n < 2 ^ 32
      few n g = grind arith
  width_fits Ptr h = omega arith
  width_fits (Array' n s t) h = grind arith
  width_fits (Struct' q s t) h = grind arith
  width_fits (Named x) h = grind arith

  check_fits : (K : Name → Ty → Type 0) (site kind part : ℕ) (t : Tracked) → TrackedFits K C t → site < 2 ^ 32 → kind < 2 ^ 32 → part < 2 ^ 32 → TaskFits K C (check_task site kind part t)
  check_fits K site kind part t p s k n = record {
    shape = refl;
    calls = tt;
    words = (
      widened_typed C K (width_of t.ty) (mask_of t) (wide t.ty p.value) p.mask,
      (
        number_fits 32 (width_of t.ty) refl (width_fits t.ty p.value),
        (p.origin, (number_fits 32 kind refl k, (number_fits 32 part refl n, (number_fits 32 site refl s, tt)))),
      ),
    );
    gives = tt;
  }

  unless_zero : (K : Name → Ty → Type 0) (b : Bool) (t : Task) → TaskFits K C t → TasksFit K C (if b then [] else t ∷ [])
  unless_zero K true t p = tt
  unless_zero K false t p = (p, tt)

  word_use : (K : Name → Ty → Type 0) (site kind part n : ℕ) (ts : List Tracked) → AllTracked K C ts → site < 2 ^ 32 → kind < 2 ^ 32 → part < 2 ^ 32
      → TasksFit K C (if is_zero (tracked_at n ts).mask then [] else check_task site kind part (tracked_at n ts) ∷ [])
  word_use K site kind part n [] p s k m = tt
  word_use K site kind part zero (t ∷ ts) p s k m = unless_zero K (is_zero t.mask) (check_task site kind part t) (check_fits K site kind part t p.0 s k m)
  word_use K site kind part (suc n) (t ∷ ts) p s k m = word_use K site kind part n ts p.1 s k m

  -- an operand by its place
  pub record AtFits (K : Name → Ty → Type 0) (t : Ty) (x : Tracked) : Type 0 where
    pub same : x.ty ≡ t
    pub all : TrackedFits K C x

  nth_fits : (K : Name → Ty → Type 0) (env : Env) (k root : ℕ) (os : List (Ty × Operand)) (t : Ty) → AllTracked K C (tracked env root os) → TypeAt os k t
      → AtFits K t (tracked_at k (tracked env root os))
  nth_fits K env k root [] t p e = grind arith
  nth_fits K env zero root (o ∷ os) t p e = record { same = ap (λ q. unwrap_or q o.0) e; all = p.0 }
  nth_fits K env (suc k) root (o ∷ os) t p e = nth_fits K env k (root + one_undef o.1) os t p.1 e

  nth_word : (K : Name → Ty → Type 0) (env : Env) (k root : ℕ) (os : List (Ty × Operand)) (t : Ty) → AllTracked K C (tracked env root os) → TypeAt os k t
      → Typed K C t (word_of (tracked_at k (tracked env root os)))
  nth_word K env k root os t p e =
      let a = nth_fits K env k root os t p e in subst (λ u. OperandFits K C u (tracked_at k (tracked env root os)).operand) a.same a.all.own

  memory_fits : (K : Name → Ty → Type 0) (site kind : ℕ) (a n : Tracked) → Typed K C Ptr (word_of a) → Typed K C (Int 64) (word_of n) → site < 2 ^ 32 → kind < 2 ^ 32
      → TaskFits K C (memory_task site kind a n)
  memory_fits K site kind a n p q s k = record { shape = refl; calls = tt; words = (p, (q, (number_fits 32 kind refl k, (number_fits 32 site refl s, tt)))); gives = tt }

  string_fits : (K : Name → Ty → Type 0) (site : ℕ) (a : Tracked) → Typed K C Ptr (word_of a) → site < 2 ^ 32 → TaskFits K C (string_task site a)
  string_fits K site a p s = record { shape = refl; calls = tt; words = (p, (number_fits 32 site refl s, tt)); gives = tt }

  format_fits : (K : Name → Ty → Type 0) (site k : ℕ) (f a : Tracked) → Typed K C Ptr (word_of f) → Typed K C Ptr (word_of a) → site < 2 ^ 32 → k < 2 ^ 32 → TaskFits K C (format_task site k f a)
  format_fits K site k f a p q s l = record { shape = refl; calls = tt; words = (p, (number_fits 32 k refl l, (q, (number_fits 32 site refl s, tt)))); gives = tt }

  use_fits : (K : Name → Ty → Type 0) (site : ℕ) (env : Env) (root : ℕ) (os : List (Ty × Operand)) (u : CheckedUse) → AllTracked K C (tracked env root os) → site < 2 ^ 32 → SmallUse os u
      → TasksFit K C (use_tasks site (tracked env root os) u)
  use_fits K site env root os (Word kind n) p s k = word_use K site kind n n (tracked env root os) p s k.0 k.1
  use_fits K site env root os (Bytes kind a n) p s k =
      let ts = tracked env root os in
      (memory_fits K site kind (tracked_at a ts) (tracked_at n ts) (nth_word K env a root os Ptr p k.1) (nth_word K env n root os (Int 64) p k.2) s k.0, tt)
  use_fits K site env root os (Line a) p s k = (string_fits K site (tracked_at a (tracked env root os)) (nth_word K env a root os Ptr p k) s, tt)
  use_fits K site env root os (Asked a) p s k =
      let ts = tracked env root os in (format_fits K site a (tracked_at 0 ts) (tracked_at a ts) (nth_word K env 0 root os Ptr p k.0) (nth_word K env a root os Ptr p k.1) s k.2, tt)

  checks_fit : (us : List CheckedUse) (K : Name → Ty → Type 0) (site : ℕ) (env : Env) (root : ℕ) (os : List (Ty × Operand)) → AllTracked K C (tracked env root os) → site < 2 ^ 32 → SmallUses os us
      → TasksFit K C (check_tasks site (tracked env root os) us)
  checks_fit [] K site env root os p s k = tt
  checks_fit (u ∷ us) K site env root os p s k =
      let ts = tracked env root os in
      apart K (use_tasks site ts u) (check_tasks site ts us) (use_fits K site env root os u p s k.0) (λ L h. checks_fit us L site env root os (all_tracked_more K L h ts p) s k.1)

  -- ---- blind uses

  take_tracked : (K : Name → Ty → Type 0) (n : ℕ) (ts : List Tracked) → AllTracked K C ts → AllTracked K C (take n ts)
  take_tracked K zero ts p = tt
  take_tracked K (suc n) [] p = tt
  take_tracked K (suc n) (t ∷ ts) p = (p.0, take_tracked K n ts p.1)

  drop_tracked : (K : Name → Ty → Type 0) (n : ℕ) (ts : List Tracked) → AllTracked K C ts → AllTracked K C (drop n ts)
  drop_tracked K zero ts p = p
  drop_tracked K (suc n) [] p = tt
  drop_tracked K (suc n) (t ∷ ts) p = drop_tracked K n ts p.1

  if_tracked : (K : Name → Ty → Type 0) (b : Bool) (xs ys : List Tracked) → AllTracked K C xs → AllTracked K C ys → AllTracked K C (if b then xs else ys)
  if_tracked K true xs ys p q = p
  if_tracked K false xs ys p q = q

  blind_binary_tracked : (K : Name → Ty → Type 0) (o : BinOp) (ts : List Tracked) → AllTracked K C ts → AllTracked K C (blind_binary_of o ts)
  blind_binary_tracked K binary.Add ts p = tt
  blind_binary_tracked K binary.Sub ts p = tt
  blind_binary_tracked K binary.Mul ts p = tt
  blind_binary_tracked K binary.Udiv ts p = take_tracked K 1 ts p
  blind_binary_tracked K binary.Sdiv ts p = take_tracked K 1 ts p
  blind_binary_tracked K binary.Urem ts p = take_tracked K 1 ts p
  blind_binary_tracked K binary.Srem ts p = take_tracked K 1 ts p
  blind_binary_tracked K binary.Shl ts p = drop_tracked K 1 ts p
  blind_binary_tracked K binary.Lshr ts p = drop_tracked K 1 ts p
  blind_binary_tracked K binary.Ashr ts p = drop_tracked K 1 ts p
  blind_binary_tracked K binary.And ts p = tt
  blind_binary_tracked K binary.Or ts p = tt
  blind_binary_tracked K binary.Xor ts p = tt

  blinded_tracked : (K : Name → Ty → Type 0) (func : Name → Option ℕ) (o : Op) (ts : List Tracked) → AllTracked K C ts → AllTracked K C (blinded_of func o ts)
  blinded_tracked K func (op.Binary o f t a b) ts p = if_tracked K (has_flag f) ts (blind_binary_of o ts) p (blind_binary_tracked K o ts p)
  blinded_tracked K func (op.Icmp q f t a b) ts p = if_tracked K (has_flag f) ts [] p tt
  blinded_tracked K func (op.Cast o f t a u) ts p = if_tracked K (has_flag f) ts [] p tt
  blinded_tracked K func (op.Freeze t a) ts p = p
  blinded_tracked K func (op.Call r x as') ts p = if_tracked K (has_true_flag as') (flagged_words (external_named func x) ts) [] (by_external (external_named func x)) tt
    where
      by_external : (e : Option External) → AllTracked K C (flagged_words e ts)
      by_external None = tt
      by_external (Some (called.Word f n)) = if_tracked K (is_flagged f) (take 1 ts) [] (take_tracked K 1 ts p) tt
      by_external (Some e) = tt
  blinded_tracked K func _ ts p = tt

  blind_fits : (K : Name → Ty → Type 0) (ts : List Tracked) → AllTracked K C ts → TasksFit K C (blind_tasks ts)
  blind_fits K ts p = unless_zero K (all_zero ts) (Calls None function.Blind ((Int 64, union_masks ts) ∷ []))
      (record { shape = refl; calls = tt; words = (union_masks_typed C K ts p, tt); gives = tt })

  -- ---- results

  -- the operands' types are those of the operation
  module _ (K : Name → Ty → Type 0) (given : Given) (env : Env) (root : ℕ) where
    int_mask : (t : Ty) → IsInt t → (o : BinOp) (a b : Tracked) → a.ty ≡ t → b.ty ≡ t → TrackedFits K C a → TrackedFits K C b
        → Typed K C t (word_of a) × Typed K C t (mask_of a) × Typed K C t (word_of b) × Typed K C t (mask_of b)
    int_mask (Int w) i o a b ea eb p q = (
      subst (λ t. Typed K C t (word_of a)) ea p.own,
      subst (λ t. Typed K C t (mask_of a)) (ap mask_type ea) p.mask,
      subst (λ t. Typed K C t (word_of b)) eb q.own,
      subst (λ t. Typed K C t (mask_of b)) (ap mask_type eb) q.mask,
    )
    int_mask Ptr i o a b ea eb p q = grind arith
    int_mask (Array' n s t) i o a b ea eb p q = grind arith
    int_mask (Struct' r s t) i o a b ea eb p q = grind arith
    int_mask (Named x) i o a b ea eb p q = grind arith

    -- what two tasks give a value: its origin first, and then its mask
    two_sets : (v : ℕ) (t : Ty) (e m : Expr) → IsInt t → Typed K C (Int 32) e → Typed K C t m → TasksFit K C (Sets (origin_name v) (Int 32) e ∷ Sets (mask_name v) t m ∷ [])
    two_sets v t e m i p q = (
      record { shape = refl; calls = tt; words = p; gives = (2 * v + 2, refl) },
      (
        record {
          shape = i;
          calls = tt;
          words = typed_more C K (sets K (Sets (origin_name v) (Int 32) e)) (λ x u k. inl k) t m q;
          gives = (2 * v + 1, refl);
        },
        tt,
      ),
    )

    set_then_try : (v w : ℕ) (o : BinOp) (e : Expr) (a b : Tracked) → IsInt (Int w) → Typed K C (Int 32) e → Typed K C (Int w) (mask_of a)
        → Typed K C (Int w) (word_of b) → Typed K C (Int w) (mask_of b) → TasksFit K C (Sets (origin_name v) (Int 32) e ∷ shift_task (mask_name v) o w a b ∷ [])
    set_then_try v w o e a b i p q r s =
        let L = sets K (Sets (origin_name v) (Int 32) e) in
        let more = λ (m : Expr) (h : Typed K C (Int w) m). typed_more C K L (λ x u k. inl k) (Int w) m h in (
          record { shape = refl; calls = tt; words = p; gives = (2 * v + 2, refl) },
          (
            record {
              shape = i;
              calls = tt;
              words = (
                (refl, i, set_typed C L w (mask_of b) i (more (mask_of b) s), all_bits w i, more (mask_of a) q),
                ((refl, i, set_typed C L w (mask_of b) i (more (mask_of b) s), no_bits w i, more (word_of b) r), tt),
              );
              gives = (2 * v + 1, refl);
            },
            tt,
          ),
        )

    int_result : (v : ℕ) (o : BinOp) (f : Flags) (t : Ty) (x y : Operand) (a b : Tracked) → IsInt t → a.ty ≡ t → b.ty ≡ t → TrackedFits K C a → TrackedFits K C b
        → TasksFit K C (binary_tasks (mask_name v) (origin_name v) o (op.Binary o f t x y) (width_of t) (a ∷ b ∷ []))
    int_result v o f (Int w) x y a b i ea eb p q = by_op o
      where
        all : AllTracked K C (a ∷ b ∷ [])
        all = (p, (q, tt))

        its : Typed K C (Int w) (word_of a) × Typed K C (Int w) (mask_of a) × Typed K C (Int w) (word_of b) × Typed K C (Int w) (mask_of b)
        its = int_mask (Int w) i o a b ea eb p q

        by_word : (c : BinOp) → TasksFit K C (word_tasks (mask_name v) (origin_name v) (op.Binary c f (Int w) x y) (a ∷ b ∷ []))
        by_word c = two_sets v (Int w) (first_last (a ∷ b ∷ [])) (mask_expr (op.Binary c f (Int w) x y) (a ∷ b ∷ [])) i (first_last_typed C K (a ∷ b ∷ []) all)
            (binary_typed C K w i c a b its.0 its.1 its.2 its.3)

        by_op : (c : BinOp) → TasksFit K C (binary_tasks (mask_name v) (origin_name v) c (op.Binary c f (Int w) x y) w (a ∷ b ∷ []))
        by_op binary.Shl = set_then_try v w binary.Shl (first_last (a ∷ b ∷ [])) a b i (first_last_typed C K (a ∷ b ∷ []) all) its.1 its.2 its.3
        by_op binary.Lshr = set_then_try v w binary.Lshr (first_last (a ∷ b ∷ [])) a b i (first_last_typed C K (a ∷ b ∷ []) all) its.1 its.2 its.3
        by_op binary.Ashr = set_then_try v w binary.Ashr (first_last (a ∷ b ∷ [])) a b i (first_last_typed C K (a ∷ b ∷ []) all) its.1 its.2 its.3
        by_op binary.And = by_word binary.And
        by_op binary.Or = by_word binary.Or
        by_op binary.Xor = by_word binary.Xor
        by_op binary.Add = by_word binary.Add
        by_op binary.Sub = by_word binary.Sub
        by_op binary.Mul = by_word binary.Mul
        by_op binary.Udiv = by_word binary.Udiv
        by_op binary.Sdiv = by_word binary.Sdiv
        by_op binary.Urem = by_word binary.Urem
        by_op binary.Srem = by_word binary.Srem
    int_result v o f Ptr x y a b i ea eb p q = grind arith
    int_result v o f (Array' n s t) x y a b i ea eb p q = grind arith
    int_result v o f (Struct' r s t) x y a b i ea eb p q = grind arith
    int_result v o f (Named n) x y a b i ea eb p q = grind arith

    -- what defines a value, by kinds
    pub define_fits : (v : ℕ) (o : Op) → OpGood given o → MovesGood given C o → AllTracked K C (tracked env root (operands o)) → TasksFit K C (define_tasks given.func v o (tracked env root (operands o)))
    define_fits v (op.Binary o f t a b) g mg p =
        let ts = tracked env root (operands (op.Binary o f t a b)) in
        int_result v o f t a b (tracked_at 0 ts) (tracked_at 1 ts) g refl refl p.0 p.1.0
    define_fits v (op.Icmp q f t a b) g mg p =
        let ts = tracked env root (operands (op.Icmp q f t a b)) in
        two_sets v (Int 1) (first_last ts) (mask_expr (op.Icmp q f t a b) ts) refl (first_last_typed C K ts p)
        (compare_typed C K (width_of t) (wide t g) q (bits_of (tracked_at 0 ts)) (mask_of (tracked_at 0 ts)) (bits_of (tracked_at 1 ts)) (mask_of (tracked_at 1 ts))
        (bits_typed C K t (Leaf a) g p.0.own) p.0.mask (bits_typed C K t (Leaf b) g p.1.0.own) p.1.0.mask)
    define_fits v (op.Cast o f t a u) g mg p =
        let ts = tracked env root (operands (op.Cast o f t a u)) in
        two_sets v (mask_type u) (first_last ts) (mask_expr (op.Cast o f t a u) ts) (wide u g.2) (first_last_typed C K ts p)
        (cast_typed C K o t u (mask_of (tracked_at 0 ts)) g p.0.mask)
    define_fits v (op.Select c t a b) g mg p =
        let ts = tracked env root (operands (op.Select c t a b)) in
        two_sets v (mask_type t) (origin_expr (op.Select c t a b) ts) (mask_expr (op.Select c t a b) ts) (wide t g)
        (refl, refl, p.0.mask, p.0.origin, (refl, refl, p.0.own, p.1.0.origin, p.1.1.0.origin))
        (select_typed C K (width_of t) (wide t g) (word_of (tracked_at 0 ts)) (mask_of (tracked_at 0 ts)) (bits_of (tracked_at 1 ts)) (mask_of (tracked_at 1 ts))
        (bits_of (tracked_at 2 ts)) (mask_of (tracked_at 2 ts))
        p.0.own p.0.mask (bits_typed C K t (Leaf a) g p.1.0.own) p.1.0.mask (bits_typed C K t (Leaf b) g p.1.1.0.own) p.1.1.0.mask)
    define_fits v (op.Freeze t a) g mg p = two_sets v (mask_type t) (number 0) (number 0) (wide t g) refl (no_bits (width_of t) (wide t g))
    define_fits v (op.Gep t a is) g mg p =
        let ts = tracked env root (operands (op.Gep t a is)) in
        two_sets v (Int 64) (first_last ts) (mask_expr (op.Gep t a is) ts) refl (first_last_typed C K ts p)
        (address_mask_typed C K ts p)
    define_fits v (op.Alloca t u c) g mg p = two_sets v (Int 64) (number 0) (number 0) refl refl refl
    define_fits v (op.Load t a) g mg p =
        let L = sets K (Fetches (mask_name v) (mask_type t) (shadow_address (Leaf a))) in (
          record { shape = wide t g; calls = tt; words = (address_typed C K (Leaf a) p.0.own, tt); gives = (2 * v + 1, refl) },
          (
            record {
              shape = refl;
              calls = tt;
              words = (operand_more C K L (λ x u k. inl k) Ptr a p.0.own, (widened_typed C L (width_of t) (Leaf (operand.Local (mask_name v))) (wide t g) (inr (refl, refl)), tt));
              gives = (2 * v + 2, refl);
            },
            tt,
          ),
        )
    define_fits v (op.Call r x as') g mg p = by_own (is_some (given.func x)) refl
      where
        answer : (q : Option Ty) → ((t : Ty) → q ≡ Some t → is_value_type t ≡ true) → IsInt (Int (result_width (op.Call q x as')))
        answer None h = refl
        answer (Some t) h = wide t (h t refl)

        ts : List Tracked
        ts = tracked env root as'

        Fits : Option External → Option Ty → Type 0
        Fits e q = TasksFit K C (Sets (origin_name v) (Int 32) (answer_origin_expr e (tracked env root as')) ∷ Sets (mask_name v) (Int (result_width (op.Call q x as'))) (answer_expr e (tracked env root as')) ∷ [])

        types : (root : ℕ) (os : List (Ty × Operand)) → map (λ a. a.ty) (tracked env root os) ≡ map (λ a. a.0) os
        types root [] = refl
        types root (o ∷ os) = ap (λ l. o.0 ∷ l) (types (root + one_undef o.1) os)

        by_external : (e : Option External) → external_named given.func x ≡ e → Fits e r
        by_external None named =
            let w = result_width (op.Call r x as') in let i = answer r g.value in
            two_sets v (Int w) (number 0) (number 0) i refl (no_bits w i)
        by_external (Some (called.Word f n)) named =
            let its = g.outside (called.Word f n) named in
            subst (Fits (Some (called.Word f n))) (sym its.1)
            (two_sets v (Int (width_bits n)) (first_last ts) (word_expr f (width_bits n) (tracked_at 0 ts) (tracked_at 1 ts) (tracked_at 2 ts)) (width_int n) (first_last_typed C K ts p)
            (word_typed C K (width_bits n) (width_int n) (omega (arith, width_some n)) ts f (λ k t e. typed_at C K k ts t p (ap (λ l. slice_get l k) (types root as' ∙ its.0) ∙ e))))
        by_external (Some e) named =
            let w = result_width (op.Call r x as') in let i = answer r g.value in
            two_sets v (Int w) (number 0) (number 0) i refl (no_bits w i)

        by_own : (b : Bool) → is_some (given.func x) ≡ b → TasksFit K C (called_tasks b v (op.Call r x as') (tracked env root as'))
        by_own true own = tt
        by_own false own = by_move (external_move (lookup externals x)) refl
          where
            named : external_named given.func x ≡ lookup externals x
            named = ap (λ b. if b then None else lookup externals x) own

            -- what moves bits is a function of whole words
            from_external : (k : BitMove) (e : Option External) → lookup externals x ≡ e → external_move e ≡ Some k
                → TasksFit K C (answer_tasks (mask_name v) (origin_name v) (Some k) (op.Call r x as') (tracked env root as'))
            from_external k (Some (called.Word f n)) found moves =
                let is = move_is f n k moves in
                let moving = subst Moving (sym is.0) is.2 in
                let its = g.outside (called.Word f n) (named ∙ found) in
                let all : (i : ℕ) (t : Ty) → slice_get (word_params (move_fn k) (width_bits (move_width k))) i ≡ Some t
                → Typed K C t (word_of (tracked_at i ts)) × Typed K C (mask_type t) (mask_of (tracked_at i ts)) =
                λ i t e. typed_at C K i ts t p (ap (λ l. slice_get l i) (types root as' ∙ its.0 ∙ sym (ap₂ (λ h w. word_params h (width_bits w)) is.0 is.1)) ∙ e) in
                let L = sets K (Sets (origin_name v) (Int 32) (origin_expr (op.Call r x as') ts)) in (
                  record {
                    shape = refl;
                    calls = tt;
                    words = subst (λ e. Typed K C (Int 32) (answer_origin_expr e ts)) (sym found) (first_last_typed C K ts p);
                    gives = (2 * v + 2, refl);
                  },
                  (
                    record {
                      shape = moved_shape (move_fn k) (width_bits (move_width k)) (tracked_at 0 ts) (tracked_at 1 ts) (tracked_at 2 ts) moving;
                      calls = mg k (ap external_move (named ∙ found) ∙ moves);
                      words = all_more C K L (λ y u h. inl h) (move_args k ts) (moved_typed C K (width_bits (move_width k)) (width_int (move_width k)) (omega (arith, width_some (move_width k))) ts (move_fn k) moving all);
                      gives = (2 * v + 1, refl);
                    },
                    tt,
                  ),
                )
            from_external k None found moves = absurd (no_move k moves)
            from_external k (Some e) found moves = absurd (no_move k moves)

            by_move : (k : Option BitMove) → external_move (lookup externals x) ≡ k → TasksFit K C (answer_tasks (mask_name v) (origin_name v) k (op.Call r x as') (tracked env root as'))
            by_move None moves = by_external (lookup externals x) named
            by_move (Some k) moves = from_external k (lookup externals x) refl moves
    define_fits v _ g mg p = tt

    result_fits : (x : Option Name) (o : Op) → OpGood given o → MovesGood given C o → AllTracked K C (tracked env root (operands o)) → TasksFit K C (result_tasks given.func env x o (tracked env root (operands o)))
    result_fits None o g mg p = tt
    result_fits (Some x) o g mg p = by_clean (env.clean x)
      where
        by_number : (n : Option ℕ) → TasksFit K C (elim n [ Some v ↦ define_tasks given.func v o (tracked env root (operands o)) | None ↦ [] ])
        by_number None = tt
        by_number (Some v) = define_fits v o g mg p

        by_clean : (b : Bool) → TasksFit K C (if b then [] else elim (env.number x) [ Some v ↦ define_tasks given.func v o (tracked env root (operands o)) | None ↦ [] ])
        by_clean true = tt
        by_clean false = by_number (env.number x)

    -- ---- memory

    -- the result is known with its type
    abbrev pub ResultKnown : Option Name → Op → Type 0
    ResultKnown x o = (y : Name) (t : Ty) → x ≡ Some y → result_type o ≡ Some t → K y t

    -- and a size that is saved
    abbrev pub SavedKnown : ℕ → Op → Type 0
    SavedKnown saved o = saves given.func o ≡ 1 → K (msan_name saved) (Int 64)

    count_typed : (u : Ty) (c : Operand) → IsInt u → OperandFits K C u c → Typed K C (Int 64) (widened (width_of u) (Leaf c))
    count_typed (Int w) c i p = widened_typed C K w (Leaf c) i p
    count_typed Ptr c i p = grind arith
    count_typed (Array' n s t) c i p = grind arith
    count_typed (Struct' r s t) c i p = grind arith
    count_typed (Named n) c i p = grind arith

    -- ---- externals

    poison_fits : (a from to : Expr) (n : ℕ) → Typed K C Ptr a → Typed K C (Int 64) from → Typed K C (Int 64) to → n < 2 ^ 32 → TasksFit K C (poison_task a from to n)
    poison_fits a from to n p q r l = (record { shape = refl; calls = tt; words = (p, (q, (r, (number_fits 32 n refl l, tt)))); gives = tt }, tt)

    -- arguments of the types of an external
    module _ (args : List (Ty × Operand)) (p : AllTracked K C (tracked env root args)) (types : List Ty) (typed : map (λ a. a.0) args ≡ types) where
      abbrev those : List Tracked
      those = tracked env root args

      type_there : (k : ℕ) (t : Ty) → slice_get types k ≡ Some t → TypeAt args k t
      type_there k t e = ap (λ l. slice_get l k) typed ∙ e

      word_there : (k : ℕ) (t : Ty) → slice_get types k ≡ Some t → Typed K C t (word_of (tracked_at k those))
      word_there k t e = nth_word K env k root args t p (type_there k t e)

      copy_fits : slice_get types 0 ≡ Some Ptr → slice_get types 1 ≡ Some Ptr → slice_get types 2 ≡ Some (Int 64) → TasksFit K C (copy_task (tracked_at 0 those) (tracked_at 1 those) (tracked_at 2 those))
      copy_fits a b n = (record { shape = refl; calls = tt; words = (word_there 0 Ptr a, (word_there 1 Ptr b, (word_there 2 (Int 64) n, tt))); gives = tt }, tt)

      fill_fits : (site : ℕ) (u : Ty) → site < 2 ^ 32 → slice_get types 0 ≡ Some Ptr → slice_get types 1 ≡ Some u → slice_get types 2 ≡ Some (Int 64)
          → TasksFit K C (fill_task site (tracked_at 0 those) (tracked_at 1 those) (tracked_at 2 those))
      fill_fits site u s a b n =
          let c = tracked_at 1 those in
          let k = nth_fits K env 1 root args u p (type_there 1 u b) in (
            record {
              shape = refl;
              calls = tt;
              words = (word_there 0 Ptr a, (word_there 2 (Int 64) n, (widened_typed C K (width_of c.ty) (mask_of c) (wide c.ty k.all.value) k.all.mask, (k.all.origin, (number_fits 32 site refl s, tt)))));
              gives = tt;
            },
            tt,
          )

    -- what is set after an external
    external_fits : (site n saved : ℕ) (r : Option Name) (ret : Option Ty) (e : External) (args : List (Ty × Operand)) → AllTracked K C (tracked env root args)
        → map (λ a. a.0) args ≡ called_params e (map (λ a. a.0) args) → ret ≡ (external_signature e).ret → ((y : Name) (t : Ty) → r ≡ Some y → ret ≡ Some t → K y t)
        → (saved_by e ≡ 1 → K (msan_name saved) (Int 64)) → site < 2 ^ 32 → n < 2 ^ 32 → TasksFit K C (external_tasks site n saved r e (tracked env root args))
    external_fits site n saved (Some x) u Malloc args p t q k d s l =
        poison_fits (Leaf (operand.Local x)) (number 0) (word_of (tracked_at 0 (tracked env root args))) n (k x Ptr refl q) refl (word_there args p _ t 0 (Int 64) refl) l
    external_fits site n saved (Some x) u Realloc args p t q k d s l =
        poison_fits (Leaf (operand.Local x)) (Leaf (operand.Local (msan_name saved))) (word_of (tracked_at 1 (tracked env root args))) n (k x Ptr refl q) (d refl) (word_there args p _ t 1 (Int 64) refl) l
    external_fits site n saved (Some x) u Read args p t q k d s l =
        (record { shape = refl; calls = tt; words = (word_there args p _ t 1 Ptr refl, (k x (Int 64) refl q, tt)); gives = tt }, tt)
    external_fits site n saved (Some x) u PthreadCreate args p t q k d s l = (
      record {
        shape = refl;
        calls = tt;
        words = (
          word_there args p _ t 0 Ptr refl,
          ((refl, refl, (refl, refl, k x (Int 32) refl q, number_fits 32 0 refl (omega arith)), number_fits 64 8 refl (omega arith), number_fits 64 0 refl (omega arith)), tt),
        );
        gives = tt;
      },
      tt,
    )
    external_fits site n saved (Some x) u PthreadJoin args p t q k d s l = (
      record {
        shape = refl;
        calls = tt;
        words = (word_there args p _ t 1 Ptr refl, (word_there args p _ t 0 (Int 64) refl, (k x (Int 32) refl q, (number_fits 32 site refl s, tt))));
        gives = tt;
      },
      tt,
    )
    external_fits site n saved (Some x) u LifetimeStart args p t q k d s l =
        poison_fits (word_of (tracked_at 1 (tracked env root args))) (number 0) (word_of (tracked_at 0 (tracked env root args))) n (word_there args p _ t 1 Ptr refl) refl (word_there args p _ t 0 (Int 64) refl) l
    external_fits site n saved (Some x) u Memcpy args p t q k d s l = copy_fits args p _ t refl refl refl
    external_fits site n saved (Some x) u Memmove args p t q k d s l = copy_fits args p _ t refl refl refl
    external_fits site n saved (Some x) u LlvmMemcpy args p t q k d s l = copy_fits args p _ t refl refl refl
    external_fits site n saved (Some x) u LlvmMemmove args p t q k d s l = copy_fits args p _ t refl refl refl
    external_fits site n saved (Some x) u Memset args p t q k d s l = fill_fits args p _ t site (Int 32) s refl refl refl
    external_fits site n saved (Some x) u LlvmMemset args p t q k d s l = fill_fits args p _ t site (Int 8) s refl refl refl
    external_fits site n saved (Some x) u _ args p t q k d s l = tt
    external_fits site n saved None u LifetimeStart args p t q k d s l =
        poison_fits (word_of (tracked_at 1 (tracked env root args))) (number 0) (word_of (tracked_at 0 (tracked env root args))) n (word_there args p _ t 1 Ptr refl) refl (word_there args p _ t 0 (Int 64) refl) l
    external_fits site n saved None u Memcpy args p t q k d s l = copy_fits args p _ t refl refl refl
    external_fits site n saved None u Memmove args p t q k d s l = copy_fits args p _ t refl refl refl
    external_fits site n saved None u LlvmMemcpy args p t q k d s l = copy_fits args p _ t refl refl refl
    external_fits site n saved None u LlvmMemmove args p t q k d s l = copy_fits args p _ t refl refl refl
    external_fits site n saved None u Memset args p t q k d s l = fill_fits args p _ t site (Int 32) s refl refl refl
    external_fits site n saved None u LlvmMemset args p t q k d s l = fill_fits args p _ t site (Int 8) s refl refl refl
    external_fits site n saved None u _ args p t q k d s l = tt

    -- ---- slots

    -- a value is taken from its slots
    value_fits : (mask origin : Operand) → OperandFits K C Ptr mask → OperandFits K C Ptr origin → (x : Name) (t : Ty) → is_value_type t ≡ true → TasksFit K C (take_value env mask origin x t)
    value_fits mask origin m o x t i = by_clean (env.clean x)
      where
        by_number : (n : Option ℕ) → TasksFit K C (elim n as (λ w. List Task) [ Some v ↦ take_tasks mask origin v t | None ↦ [] ])
        by_number None = tt
        by_number (Some v) =
            let L = sets K (Fetches (mask_name v) (mask_type t) (Leaf mask)) in (
              record { shape = wide t i; calls = tt; words = (m, tt); gives = (2 * v + 1, refl) },
              (record { shape = refl; calls = tt; words = (operand_more C K L (λ y u k. inl k) Ptr origin o, tt); gives = (2 * v + 2, refl) }, tt),
            )

        by_clean : (b : Bool) → TasksFit K C (if b then [] else elim (env.number x) as (λ w. List Task) [ Some v ↦ take_tasks mask origin v t | None ↦ [] ])
        by_clean true = tt
        by_clean false = by_number (env.number x)

    -- at the entry
    pub params_fit : (k : ℕ) (ps : List (Ty × Name)) → k + length ps ≤ 100 → SlotsGood C → list_all (λ p. is_value_type p.0) ps ≡ true → TasksFit K C (take_parameters env k ps)
    params_fit k [] l s v = tt
    params_fit k (p ∷ ps) l s v =
        let h = and_parts (is_value_type p.0) (list_all (λ p. is_value_type p.0) ps) v in
        let rest = take_parameters env (suc k) ps in
        let near : k < 100 = omega (arith, l) in
        apart K (take_value env (param_mask k) (param_origin k) p.1 p.0) rest
        (value_fits (param_mask k) (param_origin k) (s.masks k near) (s.origins k near) p.1 p.0 h.0)
        (λ L more. tasks_more C K L more rest (params_fit (suc k) ps (omega (arith, l)) s h.1))

    give_pair : (mask origin : Operand) (t : Tracked) → OperandFits K C Ptr mask → OperandFits K C Ptr origin → TrackedFits K C t → TasksFit K C (give_tasks mask origin t)
    give_pair mask origin t m o q =
        let L = sets K (Puts (mask_type t.ty) (mask_of t) (Leaf mask)) in (
          record { shape = wide t.ty q.value; calls = tt; words = (q.mask, (m, tt)); gives = tt },
          (record { shape = refl; calls = tt; words = (typed_more C K L (λ x w k. inl k) (Int 32) (origin_of t) q.origin, (operand_more C K L (λ x w k. inl k) Ptr origin o, tt)); gives = tt }, tt),
        )

    give_fits : (k r : ℕ) (os : List (Ty × Operand)) → k + length os ≤ 100 → SlotsGood C → AllTracked K C (tracked env r os) → TasksFit K C (give_arguments k (tracked env r os))
    give_fits k r [] l s p = tt
    give_fits k r (o ∷ os) l s p =
        let t = tracked_at 0 (tracked env r (o ∷ os)) in
        let rest = give_arguments (suc k) (tracked env (r + one_undef o.1) os) in
        let near : k < 100 = omega (arith, l) in
        apart K (give_tasks (param_mask k) (param_origin k) t) rest (give_pair (param_mask k) (param_origin k) t (s.masks k near) (s.origins k near) p.0)
        (λ L more. tasks_more C K L more rest (give_fits (suc k) (r + one_undef o.1) os (omega (arith, l)) s p.1))

    -- ---- after a call

    result_taken : SlotsGood C → (r : Option Name) (q : Option Ty) → ((t : Ty) → q ≡ Some t → is_value_type t ≡ true) → TasksFit K C (take_result env r q)
    result_taken s (Some x) (Some t) h = value_fits result_mask_slot result_origin_slot s.mask s.origin x t (h t refl)
    result_taken s (Some x) None h = tt
    result_taken s None q h = tt

    callee_fits : (site n saved : ℕ) (r : Option Name) (q : Option Ty) (y : Name) (args : List (Ty × Operand)) → CallGood given q y args → SlotsGood C
        → ((x : Name) (t : Ty) → r ≡ Some x → q ≡ Some t → K x t) → SavedKnown saved (op.Call q y args) → site < 2 ^ 32 → n < 2 ^ 32 → AllTracked K C (tracked env root args)
        → TasksFit K C (callee_tasks env site n saved r q (is_some (given.func y)) (external_named given.func y) (tracked env root args))
    callee_fits site n saved r q y args g slots k d s l p = by_own (is_some (given.func y)) (external_named given.func y) refl
      where
        by_own : (b : Bool) (e : Option External) → external_named given.func y ≡ e → TasksFit K C (callee_tasks env site n saved r q b e (tracked env root args))
        by_own true e w = result_taken slots r q g.value
        by_own false None w = tt
        by_own false (Some e) w =
            let o = g.outside e w in
            external_fits site n saved r q e args p o.0 o.1 k (λ z. d (ap (λ x. elim x as (λ v. ℕ) [ Some c ↦ saved_by c | None ↦ 0 ]) w ∙ z)) s l

    pub plane_fits : (h : Here) (x : Option Name) (o : Op) → OpGood given o → SlotsGood C → ResultKnown x o → (saved : ℕ) → SavedKnown saved o → h.site < 2 ^ 32 → h.root + count_undefs (operands o) + 1 < 2 ^ 32
        → AllTracked K C (tracked env root (operands o)) → TasksFit K C (plane_tasks given env h saved x o (tracked env root (operands o)))
    plane_fits h (Some x) (op.Alloca t u c) g slots r saved d s n p = (
      record {
        shape = refl;
        calls = tt;
        words = (
          r x Ptr refl refl,
          (
            refl,
            (
              (refl, refl, number_fits 64 (size_in given.types t) refl g.0, count_typed u c g.1 p.0.own),
              (number_fits 32 (h.root + count_undefs ((u, c) ∷ []) + 1) refl n, tt),
            ),
          ),
        );
        gives = tt;
      },
      tt,
    )
    plane_fits h None (op.Alloca t u c) g slots r saved d s n p = tt
    plane_fits h x (op.Store t v a) g slots r saved d s n p =
        let o = tracked_at 0 (tracked env root ((t, v) ∷ (Ptr, a) ∷ [])) in
        let L = sets K (Puts (mask_type t) (mask_of o) (shadow_address (Leaf a))) in
        let later = λ (u : Ty) (e : Expr) (q : Typed K C u e). typed_more C K L (λ x w k. inl k) u e q in (
          record { shape = wide t g; calls = tt; words = (p.0.mask, (address_typed C K (Leaf a) p.1.0.own, tt)); gives = tt },
          (
            record {
              shape = refl;
              calls = tt;
              words = (later Ptr (Leaf a) p.1.0.own, (widened_typed C L (width_of t) (mask_of o) (wide t g) (later (mask_type t) (mask_of o) p.0.mask), (later (Int 32) (origin_of o) p.0.origin, (number_fits 32 h.site refl s, tt))));
              gives = tt;
            },
            tt,
          ),
        )
    plane_fits h (Some x) (op.Call q y as') g slots r saved d s n p = callee_fits h.site (h.root + count_undefs as' + 1) saved (Some x) q y as' g slots r d s n p
    plane_fits h None (op.Call q y as') g slots r saved d s n p = callee_fits h.site (h.root + count_undefs as' + 1) saved None q y as' g slots r d s n p
    plane_fits h x _ g slots r saved d s n p = tt

    -- ---- what is handed over, and what is saved

    hand_fits : (main : Bool) (o : Op) → OpGood given o → SlotsGood C → AllTracked K C (tracked env root (operands o))
        → TasksFit K C (hand_tasks given.func main o (tracked env root (operands o)))
    hand_fits main (op.Call q y as') g s p = by_own (is_some (given.func y)) refl
      where
        by_own : (b : Bool) → is_some (given.func y) ≡ b → TasksFit K C (if b then give_arguments 0 (tracked env root as') else [])
        by_own true w = give_fits 0 root as' (let few = g.few w in omega (arith, few)) s p
        by_own false w = tt
    hand_fits true (op.Ret v) g s p = tt
    hand_fits false (op.Ret v) g s p = by_words (tracked env root (operands (op.Ret v))) p
      where
        by_words : (ts : List Tracked) → AllTracked K C ts → TasksFit K C (give_result ts)
        by_words [] q = tt
        by_words (t ∷ ts) q = give_pair result_mask_slot result_origin_slot t s.mask s.origin q.0
    hand_fits main _ g s p = tt

    save_fits : (saved : ℕ) (o : Op) → OpGood given o → AllTracked K C (tracked env root (operands o)) → TasksFit K C (save_tasks given.func saved o (tracked env root (operands o)))
    save_fits saved (op.Call q y as') g p = by_name (external_named given.func y) refl
      where
        by_external : (e : External) → external_named given.func y ≡ Some e → TasksFit K C (saved_tasks saved e (tracked env root as'))
        by_external Realloc w =
            (record { shape = refl; calls = tt; words = (word_there as' p _ (g.outside Realloc w).0 0 Ptr refl, tt); gives = (saved, refl) }, tt)
        by_external _ w = tt

        by_name : (e : Option External) → external_named given.func y ≡ e → TasksFit K C (elim e as (λ v. List Task) [ Some c ↦ saved_tasks saved c (tracked env root as') | None ↦ [] ])
        by_name None w = tt
        by_name (Some e) w = by_external e w
    save_fits saved _ g p = tt

    -- ---- all before an instruction, and all after it

    pub before_fits : (h : Here) (i : Inst) → h.root ≡ root → OpGood given i.op → MovesGood given C i.op → SlotsGood C → h.site < 2 ^ 32 → SmallUses (operands i.op) (uses given.func h.main i.op)
        → AllTracked K C (tracked env root (operands i.op)) → (saved : ℕ) → TasksFit K C (before_tasks given env h i saved)
    before_fits h i same g mg slots s u p saved =
        let q = subst (λ r. AllTracked K C (tracked env r (operands i.op))) (sym same) p in
        let ts = tracked env h.root (operands i.op) in
        let hs = hand_tasks given.func h.main i.op ts in
        let cs = check_tasks h.site ts (uses given.func h.main i.op) in
        let bs = blind_tasks (blinded_of given.func i.op ts) in
        let rs = result_tasks given.func env i.result i.op ts in
        let ss = save_tasks given.func saved i.op ts in
        apart K hs (cs ++ (bs ++ (rs ++ ss)))
        (subst (λ r. TasksFit K C (hand_tasks given.func h.main i.op (tracked env r (operands i.op)))) (sym same) (hand_fits h.main i.op g slots p))
        (λ L0 more0. apart L0 cs (bs ++ (rs ++ ss))
        (checks_fit (uses given.func h.main i.op) L0 h.site env h.root (operands i.op) (all_tracked_more K L0 more0 ts q) s u)
        (λ L more. apart L bs (rs ++ ss)
        (blind_fits L (blinded_of given.func i.op ts) (blinded_tracked L given.func i.op ts (all_tracked_more K L (λ x t k. more x t (more0 x t k)) ts q)))
        (λ M further. apart M rs ss
        (tasks_more C K M (λ x t k. further x t (more x t (more0 x t k))) rs
        (subst (λ r. TasksFit K C (result_tasks given.func env i.result i.op (tracked env r (operands i.op)))) (sym same) (result_fits i.result i.op g mg p)))
        (λ N last. tasks_more C K N (λ x t k. last x t (further x t (more x t (more0 x t k)))) ss
        (subst (λ r. TasksFit K C (save_tasks given.func saved i.op (tracked env r (operands i.op)))) (sym same) (save_fits saved i.op g p))))))
