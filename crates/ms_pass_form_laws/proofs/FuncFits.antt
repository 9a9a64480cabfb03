-- What is inserted into a function fits where it stands.
use Rattle.std.proofs.Common.{◌≡◌, ℕ, zero, suc, ◌+◌, ◌-◌, ◌*◌, ◌^◌, ◌<◌, ◌≤◌, List, [], ◌∷◌, ◌++◌, Bool, true, false, Option, Some, None, refl, sym, ap, subst, ◌∙◌, arith, inl, inr, ⊎_elim, true≢false}
use Rattle.std.specs.Prelude.{◌⊎◌, if◌then◌else◌, length, take, slice_get, unwrap_or}
use Rattle.std.specs.List.{list_all}
use Rattle.std.proofs.lemmas.Option.{same_Some}
use Rattle.ms_bits.specs.declared.operations.BinOp.{BinOp}
use Rattle.ms_bits.specs.declared.operations.BinOp.TheVariants as binary
use Rattle.ms_ir.specs.declared.syntax.Name.{Name}
use Rattle.ms_ir.specs.declared.syntax.Ty.{Ty, Int, Ptr}
use Rattle.ms_ir.specs.declared.syntax.Operand.{Operand}
use Rattle.ms_ir.specs.declared.syntax.Operand.TheVariants as operand
use Rattle.ms_ir.specs.declared.syntax.Op.{Op}
use Rattle.ms_ir.specs.declared.syntax.Op.TheVariants as op
use Rattle.ms_ir.specs.declared.syntax.Inst.{Inst}
use Rattle.ms_ir.specs.declared.syntax.Func.{Func}
use Rattle.ms_ir.specs.Names.{is_reserved, name_eq, lookup, externals}
use Rattle.ms_runs.specs.World.{Here}
use Rattle.ms_bits.specs.declared.word_functions.BitMove.{BitMove}
use Rattle.ms_bits.specs.WordFunctions.{bits_of, move_width}
use Rattle.ms_ir.specs.declared.calls.External.{External}
use Rattle.ms_ir.specs.declared.calls.External.TheVariants as external
use Rattle.ms_ir.specs.declared.calls.External.TheVariants.{Realloc}
use Rattle.ms_ir.specs.Instructions.{operands, count_undefs, one_undef, block_index, external_named, is_phi}
use Rattle.ms_runs_good_laws.proofs.Starts.{place_within}
use Rattle.ms_ir.specs.Layout.{width_of}
use Rattle.ms_runs.specs.Uses.{uses}
use Rattle.ms_ir.specs.Written.{result_type}
use Rattle.ms_check_valid.specs.FormedCode.{is_value_type, number_formed}
use Rattle.ms_ir.specs.Locals.{locals, value_type}
use Rattle.ms_ir.proofs.RootKinds.{name_same}
use Rattle.ms_check_valid.specs.NamesOnce.{repeats}
use Rattle.ms_check_valid.specs.Paths.{insts_of, IsDefined}
use Rattle.ms_pass_tasks.specs.Tasks.{msan_name, mask_name, origin_name, inserted, Task, tasks_code}
use Rattle.ms_pass_tasks.specs.Environments.{Env, Given, Tracked, mask_type, mask_operand, origin_operand, local_mask, local_origin, tracked}
use Rattle.ms_pass_tasks.specs.Emit.{Emitted, before_tasks, after_tasks, emit_tasks, start}
use Rattle.ms_pass_tasks.specs.CheckTasks.{check_tasks, blinded_of, blind_tasks}
use Rattle.ms_pass_tasks.specs.ResultTasks.{external_move, answer_tasks, called_tasks, define_tasks, result_tasks}
use Rattle.ms_pass_tasks.proofs.WordMasks.{move_is, no_move}
use Rattle.ms_pass_tasks.specs.Known.{OneName, FewNumbers}
use Rattle.ms_pass_tasks.specs.SlotTasks.{hand_tasks, take_tasks, take_value, take_parameters, param_mask, param_origin, result_mask_slot, result_origin_slot}
use Rattle.ms_pass_tasks.specs.PlaneTasks.{saves, saved_by, saved_tasks, plane_tasks, save_tasks}
use Rattle.ms_pass_tasks.specs.PassLists.{phi_pair, phi_code, mask_edges, origin_from, origins_by, origin_edges, emit_op}
use Rattle.ms_pass_form_laws.proofs.Checked.{Allowed, IsInt, OperandFits, TasksFit, InstFits}
use Rattle.ms_pass_form_laws.proofs.Emitted.{is_own_call, OperandKnown, OperandsKnown, AllTracked, OpGood, MovesGood}
use Rattle.ms_pass_form_laws.proofs.Lists.{TypedIn, typed_left, typed_right, typed_at, Targets, targets_right, targets_left, tasks_fit, tasks_typed}
use Rattle.ms_pass_form_laws.proofs.Words.{tracked_fits, wide, no_bits, all_bits, number_fits}
use Rattle.ms_pass_form_laws.proofs.Rounds.{SmallUses, SlotsGood, params_fit, before_fits, plane_fits}
use Rattle.ms_pass_form_laws.proofs.Shown.{shown, shown_saves, shown_result, same_before, same_after}
use Rattle.ms_pass_form_laws.proofs.Paths.{In}
use Rattle.ms_pass_form_laws.proofs.OnceTyped.{param_typed}
use Rattle.ms_pass_form_laws.proofs.OncePass.{once_kept}
use Rattle.ms_pass_form_laws.proofs.PassPaths.{Filled, taken, passed, front_entry, first_front, value_taken, called_taken, code_at, HasMask, Masks, begins, own_defined, masks_defined, masks_defined_end, index_same, result_is, phi_sets, plain_emit}
use Rattle.ms_pass_form_laws.proofs.Placed.{slice_left, slice_right, slice_either, KnownAt, typed_result_at, known_next, known_later, placed, here_at, next_at, emit_at, round_of, code_of, round_at, in_round}
use Rattle.ms_pass_form_laws.proofs.Values.{ResultAt, value_from}

-- what defines a value's mask and origin gives them their types
abbrev BothTyped : ℕ → Ty → List Task → Type 0
BothTyped v t ts = Targets ts (mask_name v) (mask_type t) × Targets ts (origin_name v) (Int 32)

origin_first : (v : ℕ) (u t : Ty) (ts : List Task) → Some u ≡ Some t → Targets ts (origin_name v) (Int 32) → Targets ts (mask_name v) (mask_type u) → BothTyped v t ts
origin_first v u t ts e o m = (subst (λ k. Targets ts (mask_name v) (mask_type k)) (same_Some u t e) m, o)

-- what moves bits answers a word of the type of a mask
abbrev AnswersMove : (Name → Option ℕ) → Op → Type 0
AnswersMove func (op.Call (Some u) c as') = (k : BitMove) → external_move (external_named func c) ≡ Some k → Int (bits_of (move_width k)) ≡ mask_type u
AnswersMove func _ = Unit {0}

good_answers : (given : Given) (o : Op) → OpGood given o → AnswersMove given.func o
good_answers given (op.Call (Some u) c as') g = λ k moves. by_external k (external_named given.func c) refl moves
  where
    by_external : (k : BitMove) (e : Option External) → external_named given.func c ≡ e → external_move e ≡ Some k → Int (bits_of (move_width k)) ≡ mask_type u
    by_external k (Some (external.Word f n)) named e =
        let is = move_is f n k e in
        ap (λ w. Int (bits_of w)) is.1 ∙ ap mask_type (same_Some (Int (bits_of n)) u (sym (g.outside (external.Word f n) named).1))
    by_external k None named e = absurd (no_move k e)
    by_external k (Some x) named e = absurd (no_move k e)
good_answers given (op.Call None c as') g = tt
good_answers given (op.Binary o f t a b) g = tt
good_answers given (op.Icmp p f t a b) g = tt
good_answers given (op.Cast o f t a u) g = tt
good_answers given (op.Select c t a b) g = tt
good_answers given (op.Freeze t a) g = tt
good_answers given (op.Phi t es) g = tt
good_answers given (op.Alloca t u c) g = tt
good_answers given (op.Load t a) g = tt
good_answers given (op.Store t v a) g = tt
good_answers given (op.Gep t a is) g = tt
good_answers given (op.Br to) g = tt
good_answers given (op.CondBr c to other) g = tt
good_answers given (op.Switch t v other cases) g = tt
good_answers given (op.Ret v) g = tt
good_answers given op.Unreachable g = tt

answer_typed : (v : ℕ) (u t : Ty) (k : Option BitMove) (q : Option Ty) (c : Name) (as' : List (Ty × Operand)) (ts : List Tracked) → q ≡ Some u → Some u ≡ Some t
    → ((i : BitMove) → k ≡ Some i → Int (bits_of (move_width i)) ≡ mask_type u) → BothTyped v t (answer_tasks (mask_name v) (origin_name v) k (op.Call q c as') ts)
answer_typed v u t None (Some w) c as' ts same r types =
    origin_first v w t (answer_tasks (mask_name v) (origin_name v) None (op.Call (Some w) c as') ts) (same ∙ r) (inl (refl, refl)) (inr (inl (refl, refl)))
answer_typed v u t None None c as' ts same r types = grind arith
answer_typed v u t (Some i) q c as' ts same r types =
    origin_first v u t (answer_tasks (mask_name v) (origin_name v) (Some i) (op.Call q c as') ts) r (inl (refl, refl)) (inr (inl (refl, ap Some (types i refl))))

define_typed : (func : Name → Option ℕ) (v : ℕ) (o : Op) (ts : List Tracked) (t : Ty) → AnswersMove func o → HasMask o → is_phi o ≡ false → is_own_call func o ≡ false → result_type o ≡ Some t → BothTyped v t (define_tasks func v o ts)
define_typed func v (op.Binary o f u a b) ts t am h e w r = by_op o
  where
    by_op : (c : BinOp) → BothTyped v t (define_tasks func v (op.Binary c f u a b) ts)
    by_op binary.Shl = origin_first v u t (define_tasks func v (op.Binary binary.Shl f u a b) ts) r (inl (refl, refl)) (inr (inl (refl, refl)))
    by_op binary.Lshr = origin_first v u t (define_tasks func v (op.Binary binary.Lshr f u a b) ts) r (inl (refl, refl)) (inr (inl (refl, refl)))
    by_op binary.Ashr = origin_first v u t (define_tasks func v (op.Binary binary.Ashr f u a b) ts) r (inl (refl, refl)) (inr (inl (refl, refl)))
    by_op c = origin_first v u t (define_tasks func v (op.Binary c f u a b) ts) r (inl (refl, refl)) (inr (inl (refl, refl)))
define_typed func v (op.Icmp q f u a b) ts t am h e w r = origin_first v (Int 1) t (define_tasks func v (op.Icmp q f u a b) ts) r (inl (refl, refl)) (inr (inl (refl, refl)))
define_typed func v (op.Cast o f z a u) ts t am h e w r = origin_first v u t (define_tasks func v (op.Cast o f z a u) ts) r (inl (refl, refl)) (inr (inl (refl, refl)))
define_typed func v (op.Select c u a b) ts t am h e w r = origin_first v u t (define_tasks func v (op.Select c u a b) ts) r (inl (refl, refl)) (inr (inl (refl, refl)))
define_typed func v (op.Freeze u a) ts t am h e w r = origin_first v u t (define_tasks func v (op.Freeze u a) ts) r (inl (refl, refl)) (inr (inl (refl, refl)))
define_typed func v (op.Alloca z u c) ts t am h e w r = origin_first v Ptr t (define_tasks func v (op.Alloca z u c) ts) r (inl (refl, refl)) (inr (inl (refl, refl)))
define_typed func v (op.Load u a) ts t am h e w r = origin_first v u t (define_tasks func v (op.Load u a) ts) r (inr (inl (refl, refl))) (inl (refl, refl))
define_typed func v (op.Gep z a is) ts t am h e w r = origin_first v Ptr t (define_tasks func v (op.Gep z a is) ts) r (inl (refl, refl)) (inr (inl (refl, refl)))
define_typed func v (op.Phi u es) ts t am h e w r = grind arith
define_typed func v (op.Store u a b) ts t am h e w r = absurd h
define_typed func v (op.Call (Some u) c as') ts t am h e w r =
    subst (λ b. BothTyped v t (called_tasks b v (op.Call (Some u) c as') ts)) (sym w)
    (answer_typed v u t (external_move (lookup externals c)) (Some u) c as' ts refl r (λ k moves. am k (ap (λ b. external_move (if b then None else lookup externals c)) w ∙ moves)))
define_typed func v (op.Call None c as') ts t am h e w r = absurd h
define_typed func v (op.Br to) ts t am h e w r = absurd h
define_typed func v (op.CondBr c to other) ts t am h e w r = absurd h
define_typed func v (op.Switch u a other cases) ts t am h e w r = absurd h
define_typed func v (op.Ret a) ts t am h e w r = absurd h
define_typed func v op.Unreachable ts t am h e w r = absurd h

-- and so does what is taken after a call of a function of the module
called_typed : (given : Given) (env : Env) (h : Here) (saved : ℕ) (x : Name) (v : ℕ) (o : Op) (ts : List Tracked) (t : Ty) → env.number x ≡ Some v → env.clean x ≡ false
    → is_own_call given.func o ≡ true → HasMask o → result_type o ≡ Some t → BothTyped v t (plane_tasks given env h saved (Some x) o ts)
called_typed given env h saved x v (op.Call (Some u) c as') ts t k e own m r =
    subst (λ l. BothTyped v t l) (sym (called_taken given env h saved x v u c as' ts k e own))
    (subst (λ z. Targets (take_tasks result_mask_slot result_origin_slot v u) (mask_name v) (mask_type z)) (same_Some u t r) (inl (refl, refl)), inr (inl (refl, refl)))
called_typed given env h saved x v (op.Call None c as') ts t k e own m r = absurd m
called_typed given env h saved x v _ ts t k e own m r = absurd (true≢false (sym own))

-- what is taken at the entry
taken_typed : (given : Given) (env : Env) (k : ℕ) (ps : List (Ty × Name)) (q : ℕ) (x : Name) (v : ℕ) (t : Ty) → slice_get ps q ≡ Some (t, x) → env.number x ≡ Some v → env.clean x ≡ false
    → BothTyped v t (take_parameters env k ps)
taken_typed given env k [] q x v t e n c = grind arith
taken_typed given env k (p ∷ ps) zero x v t e n c =
    let same : p ≡ (t, x) = ap (λ o. unwrap_or o p) e in
    let rest = take_parameters env (suc k) ps in
    subst (λ l. BothTyped v t (l ++ rest)) (sym (value_taken given env (param_mask k) (param_origin k) p.1 x p.0 v (ap (λ z. z.1) same) n c))
    (subst (λ z. Targets (take_tasks (param_mask k) (param_origin k) v p.0 ++ rest) (mask_name v) (mask_type z)) (ap (λ z. z.0) same) (inl (refl, refl)), inr (inl (refl, refl)))
taken_typed given env k (p ∷ ps) (suc q) x v t e n c =
    let first = take_value env (param_mask k) (param_origin k) p.1 p.0 in
    let rest = take_parameters env (suc k) ps in
    let r = taken_typed given env (suc k) ps q x v t e n c in
    (targets_right first rest (mask_name v) (mask_type t) r.0, targets_right first rest (origin_name v) (Int 32) r.1)

-- a saved size is a number of 64 bits
save_typed : (func : Name → Option ℕ) (saved : ℕ) (o : Op) (ts : List Tracked) → saves func o ≡ 1 → Targets (save_tasks func saved o ts) (msan_name saved) (Int 64)
save_typed func saved (op.Call q y as') ts e = by_name (external_named func y) e
  where
    by_external : (c : External) → saved_by c ≡ 1 → Targets (saved_tasks saved c ts) (msan_name saved) (Int 64)
    by_external Realloc h = inl (refl, refl)
    by_external _ h = grind arith

    by_name : (c : Option External) → elim c as (λ v. ℕ) [ Some d ↦ saved_by d | None ↦ 0 ] ≡ 1
        → Targets (elim c as (λ v. List Task) [ Some d ↦ saved_tasks saved d ts | None ↦ [] ]) (msan_name saved) (Int 64)
    by_name None h = grind arith
    by_name (Some c) h = by_external c h
save_typed func saved _ ts e = grind arith

-- an instruction as what is inserted round it sees it
abbrev as_shown : Inst → Inst
as_shown i = record i { op = shown i.op }

-- an operand of an instruction that stands at a place of a function
abbrev pub OperandGood : Func → Allowed → ℕ → ℕ → Ty → Operand → Type 0
OperandGood f C b p t (operand.Local x) = (value_type f x ≡ Some t) × IsDefined f (record { block = b; place = p; name = x })
OperandGood f C b p t o = OperandFits (λ x u. Unit {0}) C t o

abbrev pub OperandsGood : Func → Allowed → ℕ → ℕ → List (Ty × Operand) → Type 0
OperandsGood f C b p [] = Unit {0}
OperandsGood f C b p (o ∷ os) = (is_value_type o.0 ≡ true) × OperandGood f C b p o.0 o.1 × OperandsGood f C b p os

-- an instruction that is no phi, where what stands at it is given: its operands as what is inserted sees them
pub record PlainGood (given : Given) (f : Func) (C : Allowed) (b p : ℕ) (h : Here) (i : Inst) : Type 0 where
  pub good : OpGood given i.op
  pub told : OpGood given (shown i.op)
  pub moves : MovesGood given C (shown i.op)
  pub slots : SlotsGood C
  pub reads : OperandsGood f C b p (operands (shown i.op))
  pub small : SmallUses (operands (shown i.op)) (uses given.func h.main (shown i.op))
  pub site : h.site < 2 ^ 32
  pub root : h.root + count_undefs (operands (shown i.op)) + 1 < 2 ^ 32
  pub masked : (x : Name) → i.result ≡ Some x → HasMask i.op

-- what the entry of a function needs: a block, slots, and few parameters that are values
pub record EntryGood (f : Func) (C : Allowed) : Type 0 where
  pub filled : Filled f.blocks
  pub slots : SlotsGood C
  pub values : list_all (λ p. is_value_type p.0) f.params ≡ true
  pub few : length f.params ≤ 100

-- an edge of a phi of a function: its operand is used at the end of the block that it names
abbrev pub EdgeGood : Func → Allowed → Ty → Operand → Name → Type 0
EdgeGood f C t (operand.Local x) from =
    (value_type f x ≡ Some t) × IsDefined f (record { block = block_index f.blocks from; place = length (insts_of f (block_index f.blocks from)); name = x })
EdgeGood f C t o from = OperandFits (λ x u. Unit {0}) C t o

abbrev pub EdgesGood : Func → Allowed → Ty → List (Operand × Name) → Type 0
EdgesGood f C t [] = Unit {0}
EdgesGood f C t (e ∷ es) = EdgeGood f C t e.0 e.1 × EdgesGood f C t es

-- the roots among the operands of edges
abbrev pub edge_undefs : List (Operand × Name) → ℕ
edge_undefs [] = 0
edge_undefs (e ∷ es) = one_undef e.0 + edge_undefs es

-- a phi, where what stands at it is given
pub record PhiGood (f : Func) (C : Allowed) (h : Here) (t : Ty) (es : List (Operand × Name)) : Type 0 where
  pub value : is_value_type t ≡ true
  pub edges : EdgesGood f C t es
  pub root : h.root + edge_undefs es < 2 ^ 32

-- an edge of an inserted phi: a number or a value
abbrev pub EdgeFits : Func → Ty → Operand → Name → Type 0
EdgeFits g u (operand.Local y) from =
    (value_type g y ≡ Some u) × IsDefined g (record { block = block_index g.blocks from; place = length (insts_of g (block_index g.blocks from)); name = y })
EdgeFits g u (operand.Int k) from = number_formed u k ≡ true
EdgeFits g u _ from = ⊥

abbrev pub EdgesFit : Func → Ty → List (Operand × Name) → Type 0
EdgesFit g u [] = Unit {0}
EdgesFit g u (e ∷ es) = EdgeFits g u e.0 e.1 × EdgesFit g u es

-- an inserted phi
pub record PhiFits (env : Env) (f g : Func) (b : ℕ) (j : Inst) : Type 0 where
  pub ty : Ty
  pub edges : List (Operand × Name)
  pub number : ℕ
  pub is : j ≡ inserted (Some (msan_name number)) (op.Phi ty edges)
  pub typed : IsInt ty
  pub fits : EdgesFit g ty edges
  pub place : ℕ
  pub phi : Inst
  pub at : slice_get (insts_of f b) place ≡ Some phi
  pub own_ty : Ty
  pub own_edges : List (Operand × Name)
  pub own : phi.op ≡ op.Phi own_ty own_edges
  pub root : ℕ
  pub made : (edges ≡ mask_edges env (width_of own_ty) own_edges) ⊎ (edges ≡ origin_edges env root own_edges)

module _ (given : Given) (env : Env) (size : ℕ) (one : OneName env) (few : FewNumbers env size) (f : Func) (h : Here) (n : ℕ) (C : Allowed)
    (entry : EntryGood f C) (room : 2 * size + 1 ≤ n) (once_f : repeats [] (locals f) ≡ []) (free : (x : Name) → In (locals f) x → is_reserved x ≡ false)
    (good : (b p : ℕ) (i : Inst) → slice_get (insts_of f b) p ≡ Some i → is_phi i.op ≡ false
    → PlainGood given f C b p (here_at given env (insts_of f b) p (code_at given env f h n b).here) i)
    (phi_masked : (b : ℕ) (x : Name) → Masks x (insts_of f b))
    (phi_good : (b p : ℕ) (i : Inst) (t : Ty) (es : List (Operand × Name)) → slice_get (insts_of f b) p ≡ Some i → i.op ≡ op.Phi t es
    → PhiGood f C (here_at given env (insts_of f b) p (code_at given env f h n b).here) t es) where
  abbrev g : Func
  g = passed given env f h n

  once : repeats [] (locals g) ≡ []
  once = once_kept given env size one few f h n room once_f free

  -- ---- the code round an instruction

  abbrev emitted : ℕ → ℕ → Inst → Emitted
  emitted b p i = emit_at given env (insts_of f b) p (code_at given env f h n b).here (code_at given env f h n b).next i

  round_code : (b p : ℕ) (i : Inst) → slice_get (insts_of f b) p ≡ Some i → (r : ℕ) (j : Inst) → slice_get (round_of given env (emitted b p i) i) r ≡ Some j
      → slice_get (insts_of g b) (begins given env f h n b p + r) ≡ Some j
  round_code b p i at r j e =
      let c = code_at given env f h n b in
      let s = round_at given env (insts_of f b) p i c.here c.next at in
      let whole = round_of given env (emitted b p i) i in
      let first = code_of given env (take p (insts_of f b)) c.here c.next in
      ap (λ l. slice_get l (begins given env f h n b p + r)) (c.code ∙ ap (λ l. c.front ++ l) s.1)
      ∙ ap (slice_get (c.front ++ (first ++ (whole ++ s.0)))) {x = length c.front + length first + r} {y = length c.front + (length first + r)} (omega arith)
      ∙ slice_right c.front (first ++ (whole ++ s.0)) (length first + r) j (slice_right first (whole ++ s.0) r j (slice_left whole s.0 r j e))

  -- the instruction itself stands after the list before it
  inst_code : (b p : ℕ) (i : Inst) → slice_get (insts_of f b) p ≡ Some i
      → slice_get (insts_of g b) (begins given env f h n b p + (length (emitted b p i).before + 0)) ≡ Some i
  inst_code b p i at =
      let e = emitted b p i in
      round_code b p i at (length e.before + 0) i (slice_right e.before (i ∷ e.after) 0 i refl)

  few_params : {k : ℕ} → k ≤ 100 → 0 + k ≤ 100
  few_params l = omega (arith, l)

  -- what stands at the entry
  entry_code_at : (q : ℕ) (j : Inst) → slice_get (taken given env f n) q ≡ Some j → slice_get (insts_of g 0) q ≡ Some j
  entry_code_at q j e =
      let c = code_at given env f h n 0 in
      ap (λ l. slice_get l q) c.code
      ∙ slice_left c.front (code_of given env (insts_of f 0) c.here c.next) q j (ap (λ l. slice_get l q) (first_front given env (taken given env f n) f.blocks h n entry.filled) ∙ e)

  -- ---- types

  pub value_kept : (x : Name) (t : Ty) → value_type f x ≡ Some t → value_type g x ≡ Some t
  value_kept x t e =
      ⊎_elim (λ l. param_typed g once l.0 t x l.1)
      (λ r. typed_result_at g once r.block r.block _ r.inst x t (inst_code r.block r.place r.inst r.at) r.named r.gives) (value_from f x t e)

  abbrev AnyName : Name → Ty → Type 0
  AnyName x t = Unit {0}

  any_operand : (b p : ℕ) (t : Ty) (o : Operand) → OperandGood f C b p t o → OperandKnown env AnyName C t o
  any_operand b p t (operand.Local x) k = (tt, λ v e c. (tt, tt))
  any_operand b p t (operand.Int m) k = k
  any_operand b p t operand.Null k = k
  any_operand b p t operand.Undef k = k
  any_operand b p t operand.Poison k = k
  any_operand b p t (operand.Global x) k = k
  any_operand b p t (operand.Offset x steps) k = k

  any_operands : (b p : ℕ) (os : List (Ty × Operand)) → OperandsGood f C b p os → OperandsKnown env AnyName C os
  any_operands b p [] k = tt
  any_operands b p (o ∷ os) k = (k.0, any_operand b p o.0 o.1 k.1, any_operands b p os k.2)

  few_roots : (r c : ℕ) → r + c + 1 < 2 ^ 32 → r + c < 2 ^ 32
  few_roots r c l = omega (arith, l)

  before_typed : (b p : ℕ) (k : Here) (i : Inst) (m : ℕ) → PlainGood given f C b p k i → is_phi i.op ≡ false → is_own_call given.func i.op ≡ false → (x : Name) (v : ℕ) (t : Ty) → i.result ≡ Some x
      → env.number x ≡ Some v → env.clean x ≡ false → result_type i.op ≡ Some t
      → TypedIn (tasks_code (before_tasks given env k i m) (start given i m)).code (mask_name v) (mask_type t) × TypedIn (tasks_code (before_tasks given env k i m) (start given i m)).code (origin_name v) (Int 32)
  before_typed b p k i m good_i plain w x v t named number unclean gives =
      let ts = tracked env k.root (operands i.op) in
      let cs = check_tasks k.site ts (uses given.func k.main i.op) in
      let bs = blind_tasks (blinded_of given.func i.op ts) in
      let rs = result_tasks given.func env i.result i.op ts in
      let hs = hand_tasks given.func k.main i.op ts in
      let ss = save_tasks given.func m i.op ts in
      let d = define_typed given.func v i.op ts t (good_answers given i.op good_i.good) (good_i.masked x named) plain w gives in
      let same = result_is given env i.result x v i.op ts named number unclean in
      let seen = operands (shown i.op) in
      let all = tracked_fits C AnyName env k.root seen (few_roots k.root (count_undefs seen) good_i.root) (any_operands b p seen good_i.reads) in
      let fits = subst (TasksFit AnyName C) (same_before given env k m i.result i.op)
      (before_fits C AnyName given env k.root k (as_shown i) refl good_i.told good_i.moves good_i.slots good_i.site good_i.small all m) in
      let there = λ (y : Name) (u : Ty) (q : Targets (define_tasks given.func v i.op ts) y u).
      tasks_typed C (before_tasks given env k i m) AnyName (start given i m) fits y u (targets_right hs (cs ++ (bs ++ (rs ++ ss))) y u (targets_right cs (bs ++ (rs ++ ss)) y u (targets_right bs (rs ++ ss) y u
      (targets_left rs ss y u (subst (λ l. Targets l y u) (sym same) q))))) in
      (there (mask_name v) (mask_type t) d.0, there (origin_name v) (Int 32) d.1)

  after_typed : (b p : ℕ) (k : Here) (i : Inst) (m m2 : ℕ) → PlainGood given f C b p k i → is_own_call given.func i.op ≡ true → (x : Name) (v : ℕ) (t : Ty) → i.result ≡ Some x
      → env.number x ≡ Some v → env.clean x ≡ false → result_type i.op ≡ Some t
      → TypedIn (tasks_code (after_tasks given env k i m) m2).code (mask_name v) (mask_type t) × TypedIn (tasks_code (after_tasks given env k i m) m2).code (origin_name v) (Int 32)
  after_typed b p k i m m2 good_i own x v t named number unclean gives =
      let ts = tracked env k.root (operands i.op) in
      let seen = operands (shown i.op) in
      let all = tracked_fits C AnyName env k.root seen (few_roots k.root (count_undefs seen) good_i.root) (any_operands b p seen good_i.reads) in
      let fits = subst (TasksFit AnyName C) (same_after given env k m i.result i.op)
      (plane_fits C AnyName given env k.root k i.result (shown i.op) good_i.told good_i.slots (λ y u e q. tt) m (λ e. tt) good_i.site good_i.root all) in
      let two = subst (λ r. BothTyped v t (plane_tasks given env k m r i.op ts)) (sym named)
      (called_typed given env k m x v i.op ts t number unclean own (good_i.masked x named) gives) in
      (tasks_typed C (after_tasks given env k i m) AnyName m2 fits (mask_name v) (mask_type t) two.0, tasks_typed C (after_tasks given env k i m) AnyName m2 fits (origin_name v) (Int 32) two.1)

  -- the lists round an instruction give the mask and the origin of its result their types
  emit_typed : (b p : ℕ) (k : Here) (i : Inst) (m : ℕ) (o : Op) → i.op ≡ o → (is_phi o ≡ false → PlainGood given f C b p k i) → (x : Name) (v : ℕ) (t : Ty) → i.result ≡ Some x
      → env.number x ≡ Some v → env.clean x ≡ false → result_type o ≡ Some t
      → TypedIn (round_of given env (emit_op given env k i m o) i) (mask_name v) (mask_type t) × TypedIn (round_of given env (emit_op given env k i m o) i) (origin_name v) (Int 32)
  emit_typed b p k i m (op.Phi u es) is good_i x v t named number unclean gives =
      subst (λ l. TypedIn (i ∷ l) (mask_name v) (mask_type t) × TypedIn (i ∷ l) (origin_name v) (Int 32)) (sym (phi_sets given env k.root v i.result x u es named number unclean))
      (inr (inl (refl, ap (λ w. Some (mask_type w)) (same_Some u t gives))), inr (inr (inl (refl, refl))))
  emit_typed b p k i m o is good_i x v t named number unclean gives =
      by_own (good_i refl) (is_own_call given.func i.op) refl
    where
      by_own : PlainGood given f C b p k i → (w : Bool) → is_own_call given.func i.op ≡ w
          → let a = (tasks_code (before_tasks given env k i m) (start given i m)).code in
          let after = (tasks_code (after_tasks given env k i m) (tasks_code (before_tasks given env k i m) (start given i m)).next).code in
          TypedIn (a ++ i ∷ after) (mask_name v) (mask_type t) × TypedIn (a ++ i ∷ after) (origin_name v) (Int 32)
      by_own it false w =
          let a = (tasks_code (before_tasks given env k i m) (start given i m)).code in
          let after = (tasks_code (after_tasks given env k i m) (tasks_code (before_tasks given env k i m) (start given i m)).next).code in
          let two = before_typed b p k i m it (ap is_phi is) w x v t named number unclean (ap result_type is ∙ gives) in
          (typed_left a (i ∷ after) (mask_name v) (mask_type t) two.0, typed_left a (i ∷ after) (origin_name v) (Int 32) two.1)
      by_own it true w =
          let a = (tasks_code (before_tasks given env k i m) (start given i m)).code in
          let later = (tasks_code (before_tasks given env k i m) (start given i m)).next in
          let after = (tasks_code (after_tasks given env k i m) later).code in
          let two = after_typed b p k i m later it w x v t named number unclean (ap result_type is ∙ gives) in
          (typed_right a (i ∷ after) (mask_name v) (mask_type t) (inr two.0), typed_right a (i ∷ after) (origin_name v) (Int 32) (inr two.1))

  pub marks_typed : (x : Name) (t : Ty) (v : ℕ) → value_type f x ≡ Some t → env.number x ≡ Some v → env.clean x ≡ false
      → (value_type g (mask_name v) ≡ Some (mask_type t)) × (value_type g (origin_name v) ≡ Some (Int 32))
  marks_typed x t v e number unclean = ⊎_elim by_param by_result (value_from f x t e)
    where
      by_param : (k : ℕ) × (slice_get f.params k ≡ Some (t, x)) → (value_type g (mask_name v) ≡ Some (mask_type t)) × (value_type g (origin_name v) ≡ Some (Int 32))
      by_param l =
          let ts = take_parameters env 0 f.params in
          let fits = params_fit C AnyName given env 0 0 f.params (few_params entry.few) entry.slots entry.values in
          let two = taken_typed given env 0 f.params l.0 x v t l.1 number unclean in
          let m = typed_at (taken given env f n) (mask_name v) (mask_type t) (tasks_typed C ts AnyName n fits (mask_name v) (mask_type t) two.0) in
          let o = typed_at (taken given env f n) (origin_name v) (Int 32) (tasks_typed C ts AnyName n fits (origin_name v) (Int 32) two.1) in (
            typed_result_at g once 0 0 m.0 m.1 (mask_name v) (mask_type t) (entry_code_at m.0 m.1 m.2) m.3 m.4,
            typed_result_at g once 0 0 o.0 o.1 (origin_name v) (Int 32) (entry_code_at o.0 o.1 o.2) o.3 o.4,
          )

      by_result : ResultAt f x t → (value_type g (mask_name v) ≡ Some (mask_type t)) × (value_type g (origin_name v) ≡ Some (Int 32))
      by_result r =
          let c = code_at given env f h n r.block in
          let is = insts_of f r.block in
          let two = emit_typed r.block r.place (here_at given env is r.place c.here) r.inst (next_at given env is r.place c.here c.next) r.inst.op refl
          (λ plain. good r.block r.place r.inst r.at plain) x v t r.named number unclean r.gives in
          let whole = round_of given env (emitted r.block r.place r.inst) r.inst in
          let m = typed_at whole (mask_name v) (mask_type t) two.0 in
          let o = typed_at whole (origin_name v) (Int 32) two.1 in (
            typed_result_at g once r.block r.block _ m.1 (mask_name v) (mask_type t) (round_code r.block r.place r.inst r.at m.0 m.1 m.2) m.3 m.4,
            typed_result_at g once r.block r.block _ o.1 (origin_name v) (Int 32) (round_code r.block r.place r.inst r.at o.0 o.1 o.2) o.3 o.4,
          )

  -- ---- what is known at the lists round an instruction

  operand_known : (b p r : ℕ) (t : Ty) (o : Operand) → OperandGood f C b p t o → OperandKnown env (KnownAt g b (begins given env f h n b p + r)) C t o
  operand_known b p r t (operand.Local x) k = (
    known_later g once b (begins given env f h n b p) r x t (value_kept x t k.0, own_defined given env f h n b p x k.1),
    λ v e c.
        let m = marks_typed x t v k.0 e c in
        let d = masks_defined given env f h n b p x v e c entry.filled (λ a. phi_masked a x) k.1 in (
          known_later g once b (begins given env f h n b p) r (mask_name v) (mask_type t) (m.0, d.0),
          known_later g once b (begins given env f h n b p) r (origin_name v) (Int 32) (m.1, d.1),
        ),
  )
  operand_known b p r t (operand.Int m) k = k
  operand_known b p r t operand.Null k = k
  operand_known b p r t operand.Undef k = k
  operand_known b p r t operand.Poison k = k
  operand_known b p r t (operand.Global x) k = k
  operand_known b p r t (operand.Offset x steps) k = k

  operands_known : (b p r : ℕ) (os : List (Ty × Operand)) → OperandsGood f C b p os → OperandsKnown env (KnownAt g b (begins given env f h n b p + r)) C os
  operands_known b p r [] k = tt
  operands_known b p r (o ∷ os) k = (k.0, operand_known b p r o.0 o.1 k.1, operands_known b p r os k.2)

  -- ---- the lists round an instruction that is no phi

  module _ (b p : ℕ) (i : Inst) (at : slice_get (insts_of f b) p ≡ Some i) (plain : is_phi i.op ≡ false) where
    abbrev begin : ℕ
    begin = begins given env f h n b p

    abbrev place_here : Here
    place_here = here_at given env (insts_of f b) p (code_at given env f h n b).here

    abbrev number_here : ℕ
    number_here = next_at given env (insts_of f b) p (code_at given env f h n b).here (code_at given env f h n b).next

    its : PlainGood given f C b p place_here i
    its = good b p i at plain

    same_lists : emitted b p i ≡ emit_tasks given env place_here i number_here
    same_lists = plain_emit given env place_here i number_here i.op plain

    abbrev seen : List (Ty × Operand)
    seen = operands (shown i.op)

    tracked_at_place : (r : ℕ) → AllTracked (KnownAt g b (begin + r)) C (tracked env place_here.root seen)
    tracked_at_place r =
        tracked_fits C (KnownAt g b (begin + r)) env place_here.root seen (few_roots place_here.root (count_undefs seen) its.root) (operands_known b p r seen its.reads)

    before_list : TasksFit (KnownAt g b (begin + 0)) C (before_tasks given env place_here i number_here)
    before_list =
        let K = KnownAt g b (begin + 0) in
        subst (TasksFit K C) (same_before given env place_here number_here i.result i.op)
        (before_fits C K given env place_here.root place_here (as_shown i) refl its.told its.moves its.slots its.site its.small (tracked_at_place 0) number_here)

    pub before_inserted : (r : ℕ) (j : Inst) → slice_get (emitted b p i).before r ≡ Some j → InstFits (KnownAt g b (begin + r)) C j
    before_inserted r j e =
        let ts = before_tasks given env place_here i number_here in
        let code = (tasks_code ts (start given i number_here)).code in
        let same : (emitted b p i).before ≡ code = ap (λ x. x.before) same_lists in
        let K = KnownAt g b (begin + 0) in
        let fits = tasks_fit C ts K (start given i number_here) before_list in
        subst (λ q. InstFits (KnownAt g b q) C j) {x = begin + 0 + r} {y = begin + r} (omega arith)
        (placed g once b C code (begin + 0) fits
        (λ l k d. ap (slice_get (insts_of g b)) {x = begin + 0 + l} {y = begin + l} (omega arith)
        ∙ round_code b p i at l k (slice_left (emitted b p i).before (i ∷ (emitted b p i).after) l k (ap (λ z. slice_get z l) same ∙ d)))
        r j (ap (λ z. slice_get z r) (sym same) ∙ e))

    -- the size that is saved is known after the list
    saved_known : saves given.func i.op ≡ 1 → KnownAt g b (begin + (length (emitted b p i).before + 1)) (msan_name number_here) (Int 64)
    saved_known e =
        let ts = tracked env place_here.root (operands i.op) in
        let hs = hand_tasks given.func place_here.main i.op ts in
        let cs = check_tasks place_here.site ts (uses given.func place_here.main i.op) in
        let bs = blind_tasks (blinded_of given.func i.op ts) in
        let rs = result_tasks given.func env i.result i.op ts in
        let ss = save_tasks given.func number_here i.op ts in
        let y = msan_name number_here in
        let all = before_tasks given env place_here i number_here in
        let code = (tasks_code all (start given i number_here)).code in
        let same : (emitted b p i).before ≡ code = ap (λ x. x.before) same_lists in
        let K = KnownAt g b (begin + 0) in
        let found = targets_right hs (cs ++ (bs ++ (rs ++ ss))) y (Int 64) (targets_right cs (bs ++ (rs ++ ss)) y (Int 64) (targets_right bs (rs ++ ss) y (Int 64)
        (targets_right rs ss y (Int 64) (save_typed given.func number_here i.op ts e)))) in
        let t = typed_at code y (Int 64) (tasks_typed C all K (start given i number_here) before_list y (Int 64) found) in
        let here : slice_get (emitted b p i).before t.0 ≡ Some t.1 = ap (λ z. slice_get z t.0) same ∙ t.2 in
        let within = place_within (emitted b p i).before t.0 t.1 here in
        let known = known_next g once b (begin + t.0) t.1 (round_code b p i at t.0 t.1 (slice_left (emitted b p i).before (i ∷ (emitted b p i).after) t.0 t.1 here)) y (Int 64) (inr (t.3, t.4)) in
        let rest = length (emitted b p i).before - t.0 in
        subst (λ q. KnownAt g b q y (Int 64)) {x = begin + t.0 + 1 + rest} {y = begin + (length (emitted b p i).before + 1)} (omega (arith, within))
        (known_later g once b (begin + t.0 + 1) rest y (Int 64) known)

    pub after_inserted : (r : ℕ) (j : Inst) → slice_get (emitted b p i).after r ≡ Some j → InstFits (KnownAt g b (begin + (length (emitted b p i).before + suc r))) C j
    after_inserted r j e =
        let ts = after_tasks given env place_here i number_here in
        let m = (tasks_code (before_tasks given env place_here i number_here) (start given i number_here)).next in
        let code = (tasks_code ts m).code in
        let same : (emitted b p i).after ≡ code = ap (λ x. x.after) same_lists in
        let l = length (emitted b p i).before in
        let K = KnownAt g b (begin + (l + 1)) in
        let here_q : slice_get (insts_of g b) (begin + (l + 0)) ≡ Some i = inst_code b p i at in
        let fits = tasks_fit C ts K m (subst (TasksFit K C) (same_after given env place_here number_here i.result i.op)
        (plane_fits C K given env place_here.root place_here i.result (shown i.op) its.told its.slots
        (λ x t named gives. subst (λ q. KnownAt g b q x t) {x = begin + (l + 0) + 1} {y = begin + (l + 1)} (omega arith)
        (known_next g once b (begin + (l + 0)) i here_q x t (inr (named, sym (shown_result i.op) ∙ gives))))
        number_here (λ e. saved_known (sym (shown_saves given.func i.op) ∙ e)) its.site its.root (tracked_at_place (l + 1)))) in
        subst (λ q. InstFits (KnownAt g b q) C j) {x = begin + (l + 1) + r} {y = begin + (l + suc r)} (omega arith)
        (placed g once b C code (begin + (l + 1)) fits
        (λ a k d. ap (slice_get (insts_of g b)) {x = begin + (l + 1) + a} {y = begin + (l + suc a)} (omega arith)
        ∙ round_code b p i at (l + suc a) k (slice_right (emitted b p i).before (i ∷ (emitted b p i).after) (suc a) k (ap (λ z. slice_get z a) same ∙ d)))
        r j (ap (λ z. slice_get z r) (sym same) ∙ e))

  -- ---- the phis of masks and origins

  at_end : (y : Name) (u : Ty) (from : Name) → value_type g y ≡ Some u
      → IsDefined g (record { block = block_index f.blocks from; place = length (insts_of g (block_index f.blocks from)); name = y }) → EdgeFits g u (operand.Local y) from
  at_end y u from e d = (e, subst (λ b. IsDefined g (record { block = b; place = length (insts_of g b); name = y })) (sym (index_same given env f h n from)) d)

  local_edges : (x : Name) (t : Ty) (from : Name) → is_value_type t ≡ true → EdgeGood f C t (operand.Local x) from
      → EdgeFits g (mask_type t) (local_mask env x) from × EdgeFits g (Int 32) (local_origin env x) from
  local_edges x t from i k = by_number (env.number x) refl
    where
      by_clean : (v : ℕ) (c : Bool) → env.number x ≡ Some v → env.clean x ≡ c
          → EdgeFits g (mask_type t) (if c then operand.Int 0 else operand.Local (mask_name v)) from × EdgeFits g (Int 32) (if c then operand.Int 0 else operand.Local (origin_name v)) from
      by_clean v true e c = (no_bits (width_of t) (wide t i), refl)
      by_clean v false e c =
          let m = marks_typed x t v k.0 e c in
          let d = masks_defined_end given env f h n (block_index f.blocks from) x v e c entry.filled (λ a. phi_masked a x) k.1 in
          (at_end (mask_name v) (mask_type t) from m.0 d.0, at_end (origin_name v) (Int 32) from m.1 d.1)

      by_number : (o : Option ℕ) → env.number x ≡ o
          → EdgeFits g (mask_type t) (elim o as (λ w. Operand) [ Some v ↦ if env.clean x then operand.Int 0 else operand.Local (mask_name v) | None ↦ operand.Int 0 ]) from
          × EdgeFits g (Int 32) (elim o as (λ w. Operand) [ Some v ↦ if env.clean x then operand.Int 0 else operand.Local (origin_name v) | None ↦ operand.Int 0 ]) from
      by_number None e = (no_bits (width_of t) (wide t i), refl)
      by_number (Some v) e = by_clean v (env.clean x) e refl

  mask_edge : (t : Ty) (o : Operand) (from : Name) → is_value_type t ≡ true → EdgeGood f C t o from → EdgeFits g (mask_type t) (mask_operand env (width_of t) o) from
  mask_edge t (operand.Local x) from i k = (local_edges x t from i k).0
  mask_edge t operand.Undef from i k = all_bits (width_of t) (wide t i)
  mask_edge t operand.Poison from i k = all_bits (width_of t) (wide t i)
  mask_edge t _ from i k = no_bits (width_of t) (wide t i)

  origin_edge : (t : Ty) (o : Operand) (from : Name) (root : ℕ) → is_value_type t ≡ true → root + one_undef o < 2 ^ 32 → EdgeGood f C t o from → EdgeFits g (Int 32) (origin_operand env root o) from
  origin_edge t (operand.Local x) from root i r k = (local_edges x t from i k).1
  origin_edge t operand.Undef from root i r k = number_fits 32 (root + 1) refl r
  origin_edge t operand.Poison from root i r k = number_fits 32 (root + 1) refl r
  origin_edge t _ from root i r k = refl

  pub mask_edges_fit : (t : Ty) (es : List (Operand × Name)) → is_value_type t ≡ true → EdgesGood f C t es → EdgesFit g (mask_type t) (mask_edges env (width_of t) es)
  mask_edges_fit t [] i k = tt
  mask_edges_fit t (e ∷ es) i k = (mask_edge t e.0 e.1 i k.0, mask_edges_fit t es i k.1)

  origin_from_fits : (t : Ty) (es : List (Operand × Name)) (root : ℕ) (from : Name) → is_value_type t ≡ true → root + edge_undefs es < 2 ^ 32 → EdgesGood f C t es
      → EdgeFits g (Int 32) (origin_from env root es from) from
  origin_from_fits t [] root from i r k = refl
  origin_from_fits t (e ∷ es) root from i r k = by_name (name_eq e.1 from) refl (origin_from_fits t es (root + one_undef e.0) from i (later root (one_undef e.0) (edge_undefs es) r) k.1)
    where
      later : (a b c : ℕ) → a + (b + c) < 2 ^ 32 → a + b + c < 2 ^ 32
      later a b c l = omega (arith, l)

      first : (a b c : ℕ) → a + (b + c) < 2 ^ 32 → a + b < 2 ^ 32
      first a b c l = omega (arith, l)

      by_name : (c : Bool) → name_eq e.1 from ≡ c → EdgeFits g (Int 32) (origin_from env (root + one_undef e.0) es from) from
          → EdgeFits g (Int 32) (if c then origin_operand env root e.0 else origin_from env (root + one_undef e.0) es from) from
      by_name true same go =
          subst (EdgeFits g (Int 32) (origin_operand env root e.0)) (name_same e.1 from same) (origin_edge t e.0 e.1 root i (first root (one_undef e.0) (edge_undefs es) r) k.0)
      by_name false same go = go

  origins_fit : (t : Ty) (all es : List (Operand × Name)) (root : ℕ) → is_value_type t ≡ true → root + edge_undefs all < 2 ^ 32 → EdgesGood f C t all
      → EdgesFit g (Int 32) (origins_by env root all es)
  origins_fit t all [] root i r k = tt
  origins_fit t all (e ∷ es) root i r k = (origin_from_fits t all root e.1 i r k, origins_fit t all es root i r k)

  pub origin_edges_fit : (t : Ty) (es : List (Operand × Name)) (root : ℕ) → is_value_type t ≡ true → root + edge_undefs es < 2 ^ 32 → EdgesGood f C t es
      → EdgesFit g (Int 32) (origin_edges env root es)
  origin_edges_fit t es root i r k = origins_fit t es es root i r k

  -- ---- all instructions of the instrumented form

  -- an instruction of the function itself
  pub record OwnAt (b q : ℕ) (j : Inst) : Type 0 where
    pub place : ℕ
    pub front : ℕ
    pub at : slice_get (insts_of f b) place ≡ Some j
    pub stands : q ≡ begins given env f h n b place + front

  abbrev pub StandsAt : ℕ → ℕ → Inst → Type 0
  StandsAt b q j = InstFits (KnownAt g b q) C j ⊎ (PhiFits env f g b j ⊎ OwnAt b q j)

  phi_marks : (b p k : ℕ) (i j : Inst) (t : Ty) (es : List (Operand × Name)) (root : ℕ) → slice_get (insts_of f b) p ≡ Some i → i.op ≡ op.Phi t es → is_value_type t ≡ true
      → EdgesGood f C t es → root + edge_undefs es < 2 ^ 32 → slice_get (phi_code env root i.result t es) k ≡ Some j → PhiFits env f g b j
  phi_marks b p k i j t es root at is v edges less e = by_result i.result e
    where
      by_place : (u : ℕ) (q : ℕ) → slice_get (phi_pair env u root t es) q ≡ Some j → PhiFits env f g b j
      by_place u zero d = record {
        ty = mask_type t;
        edges = mask_edges env (width_of t) es;
        number = 2 * u + 1;
        is = ap (λ o. unwrap_or o j) (sym d);
        typed = wide t v;
        fits = mask_edges_fit t es v edges;
        place = p;
        phi = i;
        at = at;
        own_ty = t;
        own_edges = es;
        own = is;
        root = root;
        made = inl refl;
      }
      by_place u (suc zero) d = record {
        ty = Int 32;
        edges = origin_edges env root es;
        number = 2 * u + 2;
        is = ap (λ o. unwrap_or o j) (sym d);
        typed = refl;
        fits = origin_edges_fit t es root v less edges;
        place = p;
        phi = i;
        at = at;
        own_ty = t;
        own_edges = es;
        own = is;
        root = root;
        made = inr refl;
      }
      by_place u (suc (suc q)) d = grind arith

      by_clean : (u : ℕ) (c : Bool) → slice_get (if c then [] else phi_pair env u root t es) k ≡ Some j → PhiFits env f g b j
      by_clean u true d = grind arith
      by_clean u false d = by_place u k d

      by_number : (x : Name) (o : Option ℕ) → slice_get (elim o as (λ w. List Inst) [ Some u ↦ if env.clean x then [] else phi_pair env u root t es | None ↦ [] ]) k ≡ Some j → PhiFits env f g b j
      by_number x None d = grind arith
      by_number x (Some u) d = by_clean u (env.clean x) d

      by_result : (r : Option Name) → slice_get (phi_code env root r t es) k ≡ Some j → PhiFits env f g b j
      by_result None d = grind arith
      by_result (Some x) d = by_number x (env.number x) d

  own_here : (b p q : ℕ) (i j : Inst) (l k : ℕ) → slice_get (insts_of f b) p ≡ Some i → i ≡ j → q ≡ begins given env f h n b p + (l + k) → OwnAt b q j
  own_here b p q i j l k at same e = record { place = p; front = l + k; at = at ∙ ap Some same; stands = e }

  plain_stands : (b p q r : ℕ) (i j : Inst) (at : slice_get (insts_of f b) p ≡ Some i) (plain : is_phi i.op ≡ false) → slice_get (round_of given env (emitted b p i) i) r ≡ Some j
      → q ≡ begins given env f h n b p + r → StandsAt b q j
  plain_stands b p q r i j at plain d e =
      ⊎_elim
      (λ l. inl (subst (λ k. InstFits (KnownAt g b k) C j) (sym e) (before_inserted b p i at plain r j l)))
      (λ s. beyond s.0 s.2 (e ∙ ap (λ k. begins given env f h n b p + k) s.1))
      (slice_either (emitted b p i).before (i ∷ (emitted b p i).after) r j d)
    where
      beyond : (k : ℕ) → slice_get (i ∷ (emitted b p i).after) k ≡ Some j → q ≡ begins given env f h n b p + (length (emitted b p i).before + k) → StandsAt b q j
      beyond zero s f' = inr (inr (own_here b p q i j (length (emitted b p i).before) 0 at (ap (λ o. unwrap_or o i) s) f'))
      beyond (suc k) s f' = inl (subst (λ m. InstFits (KnownAt g b m) C j) (sym f') (after_inserted b p i at plain k j s))

  phi_stands : (b p q r : ℕ) (i j : Inst) (t : Ty) (es : List (Operand × Name)) (at : slice_get (insts_of f b) p ≡ Some i) → i.op ≡ op.Phi t es
      → slice_get (round_of given env (emitted b p i) i) r ≡ Some j → q ≡ begins given env f h n b p + r → StandsAt b q j
  phi_stands b p q r i j t es at is d e = by_place r e (ap (λ x. slice_get (round_of given env x i) r) lists ∙ d)
    where
      k : Here
      k = here_at given env (insts_of f b) p (code_at given env f h n b).here

      its : PhiGood f C (here_at given env (insts_of f b) p (code_at given env f h n b).here) t es
      its = phi_good b p i t es at is

      lists : emit_op given env (here_at given env (insts_of f b) p (code_at given env f h n b).here) i
          (next_at given env (insts_of f b) p (code_at given env f h n b).here (code_at given env f h n b).next) (op.Phi t es) ≡ emitted b p i
      lists = ap (emit_op given env (here_at given env (insts_of f b) p (code_at given env f h n b).here) i
          (next_at given env (insts_of f b) p (code_at given env f h n b).here (code_at given env f h n b).next)) (sym is)

      by_place : (a : ℕ) → q ≡ begins given env f h n b p + a
          → slice_get (i ∷ phi_code env (here_at given env (insts_of f b) p (code_at given env f h n b).here).root i.result t es) a ≡ Some j → StandsAt b q j
      by_place zero l s = inr (inr (own_here b p q i j 0 0 at (ap (λ o. unwrap_or o i) s) l))
      by_place (suc a) l s =
          inr (inl (phi_marks b p a i j t es (here_at given env (insts_of f b) p (code_at given env f h n b).here).root at is its.value its.edges its.root s))

  -- what stands at the entry fits there
  entry_fits : (q : ℕ) (j : Inst) → slice_get (taken given env f n) q ≡ Some j → InstFits (KnownAt g 0 q) C j
  entry_fits q j e =
      let ts = take_parameters env 0 f.params in
      let K = KnownAt g 0 0 in
      subst (λ k. InstFits (KnownAt g 0 k) C j) {x = 0 + q} {y = q} (omega arith)
      (placed g once 0 C (taken given env f n) 0 (tasks_fit C ts K n (params_fit C K given env 0 0 f.params (few_params entry.few) entry.slots entry.values))
      (λ k i d. ap (slice_get (insts_of g 0)) {x = 0 + k} {y = k} (omega arith) ∙ entry_code_at k i d) q j e)

  -- each instruction of the instrumented form is inserted and fits, or is the function's own
  pub all_stand : (b q : ℕ) (j : Inst) → slice_get (insts_of g b) q ≡ Some j → StandsAt b q j
  all_stand b q j e =
      let c = code_at given env f h n b in
      ⊎_elim (λ l. by_front (front_entry given env (taken given env f n) f.blocks h n b) l) (λ r. by_round r.0 r.1 r.2)
      (slice_either c.front (code_of given env (insts_of f b) c.here c.next) q j (ap (λ l. slice_get l q) (sym c.code) ∙ e))
    where
      by_front : ((code_at given env f h n b).front ≡ []) ⊎ ((b ≡ 0) × ((code_at given env f h n b).front ≡ taken given env f n)) → slice_get (code_at given env f h n b).front q ≡ Some j → StandsAt b q j
      by_front (inl none) l = let z : slice_get {X = Inst} [] q ≡ Some j = ap (λ l. slice_get l q) (sym none) ∙ l in grind arith
      by_front (inr same) l = inl (subst (λ k. InstFits (KnownAt g k q) C j) (sym same.0) (entry_fits q j (ap (λ z. slice_get z q) (sym same.1) ∙ l)))

      by_op : (p : ℕ) (i : Inst) (r : ℕ) (o : Op) → i.op ≡ o → slice_get (insts_of f b) p ≡ Some i → slice_get (round_of given env (emitted b p i) i) r ≡ Some j
          → q ≡ begins given env f h n b p + r → StandsAt b q j
      by_op p i r (op.Phi t es) is at d l = phi_stands b p q r i j t es at is d l
      by_op p i r o is at d l = plain_stands b p q r i j at (ap is_phi is) d l

      by_round : (k : ℕ) → q ≡ length (code_at given env f h n b).front + k
          → slice_get (code_of given env (insts_of f b) (code_at given env f h n b).here (code_at given env f h n b).next) k ≡ Some j → StandsAt b q j
      by_round k l d =
          let c = code_at given env f h n b in
          let s = in_round given env (insts_of f b) c.here c.next k j d in
          by_op s.0 s.1 s.2 s.1.op refl s.3 s.4 (omega (arith, l, s.5))
