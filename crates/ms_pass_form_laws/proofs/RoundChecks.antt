-- How many checks stand before and after an instruction: one for each of its uses that is checked as a word and whose
-- mask isn't known to be 0.
use Rattle.std.proofs.Common.{◌≡◌, ℕ, zero, suc, ◌+◌, ◌-◌, ◌^◌, ◌≤◌, List, [], ◌∷◌, ◌++◌, length, Bool, true, false, Option, Some, None, refl, sym, ap, ◌∙◌, arith, true≢false}
use Rattle.std.specs.Prelude.{filter, not, cond, eqb, if◌then◌else◌, is_some}
use Rattle.std.specs.List.{list_all}
use Rattle.std.proofs.lemmas.Bool.{and_parts, ne_eqb}
use Rattle.std.proofs.lemmas.Nat.{pow_pos}
use Rattle.ms_bits.specs.declared.operations.BinOp.{BinOp}
use Rattle.ms_bits.specs.declared.operations.BinOp.TheVariants as binary
use Rattle.ms_ir.specs.declared.syntax.Name.{Name}
use Rattle.ms_ir.specs.declared.syntax.Ty.{Ty}
use Rattle.ms_ir.specs.declared.syntax.Operand.{Operand}
use Rattle.ms_ir.specs.declared.syntax.Operand.TheVariants as operand
use Rattle.ms_ir.specs.declared.syntax.Op.{Op}
use Rattle.ms_ir.specs.declared.syntax.Op.TheVariants as op
use Rattle.ms_ir.specs.declared.syntax.Inst.{Inst}
use Rattle.ms_bits.specs.declared.word_functions.BitMove.{BitMove}
use Rattle.ms_ir.specs.Names.{lookup, externals}
use Rattle.ms_ir.specs.declared.calls.External.{External}
use Rattle.ms_ir.specs.declared.calls.External.TheVariants.{Realloc, Memset}
use Rattle.ms_ir.specs.Instructions.{operands, one_undef, count_undefs, external_named, over_insts}
use Rattle.ms_ir.specs.Layout.{width_of}
use Rattle.ms_runs.specs.Uses.{CheckedUse, Word, Bytes, Line, uses, Asked}
use Rattle.ms_runs.specs.World.{Here}
use Rattle.ms_runs_good_laws.proofs.OpEffects.{value_width}
use Rattle.ms_check_valid.specs.CleanValues.{is_clean_operand}
use Rattle.ms_check_valid.specs.FormedCode.{is_value_type}
use Rattle.ms_pass_tasks.specs.Tasks.{mask_name, origin_name, Task, tasks_code}
use Rattle.ms_pass_tasks.specs.Environments.{Env, Given, Tracked, tracked, tracked_at, is_zero, mask_operand}
use Rattle.ms_pass_tasks.specs.Known.{KnownOperand, KnownOperands}
use Rattle.ms_pass_tasks.specs.CheckTasks.{check_task, check_tasks, all_zero, blind_tasks, blinded_of}
use Rattle.ms_pass_tasks.specs.ResultTasks.{external_move, answer_tasks, define_tasks, called_tasks, result_tasks}
use Rattle.ms_pass_tasks.specs.SlotTasks.{hand_tasks, give_result, give_arguments, take_result, take_tasks, take_value, take_parameters, result_mask_slot, result_origin_slot, param_mask, param_origin}
use Rattle.ms_pass_tasks.specs.PlaneTasks.{plane_tasks, save_tasks, saved_tasks, external_tasks, callee_tasks}
use Rattle.ms_pass_tasks.specs.Emit.{before_tasks, after_tasks, start}
use Rattle.ms_pass_tasks.specs.PassLists.{phi_pair, phi_code, emit_op}
use Rattle.ms_pass_form_laws.specs.Checks.{one_check, is_clean_at, is_unclean}
use Rattle.ms_pass_form_laws.proofs.TaskChecks.{task_checks, tasks_checks, tasks_joined, tasks_counted}

-- ---- lists without a check

unless_none : (b : Bool) (t : Task) → task_checks t ≡ 0 → tasks_checks (if b then [] else t ∷ []) ≡ 0
unless_none true t e = refl
unless_none false t e = omega (arith, e)

define_none : (func : Name → Option ℕ) (v : ℕ) (o : Op) (ts : List Tracked) → tasks_checks (define_tasks func v o ts) ≡ 0
define_none func v (op.Binary o f t a b) ts = by_op o
  where
    by_op : (c : BinOp) → tasks_checks (define_tasks func v (op.Binary c f t a b) ts) ≡ 0
    by_op binary.Shl = refl
    by_op _ = refl
define_none func v (op.Call r x as') ts = by_own (is_some (func x))
  where
    by_own : (b : Bool) → tasks_checks (called_tasks b v (op.Call r x as') ts) ≡ 0
    by_own true = refl
    by_own false = by_move (external_move (lookup externals x))
      where
        by_move : (k : Option BitMove) → tasks_checks (answer_tasks (mask_name v) (origin_name v) k (op.Call r x as') ts) ≡ 0
        by_move None = refl
        by_move (Some k) = refl
define_none func v _ ts = refl

result_none : (func : Name → Option ℕ) (env : Env) (r : Option Name) (o : Op) (ts : List Tracked) → tasks_checks (result_tasks func env r o ts) ≡ 0
result_none func env None o ts = refl
result_none func env (Some x) o ts = by_clean (env.clean x)
  where
    by_number : (n : Option ℕ) → tasks_checks (elim n as (λ w. List Task) [ Some v ↦ define_tasks func v o ts | None ↦ [] ]) ≡ 0
    by_number None = refl
    by_number (Some v) = define_none func v o ts

    by_clean : (b : Bool) → tasks_checks (if b then [] else elim (env.number x) as (λ w. List Task) [ Some v ↦ define_tasks func v o ts | None ↦ [] ]) ≡ 0
    by_clean true = refl
    by_clean false = by_number (env.number x)

blind_none : (ts : List Tracked) → tasks_checks (blind_tasks ts) ≡ 0
blind_none ts = unless_none (all_zero ts) _ refl

external_none : (site root saved : ℕ) (r : Option Name) (e : External) (ts : List Tracked) → tasks_checks (external_tasks site root saved r e ts) ≡ 0
external_none site root saved (Some x) Memset ts = refl
external_none site root saved (Some x) _ ts = refl
external_none site root saved None Memset ts = refl
external_none site root saved None _ ts = refl

-- the mask and the origin of a value are taken
value_none : (env : Env) (mask origin : Operand) (x : Name) (t : Ty) → tasks_checks (take_value env mask origin x t) ≡ 0
value_none env mask origin x t = by_clean (env.clean x)
  where
    by_number : (n : Option ℕ) → tasks_checks (elim n as (λ w. List Task) [ Some v ↦ take_tasks mask origin v t | None ↦ [] ]) ≡ 0
    by_number None = refl
    by_number (Some v) = refl

    by_clean : (b : Bool) → tasks_checks (if b then [] else elim (env.number x) as (λ w. List Task) [ Some v ↦ take_tasks mask origin v t | None ↦ [] ]) ≡ 0
    by_clean true = refl
    by_clean false = by_number (env.number x)

pub parameters_none : (env : Env) (k : ℕ) (ps : List (Ty × Name)) → tasks_checks (take_parameters env k ps) ≡ 0
parameters_none env k [] = refl
parameters_none env k (p ∷ ps) =
    omega (
      arith,
      tasks_joined (take_value env (param_mask k) (param_origin k) p.1 p.0) (take_parameters env (suc k) ps),
      value_none env (param_mask k) (param_origin k) p.1 p.0,
      parameters_none env (suc k) ps,
    )

take_none : (env : Env) (r : Option Name) (t : Option Ty) → tasks_checks (take_result env r t) ≡ 0
take_none env None t = refl
take_none env (Some x) None = refl
take_none env (Some x) (Some t) = value_none env result_mask_slot result_origin_slot x t

callee_none : (env : Env) (site root saved : ℕ) (r : Option Name) (t : Option Ty) (own : Bool) (e : Option External) (ts : List Tracked) → tasks_checks (callee_tasks env site root saved r t own e ts) ≡ 0
callee_none env site root saved r t true e ts = take_none env r t
callee_none env site root saved r t false None ts = refl
callee_none env site root saved r t false (Some e) ts = external_none site root saved r e ts

plane_none : (given : Given) (env : Env) (h : Here) (saved : ℕ) (r : Option Name) (o : Op) (ts : List Tracked) → tasks_checks (plane_tasks given env h saved r o ts) ≡ 0
plane_none given env h saved (Some x) (op.Call q y as') ts = callee_none env h.site (h.root + count_undefs as' + 1) saved (Some x) q (is_some (given.func y)) (external_named given.func y) ts
plane_none given env h saved None (op.Call q y as') ts = callee_none env h.site (h.root + count_undefs as' + 1) saved None q (is_some (given.func y)) (external_named given.func y) ts
plane_none given env h saved (Some x) _ ts = refl
plane_none given env h saved None _ ts = refl

arguments_none : (k : ℕ) (ts : List Tracked) → tasks_checks (give_arguments k ts) ≡ 0
arguments_none k [] = refl
arguments_none k (t ∷ ts) = let e = arguments_none (suc k) ts in omega (arith, e)

hand_none : (func : Name → Option ℕ) (main : Bool) (o : Op) (ts : List Tracked) → tasks_checks (hand_tasks func main o ts) ≡ 0
hand_none func main (op.Call q y as') ts = by_own (is_some (func y))
  where
    by_own : (b : Bool) → tasks_checks (if b then give_arguments 0 ts else []) ≡ 0
    by_own true = arguments_none 0 ts
    by_own false = refl
hand_none func true (op.Ret v) ts = refl
hand_none func false (op.Ret v) ts = by_words ts
  where
    by_words : (l : List Tracked) → tasks_checks (give_result l) ≡ 0
    by_words [] = refl
    by_words (t ∷ l) = refl
hand_none func main _ ts = refl

save_none : (func : Name → Option ℕ) (saved : ℕ) (o : Op) (ts : List Tracked) → tasks_checks (save_tasks func saved o ts) ≡ 0
save_none func saved (op.Call q y as') ts = by_name (external_named func y)
  where
    by_external : (e : External) → tasks_checks (saved_tasks saved e ts) ≡ 0
    by_external Realloc = refl
    by_external _ = refl

    by_name : (o : Option External) → tasks_checks (elim o as (λ w. List Task) [ Some e ↦ saved_tasks saved e ts | None ↦ [] ]) ≡ 0
    by_name None = refl
    by_name (Some e) = by_external e
save_none func saved _ ts = refl

-- the phis of a phi's mask and origin
phis_none : (env : Env) (root : ℕ) (r : Option Name) (t : Ty) (es : List (Operand × Name)) → over_insts one_check (phi_code env root r t es) ≡ 0
phis_none env root None t es = refl
phis_none env root (Some x) t es = by_number (env.number x)
  where
    by_clean : (v : ℕ) (b : Bool) → over_insts one_check (if b then [] else phi_pair env v root t es) ≡ 0
    by_clean v true = refl
    by_clean v false = refl

    by_number : (o : Option ℕ) → over_insts one_check (elim o as (λ w. List Inst) [ Some v ↦ if env.clean x then [] else phi_pair env v root t es | None ↦ [] ]) ≡ 0
    by_number None = refl
    by_number (Some v) = by_clean v (env.clean x)

-- ---- operands

-- the mask of an undefined word isn't 0
whole_mask : (w : ℕ) → 1 ≤ w → eqb (2 ^ w - 1) 0 ≡ false
whole_mask zero l = absurd (omega (arith, l))
whole_mask (suc v) l = let p = pow_pos v in ne_eqb (2 ^ suc v - 1) 0 (λ e. omega (arith, p, e))

-- of a word with a bit at least the mask is known to be 0 where it is clean
mask_known : (env : Env) (size w : ℕ) → 1 ≤ w → (o : Operand) → KnownOperand env size o → is_zero (mask_operand env w o) ≡ is_clean_operand env.clean o
mask_known env size w some operand.Undef h = whole_mask w some
mask_known env size w some operand.Poison h = whole_mask w some
mask_known env size w some (operand.Local x) h = ap (λ n. is_zero (elim n as (λ k. Operand) [ Some v ↦ if env.clean x then operand.Int 0 else operand.Local (mask_name v) | None ↦ operand.Int 0 ])) h.numbered ∙ by_clean (env.clean x)
  where
    by_clean : (b : Bool) → is_zero (if b then operand.Int 0 else operand.Local (mask_name h.place)) ≡ b
    by_clean true = refl
    by_clean false = refl
mask_known env size w some (operand.Int v) h = refl
mask_known env size w some operand.Null h = refl
mask_known env size w some (operand.Global x) h = refl
mask_known env size w some (operand.Offset x steps) h = refl

pub masks_known : (env : Env) (size root : ℕ) (os : List (Ty × Operand)) → KnownOperands env size os → list_all (λ o. is_value_type o.0) os ≡ true
    → (k : ℕ) → is_zero (tracked_at k (tracked env root os)).mask ≡ is_clean_at env.clean os k
masks_known env size root [] h w k = refl
masks_known env size root (o ∷ os) h w zero =
    mask_known env size (width_of o.0) (value_width o.0 (and_parts (is_value_type o.0) (list_all (λ o. is_value_type o.0) os) w).0).0 o.1 h.1
masks_known env size root (o ∷ os) h w (suc k) =
    masks_known env size (root + one_undef o.1) os h.2 (and_parts (is_value_type o.0) (list_all (λ o. is_value_type o.0) os) w).1 k

-- ---- checks

module _ (clean : Name → Bool) (os : List (Ty × Operand)) (site : ℕ) (ts : List Tracked) (same : (k : ℕ) → is_zero (tracked_at k ts).mask ≡ is_clean_at clean os k) where
  -- a check is left out where the operand is clean
  one_word : (kind k : ℕ) (rest : List Task) (us : List CheckedUse) → tasks_checks rest ≡ length (filter (is_unclean clean os) us)
      → (z c : Bool) → z ≡ c
      → tasks_checks ((if z then [] else check_task site kind k (tracked_at k ts) ∷ []) ++ rest) ≡ length (cond (not c) (Word kind k ∷ filter (is_unclean clean os) us) (filter (is_unclean clean os) us))
  one_word kind k rest us e true true q = e
  one_word kind k rest us e false false q = omega (arith, e)
  one_word kind k rest us e true false q = absurd (true≢false q)
  one_word kind k rest us e false true q = absurd (true≢false (sym q))

  pub uses_counted : (us : List CheckedUse) → tasks_checks (check_tasks site ts us) ≡ length (filter (is_unclean clean os) us)
  uses_counted [] = refl
  uses_counted (Word kind k ∷ us) = one_word kind k (check_tasks site ts us) us (uses_counted us) (is_zero (tracked_at k ts).mask) (is_clean_at clean os k) (same k)
  uses_counted (Bytes kind a n ∷ us) = let e = uses_counted us in omega (arith, e)
  uses_counted (Line a ∷ us) = let e = uses_counted us in omega (arith, e)
  uses_counted (Asked a ∷ us) = let e = uses_counted us in omega (arith, e)

-- ---- an instruction

module _ (given : Given) (env : Env) (size : ℕ) where
  -- the checked words of an instruction that aren't clean
  abbrev pub checked : Bool → Inst → ℕ
  checked main i = length (filter (is_unclean env.clean (operands i.op)) (uses given.func main i.op))

  before_counted : (h : Here) (i : Inst) (n : ℕ) → KnownOperands env size (operands i.op) → list_all (λ o. is_value_type o.0) (operands i.op) ≡ true
      → tasks_checks (before_tasks given env h i n) ≡ checked h.main i
  before_counted h i n known wide =
      let ts = tracked env h.root (operands i.op) in
      let us = uses given.func h.main i.op in
      let hs = hand_tasks given.func h.main i.op ts in
      let cs = check_tasks h.site ts us in
      let bs = blind_tasks (blinded_of given.func i.op ts) in
      let rs = result_tasks given.func env i.result i.op ts in
      let ss = save_tasks given.func n i.op ts in
      sums _ _ _ _ _ _ _ _ _ _ (tasks_joined hs (cs ++ (bs ++ (rs ++ ss)))) (tasks_joined cs (bs ++ (rs ++ ss))) (tasks_joined bs (rs ++ ss)) (tasks_joined rs ss)
      (hand_none given.func h.main i.op ts) (uses_counted env.clean (operands i.op) h.site ts (masks_known env size h.root (operands i.op) known wide) us)
      (blind_none (blinded_of given.func i.op ts)) (result_none given.func env i.result i.op ts) (save_none given.func n i.op ts)
    where
      sums : (all x1 x2 x3 h c b r s k : ℕ) → all ≡ h + x1 → x1 ≡ c + x2 → x2 ≡ b + x3 → x3 ≡ r + s → h ≡ 0 → c ≡ k → b ≡ 0 → r ≡ 0 → s ≡ 0 → all ≡ k
      sums all x1 x2 x3 h c b r s k e1 e2 e3 e4 p1 p2 p3 p4 p5 = omega (arith, e1, e2, e3, e4, p1, p2, p3, p4, p5)

  -- what stands before and after an instruction
  pub lists_counted : (h : Here) (i : Inst) (n : ℕ) → KnownOperands env size (operands i.op) → list_all (λ o. is_value_type o.0) (operands i.op) ≡ true → (o : Op) → i.op ≡ o
      → over_insts one_check (emit_op given env h i n o).before + over_insts one_check (emit_op given env h i n o).after ≡ checked h.main i
  lists_counted h i n known wide (op.Phi t es) s =
      let e = ap (λ o. length (filter (is_unclean env.clean (operands o)) (uses given.func h.main o))) s in
      omega (arith, phis_none env h.root i.result t es, e)
  lists_counted h i n known wide o s =
      let bs = before_tasks given env h i n in let as' = after_tasks given env h i n in
      omega (
        arith,
        tasks_counted bs (start given i n),
        tasks_counted as' (tasks_code bs (start given i n)).next,
        before_counted h i n known wide,
        plane_none given env h n i.result i.op (tracked env h.root (operands i.op)),
      )
