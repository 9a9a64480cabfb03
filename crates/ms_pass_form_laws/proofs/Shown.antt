-- Nothing that is inserted uses the function that `pthread_create` begins: round that call another constant may stand in its
-- place.
use Rattle.std.proofs.Common.{◌≡◌, ℕ, suc, ◌+◌, List, [], ◌∷◌, ◌++◌, Bool, true, false, Option, Some, None, refl, sym, ap, subst, ◌∙◌, arith, true≢false, ne_eqb, ◌<◌, ◌≤◌, ◌^◌}
use Rattle.std.specs.Prelude.{◌&&◌, codes, nat_eq, map, flat_map, length, is_some, if◌then◌else◌}
use Rattle.std.specs.List.{list_all}
use Rattle.std.specs.Option.{option_or}
use Rattle.std.proofs.lemmas.Bool.{and_parts}
use Rattle.ms_ir.specs.declared.syntax.Name.{Name}
use Rattle.ms_ir.specs.declared.syntax.Name.TheVariants.{Text}
use Rattle.ms_ir.specs.declared.syntax.Ty.{Ty, Int, Ptr, Array', Struct', Named}
use Rattle.ms_ir.specs.declared.syntax.Operand.{Operand}
use Rattle.ms_ir.specs.declared.syntax.Operand.TheVariants as operand
use Rattle.ms_ir.specs.declared.syntax.Op.{Op}
use Rattle.ms_ir.specs.declared.syntax.Op.TheVariants as op
use Rattle.ms_ir.specs.declared.syntax.Module.{Module}
use Rattle.ms_ir.specs.Names.{name_eq}
use Rattle.ms_ir.specs.Instructions.{operands, one_undef, count_undefs}
use Rattle.ms_ir.specs.Equal.{type_eq, result_type_eq}
use Rattle.ms_ir.specs.Spots.{Spot}
use Rattle.ms_ir.specs.Written.{operand_mentions, operands_mentions, operand_types, result_type}
use Rattle.ms_ir.specs.Signatures.{Signature, declared_signature, called_params}
use Rattle.ms_ir.proofs.RootKinds.{name_same}
use Rattle.ms_runs.specs.World.{Here}
use Rattle.ms_runs.specs.Uses.{uses}
use Rattle.ms_check_valid.specs.UsesDefined.{operand_use}
use Rattle.ms_check_valid.specs.FormedCode.{is_value_type, operand_formed}
use Rattle.ms_check_valid.specs.NamesKnown.{unknown_of}
use Rattle.ms_check_valid.specs.TypesAgree.{first_misfit, argument_fault, printf_fault, fault_unless, is_printf, is_start, fits_call, call_fault}
use Rattle.ms_runs_good_laws.proofs.CallTypes.{both_none}
use Rattle.ms_pass_laws.proofs.KnownInstructions.{printf_all}
use Rattle.ms_pass_tasks.specs.Tasks.{Task}
use Rattle.ms_pass_tasks.specs.Environments.{Env, Given, tracked}
use Rattle.ms_pass_tasks.specs.CheckTasks.{check_tasks, blinded_of, blind_tasks}
use Rattle.ms_pass_tasks.specs.ResultTasks.{define_tasks, result_tasks}
use Rattle.ms_pass_tasks.specs.SlotTasks.{hand_tasks}
use Rattle.ms_pass_tasks.specs.PlaneTasks.{saves, save_tasks, plane_tasks}
use Rattle.ms_pass_tasks.specs.Emit.{own_tasks}
use Rattle.ms_pass_form_laws.proofs.Checked.{Allowed}
use Rattle.ms_pass_form_laws.proofs.Emitted.{OpGood, MovesGood}
use Rattle.ms_pass_form_laws.proofs.Words.{no_bits}
use Rattle.ms_pass_form_laws.proofs.Own.{unknown_parts}
use Rattle.ms_pass_form_laws.proofs.Inserted.{unknown_append}

abbrev create : Name
create = Text (codes "pthread_create")

-- a constant of a type
abbrev null_of : Ty → Operand
null_of Ptr = operand.Null
null_of t = operand.Int 0

abbrev shown_operand : Ty → Operand → Operand
shown_operand t (operand.Global x) = null_of t
shown_operand t o = o

abbrev shown_third : List (Ty × Operand) → List (Ty × Operand)
shown_third (a ∷ b ∷ c ∷ rest) = a ∷ b ∷ (c.0, shown_operand c.0 c.1) ∷ rest
shown_third args = args

abbrev shown_args : Name → List (Ty × Operand) → List (Ty × Operand)
shown_args callee args = if name_eq callee create then shown_third args else args

-- an operation as what is inserted round it sees it
abbrev pub shown : Op → Op
shown (op.Call ret callee args) = op.Call ret callee (shown_args callee args)
shown o = o

-- ---- what is the same of both

null_same : {A : Type 0} (f : Operand → A) (v : A) → f operand.Null ≡ v → f (operand.Int 0) ≡ v → (t : Ty) → f (null_of t) ≡ v
null_same f v n z Ptr = n
null_same f v n z (Int w) = z
null_same f v n z (Array' k s i) = z
null_same f v n z (Struct' p s i) = z
null_same f v n z (Named x) = z

operand_same : {A : Type 0} (f : Operand → A) → ((x : Name) → f operand.Null ≡ f (operand.Global x)) → ((x : Name) → f (operand.Int 0) ≡ f (operand.Global x)) → (t : Ty) (o : Operand)
    → f (shown_operand t o) ≡ f o
operand_same f n z t (operand.Global x) = null_same f (f (operand.Global x)) (n x) (z x) t
operand_same f n z t (operand.Local x) = refl
operand_same f n z t (operand.Int k) = refl
operand_same f n z t operand.Null = refl
operand_same f n z t operand.Undef = refl
operand_same f n z t operand.Poison = refl
operand_same f n z t (operand.Offset x steps) = refl

-- what is the same with any constant in the third place
abbrev SameThird : {A : Type 0} → (List (Ty × Operand) → A) → Type 0
SameThird f = (a b : Ty × Operand) (t : Ty) (o : Operand) (rest : List (Ty × Operand)) → f (a ∷ b ∷ (t, shown_operand t o) ∷ rest) ≡ f (a ∷ b ∷ (t, o) ∷ rest)

third_same : {A : Type 0} (f : List (Ty × Operand) → A) → SameThird f → (args : List (Ty × Operand)) → f (shown_third args) ≡ f args
third_same f h [] = refl
third_same f h (a ∷ []) = refl
third_same f h (a ∷ b ∷ []) = refl
third_same f h (a ∷ b ∷ c ∷ rest) = h a b c.0 c.1 rest

args_same : {A : Type 0} (f : List (Ty × Operand) → A) → SameThird f → (callee : Name) (args : List (Ty × Operand)) → f (shown_args callee args) ≡ f args
args_same f h callee args = by_name (name_eq callee create)
  where
    by_name : (t : Bool) → f (if t then shown_third args else args) ≡ f args
    by_name true = third_same f h args
    by_name false = refl

-- a function of an operation's operands
op_same : {A : Type 0} (f : List (Ty × Operand) → A) → SameThird f → (o : Op) → f (operands (shown o)) ≡ f (operands o)
op_same f h (op.Call ret callee args) = args_same f h callee args
op_same f h _ = refl

same_undefs : SameThird count_undefs
same_undefs a b t o rest = ap (λ k. one_undef a.1 + (one_undef b.1 + (k + count_undefs rest))) (operand_same one_undef (λ x. refl) (λ x. refl) t o)

pub shown_undefs : (o : Op) → count_undefs (operands (shown o)) ≡ count_undefs (operands o)
shown_undefs o = op_same count_undefs same_undefs o

pub shown_uses : (at : Spot) (b p : ℕ) (o : Op) → flat_map (λ a. operand_use at b p a.1) (operands (shown o)) ≡ flat_map (λ a. operand_use at b p a.1) (operands o)
shown_uses at b p o = op_same (flat_map (λ a. operand_use at b p a.1)) same o
  where
    same : SameThird (flat_map (λ (a : Ty × Operand). operand_use at b p a.1))
    same x y t c rest =
        ap (λ l. operand_use at b p x.1 ++ (operand_use at b p y.1 ++ (l ++ flat_map (λ a. operand_use at b p a.1) rest))) (operand_same (operand_use at b p) (λ z. refl) (λ z. refl) t c)

pub shown_values : (o : Op) → list_all (λ a. is_value_type a.0) (operands (shown o)) ≡ list_all (λ a. is_value_type a.0) (operands o)
shown_values o = op_same (list_all (λ a. is_value_type a.0)) (λ a b t c rest. refl) o

pub shown_types : (o : Op) → flat_map (λ a. a.0 ∷ operand_types a.1) (operands (shown o)) ≡ flat_map (λ a. a.0 ∷ operand_types a.1) (operands o)
shown_types o = op_same (flat_map (λ a. a.0 ∷ operand_types a.1)) same o
  where
    same : SameThird (flat_map (λ (a : Ty × Operand). a.0 ∷ operand_types a.1))
    same x y t c rest =
        ap (λ l. (x.0 ∷ operand_types x.1) ++ ((y.0 ∷ operand_types y.1) ++ ((t ∷ l) ++ flat_map (λ a. a.0 ∷ operand_types a.1) rest))) (operand_same operand_types (λ z. refl) (λ z. refl) t c)

pub shown_saves : (func : Name → Option ℕ) (o : Op) → saves func (shown o) ≡ saves func o
shown_saves func (op.Call ret callee args) = refl
shown_saves func _ = refl

pub shown_result : (o : Op) → result_type (shown o) ≡ result_type o
shown_result (op.Call ret callee args) = refl
shown_result _ = refl

pub shown_moves : (given : Given) (C : Allowed) (o : Op) → MovesGood given C o → MovesGood given C (shown o)
shown_moves given C (op.Call ret callee args) g = g
shown_moves given C _ g = g

pub shown_good : (given : Given) (o : Op) → OpGood given o → OpGood given (shown o)
shown_good given (op.Call ret callee args) g = record {
  outside = λ e named.
      let h = g.outside e named in
      let types = args_same (map (λ a. a.0)) (λ a b t o rest. refl) callee args in
      (types ∙ h.0 ∙ ap (called_params e) (sym types), h.1, subst (λ n. n < 2 ^ 32) (sym (args_same length (λ a b t o rest. refl) callee args)) h.2);
  few = λ own. subst (λ n. n ≤ 100) (sym (args_same length (λ a b t o rest. refl) callee args)) (g.few own);
  value = g.value;
}
shown_good given _ g = g

-- ---- what stands round it

module _ (given : Given) (env : Env) (h : Here) (saved : ℕ) where
  abbrev own : Option ℕ → Given
  own q = record given { func = λ y. q }

  abbrev before : Given → Option Name → Op → List Task
  before g x o = let ts = tracked env h.root (operands o) in hand_tasks g.func h.main o ts ++ own_tasks g env h x o saved ts

  abbrev after : Given → Option Name → Op → List Task
  after g x o = plane_tasks g env h saved x o (tracked env h.root (operands o))

  module _ (ret : Option Ty) (a b : Ty × Operand) (t : Ty) (rest : List (Ty × Operand)) where
    abbrev answers : Option Ty → Operand → Op
    answers r o = op.Call r create (a ∷ b ∷ (t, o) ∷ rest)

    abbrev calls : Operand → Op
    calls o = answers ret o

    -- what stands before a call, with what sets its result
    abbrev around : Option ℕ → Op → List Task → List Task
    around q o rs =
        let ts = tracked env h.root (operands o) in
        hand_tasks (λ y. q) h.main o ts
        ++ (check_tasks h.site ts (uses (λ y. q) h.main o) ++ (blind_tasks (blinded_of (λ y. q) o ts) ++ (rs ++ save_tasks (λ y. q) saved o ts)))

    abbrev sets_result : Option ℕ → Name → Op → List Task
    sets_result q x o = result_tasks (λ y. q) env (Some x) o (tracked env h.root (operands o))

    abbrev defines : Option ℕ → Op → Option ℕ → List Task
    defines q o n = elim n [ Some v ↦ define_tasks (λ y. q) v o (tracked env h.root (operands o)) | None ↦ [] ]

    null_defines : (q : Option ℕ) (y : Name) (n : Option ℕ) → defines q (calls operand.Null) n ≡ defines q (calls (operand.Global y)) n
    null_defines q y None = refl
    null_defines None y (Some v) = by_ret ret
      where
        by_ret : (r : Option Ty) → define_tasks (λ z. None) v (answers r operand.Null) (tracked env h.root (operands (calls operand.Null))) ≡ define_tasks (λ z. None) v (answers r (operand.Global y)) (tracked env h.root (operands (calls (operand.Global y))))
        by_ret None = refl
        by_ret (Some u) = refl
    null_defines (Some k) y (Some v) = refl

    number_defines : (q : Option ℕ) (y : Name) (n : Option ℕ) → defines q (calls (operand.Int 0)) n ≡ defines q (calls (operand.Global y)) n
    number_defines q y None = refl
    number_defines None y (Some v) = by_ret ret
      where
        by_ret : (r : Option Ty) → define_tasks (λ z. None) v (answers r (operand.Int 0)) (tracked env h.root (operands (calls (operand.Int 0)))) ≡ define_tasks (λ z. None) v (answers r (operand.Global y)) (tracked env h.root (operands (calls (operand.Global y))))
        by_ret None = refl
        by_ret (Some u) = refl
    number_defines (Some k) y (Some v) = refl

    sets_same : (q : Option ℕ) (x : Name) (o p : Op) → ((n : Option ℕ) → defines q o n ≡ defines q p n) → sets_result q x o ≡ sets_result q x p
    sets_same q x o p same = ap (λ l. if env.clean x then [] else l) (same (env.number x))

    null_before : (q : Option ℕ) (x : Option Name) (y : Name) → before (own q) x (calls operand.Null) ≡ before (own q) x (calls (operand.Global y))
    null_before None None y = refl
    null_before None (Some x) y = ap (around None (calls operand.Null)) (sets_same None x (calls operand.Null) (calls (operand.Global y)) (null_defines None y))
    null_before (Some n) None y = refl
    null_before (Some n) (Some x) y = ap (around (Some n) (calls operand.Null)) (sets_same (Some n) x (calls operand.Null) (calls (operand.Global y)) (null_defines (Some n) y))

    number_before : (q : Option ℕ) (x : Option Name) (y : Name) → before (own q) x (calls (operand.Int 0)) ≡ before (own q) x (calls (operand.Global y))
    number_before None None y = refl
    number_before None (Some x) y = ap (around None (calls (operand.Int 0))) (sets_same None x (calls (operand.Int 0)) (calls (operand.Global y)) (number_defines None y))
    number_before (Some n) None y = refl
    number_before (Some n) (Some x) y = ap (around (Some n) (calls (operand.Int 0))) (sets_same (Some n) x (calls (operand.Int 0)) (calls (operand.Global y)) (number_defines (Some n) y))

    null_after : (q : Option ℕ) (x : Option Name) (y : Name) → after (own q) x (calls operand.Null) ≡ after (own q) x (calls (operand.Global y))
    null_after None None y = refl
    null_after None (Some x) y = refl
    null_after (Some n) None y = refl
    null_after (Some n) (Some x) y = refl

    number_after : (q : Option ℕ) (x : Option Name) (y : Name) → after (own q) x (calls (operand.Int 0)) ≡ after (own q) x (calls (operand.Global y))
    number_after None None y = refl
    number_after None (Some x) y = refl
    number_after (Some n) None y = refl
    number_after (Some n) (Some x) y = refl

  -- a list of tasks of a call of `pthread_create` stays the same
  by_callee : (f : Op → List Task) → ((ret : Option Ty) → SameThird (λ args. f (op.Call ret create args))) → (o : Op) → f (shown o) ≡ f o
  by_callee f same (op.Call ret callee args) = by_name (name_eq callee create) refl
    where
      by_name : (t : Bool) → name_eq callee create ≡ t → f (op.Call ret callee (if t then shown_third args else args)) ≡ f (op.Call ret callee args)
      by_name true e =
          subst (λ c. f (op.Call ret c (shown_third args)) ≡ f (op.Call ret c args)) (sym (name_same callee create e)) (third_same (λ args. f (op.Call ret create args)) (same ret) args)
      by_name false e = refl
  by_callee f same _ = refl

  pub same_before : (x : Option Name) (o : Op) → before given x (shown o) ≡ before given x o
  same_before None o =
      by_callee (before given None)
      (λ ret a b t c rest. operand_same (λ z. before given None (calls ret a b t rest z)) (null_before ret a b t rest (given.func create) None) (number_before ret a b t rest (given.func create) None) t c) o
  same_before (Some x) o =
      by_callee (before given (Some x))
      (λ ret a b t c rest. operand_same (λ z. before given (Some x) (calls ret a b t rest z)) (null_before ret a b t rest (given.func create) (Some x)) (number_before ret a b t rest (given.func create) (Some x)) t c) o

  pub same_after : (x : Option Name) (o : Op) → after given x (shown o) ≡ after given x o
  same_after None o =
      by_callee (after given None)
      (λ ret a b t c rest. operand_same (λ z. after given None (calls ret a b t rest z)) (null_after ret a b t rest (given.func create) None) (number_after ret a b t rest (given.func create) None) t c) o
  same_after (Some x) o =
      by_callee (after given (Some x))
      (λ ret a b t c rest. operand_same (λ z. after given (Some x) (calls ret a b t rest z)) (null_after ret a b t rest (given.func create) (Some x)) (number_after ret a b t rest (given.func create) (Some x)) t c) o

-- ---- how it fits

value_null : (t : Ty) → is_value_type t ≡ true → operand_formed t (null_of t) ≡ true
value_null Ptr v = refl
value_null (Int w) v = no_bits w v
value_null (Array' k s i) v = absurd (true≢false (sym v))
value_null (Struct' p s i) v = absurd (true≢false (sym v))
value_null (Named x) v = absurd (true≢false (sym v))

formed_operand : (t : Ty) (o : Operand) → is_value_type t ≡ true → operand_formed t o ≡ true → operand_formed t (shown_operand t o) ≡ true
formed_operand t (operand.Global x) v e = value_null t v
formed_operand t (operand.Local x) v e = e
formed_operand t (operand.Int k) v e = e
formed_operand t operand.Null v e = e
formed_operand t operand.Undef v e = e
formed_operand t operand.Poison v e = e
formed_operand t (operand.Offset x steps) v e = e

-- what all have stays so, where the third keeps it
third_kept : (p : Ty × Operand → Bool) → ((t : Ty) (o : Operand) → is_value_type t ≡ true → p (t, o) ≡ true → p (t, shown_operand t o) ≡ true) → (args : List (Ty × Operand))
    → list_all (λ a. is_value_type a.0) args ≡ true → list_all p args ≡ true → list_all p (shown_third args) ≡ true
third_kept p keep [] v e = e
third_kept p keep (a ∷ []) v e = e
third_kept p keep (a ∷ b ∷ []) v e = e
third_kept p keep (a ∷ b ∷ c ∷ rest) v e =
    let first = and_parts (p a) (list_all p (b ∷ c ∷ rest)) e in
    let second = and_parts (p b) (list_all p (c ∷ rest)) first.1 in
    let third = and_parts (p c) (list_all p rest) second.1 in
    let value = (and_parts (is_value_type c.0) (list_all (λ a. is_value_type a.0) rest) (and_parts (is_value_type b.0) (list_all (λ a. is_value_type a.0) (c ∷ rest)) (and_parts (is_value_type a.0) (list_all (λ a. is_value_type a.0) (b ∷ c ∷ rest)) v).1).1).0 in
    all_four (p a) (p b) (p (c.0, shown_operand c.0 c.1)) (list_all p rest) first.0 second.0 (keep c.0 c.1 value third.0) third.1
  where
    all_four : (q r s t : Bool) → q ≡ true → r ≡ true → s ≡ true → t ≡ true → (q && (r && (s && t))) ≡ true
    all_four q r s t i j k l = ap (λ x. x && (r && (s && t))) i ∙ ap (λ x. x && (s && t)) j ∙ ap (λ x. x && t) k ∙ l

pub shown_formed : (o : Op) → list_all (λ a. is_value_type a.0) (operands o) ≡ true → list_all (λ a. operand_formed a.0 a.1) (operands o) ≡ true
    → list_all (λ a. operand_formed a.0 a.1) (operands (shown o)) ≡ true
shown_formed (op.Call ret callee args) v e = by_name (name_eq callee create)
  where
    by_name : (t : Bool) → list_all (λ a. operand_formed a.0 a.1) (if t then shown_third args else args) ≡ true
    by_name true = third_kept (λ a. operand_formed a.0 a.1) formed_operand args v e
    by_name false = e
shown_formed _ v e = e

pub shown_known : (m : Module) (names : List Name) (s : ℕ) (o : Op) → unknown_of m names s (operands_mentions (operands o)) ≡ [] → unknown_of m names s (operands_mentions (operands (shown o))) ≡ []
shown_known m names s (op.Call ret callee args) e = by_name (name_eq callee create)
  where
    by_operand : (t : Ty) (o : Operand) → unknown_of m names s (operand_mentions o) ≡ [] → unknown_of m names s (operand_mentions (shown_operand t o)) ≡ []
    by_operand t (operand.Global x) k = null_same (λ c. unknown_of m names s (operand_mentions c)) [] refl refl t
    by_operand t (operand.Local x) k = k
    by_operand t (operand.Int n) k = k
    by_operand t operand.Null k = k
    by_operand t operand.Undef k = k
    by_operand t operand.Poison k = k
    by_operand t (operand.Offset x steps) k = k

    by_third : (args : List (Ty × Operand)) → unknown_of m names s (operands_mentions args) ≡ [] → unknown_of m names s (operands_mentions (shown_third args)) ≡ []
    by_third [] k = k
    by_third (a ∷ []) k = k
    by_third (a ∷ b ∷ []) k = k
    by_third (a ∷ b ∷ c ∷ rest) k =
        let first = unknown_parts m names s (operand_mentions a.1) (operands_mentions (b ∷ c ∷ rest)) k in
        let second = unknown_parts m names s (operand_mentions b.1) (operands_mentions (c ∷ rest)) first.1 in
        let third = unknown_parts m names s (operand_mentions c.1) (operands_mentions rest) second.1 in
        let last = unknown_append m names s (operand_mentions (shown_operand c.0 c.1)) (operands_mentions rest) (by_operand c.0 c.1 third.0) third.1 in
        unknown_append m names s (operand_mentions a.1) (operand_mentions b.1 ++ (operand_mentions (shown_operand c.0 c.1) ++ operands_mentions rest)) first.0
        (unknown_append m names s (operand_mentions b.1) (operand_mentions (shown_operand c.0 c.1) ++ operands_mentions rest) second.0 last)

    by_name : (t : Bool) → unknown_of m names s (operands_mentions (if t then shown_third args else args)) ≡ []
    by_name true = by_third args e
    by_name false = e
shown_known m names s _ e = e

-- where numbers and `null` fit
module _ (m : Module) (fits : Ty × Operand → Bool) (nulls : (t : Ty) → fits (t, operand.Null) ≡ true) (numbers : (t : Ty) → fits (t, operand.Int 0) ≡ true) where
  fits_null : (t : Ty) → fits (t, null_of t) ≡ true
  fits_null t = null_same (λ o. fits (t, o)) true (nulls t) (numbers t) t

  kept_fit : (t : Ty) (o : Operand) → is_value_type t ≡ true → fits (t, o) ≡ true → fits (t, shown_operand t o) ≡ true
  kept_fit t (operand.Global x) v e = fits_null t
  kept_fit t (operand.Local x) v e = e
  kept_fit t (operand.Int n) v e = e
  kept_fit t operand.Null v e = e
  kept_fit t operand.Undef v e = e
  kept_fit t operand.Poison v e = e
  kept_fit t (operand.Offset x steps) v e = e

  start_fits : (t : Ty) (o : Operand) → is_start m o ≡ true → fits (t, shown_operand t o) ≡ true
  start_fits t (operand.Global x) e = fits_null t
  start_fits t (operand.Local x) e = absurd (true≢false (sym e))
  start_fits t (operand.Int n) e = absurd (true≢false (sym e))
  start_fits t operand.Null e = absurd (true≢false (sym e))
  start_fits t operand.Undef e = absurd (true≢false (sym e))
  start_fits t operand.Poison e = absurd (true≢false (sym e))
  start_fits t (operand.Offset x steps) e = absurd (true≢false (sym e))

  -- an argument that fits, where the third may name a function
  abbrev by_place : (create : Bool) → ℕ → Ty × Operand → Bool
  by_place c k a = if c && nat_eq k 2 then is_start m a.1 else fits a

  passes : (t : Bool) (o : Option ℕ) (k : ℕ) → (if t then o else Some k) ≡ None → (t ≡ true) × (o ≡ None)
  passes true o k e = (refl, e)
  passes false o k e = grind arith

  -- an argument that fits, and those after it
  one_arg : (c : Bool) (k : ℕ) (ps : List Ty) (a : Ty × Operand) (rest : List (Ty × Operand)) → argument_fault (by_place c) k ps (a ∷ rest) ≡ None
      → (qs : List Ty) × ((by_place c k a ≡ true) × (argument_fault (by_place c) (suc k) qs rest ≡ None))
  one_arg c k [] a rest e = grind arith
  one_arg c k (p ∷ ps) a rest e =
      let h = passes (type_eq a.0 p && by_place c k a) (argument_fault (by_place c) (suc k) ps rest) k e in
      (ps, ((and_parts (type_eq a.0 p) (by_place c k a) h.0).1, h.1))

  other_args : (k : ℕ) (ps : List Ty) (args : List (Ty × Operand)) → argument_fault (by_place false) k ps args ≡ None → list_all fits args ≡ true
  other_args k ps [] e = refl
  other_args k ps (a ∷ rest) e =
      let h = one_arg false k ps a rest e in ap (λ b. b && list_all fits rest) h.1.0 ∙ other_args (suc k) h.0 rest h.1.1

  -- none after the third names a function
  later_place : (k : ℕ) (a : Ty × Operand) → by_place true (k + 3) a ≡ true → fits a ≡ true
  later_place k a e = sym (ap (λ b. if b then is_start m a.1 else fits a) (ne_eqb (k + 3) 2 (λ same. omega (arith, same)))) ∙ e

  later_args : (k : ℕ) (ps : List Ty) (args : List (Ty × Operand)) → argument_fault (by_place true) (k + 3) ps args ≡ None → list_all fits args ≡ true
  later_args k ps [] e = refl
  later_args k ps (a ∷ rest) e =
      let h = one_arg true (k + 3) ps a rest e in
      ap (λ b. b && list_all fits rest) (later_place k a h.1.0)
      ∙ later_args (suc k) h.0 rest (subst (λ n. argument_fault (by_place true) n h.0 rest ≡ None) {x = suc (k + 3)} {y = suc k + 3} (omega arith) h.1.1)

  -- the arguments of `pthread_create`, as they are shown
  create_args : (ps : List Ty) (args : List (Ty × Operand)) → argument_fault (by_place true) 0 ps args ≡ None → list_all fits (shown_third args) ≡ true
  create_args ps [] e = refl
  create_args ps (a ∷ []) e = ap (λ b. b && true) (one_arg true 0 ps a [] e).1.0
  create_args ps (a ∷ b ∷ []) e =
      let i = one_arg true 0 ps a (b ∷ []) e in
      let j = one_arg true 1 i.0 b [] i.1.1 in
      ap (λ q. q && (fits b && true)) i.1.0 ∙ ap (λ q. q && true) j.1.0
  create_args ps (a ∷ b ∷ c ∷ rest) e =
      let i = one_arg true 0 ps a (b ∷ c ∷ rest) e in
      let j = one_arg true 1 i.0 b (c ∷ rest) i.1.1 in
      let k = one_arg true 2 j.0 c rest j.1.1 in
      let shows = list_all fits ((c.0, shown_operand c.0 c.1) ∷ rest) in
      ap (λ q. q && (fits b && shows)) i.1.0 ∙ ap (λ q. q && shows) j.1.0 ∙ ap (λ q. q && list_all fits rest) (start_fits c.0 c.1 k.1.0) ∙ later_args 0 k.0 rest k.1.1

  pub shown_fit : (callee : Name) (s : Option Signature) (ret : Option Ty) (args : List (Ty × Operand)) → list_all (λ a. is_value_type a.0) args ≡ true → call_fault m fits s ret callee args ≡ None
      → list_all fits (operands (shown (op.Call ret callee args))) ≡ true
  shown_fit callee None ret args v e = absurd (no_second (first_misfit fits 0 args) e)
    where
      no_second : (a : Option ℕ) → option_or a (Some 0) ≡ None → ⊥
      no_second None e = grind arith
      no_second (Some k) e = grind arith
  shown_fit callee (Some s) ret args v e =
      by_printf (is_printf m callee) (both_none (if is_printf m callee then printf_fault fits args else argument_fault (fits_call m fits callee) 0 s.params args) (fault_unless (result_type_eq ret s.ret)) e).0
    where
      kept : (t : Bool) → list_all fits args ≡ true → list_all fits (if t then shown_third args else args) ≡ true
      kept true h = third_kept fits kept_fit args v h
      kept false h = h

      by_create : (t d : Bool) → argument_fault (by_place (t && d)) 0 s.params args ≡ None → list_all fits (if t then shown_third args else args) ≡ true
      by_create true true h = create_args s.params args h
      by_create true false h = kept true (other_args 0 s.params args h)
      by_create false d h = other_args 0 s.params args h

      by_printf : (b : Bool) → (if b then printf_fault fits args else argument_fault (fits_call m fits callee) 0 s.params args) ≡ None → list_all fits (operands (shown (op.Call ret callee args))) ≡ true
      by_printf true h = kept (name_eq callee create) (printf_all fits args h)
      by_printf false h = by_create (name_eq callee create) (is_some (declared_signature m.decls callee)) h
