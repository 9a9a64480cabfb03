-- An inserted instruction that fits breaks no clause.
use Rattle.std.proofs.Common.{◌≡◌, ℕ, suc, List, [], ◌∷◌, ◌++◌, Bool, true, false, Option, Some, None, refl, ap, ◌∙◌, arith}
use Rattle.std.specs.Prelude.{◌&&◌, ◌||◌, not, All, map, flat_map, filter, drop, if◌then◌else◌, cond, is_some, nat_eq}
use Rattle.std.specs.List.{list_any, list_all}
use Rattle.std.specs.Bool.{beq}
use Rattle.std.specs.Option.{option_or}
use Rattle.std.proofs.Math.Path.{ap₂}
use Rattle.std.proofs.lemmas.Bool.{eq-eqb, and_parts}
use Rattle.std.proofs.lemmas.List.Elements.{All-nil, All-cons, All-append}
use Rattle.ms_ir.specs.declared.syntax.Name.{Name}
use Rattle.ms_ir.specs.declared.syntax.Ty.{Ty, Int, Ptr, Array', Struct', Named, Row_of-Ty, end_of-Ty, more_of-Ty}
use Rattle.ms_ir.specs.declared.syntax.Operand.{Operand}
use Rattle.ms_ir.specs.declared.syntax.Operand.TheVariants as operand
use Rattle.ms_ir.specs.declared.syntax.Op.{Op}
use Rattle.ms_ir.specs.declared.syntax.Op.TheVariants as op
use Rattle.ms_ir.specs.declared.syntax.Inst.{Inst}
use Rattle.ms_ir.specs.declared.syntax.Func.{Func}
use Rattle.ms_ir.specs.declared.syntax.Module.{Module}
use Rattle.ms_bits.specs.declared.word_functions.BitMove.{BitMove}
use Rattle.ms_bits.specs.declared.word_functions.BitMove.TheVariants.{Bswap16, Bswap32, Bswap64, Bitreverse8, Bitreverse16, Bitreverse32, Bitreverse64, Fshl8, Fshl16, Fshl32, Fshl64, Fshr8, Fshr16, Fshr32, Fshr64}
use Rattle.ms_bits.specs.declared.word_functions.WordFn.{WordFn}
use Rattle.ms_bits.specs.declared.word_functions.WordWidth.{WordWidth}
use Rattle.ms_bits.specs.WordFunctions.{bits_of, move_fn, move_width}
use Rattle.ms_ir.specs.declared.calls.External.TheVariants as external
use Rattle.ms_ir.specs.declared.calls.RuntimeFn.{RuntimeFn}
use Rattle.ms_ir.specs.declared.calls.RuntimeFn.TheVariants as function
use Rattle.ms_ir.specs.Names.{lookup, externals, word_externals, is_inserted_name, runtime_name}
use Rattle.ms_ir.specs.Instructions.{operands, func_index, external_named}
use Rattle.ms_ir.specs.Equal.{has_name, type_eq, row_eq, result_type_eq}
use Rattle.ms_ir.specs.Written.{Mention, OfLocal, OfGlobal, operand_mentions, operands_mentions, mentions, result_type, operand_types}
use Rattle.ms_ir.specs.Locals.{Spelled, locals, symbols, value_type}
use Rattle.ms_check_valid.specs.NamesKnown.{knows, spelled, unknown_of}
use Rattle.ms_ir.specs.Spots.{Spot, spot}
use Rattle.ms_check_valid.specs.TypesAgree.{operand_fits, is_type, first_misfit, fault_unless, argument_fault, printf_fault, is_printf, is_start, is_create, call_fault, op_fault}
use Rattle.ms_check_valid.specs.PhisFit.{edges_fit}
use Rattle.ms_ir.specs.Signatures.{runtime_signature, signature_of}
use Rattle.ms_check_valid.specs.ExternalsFit.{name_unless, is_number, called_names, flag_fits, flagged_callees}
use Rattle.ms_check_valid.specs.UsesDefined.{IsUseDefined, operand_use, inst_uses}
use Rattle.ms_check_valid.specs.MarksFit.{may_be_marked, all_results, marked_results, is_inserted, mark_fits}
use Rattle.ms_check_valid.specs.FormedCode.{operand_formed}
use Rattle.ms_check_valid.specs.SizesFit.{sized}
use Rattle.ms_check_valid.specs.ValidAt.{FitsAt}
use Rattle.ms_check_valid.proofs.NameTests.{name_same}
use Rattle.ms_pass_form_laws.proofs.Checked.{Allowed, OperandFits, OperandsFit, OpFits, CallFits, MayCall, MayAsk, ResultFits, InstFits}
use Rattle.ms_pass_tasks.proofs.Effects.{runtime_known}
use Rattle.ms_runs_good_laws.proofs.CallTypes.{move_known}
use Rattle.ms_pass_form_laws.proofs.Placed.{KnownAt}
use Rattle.ms_pass_form_laws.proofs.Numerals.{msan_inserted}

-- an operand of the program that names no value, and is no number
pub record ConstFits (j : Module) (t : Ty) (o : Operand) : Type 0 where
  pub fits : (typed : Name → Option Ty) → operand_fits j typed t o ≡ true
  pub known : (names : List Name) (site : ℕ) → unknown_of j names site (operand_mentions o) ≡ []
  pub formed : operand_formed t o ≡ true
  pub sized_in : sized j.types (t ∷ operand_types o) ≡ true

-- a function that moves bits, which a module declares and calls, as its instrumented form does
pub record MoveStands (m j : Module) (k : BitMove) : Type 0 where
  pub declared : signature_of j (runtime_name (function.Move k)) ≡ Some (runtime_signature (function.Move k))
  pub symbol : has_name (symbols j) (runtime_name (function.Move k)) ≡ true
  pub called : has_name (called_names m) (runtime_name (function.Move k)) ≡ true

abbrev pub ConstGood : (m j : Module) → Allowed
ConstGood m j = record { const = ConstFits j; call = MoveStands m j }

-- ---- types are themselves

bool_same : (p : Bool) → beq p p ≡ true
bool_same true = refl
bool_same false = refl

mutual
  pub type_same : (t : Ty) → type_eq t t ≡ true
  type_same (Int n) = eq-eqb n n refl
  type_same Ptr = refl
  type_same (Array' n s items) = ap₂ (λ a b. a && b) (eq-eqb n n refl) (row_same items)
  type_same (Struct' p s fields) = ap₂ (λ a b. a && b) (bool_same p) (row_same fields)
  type_same (Named x) = name_same x

  row_same : {n : _} (r : Row_of-Ty n) → row_eq r r ≡ true
  row_same end_of-Ty = refl
  row_same (more_of-Ty t ts) = ap₂ (λ a b. a && b) (type_same t) (row_same ts)

-- ---- mentions

pub unknown_append : (j : Module) (names : List Name) (site : ℕ) (a b : List Mention) → unknown_of j names site a ≡ [] → unknown_of j names site b ≡ [] → unknown_of j names site (a ++ b) ≡ []
unknown_append j names site [] b p q = q
unknown_append j names site (x ∷ a) b p q = by_test (knows j names x) p (λ h. unknown_append j names site a b h q)
  where
    by_test : (c : Bool) → map {B = ℕ × Spelled} (λ y. (site, spelled y)) (cond (not c) (x ∷ filter (λ y. not (knows j names y)) a) (filter (λ y. not (knows j names y)) a)) ≡ []
        → (unknown_of j names site a ≡ [] → unknown_of j names site (a ++ b) ≡ [])
        → map {B = ℕ × Spelled} (λ y. (site, spelled y)) (cond (not c) (x ∷ filter (λ y. not (knows j names y)) (a ++ b)) (filter (λ y. not (knows j names y)) (a ++ b))) ≡ []
    by_test true h go = go h
    by_test false h go = grind arith

pub unknown_one : (j : Module) (names : List Name) (site : ℕ) (x : Mention) → knows j names x ≡ true → unknown_of j names site (x ∷ []) ≡ []
unknown_one j names site x e = ap (λ c. map {B = ℕ × Spelled} (λ y. (site, spelled y)) (cond (not c) (x ∷ []) [])) e

-- ---- the numerals of inserted names

module _ (m j : Module) (g : Func) (b q site : ℕ)
    (declared : (fn : RuntimeFn) → MayCall (ConstGood m j) fn → signature_of j (runtime_name fn) ≡ Some (runtime_signature fn))
    (symbol : (fn : RuntimeFn) → MayCall (ConstGood m j) fn → has_name (symbols j) (runtime_name fn) ≡ true)
    (local : (x : Name) (t : Ty) → value_type g x ≡ Some t → has_name (locals g) x ≡ true) where
  abbrev here : Spot
  here = spot g b q site

  abbrev Fitting : Ty → Operand → Type 0
  Fitting t o = OperandFits (KnownAt g b q) (ConstGood m j) t o

  abbrev AllFitting : List (Ty × Operand) → Type 0
  AllFitting os = OperandsFit (KnownAt g b q) (ConstGood m j) os

  pub operand_agrees : (t : Ty) (o : Operand) → Fitting t o → operand_fits j (value_type g) t o ≡ true
  operand_agrees t (operand.Local x) k = ap (λ u. is_type u t) k.0 ∙ type_same t
  operand_agrees t (operand.Int m) k = refl
  operand_agrees t operand.Null k = k.fits (value_type g)
  operand_agrees t operand.Undef k = k.fits (value_type g)
  operand_agrees t operand.Poison k = k.fits (value_type g)
  operand_agrees t (operand.Global x) k = k.fits (value_type g)
  operand_agrees t (operand.Offset x steps) k = k.fits (value_type g)

  operand_known : (t : Ty) (o : Operand) → Fitting t o → unknown_of j (locals g) site (operand_mentions o) ≡ []
  operand_known t (operand.Local x) k = unknown_one j (locals g) site (OfLocal x) (local x t k.0)
  operand_known t (operand.Int m) k = refl
  operand_known t operand.Null k = refl
  operand_known t operand.Undef k = refl
  operand_known t operand.Poison k = refl
  operand_known t (operand.Global x) k = k.known (locals g) site
  operand_known t (operand.Offset x steps) k = k.known (locals g) site

  operand_defined : (t : Ty) (o : Operand) → Fitting t o → All IsUseDefined (operand_use here b q o)
  operand_defined t (operand.Local x) k =
      All-cons IsUseDefined (record { func = g; site = site; value = record { block = b; place = q; name = x } }) [] k.1 (All-nil IsUseDefined)
  operand_defined t (operand.Int m) k = All-nil IsUseDefined
  operand_defined t operand.Null k = All-nil IsUseDefined
  operand_defined t operand.Undef k = All-nil IsUseDefined
  operand_defined t operand.Poison k = All-nil IsUseDefined
  operand_defined t (operand.Global x) k = All-nil IsUseDefined
  operand_defined t (operand.Offset x steps) k = All-nil IsUseDefined

  abbrev fits : Ty × Operand → Bool
  fits o = operand_fits j (value_type g) o.0 o.1

  no_misfit : (k : ℕ) (os : List (Ty × Operand)) → AllFitting os → first_misfit fits k os ≡ None
  no_misfit k [] p = refl
  no_misfit k (o ∷ os) p = ap (λ c. if c then first_misfit fits (suc k) os else Some k) (operand_agrees o.0 o.1 p.0) ∙ no_misfit (suc k) os p.1

  no_argument_fault : (k : ℕ) (ts : List Ty) (os : List (Ty × Operand)) → map (λ a. a.0) os ≡ ts → AllFitting os → argument_fault (λ n. fits) k ts os ≡ None
  no_argument_fault k [] [] e p = refl
  no_argument_fault k (t ∷ ts) [] e p = grind arith
  no_argument_fault k [] (o ∷ os) e p = grind arith
  no_argument_fault k (t ∷ ts) (o ∷ os) e p =
      ap₂ (λ c d. if c && d then argument_fault (λ n. fits) (suc k) ts os else Some k)
      (ap (λ u. type_eq u t) {x = o.0} {y = t} (first_same o.0 t (map (λ a. a.0) os) ts e) ∙ type_same t) (operand_agrees o.0 o.1 p.0)
      ∙ no_argument_fault (suc k) ts os (ap (drop 1) e) p.1
    where
      first_same : (a c : Ty) (as' cs : List Ty) → a ∷ as' ≡ c ∷ cs → a ≡ c
      first_same a c as' cs h = ap (λ l. elim l as (λ w. Ty) [ [] ↦ a | ◌∷◌ x xs ↦ x ]) h

  all_known : (os : List (Ty × Operand)) → AllFitting os → unknown_of j (locals g) site (operands_mentions os) ≡ []
  all_known [] p = refl
  all_known (o ∷ os) p = unknown_append j (locals g) site (operand_mentions o.1) (operands_mentions os) (operand_known o.0 o.1 p.0) (all_known os p.1)

  all_defined : (os : List (Ty × Operand)) → AllFitting os → All IsUseDefined (flat_map (λ a. operand_use here b q a.1) os)
  all_defined [] p = All-nil IsUseDefined
  all_defined (o ∷ os) p = All-append IsUseDefined (operand_use here b q o.1) (flat_map (λ a. operand_use here b q a.1) os) (operand_defined o.0 o.1 p.0) (all_defined os p.1)

  -- ---- operations

  op_known : (o : Op) (s : OpFits o) → MayAsk (ConstGood m j) o s → AllFitting (operands o) → unknown_of j (locals g) site (mentions o) ≡ []
  op_known (op.Binary o f t x y) s may p = unknown_append j (locals g) site (operands_mentions ((t, x) ∷ (t, y) ∷ [])) [] (all_known ((t, x) ∷ (t, y) ∷ []) p) refl
  op_known (op.Icmp o f t x y) s may p = unknown_append j (locals g) site (operands_mentions ((t, x) ∷ (t, y) ∷ [])) [] (all_known ((t, x) ∷ (t, y) ∷ []) p) refl
  op_known (op.Cast o f t x u) s may p = unknown_append j (locals g) site (operands_mentions ((t, x) ∷ [])) [] (all_known ((t, x) ∷ []) p) refl
  op_known (op.Select c t x y) s may p = unknown_append j (locals g) site (operands_mentions ((Int 1, c) ∷ (t, x) ∷ (t, y) ∷ [])) [] (all_known ((Int 1, c) ∷ (t, x) ∷ (t, y) ∷ []) p) refl
  op_known (op.Load t x) s may p = unknown_append j (locals g) site (operands_mentions ((Ptr, x) ∷ [])) [] (all_known ((Ptr, x) ∷ []) p) refl
  op_known (op.Store t x y) s may p = unknown_append j (locals g) site (operands_mentions ((t, x) ∷ (Ptr, y) ∷ [])) [] (all_known ((t, x) ∷ (Ptr, y) ∷ []) p) refl
  op_known (op.Call ret callee args) s may p =
      unknown_append j (locals g) site (OfGlobal callee ∷ []) (operands_mentions args)
      (unknown_one j (locals g) site (OfGlobal callee) (ap (has_name (symbols j)) s.named ∙ symbol s.function may)) (all_known args p)
  op_known (op.Freeze t x) s may p = absurd s
  op_known (op.Phi t es) s may p = absurd s
  op_known (op.Alloca t u c) s may p = absurd s
  op_known (op.Gep t x is) s may p = absurd s
  op_known (op.Br to) s may p = absurd s
  op_known (op.CondBr c to other) s may p = absurd s
  op_known (op.Switch t x other cases) s may p = absurd s
  op_known (op.Ret x) s may p = absurd s
  op_known op.Unreachable s may p = absurd s

  not_printf : (fn : RuntimeFn) → is_printf j (runtime_name fn) ≡ false
  not_printf function.Check = refl
  not_printf function.CheckMemory = refl
  not_printf function.CheckString = refl
  not_printf function.Blind = refl
  not_printf function.Poison = refl
  not_printf function.Unpoison = refl
  not_printf function.Copy = refl
  not_printf function.Fill = refl
  not_printf function.StoreOrigin = refl
  not_printf function.LoadOrigin = refl
  not_printf function.Size = refl
  not_printf function.CheckFormat = refl
  not_printf function.ThreadResult = refl
  not_printf (function.Move k) = refl

  not_create : (fn : RuntimeFn) → is_create j (runtime_name fn) ≡ false
  not_create function.Check = refl
  not_create function.CheckMemory = refl
  not_create function.CheckString = refl
  not_create function.Blind = refl
  not_create function.Poison = refl
  not_create function.Unpoison = refl
  not_create function.Copy = refl
  not_create function.Fill = refl
  not_create function.StoreOrigin = refl
  not_create function.LoadOrigin = refl
  not_create function.Size = refl
  not_create function.CheckFormat = refl
  not_create function.ThreadResult = refl
  not_create (function.Move k) = refl

  ret_same : (fn : RuntimeFn) → result_type_eq (runtime_signature fn).ret (runtime_signature fn).ret ≡ true
  ret_same function.Check = refl
  ret_same function.CheckMemory = refl
  ret_same function.CheckString = refl
  ret_same function.Blind = refl
  ret_same function.Poison = refl
  ret_same function.Unpoison = refl
  ret_same function.Copy = refl
  ret_same function.Fill = refl
  ret_same function.StoreOrigin = refl
  ret_same function.LoadOrigin = refl
  ret_same function.Size = refl
  ret_same function.CheckFormat = refl
  ret_same function.ThreadResult = refl
  ret_same (function.Move k) = type_same (Int (bits_of (move_width k)))

  call_agrees : (ret : Option Ty) (callee : Name) (args : List (Ty × Operand)) → (s : CallFits ret callee args) → MayCall (ConstGood m j) s.function → AllFitting args → call_fault j fits (signature_of j callee) ret callee args ≡ None
  call_agrees ret callee args s may p =
      let fn = s.function in
      ap₂ (λ x r. call_fault j fits (signature_of j x) r x args) s.named s.gives
      ∙ ap (λ d. call_fault j fits d (runtime_signature fn).ret (runtime_name fn) args) (declared fn may)
      ∙ ap₂ (λ c d. option_or (if c then printf_fault fits args else argument_fault (λ k a. if d && nat_eq k 2 then is_start j a.1 else fits a) 0 (runtime_signature fn).params args) (fault_unless (result_type_eq (runtime_signature fn).ret (runtime_signature fn).ret)))
      (not_printf fn) (not_create fn)
      ∙ ap₂ (λ x c. option_or x (fault_unless c)) (no_argument_fault 0 (runtime_signature fn).params args s.takes p) (ret_same fn)

  op_agrees : (o : Op) (s : OpFits o) → MayAsk (ConstGood m j) o s → AllFitting (operands o) → op_fault j g fits o ≡ None
  op_agrees (op.Binary o f t x y) s may p = ap (λ r. option_or r None) (no_misfit 0 ((t, x) ∷ (t, y) ∷ []) p)
  op_agrees (op.Icmp o f t x y) s may p = ap (λ r. option_or r None) (no_misfit 0 ((t, x) ∷ (t, y) ∷ []) p)
  op_agrees (op.Cast o f t x u) s may p = ap₂ (λ r c. option_or r (fault_unless c)) (no_misfit 0 ((t, x) ∷ []) p) s.1.0
  op_agrees (op.Select c t x y) s may p = ap (λ r. option_or r None) (no_misfit 0 ((Int 1, c) ∷ (t, x) ∷ (t, y) ∷ []) p)
  op_agrees (op.Load t x) s may p = ap (λ r. option_or r None) (no_misfit 0 ((Ptr, x) ∷ []) p)
  op_agrees (op.Store t x y) s may p = ap (λ r. option_or r None) (no_misfit 0 ((t, x) ∷ (Ptr, y) ∷ []) p)
  op_agrees (op.Call ret callee args) s may p = call_agrees ret callee args s may p
  op_agrees (op.Freeze t x) s may p = absurd s
  op_agrees (op.Phi t es) s may p = absurd s
  op_agrees (op.Alloca t u c) s may p = absurd s
  op_agrees (op.Gep t x is) s may p = absurd s
  op_agrees (op.Br to) s may p = absurd s
  op_agrees (op.CondBr c to other) s may p = absurd s
  op_agrees (op.Switch t x other cases) s may p = absurd s
  op_agrees (op.Ret x) s may p = absurd s
  op_agrees op.Unreachable s may p = absurd s

  no_edges : (o : Op) → OpFits o → edges_fit here o ≡ true
  no_edges (op.Binary o f t x y) s = refl
  no_edges (op.Icmp o f t x y) s = refl
  no_edges (op.Cast o f t x u) s = refl
  no_edges (op.Select c t x y) s = refl
  no_edges (op.Load t x) s = refl
  no_edges (op.Store t x y) s = refl
  no_edges (op.Call ret callee args) s = refl
  no_edges (op.Phi t es) s = absurd s
  no_edges (op.Freeze t x) s = absurd s
  no_edges (op.Alloca t u c) s = absurd s
  no_edges (op.Gep t x is) s = absurd s
  no_edges (op.Br to) s = absurd s
  no_edges (op.CondBr c to other) s = absurd s
  no_edges (op.Switch t x other cases) s = absurd s
  no_edges (op.Ret x) s = absurd s
  no_edges op.Unreachable s = absurd s

  all_fit : (args : List (Ty × Operand)) → list_all (flag_fits None) args ≡ true
  all_fit [] = refl
  all_fit (a ∷ rest) = all_fit rest

  -- no parameter of what moves bits is a flag
  move_flags : (k : BitMove) → list_all (λ t. not (type_eq t (Int 1))) (runtime_signature (function.Move k)).params ≡ true
  move_flags Bswap16 = refl
  move_flags Bswap32 = refl
  move_flags Bswap64 = refl
  move_flags Bitreverse8 = refl
  move_flags Bitreverse16 = refl
  move_flags Bitreverse32 = refl
  move_flags Bitreverse64 = refl
  move_flags Fshl8 = refl
  move_flags Fshl16 = refl
  move_flags Fshl32 = refl
  move_flags Fshl64 = refl
  move_flags Fshr8 = refl
  move_flags Fshr16 = refl
  move_flags Fshr32 = refl
  move_flags Fshr64 = refl

  word_flags : (f : WordFn) (n : WordWidth) (args : List (Ty × Operand)) → list_all (λ t. not (type_eq t (Int 1))) (map (λ a. a.0) args) ≡ true → list_all (flag_fits (Some (external.Word f n))) args ≡ true
  word_flags f n [] e = refl
  word_flags f n (a ∷ rest) e =
      let parts = and_parts (not (type_eq a.0 (Int 1))) (list_all (λ t. not (type_eq t (Int 1))) (map (λ a. a.0) rest)) e in
      ap₂ (λ x y. (x || is_number a.1) && y) parts.0 (word_flags f n rest parts.1)

  -- a call of what a marked call reaches has no flag
  no_flags_of : (fn : RuntimeFn) (own : Bool) (args : List (Ty × Operand)) → map (λ a. a.0) args ≡ (runtime_signature fn).params
      → list_all (flag_fits (if own then None else lookup externals (runtime_name fn))) args ≡ true
  unfolding word_externals
  no_flags_of fn true args t = all_fit args
  no_flags_of (function.Move k) false args t =
      ap (λ o. list_all (flag_fits o) args) (move_known k)
      ∙ word_flags (move_fn k) (move_width k) args (ap (list_all (λ t. not (type_eq t (Int 1)))) t ∙ move_flags k)
  no_flags_of fn false args t = all_fit args

  is_runtime : (fn : RuntimeFn) → may_be_marked (op.Call None (runtime_name fn) []) ≡ true
  is_runtime fn = ap is_some (runtime_known fn)

  call_plain : (callee : Name) (args : List (Ty × Operand)) (fn : RuntimeFn) → callee ≡ runtime_name fn → map (λ a. a.0) args ≡ (runtime_signature fn).params
      → name_unless (list_all (flag_fits (external_named (func_index j.funcs) callee)) args) callee ≡ []
  call_plain callee args fn e t =
      ap (λ x. name_unless (list_all (flag_fits (external_named (func_index j.funcs) x)) args) callee) e
      ∙ ap (λ b. name_unless b callee) (no_flags_of fn (is_some (func_index j.funcs (runtime_name fn))) args t)

  flags_fit : (o : Op) → OpFits o → flagged_callees j o ≡ []
  flags_fit (op.Call ret callee args) s = call_plain callee args s.function s.named s.takes
  flags_fit (op.Binary o f t x y) s = refl
  flags_fit (op.Icmp o f t x y) s = refl
  flags_fit (op.Cast o f t x u) s = refl
  flags_fit (op.Select c t x y) s = refl
  flags_fit (op.Load t x) s = refl
  flags_fit (op.Store t x y) s = refl
  flags_fit (op.Phi t es) s = absurd s
  flags_fit (op.Freeze t x) s = absurd s
  flags_fit (op.Alloca t u c) s = absurd s
  flags_fit (op.Gep t x is) s = absurd s
  flags_fit (op.Br to) s = absurd s
  flags_fit (op.CondBr c to other) s = absurd s
  flags_fit (op.Switch t x other cases) s = absurd s
  flags_fit (op.Ret x) s = absurd s
  flags_fit op.Unreachable s = absurd s

  op_defined : (o : Op) → OpFits o → AllFitting (operands o) → All IsUseDefined (inst_uses here o)
  op_defined (op.Binary o f t x y) s p = all_defined ((t, x) ∷ (t, y) ∷ []) p
  op_defined (op.Icmp o f t x y) s p = all_defined ((t, x) ∷ (t, y) ∷ []) p
  op_defined (op.Cast o f t x u) s p = all_defined ((t, x) ∷ []) p
  op_defined (op.Select c t x y) s p = all_defined ((Int 1, c) ∷ (t, x) ∷ (t, y) ∷ []) p
  op_defined (op.Load t x) s p = all_defined ((Ptr, x) ∷ []) p
  op_defined (op.Store t x y) s p = all_defined ((t, x) ∷ (Ptr, y) ∷ []) p
  op_defined (op.Call ret callee args) s p = all_defined args p
  op_defined (op.Phi t es) s p = absurd s
  op_defined (op.Freeze t x) s p = absurd s
  op_defined (op.Alloca t u c) s p = absurd s
  op_defined (op.Gep t x is) s p = absurd s
  op_defined (op.Br to) s p = absurd s
  op_defined (op.CondBr c to other) s p = absurd s
  op_defined (op.Switch t x other cases) s p = absurd s
  op_defined (op.Ret x) s p = absurd s
  op_defined op.Unreachable s p = absurd s

  may_stand : (o : Op) → OpFits o → may_be_marked o ≡ true
  may_stand (op.Call ret callee args) s = ap (λ x. may_be_marked (op.Call None x [])) s.named ∙ is_runtime s.function
  may_stand (op.Binary o f t x y) s = refl
  may_stand (op.Icmp o f t x y) s = refl
  may_stand (op.Cast o f t x u) s = refl
  may_stand (op.Select c t x y) s = refl
  may_stand (op.Load t x) s = refl
  may_stand (op.Store t x y) s = refl
  may_stand (op.Phi t es) s = absurd s
  may_stand (op.Freeze t x) s = absurd s
  may_stand (op.Alloca t u c) s = absurd s
  may_stand (op.Gep t x is) s = absurd s
  may_stand (op.Br to) s = absurd s
  may_stand (op.CondBr c to other) s = absurd s
  may_stand (op.Switch t x other cases) s = absurd s
  may_stand (op.Ret x) s = absurd s
  may_stand op.Unreachable s = absurd s

  result_named : (r : Option Name) (t : Option Ty) → ResultFits r t → all_results is_inserted_name r ≡ true
  result_named None t k = refl
  result_named (Some x) (Some t) k = ap is_inserted_name k.1 ∙ msan_inserted k.0
  result_named (Some x) None k = absurd k

  pub marked_fits : (i : Inst) → i.marked ≡ true → may_be_marked i.op ≡ true → all_results is_inserted_name i.result ≡ true → mark_fits g i ≡ true
  marked_fits i e m r =
      ap (λ c. if c then may_be_marked i.op && all_results is_inserted_name i.result
      else all_results (λ x. not (is_inserted_name x)) i.result && not (list_any (is_inserted (marked_results g)) (mentions i.op))) e
      ∙ ap₂ (λ x y. x && y) m r

  -- an inserted instruction that fits breaks no clause
  pub inserted_fits : (i : Inst) → InstFits (KnownAt g b q) (ConstGood m j) i → FitsAt j here i
  inserted_fits i k = record {
    names_known = op_known i.op k.shaped k.calls k.reads;
    types_agree = op_agrees i.op k.shaped k.calls k.reads;
    phis_fit = no_edges i.op k.shaped;
    externals_fit = flags_fit i.op k.shaped;
    uses_defined = op_defined i.op k.shaped k.reads;
    marks_fit = marked_fits i k.marked (may_stand i.op k.shaped) (result_named i.result (result_type i.op) k.gives);
  }
