-- What the pass asks of each instruction, of a formed and valid module.
use Rattle.std.proofs.Common.{◌≡◌, ℕ, suc, ◌≤◌, List, [], ◌∷◌, length, Bool, true, false, Option, Some, None, refl, sym, ap, ◌∙◌, subst, arith, true≢false, zero, ◌+◌, ◌^◌, ◌<◌}
use Rattle.std.specs.Prelude.{◌&&◌, ◌||◌, not, nat_eq, map, take, drop, nat_le, if◌then◌else◌, option_map, unwrap_or, is_some, slice_get}
use Rattle.std.specs.List.{list_all}
use Rattle.std.specs.Option.{option_or}
use Rattle.std.proofs.lemmas.Bool.{and_parts, or_left, or_right, leb-true, and_from}
use Rattle.ms_ir.specs.declared.syntax.Name.{Name}
use Rattle.ms_ir.specs.declared.syntax.Ty.{Ty, Int, Ptr}
use Rattle.ms_ir.specs.declared.syntax.Operand.{Operand}
use Rattle.ms_ir.specs.declared.syntax.Operand.TheVariants as operand
use Rattle.ms_ir.specs.declared.syntax.Op.{Op}
use Rattle.ms_ir.specs.declared.syntax.Op.TheVariants as op
use Rattle.ms_ir.specs.declared.syntax.Inst.{Inst}
use Rattle.ms_ir.specs.declared.syntax.Block.{Block}
use Rattle.ms_ir.specs.declared.syntax.Func.{Func}
use Rattle.ms_ir.specs.declared.syntax.Module.{Module}
use Rattle.ms_ir.specs.declared.calls.External.{External}
use Rattle.ms_ir.specs.declared.calls.External.TheVariants.{Word}
use Rattle.ms_bits.specs.declared.word_functions.WordFn.{WordFn}
use Rattle.ms_bits.specs.declared.word_functions.WordWidth.{WordWidth}
use Rattle.ms_bits.specs.WordFunctions.{bits_of}
use Rattle.ms_ir.specs.Names.{externals, lookup, name_eq, main_name}
use Rattle.ms_ir.specs.Layout.{Types, resolved, part_type}
use Rattle.ms_ir.specs.Instructions.{operands, func_index, func_at, insts_at, is_phi, over_insts, over_blocks, over_funcs}
use Rattle.ms_runs.specs.Control.{params_at}
use Rattle.ms_ir.specs.Equal.{type_eq, result_type_eq}
use Rattle.ms_ir.specs.Written.{result_type}
use Rattle.ms_ir.specs.Locals.{value_type}
use Rattle.ms_check_valid.specs.Paths.{insts_of}
use Rattle.ms_check_valid.specs.Formed.{Formed}
use Rattle.ms_check_valid.specs.FormedNames.{is_global_name}
use Rattle.ms_check_valid.specs.FormedCode.{is_int_type, is_value_type, result_formed, shape_formed, operand_formed, name_formed, binary_flags, cast_flags, are_among}
use Rattle.ms_ir.specs.Signatures.{Signature, external_signature, signature_of}
use Rattle.ms_check_valid.specs.TypesAgree.{first_misfit, fault_unless, first_misstep, leads_into, number_or_zero, is_type, operand_fits, cast_allows, returns_fit, argument_fault, is_start, is_create, fits_call, is_printable, printf_fault, is_printf, call_fault, op_fault}
use Rattle.ms_check_valid.specs.Uninstrumented.{CanInstrument}
use Rattle.ms_check_valid.specs.Valid.{Valid}
use Rattle.ms_check_valid.proofs.AtInstructions.{fits_at}
use Rattle.ms_runs_good_laws.proofs.NextFrames.{block_there}
use Rattle.ms_runs_good_laws.proofs.Starts.{all_get}
use Rattle.ms_check_valid.proofs.TypedValues.{result_typed}
use Rattle.ms_runs_good_laws.proofs.CallTypes.{same_width, both_none, holds_unless, func_found, external_call, defined_call, defined_answer, known_external, fitted_call, no_fault_at}
use Rattle.ms_runs_good_laws.proofs.WordCallTypes.{IsWord, word_call}
use Rattle.ms_runs_good_laws.proofs.InstructionEffects.{formed_at}
use Rattle.ms_runs_good_laws.proofs.OpEffects.{value_width, cast_allowed}
use Rattle.ms_pass_tasks.specs.Known.{KnownName, KnownOperand, KnownOperands, KnownResult, KnownInst, IsBuilt, AnswersWord, FitsCallee, HasResult, is_void, ArgsFit}
use Rattle.ms_pass_laws.specs.Known.{FitsCalled, AnswerFits, ReturnsAs, ret_at}
use Rattle.ms_pass_laws.specs.Numbers.{numbering}
use Rattle.ms_pass_laws.proofs.NumberedValues.{known_value}

-- ---- operands fit

no_some : {A : Type 0} (x : A) → Some x ≡ None → ⊥
no_some x e = grind arith

-- an operation is no call
abbrev pub IsNoCall : Op → Type 0
IsNoCall (op.Call ret callee args) = ⊥
IsNoCall o = Unit {0}

-- arguments that fit by their places all have what such arguments have
args_all : (fits : ℕ → Ty × Operand → Bool) (known : Ty × Operand → Bool) → ((k : ℕ) (o : Ty × Operand) → fits k o ≡ true → known o ≡ true) → (k : ℕ) (ps : List Ty) (args : List (Ty × Operand))
    → argument_fault fits k ps args ≡ None → list_all known args ≡ true
args_all fits known knows k [] [] e = refl
args_all fits known knows k [] (a ∷ rest) e = absurd (no_some k e)
args_all fits known knows k (p ∷ ps) [] e = refl
args_all fits known knows k (p ∷ ps) (a ∷ rest) e =
    let h = no_fault_at (type_eq a.0 p && fits k a) (argument_fault fits (suc k) ps rest) k e in
    and_from (known a) (list_all known rest) (knows k a (and_parts (type_eq a.0 p) (fits k a) h.0).1) (args_all fits known knows (suc k) ps rest h.1)

all_known : (fits known : Ty × Operand → Bool) → ((o : Ty × Operand) → fits o ≡ true → known o ≡ true) → (os : List (Ty × Operand)) → list_all fits os ≡ true → list_all known os ≡ true
all_known fits known knows [] e = refl
all_known fits known knows (o ∷ os) e =
    let h = and_parts (fits o) (list_all fits os) e in and_from (known o) (list_all known os) (knows o h.0) (all_known fits known knows os h.1)

module _ (fits : Ty × Operand → Bool) where
  misfit_all : (k : ℕ) (os : List (Ty × Operand)) → first_misfit fits k os ≡ None → list_all fits os ≡ true
  misfit_all k [] e = refl
  misfit_all k (o ∷ rest) e = let h = no_fault_at (fits o) (first_misfit fits (suc k) rest) k e in and_from (fits o) (list_all fits rest) h.0 (misfit_all (suc k) rest h.1)

  misstep_all : (types : Types) (t : Ty) (k : ℕ) (os : List (Ty × Operand)) → first_misstep fits types t k os ≡ None → list_all fits os ≡ true
  misstep_all types t k [] e = refl
  misstep_all types t k (o ∷ rest) e =
      let h = no_fault_at (fits o && leads_into (resolved types t) o) (first_misstep fits types (part_type (resolved types t) (number_or_zero o.1)) (suc k) rest) k e in
      and_from (fits o) (list_all fits rest) (and_parts (fits o) (leads_into (resolved types t) o) h.0).0 (misstep_all types (part_type (resolved types t) (number_or_zero o.1)) (suc k) rest h.1)

  printed_all : (k : ℕ) (os : List (Ty × Operand)) → first_misfit (λ b. is_printable b.0 && fits b) k os ≡ None → list_all fits os ≡ true
  printed_all k [] e = refl
  printed_all k (o ∷ rest) e =
      let h = no_fault_at (is_printable o.0 && fits o) (first_misfit (λ b. is_printable b.0 && fits b) (suc k) rest) k e in
      and_from (fits o) (list_all fits rest) (and_parts (is_printable o.0) (fits o) h.0).1 (printed_all (suc k) rest h.1)

  pub printf_all : (args : List (Ty × Operand)) → printf_fault fits args ≡ None → list_all fits args ≡ true
  printf_all [] e = refl
  printf_all (a ∷ rest) e =
      let h = no_fault_at (type_eq a.0 Ptr && fits a) (first_misfit (λ b. is_printable b.0 && fits b) 1 rest) 0 e in
      and_from (fits a) (list_all fits rest) (and_parts (type_eq a.0 Ptr) (fits a) h.0).1 (printed_all 1 rest h.1)

  -- an operand that fits, or names a function that may begin
  abbrev pub fits_somewhere : Module → Ty × Operand → Bool
  fits_somewhere m o = fits o || is_start m o.1

  somewhere : (m : Module) (o : Ty × Operand) → fits o ≡ true → fits_somewhere m o ≡ true
  somewhere m o e = or_left (fits o) (is_start m o.1) e

  called_all : (m : Module) (s : Option Signature) (ret : Option Ty) (callee : Name) (args : List (Ty × Operand)) → call_fault m fits s ret callee args ≡ None → list_all (fits_somewhere m) args ≡ true
  called_all m None ret callee args e = absurd (no_second (first_misfit fits 0 args) e)
    where
      no_second : (a : Option ℕ) → option_or a (Some 0) ≡ None → ⊥
      no_second None e = no_some 0 e
      no_second (Some k) e = no_some k e
  called_all m (Some s) ret callee args e =
      by_printf (is_printf m callee) (both_none (if is_printf m callee then printf_fault fits args else argument_fault (fits_call m fits callee) 0 s.params args) (fault_unless (result_type_eq ret s.ret)) e).0
    where
      by_place : (k : ℕ) (o : Ty × Operand) → fits_call m fits callee k o ≡ true → fits_somewhere m o ≡ true
      by_place k o = by_test (is_create m callee && nat_eq k 2)
        where
          by_test : (t : Bool) → (if t then is_start m o.1 else fits o) ≡ true → fits_somewhere m o ≡ true
          by_test true e = or_right (fits o) (is_start m o.1) e
          by_test false e = somewhere m o e

      by_printf : (b : Bool) → (if b then printf_fault fits args else argument_fault (fits_call m fits callee) 0 s.params args) ≡ None → list_all (fits_somewhere m) args ≡ true
      by_printf true e = all_known fits (fits_somewhere m) (somewhere m) args (printf_all args e)
      by_printf false e = args_all (fits_call m fits callee) (fits_somewhere m) by_place 0 s.params args e

  indices_all : (base : Operand) (indices : List (Ty × Operand)) → list_all fits ((Ptr, base) ∷ take 1 indices) ≡ true → list_all fits (drop 1 indices) ≡ true → list_all fits ((Ptr, base) ∷ indices) ≡ true
  indices_all base [] h g = h
  indices_all base (i ∷ is) h g =
      let a = and_parts (fits (Ptr, base)) (fits i && true) h in
      and_from (fits (Ptr, base)) (fits i && list_all fits is) a.0 (and_from (fits i) (list_all fits is) (and_parts (fits i) true a.1).0 g)

  -- operands that all fit
  listed : (m : Module) (os : List (Ty × Operand)) → list_all fits os ≡ true → list_all (fits_somewhere m) os ≡ true
  listed m os e = all_known fits (fits_somewhere m) (somewhere m) os e

  checked : (o : Op) (other : Option ℕ) → option_or (first_misfit fits 0 (operands o)) other ≡ None → list_all fits (operands o) ≡ true
  checked o other e = misfit_all 0 (operands o) (both_none (first_misfit fits 0 (operands o)) other e).0

  -- an operation that is no call has operands that fit
  pub plain_all : (m : Module) (f : Func) (o : Op) → IsNoCall o → op_fault m f fits o ≡ None → list_all fits (operands o) ≡ true
  plain_all m f (op.Cast c flags from a to) n e = misfit_all 0 ((from, a) ∷ []) (both_none (first_misfit fits 0 ((from, a) ∷ [])) (fault_unless (cast_allows c from to)) e).0
  plain_all m f (op.Gep t base indices) n e =
      let h = both_none (first_misfit fits 0 ((Ptr, base) ∷ take 1 indices)) (first_misstep fits m.types t 2 (drop 1 indices)) e in
      indices_all base indices (misfit_all 0 ((Ptr, base) ∷ take 1 indices) h.0) (misstep_all m.types t 2 (drop 1 indices) h.1)
  plain_all m f (op.Call ret callee args) n e = absurd n
  plain_all m f (op.Switch t v other cases) n e = misfit_all 0 ((t, v) ∷ []) (both_none (first_misfit fits 0 ((t, v) ∷ [])) _ e).0
  plain_all m f (op.Ret None) n e = refl
  plain_all m f (op.Ret (Some v)) n e = by_ret f.ret (holds_unless (returns_fit fits f.ret (Some v)) e)
    where
      by_ret : (r : Option Ty) → returns_fit fits r (Some v) ≡ true → list_all fits (v ∷ []) ≡ true
      by_ret None e = absurd (true≢false (sym e))
      by_ret (Some t) e = and_from (fits v) true (and_parts (type_eq v.0 t) (fits v) e).1 refl
  plain_all m f (op.Binary o flags t a b) n e = checked (op.Binary o flags t a b) _ e
  plain_all m f (op.Icmp o flags t a b) n e = checked (op.Icmp o flags t a b) _ e
  plain_all m f (op.Select c t a b) n e = checked (op.Select c t a b) _ e
  plain_all m f (op.Freeze t a) n e = checked (op.Freeze t a) _ e
  plain_all m f (op.Phi t es) n e = checked (op.Phi t es) _ e
  plain_all m f (op.Alloca t u c) n e = checked (op.Alloca t u c) _ e
  plain_all m f (op.Load t a) n e = checked (op.Load t a) _ e
  plain_all m f (op.Store t v a) n e = checked (op.Store t v a) _ e
  plain_all m f (op.Br to) n e = refl
  plain_all m f (op.CondBr c to other) n e = checked (op.CondBr c to other) _ e
  plain_all m f op.Unreachable n e = refl

  pub op_all : (m : Module) (f : Func) (o : Op) → op_fault m f fits o ≡ None → list_all (fits_somewhere m) (operands o) ≡ true
  op_all m f (op.Call ret callee args) e = called_all m (signature_of m callee) ret callee args e
  op_all m f (op.Binary o flags t a b) e = listed m (operands (op.Binary o flags t a b)) (plain_all m f (op.Binary o flags t a b) tt e)
  op_all m f (op.Icmp o flags t a b) e = listed m (operands (op.Icmp o flags t a b)) (plain_all m f (op.Icmp o flags t a b) tt e)
  op_all m f (op.Cast c flags from a to) e = listed m (operands (op.Cast c flags from a to)) (plain_all m f (op.Cast c flags from a to) tt e)
  op_all m f (op.Select c t a b) e = listed m (operands (op.Select c t a b)) (plain_all m f (op.Select c t a b) tt e)
  op_all m f (op.Freeze t a) e = listed m (operands (op.Freeze t a)) (plain_all m f (op.Freeze t a) tt e)
  op_all m f (op.Phi t es) e = listed m (operands (op.Phi t es)) (plain_all m f (op.Phi t es) tt e)
  op_all m f (op.Alloca t u c) e = listed m (operands (op.Alloca t u c)) (plain_all m f (op.Alloca t u c) tt e)
  op_all m f (op.Load t a) e = listed m (operands (op.Load t a)) (plain_all m f (op.Load t a) tt e)
  op_all m f (op.Store t v a) e = listed m (operands (op.Store t v a)) (plain_all m f (op.Store t v a) tt e)
  op_all m f (op.Gep t base indices) e = listed m (operands (op.Gep t base indices)) (plain_all m f (op.Gep t base indices) tt e)
  op_all m f (op.Br to) e = refl
  op_all m f (op.CondBr c to other) e = listed m (operands (op.CondBr c to other)) (plain_all m f (op.CondBr c to other) tt e)
  op_all m f (op.Switch t v other cases) e = listed m (operands (op.Switch t v other cases)) (plain_all m f (op.Switch t v other cases) tt e)
  op_all m f (op.Ret v) e = listed m (operands (op.Ret v)) (plain_all m f (op.Ret v) tt e)
  op_all m f op.Unreachable e = refl

-- ---- operands have the types of values

int_value : (t : Ty) → is_int_type t ≡ true → is_value_type t ≡ true
int_value (Int n) e = e
int_value t e = absurd (true≢false (sym e))

ints_values : (is : List (Ty × Operand)) → list_all (λ i. is_int_type i.0) is ≡ true → list_all (λ i. is_value_type i.0) is ≡ true
ints_values [] e = refl
ints_values (i ∷ is) e = let h = and_parts (is_int_type i.0) (list_all (λ i. is_int_type i.0) is) e in and_from (is_value_type i.0) (list_all (λ i. is_value_type i.0) is) (int_value i.0 h.0) (ints_values is h.1)

edges_values : (t : Ty) (es : List (Operand × Name)) → is_value_type t ≡ true → list_all (λ (a : Ty × Operand). is_value_type a.0) (map (λ e. (t, e.0)) es) ≡ true
edges_values t [] h = refl
edges_values t (e ∷ es) h = and_from (is_value_type t) (list_all (λ (a : Ty × Operand). is_value_type a.0) (map (λ e. (t, e.0)) es)) h (edges_values t es h)

pub shape_types : (o : Op) → shape_formed o ≡ true → list_all (λ a. is_value_type a.0) (operands o) ≡ true
shape_types (op.Binary o flags t a b) e =
    let h = int_value t (and_parts (is_int_type t) (are_among flags (binary_flags o)) e).0 in and_from (is_value_type t) (is_value_type t && true) h (and_from (is_value_type t) true h refl)
shape_types (op.Icmp o flags t a b) e = let h = (and_parts (is_value_type t) _ e).0 in and_from (is_value_type t) (is_value_type t && true) h (and_from (is_value_type t) true h refl)
shape_types (op.Cast o flags from a to) e =
    let h = (and_parts (is_value_type from) (is_value_type to) (and_parts (is_value_type from && is_value_type to) (are_among flags (cast_flags o)) e).0).0 in and_from (is_value_type from) true h refl
shape_types (op.Select c t a b) e = and_from (is_value_type t) (is_value_type t && true) e (and_from (is_value_type t) true e refl)
shape_types (op.Freeze t a) e = and_from (is_value_type t) true e refl
shape_types (op.Phi t es) e = edges_values t es (and_parts (is_value_type t) _ e).0
shape_types (op.Alloca t u c) e = and_from (is_value_type u) true (int_value u (and_parts _ (is_int_type u) e).1) refl
shape_types (op.Load t a) e = refl
shape_types (op.Store t v a) e = and_from (is_value_type t) true e refl
shape_types (op.Gep t base is) e = ints_values is (and_parts _ (list_all (λ i. is_int_type i.0) is) e).1
shape_types (op.Call ret callee args) e = (and_parts (result_formed ret && is_global_name callee && not (name_eq callee main_name)) (list_all (λ a. is_value_type a.0) args) e).1
shape_types (op.Br to) e = refl
shape_types (op.CondBr c to other) e = refl
shape_types (op.Switch t v other cases) e = and_from (is_value_type t) true (int_value t (and_parts (is_int_type t) _ e).0) refl
shape_types (op.Ret None) e = refl
shape_types (op.Ret (Some v)) e = and_from (is_value_type v.0) true e refl
shape_types op.Unreachable e = refl

-- ---- externals

-- there is no type
abbrev no_type : Option Ty → Bool
no_type (Some t) = false
no_type None = true

same_kind : (a b : Option Ty) → result_type_eq a b ≡ true → no_type a ≡ no_type b
same_kind None None e = refl
same_kind None (Some t) e = absurd (true≢false (sym e))
same_kind (Some t) None e = absurd (true≢false (sym e))
same_kind (Some t) (Some u) e = refl

has_result : (e : External) (x : Option Name) (ret declared : Option Ty) → name_formed ret x ≡ true → result_type_eq ret declared ≡ true → result_type_eq declared (external_signature e).ret ≡ true → HasResult e x
has_result e x ret declared f p q = by_name x ret f (void (external_signature e).ret ∙ sym (same_kind ret declared p ∙ same_kind declared (external_signature e).ret q))
  where
    void : (r : Option Ty) → not (is_some r) ≡ no_type r
    void (Some t) = refl
    void None = refl

    by_name : (x : Option Name) (r : Option Ty) → name_formed r x ≡ true → is_void e ≡ no_type r → HasResult e x
    by_name None None f g = g
    by_name None (Some t) f g = absurd (true≢false (sym f))
    by_name (Some y) None f g = absurd (true≢false (sym f))
    by_name (Some y) (Some t) f g = g

-- ---- calls of the module's own functions

args_fit : (fits : ℕ → Ty × Operand → Bool) (k : ℕ) (ps : List (Ty × Name)) (args : List (Ty × Operand)) → argument_fault fits k (map (λ q. q.0) ps) args ≡ None → ArgsFit ps args
args_fit fits k [] [] e = tt
args_fit fits k [] (a ∷ rest) e = no_some k e
args_fit fits k (p ∷ ps) [] e = no_some k e
args_fit fits k (p ∷ ps) (a ∷ rest) e =
    let h = no_fault_at (type_eq a.0 p.0 && fits k a) (argument_fault fits (suc k) (map (λ q. q.0) ps) rest) k e in
    (same_width a.0 p.0 (and_parts (type_eq a.0 p.0) (fits k a) h.0).0, args_fit fits (suc k) ps rest h.1)

as_many : (ps : List (Ty × Name)) (args : List (Ty × Operand)) → ArgsFit ps args → length args ≡ length ps
as_many [] [] h = refl
as_many [] (a ∷ rest) h = absurd h
as_many (p ∷ ps) [] h = absurd h
as_many (p ∷ ps) (a ∷ rest) h = ap suc (as_many ps rest h.1)

answer_fits : (x : Option Name) (ret own : Option Ty) → name_formed ret x ≡ true → result_type_eq ret own ≡ true → result_formed ret ≡ true → AnswerFits x ret own
answer_fits None ret own f e r = tt
answer_fits (Some y) None own f e r = absurd (true≢false (sym f))
answer_fits (Some y) (Some t) None f e r = absurd (true≢false (sym e))
answer_fits (Some y) (Some t) (Some u) f e r = (same_width t u e, (value_width t r).1)

returns_as : (fits : Ty × Operand → Bool) (own : Option Ty) (v : Option (Ty × Operand)) → returns_fit fits own v ≡ true → ReturnsAs own v
returns_as fits None v e = tt
returns_as fits (Some t) None e = absurd (true≢false (sym e))
returns_as fits (Some t) (Some v) e = same_width v.0 t (and_parts (type_eq v.0 t) (fits v) e).0

-- ---- a sum over all instructions is at least the count of each

within_insts : (count : Inst → ℕ) (is : List Inst) (p : ℕ) (i : Inst) → slice_get is p ≡ Some i → count i ≤ over_insts count is
within_insts count [] p i e = grind arith
within_insts count (x ∷ is) zero i e = subst (λ y. count y ≤ count x + over_insts count is) (ap (λ o. unwrap_or o x) e) (omega arith)
within_insts count (x ∷ is) (suc p) i e = let l = within_insts count is p i e in omega (arith, l)

within_blocks : (count : Inst → ℕ) (bs : List Block) (b p : ℕ) (i : Inst) → slice_get (unwrap_or (option_map (λ (k : Block). k.insts) (slice_get bs b)) []) p ≡ Some i → count i ≤ over_blocks count bs
within_blocks count [] b p i e = grind arith
within_blocks count (x ∷ bs) zero p i e = let l = within_insts count x.insts p i e in omega (arith, l)
within_blocks count (x ∷ bs) (suc b) p i e = let l = within_blocks count bs b p i e in omega (arith, l)

pub within_funcs : (count : Inst → ℕ) (fs : List Func) (n : ℕ) (f : Func) → slice_get fs n ≡ Some f → over_blocks count f.blocks ≤ over_funcs count fs
within_funcs count [] n f e = grind arith
within_funcs count (x ∷ fs) zero f e = subst (λ (y : Func). over_blocks count y.blocks ≤ over_blocks count x.blocks + over_funcs count fs) (ap (λ o. unwrap_or o x) e) (omega arith)
within_funcs count (x ∷ fs) (suc n) f e = let l = within_funcs count fs n f e in omega (arith, l)

-- ---- an instruction that stands in the module

module _ (m : Module) (formed : Formed m) (valid : Valid m) (can : CanInstrument m) (n b p : ℕ) (f : Func) (i : Inst) (at : func_at m n ≡ Some f)
    (there : slice_get (insts_at m n b) p ≡ Some i) (due : slice_get (insts_of f b) p ≡ Some i) (unmarked : i.marked ≡ false) where
  pub shape : shape_formed i.op ≡ true
  shape =
      let front = and_parts (shape_formed i.op && list_all (λ a. operand_formed a.0 a.1) (operands i.op)) _ (formed_at m formed n f at b p i due).0 in
      (and_parts (shape_formed i.op) (list_all (λ a. operand_formed a.0 a.1) (operands i.op)) front.0).0

  pub name : name_formed (result_type i.op) i.result ≡ true
  name = (formed_at m formed n f at b p i due).1

  no_fault : op_fault m f (λ o. operand_fits m (value_type f) o.0 o.1) i.op ≡ None
  no_fault = (fits_at m valid n b p f i at there).types_agree

  known_operand : (t : Ty) (o : Operand) → (operand_fits m (value_type f) t o || is_start m o) ≡ true → KnownOperand (numbering m n).env (numbering m n).size o
  known_operand t (operand.Local x) e = typed (value_type f x) refl (by_test (is_type (value_type f x) t) e)
    where
      by_test : (t : Bool) → (t || false) ≡ true → t ≡ true
      by_test true e = refl
      by_test false e = e

      typed : (r : Option Ty) → value_type f x ≡ r → is_type r t ≡ true → KnownName (numbering m n).env (numbering m n).size x
      typed None q e = absurd (true≢false (sym e))
      typed (Some u) q e = known_value m can.plain.free n f at x u q
  known_operand t _ e = tt

  known_operands : (os : List (Ty × Operand)) → list_all (λ o. operand_fits m (value_type f) o.0 o.1 || is_start m o.1) os ≡ true → list_all (λ o. is_value_type o.0) os ≡ true
      → KnownOperands (numbering m n).env (numbering m n).size os
  known_operands [] e h = tt
  known_operands (o ∷ os) e h =
      let a = and_parts (operand_fits m (value_type f) o.0 o.1 || is_start m o.1) (list_all (λ o. operand_fits m (value_type f) o.0 o.1 || is_start m o.1) os) e in
      let c = and_parts (is_value_type o.0) (list_all (λ o. is_value_type o.0) os) h in
      ((value_width o.0 c.0).1, known_operand o.0 o.1 a.0, known_operands os a.1 c.1)

  pub reads : KnownOperands (numbering m n).env (numbering m n).size (operands i.op)
  reads = known_operands (operands i.op) (op_all (λ o. operand_fits m (value_type f) o.0 o.1) m f i.op no_fault) (shape_types i.op shape)

  pub result_known : (x : Option Name) → i.result ≡ x → KnownResult (numbering m n).env (numbering m n).size x
  result_known None e = tt
  result_known (Some x) e = typed (result_type i.op) refl (ap (λ x. name_formed (result_type i.op) x) (sym e) ∙ name)
    where
      typed : (r : Option Ty) → result_type i.op ≡ r → name_formed r (Some x) ≡ true → KnownName (numbering m n).env (numbering m n).size x
      typed None q h = absurd (true≢false (sym h))
      typed (Some t) q h =
          let k = block_there f b p i due in
          known_value m can.plain.free n f at x t (result_typed m valid n f at b p k.0 i x t k.1 k.2 e q)

  -- calls
  pub call_fits : (ret : Option Ty) (callee : Name) (args : List (Ty × Operand)) → i.op ≡ op.Call ret callee args → (k : ℕ) → func_index m.funcs callee ≡ Some k → FitsCalled m k i.result ret args
  call_fits ret callee args e k found =
      let g = func_found m.funcs callee k found in
      let same_params : params_at m k ≡ g.0.params = ap (λ o. unwrap_or (option_map (λ (h : Func). h.params) o) []) g.1 in
      let same_ret : ret_at m k ≡ g.0.ret = ap (λ o. elim o [ Some h ↦ h.ret | None ↦ None ]) g.1 in
      let fault = defined_call m valid n b p f i at due ret callee args e g.0 k found g.1 in
      let answer = defined_answer m valid n b p f i at due ret callee args e g.0 k found g.1 in
      let sh : shape_formed (op.Call ret callee args) ≡ true = ap shape_formed (sym e) ∙ shape in
      let front = and_parts (result_formed ret && is_global_name callee && not (name_eq callee main_name)) (list_all (λ a. is_value_type a.0) args) sh in
      let formed_ret = (and_parts (result_formed ret) (is_global_name callee) (and_parts (result_formed ret && is_global_name callee) (not (name_eq callee main_name)) front.0).0).0 in
      record {
        fits = subst (λ ps. ArgsFit ps args) (sym same_params) (args_fit (fitted_call m valid n b p f i at due ret callee args e) 0 g.0.params args fault);
        answer = subst (λ r. AnswerFits i.result ret r) (sym same_ret) (answer_fits i.result ret g.0.ret (ap (λ o. name_formed (result_type o) i.result) (sym e) ∙ name) answer formed_ret);
      }

  few_args : (ret : Option Ty) (callee : Name) (args : List (Ty × Operand)) → i.op ≡ op.Call ret callee args → (q : Option ℕ) → func_index m.funcs callee ≡ q → is_some q ≡ true → length args ≤ 100
  few_args ret callee args e None found own = absurd (true≢false (sym own))
  few_args ret callee args e (Some k) found own =
      let g = func_found m.funcs callee k found in
      let same_params : params_at m k ≡ g.0.params = ap (λ o. unwrap_or (option_map (λ (h : Func). h.params) o) []) g.1 in
      let many = as_many g.0.params args (subst (λ ps. ArgsFit ps args) same_params (call_fits ret callee args e k found).fits) in
      let few = leb-true (length g.0.params) 100 (all_get (λ (h : Func). nat_le (length h.params) 100) m.funcs k g.0 can.parameters g.1) in
      omega (arith, many, few)

  few_operands : (ret : Option Ty) (callee : Name) (args : List (Ty × Operand)) → i.op ≡ op.Call ret callee args → length args < 2 ^ 32
  few_operands ret callee args e =
      let l = within_blocks (λ x. length (operands x.op)) f.blocks b p i due in
      let k = within_funcs (λ x. length (operands x.op)) m.funcs n f at in
      let many = can.operands in
      subst (λ o. length (operands o) < 2 ^ 32) e (omega (arith, l, k, many))

  outside_fits : (ret : Option Ty) (callee : Name) (args : List (Ty × Operand)) → i.op ≡ op.Call ret callee args → (q : Option ℕ) → func_index m.funcs callee ≡ q
      → FitsCallee (if is_some q then None else lookup externals callee) i.result args
  outside_fits ret callee args e (Some k) found = tt
  outside_fits ret callee args e None found =
      let x = known_external m valid n b p f i at due ret callee args e unmarked found in
      let c = external_call m valid n b p f i at due ret callee args e x.0 found x.1 in
      subst (λ o. FitsCallee o i.result args) (sym x.1) (
        c.widths,
        has_result x.0 i.result ret c.declared_ret (ap (λ o. name_formed (result_type o) i.result) (sym e) ∙ name) c.first c.second,
        few_operands ret callee args e,
      )

  words_answer : (ret : Option Ty) (callee : Name) (args : List (Ty × Operand)) → i.op ≡ op.Call ret callee args → (q : Option ℕ) → func_index m.funcs callee ≡ q
      → AnswersWord (if is_some q then None else lookup externals callee) ret
  words_answer ret callee args e (Some k) found = tt
  words_answer ret callee args e None found = by_external (lookup externals callee) refl
    where
      of_word : (ret : Option Ty) (g : WordFn) (w : WordWidth) → IsWord ret (bits_of w) → AnswersWord (Some (Word g w)) ret
      of_word None g w h = absurd h
      of_word (Some t) g w h = h

      by_external : (x : Option External) → lookup externals callee ≡ x → AnswersWord x ret
      by_external None is = tt
      by_external (Some (Word g w)) is = of_word ret g w (word_call m valid n b p f i at due ret callee args e g w found is).answer
      by_external (Some x) is = tt

  pub built : (o : Op) → i.op ≡ o → is_phi o ≡ false → IsBuilt (func_index m.funcs) i.result o
  built (op.Binary o flags t a c) e np = (value_width t (int_value t (and_parts (is_int_type t) (are_among flags (binary_flags o)) (ap shape_formed (sym e) ∙ shape)).0)).0
  built (op.Icmp o flags t a c) e np = (value_width t (and_parts (is_value_type t) _ (ap shape_formed (sym e) ∙ shape)).0).0
  built (op.Cast o flags from a to) e np =
      let sh = and_parts (is_value_type from && is_value_type to) (are_among flags (cast_flags o)) (ap shape_formed (sym e) ∙ shape) in
      let fault = both_none (first_misfit (λ o. operand_fits m (value_type f) o.0 o.1) 0 ((from, a) ∷ [])) (fault_unless (cast_allows o from to))
      (ap (op_fault m f (λ o. operand_fits m (value_type f) o.0 o.1)) (sym e) ∙ no_fault) in
      cast_allowed o from to (holds_unless (cast_allows o from to) fault.1) (and_parts (is_value_type from) (is_value_type to) sh.0).1
  built (op.Alloca t u c) e np = named i.result (ap (λ o. name_formed (result_type o) i.result) (sym e) ∙ name)
    where
      named : (x : Option Name) → name_formed (Some Ptr) x ≡ true → IsBuilt (func_index m.funcs) x (op.Alloca t u c)
      named None h = absurd (true≢false (sym h))
      named (Some y) h = tt
  built (op.Call ret callee args) e np = (
    outside_fits ret callee args e (func_index m.funcs callee) refl,
    few_args ret callee args e (func_index m.funcs callee) refl,
    words_answer ret callee args e (func_index m.funcs callee) refl,
  )
  built (op.Phi t es) e np = absurd (true≢false np)
  built (op.Select c t a d) e np = tt
  built (op.Freeze t a) e np = tt
  built (op.Load t a) e np = tt
  built (op.Store t v a) e np = tt
  built (op.Gep t a is) e np = tt
  built (op.Br to) e np = tt
  built (op.CondBr c to other) e np = tt
  built (op.Switch t v other cases) e np = tt
  built (op.Ret v) e np = tt
  built op.Unreachable e np = tt

  pub inst_known : is_phi i.op ≡ false → KnownInst (func_index m.funcs) (numbering m n).env (numbering m n).size i
  inst_known np = record { unmarked = unmarked; built = built i.op refl np; named = result_known i.result refl; reads = reads }

  pub return_known : (v : Option (Ty × Operand)) → i.op ≡ op.Ret v → ReturnsAs (ret_at m n) v
  return_known v e =
      let same_ret : ret_at m n ≡ f.ret = ap (λ o. elim o [ Some h ↦ h.ret | None ↦ None ]) at in
      subst (λ r. ReturnsAs r v) (sym same_ret) (returns_as (λ o. operand_fits m (value_type f) o.0 o.1) f.ret v
      (holds_unless (returns_fit (λ o. operand_fits m (value_type f) o.0 o.1) f.ret v) (ap (op_fault m f (λ o. operand_fits m (value_type f) o.0 o.1)) (sym e) ∙ no_fault)))
