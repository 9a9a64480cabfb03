-- The arguments and the answer of a call of a valid module have the types of its callee.
use Rattle.std.proofs.Common.{◌≡◌, ℕ, suc, List, [], ◌∷◌, Bool, true, false, Option, Some, None, refl, sym, ap, ◌∙◌, subst, arith, true≢false, ◌^◌, ◌<◌}
use Rattle.std.specs.Prelude.{◌&&◌, not, map, if◌then◌else◌, is_some, slice_get, unwrap_or, option_map, length}
use Rattle.std.specs.List.{list_all}
use Rattle.std.proofs.Math.Path.{ap₂}
use Rattle.std.proofs.lemmas.Bool.{and_parts}
use Rattle.ms_ir.specs.declared.syntax.Name.{Name}
use Rattle.ms_ir.specs.declared.syntax.Ty.{Ty}
use Rattle.ms_ir.specs.declared.syntax.Operand.{Operand}
use Rattle.ms_ir.specs.declared.syntax.Op.TheVariants as op
use Rattle.ms_ir.specs.declared.syntax.Inst.{Inst}
use Rattle.ms_ir.specs.declared.syntax.Func.{Func}
use Rattle.ms_ir.specs.declared.syntax.Module.{Module}
use Rattle.ms_ir.specs.declared.calls.External.{External}
use Rattle.ms_ir.specs.declared.calls.External.TheVariants.{Malloc, Printf, Word}
use Rattle.ms_pass_form_laws.proofs.WordTypes.{width_value, word_values}
use Rattle.ms_ir.specs.Names.{name_eq, main_name, lookup, externals}
use Rattle.ms_ir.specs.Instructions.{func_index, func_at, insts_at, is_phi}
use Rattle.ms_ir.specs.Equal.{type_eq, types_eq, result_type_eq}
use Rattle.ms_ir.specs.Signatures.{external_signature, called_params}
use Rattle.ms_check_valid.specs.Formed.{Formed}
use Rattle.ms_check_valid.specs.FormedNames.{is_global_name}
use Rattle.ms_check_valid.specs.FormedCode.{is_value_type, result_formed, shape_formed}
use Rattle.ms_check_valid.specs.TypesAgree.{argument_fault}
use Rattle.ms_check_valid.specs.Paths.{insts_of}
use Rattle.ms_check_valid.specs.Uninstrumented.{CanInstrument}
use Rattle.ms_check_valid.specs.Valid.{Valid}
use Rattle.ms_runs_good_laws.proofs.CallTypes.{external_call, no_fault_at}
use Rattle.ms_pass_tasks.specs.Known.{IsBuilt, FitsCallee}
use Rattle.ms_pass_laws.proofs.KnownInstructions.{inst_known}
use Rattle.ms_pass_form_laws.proofs.Emitted.{CallGood}
use Rattle.ms_pass_form_laws.proofs.Ready.{type_is}

-- ---- types that are compared are the same

-- arguments that fit parameters have their types
argument_types : (fits : ℕ → Ty × Operand → Bool) (n : ℕ) (ps qs : List Ty) (args : List (Ty × Operand)) → argument_fault fits n ps args ≡ None → types_eq ps qs ≡ true
    → list_all is_value_type qs ≡ true → map (λ a. a.0) args ≡ qs
argument_types fits n [] [] [] e h v = refl
argument_types fits n [] [] (a ∷ args) e h v = grind arith
argument_types fits n [] (q ∷ qs) args e h v = absurd (true≢false (sym h))
argument_types fits n (p ∷ ps) [] args e h v = absurd (true≢false (sym h))
argument_types fits n (p ∷ ps) (q ∷ qs) [] e h v = grind arith
argument_types fits n (p ∷ ps) (q ∷ qs) (a ∷ args) e h v =
    let parts = no_fault_at (type_eq a.0 p && fits n a) (argument_fault fits (suc n) ps args) n e in
    let same = and_parts (type_eq p q) (types_eq ps qs) h in
    let values = and_parts (is_value_type q) (list_all is_value_type qs) v in
    let first : p ≡ q = type_is p q values.0 same.0 in
    ap₂ (λ t ts. t ∷ ts) (type_is a.0 q values.0 (subst (λ t. type_eq a.0 t ≡ true) first (and_parts (type_eq a.0 p) (fits n a) parts.0).0))
    (argument_types fits (suc n) ps qs args parts.1 same.1 values.1)

-- an answer is a value, where there is one
abbrev AnswersValue : Option Ty → Type 0
AnswersValue None = Unit {0}
AnswersValue (Some t) = is_value_type t ≡ true

answer_type : (a b c : Option Ty) → result_type_eq a b ≡ true → result_type_eq b c ≡ true → AnswersValue c → a ≡ c
answer_type None None None e h v = refl
answer_type None None (Some c) e h v = absurd (true≢false (sym h))
answer_type None (Some b) c e h v = absurd (true≢false (sym e))
answer_type (Some a) None c e h v = absurd (true≢false (sym e))
answer_type (Some a) (Some b) None e h v = absurd (true≢false (sym h))
answer_type (Some a) (Some b) (Some c) e h v = ap Some (type_is a c v (subst (λ t. type_eq a t ≡ true) (type_is b c v h) e))

rest_values : (rest : List (Ty × Operand)) → list_all (λ a. is_value_type a.0) rest ≡ true → list_all is_value_type (map (λ a. a.0) rest) ≡ true
rest_values [] h = refl
rest_values (a ∷ rest) h =
    let parts = and_parts (is_value_type a.0) (list_all (λ b. is_value_type b.0) rest) h in ap₂ (λ s t. s && t) parts.0 (rest_values rest parts.1)

external_values : (e : External) (args : List (Ty × Operand)) → list_all (λ a. is_value_type a.0) args ≡ true → list_all is_value_type (called_params e (map (λ a. a.0) args)) ≡ true
external_values Printf [] h = refl
external_values Printf (a ∷ rest) h = rest_values rest (and_parts (is_value_type a.0) (list_all (λ b. is_value_type b.0) rest) h).1
external_values Malloc args h = refl
external_values (Word f n) args h = word_values f n
external_values _ args h = refl

external_answers : (e : External) → AnswersValue (external_signature e).ret
external_answers Malloc = refl
external_answers (Word f n) = width_value n
external_answers _ = grind arith

-- ---- calls

formed_answer : (ret : Option Ty) (t : Ty) → result_formed ret ≡ true → ret ≡ Some t → is_value_type t ≡ true
formed_answer None t e s = grind arith
formed_answer (Some u) t e s = subst (λ o. result_formed o ≡ true) s e

-- a call of a formed and valid module that can be instrumented
pub call_good : (m : Module) → Formed m → Valid m → CanInstrument m → (n b p : ℕ) (f : Func) (i : Inst) → func_at m n ≡ Some f → slice_get (insts_of f b) p ≡ Some i → i.marked ≡ false
    → (ret : Option Ty) (callee : Name) (args : List (Ty × Operand)) → i.op ≡ op.Call ret callee args → shape_formed i.op ≡ true
    → CallGood (record { types = m.types; func = func_index m.funcs }) ret callee args
call_good m formed valid can n b p f i at due unmarked ret callee args calls shape = record {
  outside = by_func (func_index m.funcs callee) refl;
  few = (subst (λ o. IsBuilt (func_index m.funcs) i.result o) calls (inst_known m formed valid can n b p f i at there due unmarked (ap is_phi calls)).built).1;
  value = λ t e. formed_answer ret t formed_ret e;
}
  where
    there : slice_get (insts_at m n b) p ≡ Some i
    there = ap (λ o. slice_get (unwrap_or (option_map (λ k. k.insts) (slice_get (unwrap_or (option_map (λ x. x.blocks) o) []) b)) []) p) at ∙ due

    formed_ret : result_formed ret ≡ true
    formed_ret =
        let front = (and_parts (result_formed ret && is_global_name callee && not (name_eq callee main_name)) (list_all (λ a. is_value_type a.0) args) (subst (λ o. shape_formed o ≡ true) calls shape)).0 in
        (and_parts (result_formed ret) (is_global_name callee) (and_parts (result_formed ret && is_global_name callee) (not (name_eq callee main_name)) front).0).0

    formed_args : list_all (λ a. is_value_type a.0) args ≡ true
    formed_args = (and_parts (result_formed ret && is_global_name callee && not (name_eq callee main_name)) (list_all (λ a. is_value_type a.0) args) (subst (λ o. shape_formed o ≡ true) calls shape)).1

    by_func : (q : Option ℕ) → func_index m.funcs callee ≡ q → (e : External) → (if is_some q then None else lookup externals callee) ≡ Some e
        → (map (λ a. a.0) args ≡ called_params e (map (λ a. a.0) args)) × (ret ≡ (external_signature e).ret) × (length args < 2 ^ 32)
    by_func (Some k) found e w = grind arith
    by_func None found e w =
        let c = external_call m valid n b p f i at due ret callee args calls e found w in (
          argument_types c.fits 0 c.declared_params (called_params e (map (λ a. a.0) args)) args c.arguments c.params (external_values e args formed_args),
          answer_type ret c.declared_ret (external_signature e).ret c.first c.second (external_answers e),
          (subst (λ o. FitsCallee o i.result args) (ap (λ q. if is_some q then None else lookup externals callee) found ∙ w)
              (subst (λ o. IsBuilt (func_index m.funcs) i.result o) calls (inst_known m formed valid can n b p f i at there due unmarked (ap is_phi calls)).built).0).2,
        )
