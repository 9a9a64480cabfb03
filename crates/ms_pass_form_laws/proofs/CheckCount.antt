-- In the instrumented form of a module stand as many checks of words as are asked for.
use Rattle.std.proofs.Common.{◌≡◌, ℕ, zero, suc, List, [], ◌∷◌, ◌++◌, length, Bool, true, false, Option, Some, refl, sym, ap, ◌∙◌, arith, true≢false}
use Rattle.std.specs.Prelude.{not, ◌&&◌, map, flat_map, if◌then◌else◌, option_map, slice_get, unwrap_or}
use Rattle.std.specs.List.{list_all}
use Rattle.std.proofs.lemmas.Bool.{and_parts}
use Rattle.std.proofs.lemmas.Grind.{flat_map-append}
use Rattle.ms_ir.specs.declared.syntax.Name.{Name}
use Rattle.ms_ir.specs.declared.syntax.Ty.{Ty}
use Rattle.ms_ir.specs.declared.syntax.Operand.{Operand}
use Rattle.ms_ir.specs.declared.syntax.Op.{Op}
use Rattle.ms_ir.specs.declared.syntax.Op.TheVariants as op
use Rattle.ms_ir.specs.declared.syntax.Inst.{Inst}
use Rattle.ms_ir.specs.declared.syntax.Func.{Func}
use Rattle.ms_ir.specs.declared.syntax.Module.{Module}
use Rattle.ms_ir.specs.declared.calls.RuntimeFn.TheVariants.{Check}
use Rattle.ms_ir.specs.Names.{name_eq, is_reserved, runtime_name}
use Rattle.ms_ir.specs.Instructions.{operands, func_index, func_at, insts_at}
use Rattle.ms_ir.specs.Locals.{locals, func_insts, type_names, symbols}
use Rattle.ms_ir.specs.Written.{mentions, type_mentions, operands_mentions}
use Rattle.ms_ir.proofs.RootKinds.{name_same}
use Rattle.ms_runs_good_laws.proofs.Frames.{same_insts, unmarked_at}
use Rattle.ms_runs_good_laws.proofs.NextFrames.{block_there}
use Rattle.ms_runs_good_laws.proofs.CallTypes.{not_true}
use Rattle.ms_check_valid.specs.Formed.{Formed}
use Rattle.ms_check_valid.specs.NamesKnown.{global_mentions}
use Rattle.ms_check_valid.specs.Paths.{insts_of}
use Rattle.ms_check_valid.specs.ReadLimits.{mentioned, func_names}
use Rattle.ms_check_valid.specs.Uninstrumented.{CanInstrument}
use Rattle.ms_check_valid.specs.Valid.{Valid}
use Rattle.ms_pass_laws.specs.Pass.{pass}
use Rattle.ms_pass_laws.specs.Numbers.{value_index, values_at}
use Rattle.ms_pass_laws.proofs.KnownInstructions.{shape, shape_types, reads}
use Rattle.ms_pass_laws.proofs.NumberedValues.{all_append, all_flat}
use Rattle.ms_pass_form_laws.specs.Eliding.{eliding}
use Rattle.ms_pass_form_laws.specs.Checks.{is_check, one_check, check_calls, unclean_checks}
use Rattle.ms_pass_form_laws.proofs.SameNumbers.{same_operands}
use Rattle.ms_pass_form_laws.proofs.FuncChecks.{FuncPlain, funcs_counted}

-- ---- a module without reserved names calls no check

-- what holds of the names that a function's instructions mention holds of those that one of them mentions
all_mapped : {A B : Type 0} (P : B → Bool) (g : A → B) (xs : List A) → list_all P (map g xs) ≡ true → list_all (λ x. P (g x)) xs ≡ true
all_mapped P g [] e = refl
all_mapped P g (x ∷ xs) e =
    let h = and_parts (P (g x)) (list_all P (map g xs)) e in ap (λ b. b && list_all (λ x. P (g x)) xs) h.0 ∙ all_mapped P g xs h.1

all_nested : {A B C : Type 0} (P : C → Bool) (g : B → List C) (h : A → List B) (xs : List A) (k : ℕ) (y : A) → list_all P (flat_map g (flat_map h xs)) ≡ true → slice_get xs k ≡ Some y
    → list_all P (flat_map g (h y)) ≡ true
all_nested P g h [] k y e at = absurd (grind arith)
all_nested P g h (x ∷ xs) zero y e at =
    ap (λ o. list_all P (flat_map g (h (unwrap_or o x)))) (sym at) ∙ (all_append P (flat_map g (h x)) (flat_map g (flat_map h xs)) (sym (ap (list_all P) (flat_map-append g (h x) (flat_map h xs))) ∙ e)).0
all_nested P g h (x ∷ xs) (suc k) y e at =
    all_nested P g h xs k y (all_append P (flat_map g (h x)) (flat_map g (flat_map h xs)) (sym (ap (list_all P) (flat_map-append g (h x) (flat_map h xs))) ∙ e)).1 at

no_check : (o : Op) → ((ret : Option Ty) (callee : Name) (args : List (Ty × Operand)) → o ≡ op.Call ret callee args → is_reserved callee ≡ false) → is_check o ≡ false
no_check (op.Call ret callee args) free = by_name (name_eq callee (runtime_name Check)) refl
  where
    by_name : (b : Bool) → name_eq callee (runtime_name Check) ≡ b → b ≡ false
    by_name true e = absurd (true≢false (sym (ap is_reserved (name_same callee (runtime_name Check) e)) ∙ free ret callee args refl))
    by_name false e = refl
no_check _ free = refl

module _ (m : Module) (can : CanInstrument m) (n : ℕ) (f : Func) (at : func_at m n ≡ Some f) (b p : ℕ) (i : Inst) (due : slice_get (insts_of f b) p ≡ Some i) where
  mentions_free : list_all (λ k. not (is_reserved (mentioned k))) (mentions i.op) ≡ true
  mentions_free =
      let P : Name → Bool = λ x. not (is_reserved x) in
      let outer = map mentioned (flat_map (λ t. type_mentions t.1) m.types ++ flat_map global_mentions m.globals) in
      let used = flat_map (λ inst. mentions inst.op) (func_insts f) in
      let a = all_append P (type_names m ++ symbols m) (outer ++ flat_map func_names m.funcs) can.plain.free in
      let c = all_append P outer (flat_map func_names m.funcs) a.1 in
      let d = all_append P (locals f) (map mentioned used) (all_flat P func_names m.funcs n f c.1 at) in
      let k = block_there f b p i due in
      all_flat (λ k. P (mentioned k)) (λ inst. mentions inst.op) k.0.insts p i
      (all_nested (λ k. P (mentioned k)) (λ inst. mentions inst.op) (λ g. g.insts) f.blocks b k.0 (all_mapped P mentioned used d.1) k.1) k.2

  callee_free : (ret : Option Ty) (callee : Name) (args : List (Ty × Operand)) → i.op ≡ op.Call ret callee args → is_reserved callee ≡ false
  callee_free ret callee args e =
      not_true (is_reserved callee)
      (and_parts (not (is_reserved callee)) (list_all (λ k. not (is_reserved (mentioned k))) (operands_mentions args))
      (ap (λ o. list_all (λ k. not (is_reserved (mentioned k))) (mentions o)) (sym e) ∙ mentions_free)).0

  pub own_none : one_check i ≡ 0
  own_none = ap (λ b. if b then 1 else 0) (no_check i.op callee_free)

-- ---- the count

plain_func : (m : Module) → Formed m → Valid m → CanInstrument m → (clean : ℕ → Name → Bool) (n : ℕ) (f : Func) → func_at m n ≡ Some f → FuncPlain (eliding clean m n) f
plain_func m formed valid can clean n f at b p i due =
    let there : slice_get (insts_at m n b) p ≡ Some i = ap (λ l. slice_get l p) (same_insts m n f b at) ∙ due in
    let unmarked = unmarked_at m can.plain.unmarked n b p i there in
    record {
      unmarked = unmarked;
      own = own_none m can n f at b p i due;
      reads = same_operands (value_index (values_at m n)) (λ x. false) (clean n) (length (values_at m n)) (operands i.op) (reads m formed valid can n b p f i at there due unmarked);
      words = shape_types i.op (shape m formed valid can n b p f i at there due unmarked);
    }

pub checks_counted : (m : Module) (clean : ℕ → Name → Bool) → Formed m → Valid m → CanInstrument m → (n : ℕ) (f : Func) → func_at m n ≡ Some f
    → option_map check_calls (func_at (pass (eliding clean m) m) n) ≡ Some (unclean_checks (clean n) m f)
checks_counted m clean formed valid can n f at =
    funcs_counted (record { types = m.types; func = func_index m.funcs }) (eliding clean m) m.funcs 1 0 n f at (plain_func m formed valid can clean n f at)
