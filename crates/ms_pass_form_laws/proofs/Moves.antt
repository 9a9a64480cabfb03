-- What moves bits may be called in the instrumented form of a module that calls it.
use Rattle.std.proofs.Common.{◌≡◌, ℕ, List, [], ◌∷◌, true, false, Option, Some, None, refl, sym, ap, subst, ◌∙◌, true≢false}
use Rattle.std.specs.Prelude.{◌&&◌, slice_get, unwrap_or, option_map, is_some, if◌then◌else◌}
use Rattle.std.specs.List.{list_all}
use Rattle.std.proofs.Math.Path.{ap₂}
use Rattle.std.proofs.lemmas.Bool.{and_parts}
use Rattle.ms_bits.specs.declared.word_functions.WordFn.{WordFn}
use Rattle.ms_bits.specs.declared.word_functions.WordWidth.{WordWidth}
use Rattle.ms_bits.specs.declared.word_functions.BitMove.{BitMove}
use Rattle.ms_bits.specs.WordFunctions.{bits_of}
use Rattle.ms_ir.specs.declared.syntax.Name.{Name}
use Rattle.ms_ir.specs.declared.syntax.Ty.{Ty, Int}
use Rattle.ms_ir.specs.declared.syntax.Operand.{Operand}
use Rattle.ms_ir.specs.declared.syntax.Op.{Op}
use Rattle.ms_ir.specs.declared.syntax.Op.TheVariants as op
use Rattle.ms_ir.specs.declared.syntax.Inst.{Inst}
use Rattle.ms_ir.specs.declared.syntax.Func.{Func}
use Rattle.ms_ir.specs.declared.syntax.Module.{Module}
use Rattle.ms_ir.specs.declared.calls.External.{External}
use Rattle.ms_ir.specs.declared.calls.External.TheVariants.{Word}
use Rattle.ms_ir.specs.declared.calls.RuntimeFn.TheVariants as function
use Rattle.ms_ir.specs.Names.{lookup, externals, external_name, move_external, runtime_name}
use Rattle.ms_ir.specs.Instructions.{func_index, func_at, insts_at, site_at, external_named}
use Rattle.ms_ir.specs.Equal.{has_name, type_eq, types_eq, result_type_eq}
use Rattle.ms_ir.specs.Locals.{locals, symbols}
use Rattle.ms_ir.specs.Written.{OfGlobal, mentions, operands_mentions}
use Rattle.ms_ir.specs.Signatures.{Signature, signature_eq, signature_of, external_signature, word_params}
use Rattle.ms_check_valid.specs.FormedCode.{is_value_type}
use Rattle.ms_check_valid.specs.ExternalsFit.{called_names}
use Rattle.ms_check_valid.specs.NamesKnown.{unknown_of}
use Rattle.ms_check_valid.specs.Paths.{insts_of}
use Rattle.ms_check_valid.specs.Valid.{Valid}
use Rattle.ms_check_valid.proofs.AtInstructions.{fits_at}
use Rattle.ms_runs_good_laws.proofs.CallTypes.{external_named_so, external_declared}
use Rattle.ms_pass_tasks.specs.ResultTasks.{external_move}
use Rattle.ms_pass_tasks.proofs.WordMasks.{move_is, no_move}
use Rattle.ms_pass_form_laws.proofs.Own.{unknown_split}
use Rattle.ms_pass_form_laws.proofs.Emitted.{MovesGood}
use Rattle.ms_pass_form_laws.proofs.Within.{given_by}
use Rattle.ms_pass_form_laws.proofs.WordTypes.{width_value, word_values}
use Rattle.ms_pass_form_laws.proofs.Inserted.{MoveStands, ConstGood}
use Rattle.ms_pass_form_laws.proofs.FuncClauses.{ModuleReady}
use Rattle.ms_pass_form_laws.proofs.Ready.{type_is}

-- ---- types that are compared are the same

ret_is : (o : Option Ty) (t : Ty) → is_value_type t ≡ true → result_type_eq o (Some t) ≡ true → o ≡ Some t
ret_is None t v e = absurd (true≢false (sym e))
ret_is (Some u) t v e = ap Some (type_is u t v e)

params_are : (ps qs : List Ty) → list_all is_value_type qs ≡ true → types_eq ps qs ≡ true → ps ≡ qs
params_are [] [] v e = refl
params_are [] (q ∷ qs) v e = absurd (true≢false (sym e))
params_are (p ∷ ps) [] v e = absurd (true≢false (sym e))
params_are (p ∷ ps) (q ∷ qs) v e =
    let values = and_parts (is_value_type q) (list_all is_value_type qs) v in
    let same = and_parts (type_eq p q) (types_eq ps qs) e in
    ap₂ (λ t ts. t ∷ ts) (type_is p q values.0 same.0) (params_are ps qs values.1 same.1)

signature_is : (s : Signature) (f : WordFn) (n : WordWidth) → signature_eq s (external_signature (Word f n)) ≡ true → s ≡ external_signature (Word f n)
signature_is s f n e =
    let parts = and_parts (result_type_eq s.ret (Some (Int (bits_of n)))) (types_eq s.params (word_params f (bits_of n))) e in
    ap₂ (λ r ps. record { ret = r; params = ps }) (ret_is s.ret (Int (bits_of n)) (width_value n) parts.0) (params_are s.params (word_params f (bits_of n)) (word_values f n) parts.1)

-- ---- calls

module _ (m j : Module) (v : Valid m) (a : ModuleReady m j) (n b p : ℕ) (f : Func) (i : Inst) (at : func_at m n ≡ Some f) (due : slice_get (insts_of f b) p ≡ Some i) where
  there : slice_get (insts_at m n b) p ≡ Some i
  there = ap (λ o. slice_get (unwrap_or (option_map (λ k. k.insts) (slice_get (unwrap_or (option_map (λ x. x.blocks) o) []) b)) []) p) at ∙ due

  -- the callee is a name of the module
  callee_known : (r : Option Ty) (x : Name) (as' : List (Ty × Operand)) → i.op ≡ op.Call r x as' → has_name (symbols m) x ≡ true
  callee_known r x as' same =
      let s = site_at m n b p in
      (unknown_split m (locals f) s (OfGlobal x) (operands_mentions as') (subst (λ z. unknown_of m (locals f) s (mentions z) ≡ []) same (fits_at m v n b p f i at there).names_known)).0

  word_stands : (r : Option Ty) (x : Name) (as' : List (Ty × Operand)) → i.op ≡ op.Call r x as' → (k : BitMove) (g : WordFn) (w : WordWidth) → func_index m.funcs x ≡ None → lookup externals x ≡ Some (Word g w)
      → Word g w ≡ move_external k → MoveStands m j k
  word_stands r x as' same k g w none found is =
      let d = external_declared m v n b p f i at due r x as' same (Word g w) none found in
      let named : x ≡ runtime_name (function.Move k) = external_named_so x (Word g w) found ∙ ap external_name is in
      let known = callee_known r x as' same in
      record {
        declared = ap (signature_of j) (sym named) ∙ (a.own_call x known).0 ∙ d.1 ∙ ap Some (signature_is d.0 g w d.2 ∙ ap external_signature is);
        symbol = ap (has_name (symbols j)) (sym named) ∙ a.symbol x known;
        called = ap (has_name (called_names m)) (sym named) ∙ d.3;
      }

  call_stands : (r : Option Ty) (x : Name) (as' : List (Ty × Operand)) → i.op ≡ op.Call r x as' → (k : BitMove) → external_move (external_named (func_index m.funcs) x) ≡ Some k → MoveStands m j k
  call_stands r x as' same k moves = by_own (func_index m.funcs x) refl moves
    where
      by_external : func_index m.funcs x ≡ None → (e : Option External) → lookup externals x ≡ e → external_move e ≡ Some k → MoveStands m j k
      by_external none (Some (Word g w)) found e = let is = move_is g w k e in word_stands r x as' same k g w none found (sym (ap₂ Word is.0 is.1))
      by_external none None found e = absurd (no_move k e)
      by_external none (Some q) found e = absurd (no_move k e)

      by_own : (o : Option ℕ) → func_index m.funcs x ≡ o → external_move (if is_some o then None else lookup externals x) ≡ Some k → MoveStands m j k
      by_own (Some q) own e = absurd (no_move k e)
      by_own None none e = by_external none (lookup externals x) refl e

  pub moves_good : MovesGood (given_by m) (ConstGood m j) i.op
  moves_good = by_op i.op refl
    where
      by_op : (o : Op) → i.op ≡ o → MovesGood (given_by m) (ConstGood m j) o
      by_op (op.Call r x as') same = λ k e. call_stands r x as' same k e
      by_op o same = tt
