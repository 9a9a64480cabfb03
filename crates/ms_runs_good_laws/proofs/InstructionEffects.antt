-- Every instruction of a formed and valid module has an effect that it may have, and leaves a good world.
use Rattle.std.proofs.Common.{◌≡◌, ◌<◌, ◌^◌, ℕ, zero, suc, List, [], ◌∷◌, map, get_or, Bool, true, false, ◌&&◌, ◌||◌, eqb, Option, Some, None, option_map, unwrap_or, is_some, slice_get, refl, sym, ap, subst, ◌∙◌, arith, if◌then◌else◌, true≢false, ⊎_elim}
use Rattle.std.specs.List.{list_all}
use Rattle.std.proofs.lemmas.Bool.{and_parts, or_left, or_right, or_cases}
use Rattle.ms_ir.specs.declared.syntax.Name.{Name}
use Rattle.ms_ir.specs.declared.syntax.Ty.{Ty}
use Rattle.ms_ir.specs.declared.syntax.Operand.{Operand}
use Rattle.ms_ir.specs.declared.syntax.Op.{Op}
use Rattle.ms_ir.specs.declared.syntax.Op.TheVariants as op
use Rattle.ms_ir.specs.declared.syntax.Inst.{Inst}
use Rattle.ms_ir.specs.declared.syntax.Func.{Func}
use Rattle.ms_ir.specs.declared.syntax.Module.{Module}
use Rattle.ms_runs.specs.declared.runs.Setup.{Setup}
use Rattle.ms_ir.specs.declared.calls.External.{External}
use Rattle.ms_runs.specs.declared.runs.End.TheVariants as «end»
use Rattle.ms_ir.specs.Names.{name_eq, lookup, externals}
use Rattle.ms_ir.specs.Layout.{width_of}
use Rattle.ms_runs.specs.World.{World, Here, Effect, Gives, Does, Goes, Enters, Leaves, Ends, stuck, word}
use Rattle.ms_ir.specs.Instructions.{operands, func_index, func_at, insts_at, external_named}
use Rattle.ms_runs.specs.Act.{case_of, call, act}
use Rattle.ms_runs.specs.Externals.{external}
use Rattle.ms_runs.specs.Plain.{setting_of}
use Rattle.ms_ir.specs.Equal.{has_name, type_eq}
use Rattle.ms_ir.specs.Written.{targets, labels, result_type}
use Rattle.ms_ir.specs.Locals.{value_type}
use Rattle.ms_ir.specs.Signatures.{called_signature}
use Rattle.ms_check_valid.specs.TypesAgree.{operand_fits, op_fault, first_misfit, fault_unless, cast_allows, returns_fit}
use Rattle.ms_check_valid.specs.Paths.{insts_of}
use Rattle.ms_check_valid.specs.FormedCode.{is_value_type, are_among, cast_flags, shape_formed, operand_formed, op_formed, inst_formed, name_formed, is_terminator}
use Rattle.ms_check_valid.specs.FormedNames.{is_local_name}
use Rattle.ms_check_valid.specs.Formed.{Formed, block_formed, func_formed}
use Rattle.ms_runs_good_laws.specs.GoodStates.{IsBelow}
use Rattle.ms_runs_good_laws.specs.GoodEffects.{FitsCall, FitsEffect}
use Rattle.ms_check_valid.specs.Valid.{Valid}
use Rattle.ms_check_valid.proofs.NameTests.{name_same}
use Rattle.ms_check_valid.proofs.AtInstructions.{fits_at}
use Rattle.ms_check_valid.proofs.SmallNumbers.{blocks_of}
use Rattle.ms_runs_good_laws.proofs.Starts.{all_get, formed_insts}
use Rattle.ms_runs_good_laws.proofs.NextFrames.{block_there}
use Rattle.ms_runs_good_laws.specs.GoodWorlds.{GoodWorld, GoodAfter}
use Rattle.ms_runs_good_laws.specs.Straight.{Answers, HaveTypes}
use Rattle.ms_runs_good_laws.proofs.WorldChanges.{chosen, GoodSetting}
use Rattle.ms_runs_good_laws.proofs.ExternalEffects.{external_answers}
use Rattle.ms_runs_good_laws.proofs.CallTypes.{same_width, args_match, calls_answer, external_call, fitted_call, defined_call, both_none, holds_unless}
use Rattle.ms_runs_good_laws.proofs.OpEffects.{CastFits, IsOrdinary, act_answers}

-- an instruction as it may stand
pub formed_at : (m : Module) → Formed m → (n : ℕ) (f : Func) → func_at m n ≡ Some f → (b p : ℕ) (i : Inst) → slice_get (insts_of f b) p ≡ Some i
    → (op_formed i.op ≡ true) × (name_formed (result_type i.op) i.result ≡ true)
formed_at m formed n f at b p i due =
    let there = block_there f b p i due in
    let blocks = blocks_of f (all_get func_formed m.funcs n f formed.functions at) in
    let insts = formed_insts there.0 (all_get block_formed f.blocks b there.0 blocks.1 there.1) in
    and_parts (op_formed i.op) (name_formed (result_type i.op) i.result) (all_get inst_formed there.0.insts p i insts.1 there.2)

-- so are its types and flags
pub shape_of : (o : Op) → op_formed o ≡ true → shape_formed o ≡ true
shape_of o e =
    let front = and_parts (shape_formed o && list_all (λ a. operand_formed a.0 a.1) (operands o)) (list_all is_local_name (labels o)) e in
    (and_parts (shape_formed o) (list_all (λ a. operand_formed a.0 a.1) (operands o)) front.0).0

-- what answers nothing has no name
nameless : (r : Option Ty) (x : Option Name) → name_formed r x ≡ true → r ≡ None → x ≡ None
nameless None None e h = refl
nameless None (Some y) e h = absurd (true≢false (sym e))
nameless (Some t) x e h = grind arith

-- the block to which a `switch` goes is one of its targets
pub case_target : (cases : List (ℕ × Name)) (v : ℕ) (other : Name) → has_name (other ∷ map (λ c. c.1) cases) (case_of cases v other) ≡ true
case_target [] v other = or_left (name_eq other other) false (name_same other)
case_target (c ∷ cs) v other =
    chosen (λ x. (name_eq other x || (name_eq c.1 x || has_name (map (λ d. d.1) cs) x)) ≡ true) (eqb c.0 v) c.1 (case_of cs v other)
    (λ e. or_right (name_eq other c.1) (name_eq c.1 c.1 || has_name (map (λ d. d.1) cs) c.1) (or_left (name_eq c.1 c.1) (has_name (map (λ d. d.1) cs) c.1) (name_same c.1)))
    (λ e. later (case_of cs v other) (case_target cs v other))
  where
    later : (x : Name) → (name_eq other x || has_name (map (λ d. d.1) cs) x) ≡ true → (name_eq other x || (name_eq c.1 x || has_name (map (λ d. d.1) cs) x)) ≡ true
    later x h = ⊎_elim (λ l. or_left (name_eq other x) (name_eq c.1 x || has_name (map (λ d. d.1) cs) x) l)
        (λ l. or_right (name_eq other x) (name_eq c.1 x || has_name (map (λ d. d.1) cs) x) (or_right (name_eq c.1 x) (has_name (map (λ d. d.1) cs) x) l))
        (or_cases (name_eq other x) (has_name (map (λ d. d.1) cs) x) h)

-- what an answer leaves is good
pub answers_after : (good : World → Type 0) (r : Option Ty) (e : Effect) → Answers good r e → GoodAfter good e
answers_after good r (Gives v w) h = h.1
answers_after good r (Does w) h = h.1
answers_after good r (Goes to w) h = absurd h
answers_after good r (Enters n w) h = absurd h
answers_after good r (Leaves w) h = absurd h
answers_after good r (Ends e w) h = h

module _ {V : Type 0} (holds : V → ℕ → Type 0) (unset : V) (m : Module) (formed : Formed m) (valid : Valid m) (P : ℕ → Type 0)
    (n b p : ℕ) (f : Func) (inst : Inst) (at : func_at m n ≡ Some f) (due : slice_get (insts_of f b) p ≡ Some inst)
    (words : List V) (lift : ℕ → World → V)
    (lifted : (v : ℕ) (w : World) (t : Ty) → result_type inst.op ≡ Some t → v < 2 ^ width_of t → holds (lift v w) (2 ^ width_of t)) where
  -- what an instruction answers in the range of its type fits
  pub answers_fit : (e : Effect) → is_terminator inst.op ≡ false → Answers (GoodWorld P) (result_type inst.op) e → FitsEffect holds unset m f inst words lift e
  answers_fit (Gives v w) ends h = (ends, λ x t named gives. lifted v w t gives (h.0 t gives))
  answers_fit (Does w) ends h = (ends, nameless (result_type inst.op) inst.result (formed_at m formed n f at b p inst due).1 h.0)
  answers_fit (Goes to w) ends h = absurd h
  answers_fit (Enters k w) ends h = absurd h
  answers_fit (Leaves w) ends h = absurd h
  answers_fit (Ends x w) ends h = tt

  -- it fits, and leaves a good world
  abbrev Fits : Effect → Type 0
  Fits e = FitsEffect holds unset m f inst words lift e × GoodAfter (GoodWorld P) e

  fitted : Ty × Operand → Bool
  fitted = λ o. operand_fits m (value_type f) o.0 o.1

  no_fault : (o : Op) → inst.op ≡ o → op_fault m f fitted o ≡ None
  unfolding fitted
  no_fault o same =
      let there : slice_get (insts_at m n b) p ≡ Some inst = ap (λ o. slice_get (unwrap_or (option_map (λ k. k.insts) (slice_get (unwrap_or (option_map (λ g. g.blocks) o) []) b)) []) p) at ∙ due in
      ap (op_fault m f (λ o. operand_fits m (value_type f) o.0 o.1)) (sym same) ∙ (fits_at m valid n b p f inst at there).types_agree

  shaped : (o : Op) → inst.op ≡ o → shape_formed o ≡ true
  shaped o same = shape_of o (ap op_formed (sym same) ∙ (formed_at m formed n f at b p inst due).0)

  ordinary : (o : Op) → inst.op ≡ o → is_terminator o ≡ false → (e : Effect) → Answers (GoodWorld P) (result_type o) e → Fits e
  ordinary o same ends e h =
      let answers = subst (λ q. Answers (GoodWorld P) (result_type q) e) (sym same) h in
      (answers_fit e (ap is_terminator same ∙ ends) answers, answers_after (GoodWorld P) (result_type inst.op) e answers)

  pub cast_fits : (o : Op) → inst.op ≡ o → CastFits o
  cast_fits (op.Cast c flags from a to) same =
      let types = and_parts (is_value_type from && is_value_type to) (are_among flags (cast_flags c)) (shaped (op.Cast c flags from a to) same) in
      let both = and_parts (is_value_type from) (is_value_type to) types.0 in
      (holds_unless (cast_allows c from to) (both_none (first_misfit fitted 0 ((from, a) ∷ [])) (fault_unless (cast_allows c from to)) (no_fault (op.Cast c flags from a to) same)).1, both.0, both.1)
  cast_fits o same = tt

  module _ (have : HaveTypes holds unset words (map (λ a. a.0) (operands inst.op))) where
    words_of : (o : Op) → inst.op ≡ o → HaveTypes holds unset words (map (λ a. a.0) (operands o))
    words_of o same = subst (λ q. HaveTypes holds unset words (map (λ a. a.0) (operands q))) same have

    leaves : (v : Option (Ty × Operand)) → inst.op ≡ op.Ret v → (t : Ty) → f.ret ≡ Some t → holds (get_or words 0 unset) (2 ^ width_of t)
    leaves None same t e =
        absurd (true≢false (sym (ap (λ r. returns_fit fitted r None) (sym e) ∙ holds_unless (returns_fit fitted f.ret None) (no_fault (op.Ret None) same))))
    leaves (Some v) same t e =
        let fits : (type_eq v.0 t && fitted v) ≡ true = ap (λ r. returns_fit fitted r (Some v)) (sym e) ∙ holds_unless (returns_fit fitted f.ret (Some v)) (no_fault (op.Ret (Some v)) same) in
        subst (λ k. holds (get_or words 0 unset) (2 ^ k)) (same_width v.0 t (and_parts (type_eq v.0 t) (fitted v) fits).0) (words_of (op.Ret (Some v)) same 0 v.0 refl)

    enters : (ret : Option Ty) (callee : Name) (args : List (Ty × Operand)) → inst.op ≡ op.Call ret callee args → (k : ℕ) → func_index m.funcs callee ≡ Some k → FitsCall holds unset m inst words k
    enters ret callee args same k found = record {
      callee = callee;
      ret = ret;
      args = args;
      calls = same;
      found = found;
      in_range = λ g j t x there param.
          let match = args_match (fitted_call m valid n b p f inst at due ret callee args same) 0 (map (λ q. q.0) g.params) args j t
          (defined_call m valid n b p f inst at due ret callee args same g k found there) (first_of_pair g.params j t x param) in
          subst (λ z. holds (get_or words j unset) (2 ^ z)) match.2 (words_of (op.Call ret callee args) same j match.0 match.1);
    }
      where
        first_of_pair : (ps : List (Ty × Name)) (j : ℕ) (t : Ty) (x : Name) → slice_get ps j ≡ Some (t, x) → slice_get (map (λ q. q.0) ps) j ≡ Some t
        first_of_pair [] j t x e = grind arith
        first_of_pair (q ∷ ps) zero t x e = ap (λ o. Some (unwrap_or o q).0) e
        first_of_pair (q ∷ ps) (suc j) t x e = first_of_pair ps j t x e

    -- the numbers of the words, which decide the effect
    module _ (numbers : List ℕ) (numbered : HaveTypes IsBelow 0 numbers (map (λ a. a.0) (operands inst.op))) (setup : Setup) (given : GoodSetting P (setting_of m setup))
        (w : World) (g : GoodWorld P w) (here : Here) where
      numbers_of : (o : Op) → inst.op ≡ o → HaveTypes IsBelow 0 numbers (map (λ a. a.0) (operands o))
      numbers_of o same = subst (λ q. HaveTypes IsBelow 0 numbers (map (λ a. a.0) (operands q))) same numbered

      ordinary_act : (o : Op) → inst.op ≡ o → is_terminator o ≡ false → IsOrdinary o → Fits (act (setting_of m setup) here o numbers w)
      ordinary_act o same ends plain = ordinary o same ends (act (setting_of m setup) here o numbers w) (act_answers P (setting_of m setup) given w g here o numbers plain (cast_fits o same) (numbers_of o same))

      call_fits : (ret : Option Ty) (callee : Name) (args : List (Ty × Operand)) → inst.op ≡ op.Call ret callee args → Fits (call (setting_of m setup) here.site callee (map (λ a. a.0) args) numbers w)
      call_fits ret callee args same = by_index (func_index m.funcs callee) refl
        where
          by_external : (q : Option External) → lookup externals callee ≡ q → func_index m.funcs callee ≡ None
              → Fits (elim q [ Some e ↦ external (setting_of m setup) here.site e (map (λ a. a.0) args) numbers w | None ↦ Ends stuck w ])
          by_external (Some e) found none =
              let as_declared = external_call m valid n b p f inst at due ret callee args same e none found in
              let answers = external_answers P (setting_of m setup) given here.site w g e (map (λ a. a.0) args) numbers (as_declared.words numbers (numbers_of (op.Call ret callee args) same)) in
              ordinary (op.Call ret callee args) same refl (external (setting_of m setup) here.site e (map (λ a. a.0) args) numbers w)
              (calls_answer ret args (called_signature e (map (λ a. a.0) args)) as_declared (GoodWorld P) (external (setting_of m setup) here.site e (map (λ a. a.0) args) numbers w) answers)
          by_external None found none = (tt, g)

          by_index : (o : Option ℕ) → func_index m.funcs callee ≡ o → Fits (elim o [
            | Some k ↦ Enters k w
            | None ↦ elim (external_named (func_index m.funcs) callee) [ Some e ↦ external (setting_of m setup) here.site e (map (λ a. a.0) args) numbers w | None ↦ Ends stuck w ]
          ])
          by_index (Some k) found = (enters ret callee args same k found, g)
          by_index None found =
              subst (λ q. Fits (elim q [ Some e ↦ external (setting_of m setup) here.site e (map (λ a. a.0) args) numbers w | None ↦ Ends stuck w ]))
              (sym (ap (λ o. if is_some o then None else lookup externals callee) found)) (by_external (lookup externals callee) refl found)

      goes : (o : Op) → inst.op ≡ o → is_terminator o ≡ true → (to : Name) → has_name (targets o) to ≡ true → Fits (Goes to w)
      goes o same ends to h = ((ap is_terminator same ∙ ends, ap (λ q. has_name (targets q) to) same ∙ h), g)

      by_op : (o : Op) → inst.op ≡ o → Fits (act (setting_of m setup) here o numbers w)
      by_op (op.Binary o flags t a c) same = ordinary_act (op.Binary o flags t a c) same refl tt
      by_op (op.Icmp o flags t a c) same = ordinary_act (op.Icmp o flags t a c) same refl tt
      by_op (op.Cast o flags t a u) same = ordinary_act (op.Cast o flags t a u) same refl tt
      by_op (op.Select k t a c) same = ordinary_act (op.Select k t a c) same refl tt
      by_op (op.Freeze t a) same = ordinary_act (op.Freeze t a) same refl tt
      by_op (op.Phi t edges) same = ordinary_act (op.Phi t edges) same refl tt
      by_op (op.Alloca t u count) same = ordinary_act (op.Alloca t u count) same refl tt
      by_op (op.Load t addr) same = ordinary_act (op.Load t addr) same refl tt
      by_op (op.Store t v addr) same = ordinary_act (op.Store t v addr) same refl tt
      by_op (op.Gep t base indices) same = ordinary_act (op.Gep t base indices) same refl tt
      by_op (op.Call ret callee args) same = call_fits ret callee args same
      by_op (op.Br to) same = goes (op.Br to) same refl to (or_left (name_eq to to) false (name_same to))
      by_op (op.CondBr c to other) same =
          chosen (λ x. Fits (Goes x w)) (eqb (word 0 numbers) 0) other to
          (λ e. goes (op.CondBr c to other) same refl other (or_right (name_eq to other) (name_eq other other || false) (or_left (name_eq other other) false (name_same other))))
          (λ e. goes (op.CondBr c to other) same refl to (or_left (name_eq to to) (name_eq other to || false) (name_same to)))
      by_op (op.Switch t v other cases) same =
          goes (op.Switch t v other cases) same refl (case_of cases (word 0 numbers) other) (case_target cases (word 0 numbers) other)
      by_op (op.Ret v) same =
          chosen Fits here.main (Ends («end».Exit (word 0 numbers)) w) (Leaves w) (λ e. (tt, g)) (λ e. (leaves v same, g))
      by_op op.Unreachable same = (tt, g)

      -- the effect of an instruction that isn't marked, and of any one of a shadow run
      pub act_fits : FitsEffect holds unset m f inst words lift (act (setting_of m setup) here inst.op numbers w) × GoodAfter (GoodWorld P) (act (setting_of m setup) here inst.op numbers w)
      act_fits = by_op inst.op refl
