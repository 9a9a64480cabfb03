-- The numbers among a function's names are as before.
use Rattle.std.proofs.Common.{◌≤◌, arith, ◌≡◌, ℕ, ◌+◌, ◌*◌, List, [], ◌∷◌, ◌++◌, Bool, true, false, Option, Some, None, refl, sym, ap, subst, ◌∙◌, inl, inr, ⊎_elim}
use Rattle.std.specs.Prelude.{flat_map, filter_map}
use Rattle.std.specs.List.{cons_option}
use Rattle.std.proofs.Math.Path.{ap₂}
use Rattle.ms_ir.specs.declared.syntax.Name.{Name}
use Rattle.ms_ir.specs.declared.syntax.Op.{Op}
use Rattle.ms_ir.specs.declared.syntax.Op.TheVariants as op
use Rattle.ms_ir.specs.declared.syntax.Inst.{Inst}
use Rattle.ms_ir.specs.declared.syntax.Block.{Block}
use Rattle.ms_ir.specs.declared.syntax.Func.{Func}
use Rattle.ms_runs.specs.World.{Here}
use Rattle.ms_ir.specs.Instructions.{operands}
use Rattle.ms_ir.specs.Locals.{results, block_locals, parameter_names, locals}
use Rattle.ms_check_valid.specs.FormedNames.{name_number, count_up, are_numbered}
use Rattle.ms_pass_tasks.specs.Tasks.{tasks_code}
use Rattle.ms_pass_tasks.specs.Environments.{Env, Given, tracked}
use Rattle.ms_pass_tasks.specs.Emit.{before_tasks, after_tasks, start}
use Rattle.ms_pass_tasks.specs.Known.{OneName, FewNumbers}
use Rattle.ms_pass_tasks.specs.PassLists.{phi_code, next_here, pass_insts, emit_op}
use Rattle.ms_pass_laws.specs.Pass.{here_after, pass_blocks, enter_block}
use Rattle.ms_pass_form_laws.proofs.Paths.{In, results_append}
use Rattle.ms_pass_form_laws.proofs.PassPaths.{taken, passed}
use Rattle.ms_pass_form_laws.proofs.Once.{set_by}
use Rattle.ms_pass_form_laws.proofs.OncePass.{round_more, insts_more, MarkOf, MarksOnly, before_sets, plane_sets, own_plane_sets, phi_sets, taken_marks}
use Rattle.ms_pass_form_laws.proofs.Emitted.{is_own_call}
use Rattle.ms_pass_form_laws.proofs.FormedRest.{Texts, no_numbers, tasks_texts}
use Rattle.std.proofs.lemmas.List.Elements.{filter_map-append}

texts_from : (names : List Name) → ((y : Name) → In names y → name_number y ≡ None) → Texts names
texts_from [] h = tt
texts_from (x ∷ xs) h = (h x (inl refl), texts_from xs (λ y i. h y (inr i)))

past_texts : (a l : List Name) → Texts a → filter_map name_number (a ++ l) ≡ filter_map name_number l
past_texts a l t = filter_map-append name_number a l ∙ ap (λ k. k ++ filter_map name_number l) (no_numbers a t)

module _ (given : Given) (env : Env) (size : ℕ) (one : OneName env) (few : FewNumbers env size) where
  further : (x y : ℕ) → 2 * size + 1 ≤ x → x ≤ y → 2 * size + 1 ≤ y
  further x y r l = omega (arith, l, r)

  mark_text : (x y : Name) → MarkOf given env size one few x y → name_number y ≡ None
  mark_text x y m = ⊎_elim (λ e. ap name_number e) (λ e. ap name_number e) m.2

  marks_texts : (r : Option Name) (names : List Name) → MarksOnly given env size one few r names → Texts names
  marks_texts r names m = texts_from names (λ y i. let k = m.1 y i in mark_text k.0 y k.2)

  round_texts : (h : Here) (i : Inst) (n : ℕ) (o : Op) → 2 * size + 1 ≤ n → Texts (results (emit_op given env h i n o).before) × Texts (results (emit_op given env h i n o).after)
  round_texts h i n (op.Phi t es) room = (tt, marks_texts i.result (results (phi_code env h.root i.result t es)) (phi_sets given env size one few h.root i.result t es))
  round_texts h i n _ room =
      let bs = before_tasks given env h i n in let as' = after_tasks given env h i n in
      let names = before_sets given env size one few h i n room in (
        tasks_texts bs (start given i n) (texts_from (set_by bs) (λ y t. ⊎_elim (λ m. mark_text m.0 y m.2) (λ m. ap name_number m.0) (names.1 y t))),
        tasks_texts as' (tasks_code bs (start given i n)).next (by_own (is_own_call given.func i.op) refl),
      )
    where
      by_own : (w : Bool) → is_own_call given.func i.op ≡ w → Texts (set_by (after_tasks given env h i n))
      by_own true w = marks_texts i.result (set_by (after_tasks given env h i n)) (own_plane_sets given env size one few h n i.result i.op (tracked env h.root (operands i.op)) w)
      by_own false w = subst Texts (sym (plane_sets given env size one few h n i.result i.op (tracked env h.root (operands i.op)) w)) tt

  one_round : (a b rest own : List Name) (r : Option Name) → Texts a → Texts b → filter_map name_number rest ≡ filter_map name_number own
      → filter_map name_number (a ++ cons_option r (b ++ rest)) ≡ filter_map name_number (cons_option r own)
  one_round a b rest own None ta tb e = past_texts a (b ++ rest) ta ∙ past_texts b rest tb ∙ e
  one_round a b rest own (Some x) ta tb e = past_texts a (x ∷ (b ++ rest)) ta ∙ ap (λ l. cons_option (name_number x) l) (past_texts b rest tb ∙ e)

  code_numbers : (is : List Inst) (h : Here) (n : ℕ) → 2 * size + 1 ≤ n → filter_map name_number (results (pass_insts given env is h n).code) ≡ filter_map name_number (results is)
  code_numbers [] h n room = refl
  code_numbers (i ∷ is) h n room =
      let x = emit_op given env h i n i.op in
      let y = pass_insts given env is (next_here given h i) x.next in
      let t = round_texts h i n i.op room in
      ap (filter_map name_number) (results_append x.before (i ∷ (x.after ++ y.code)) ∙ ap (λ l. results x.before ++ cons_option i.result l) (results_append x.after y.code))
      ∙ one_round (results x.before) (results x.after) (results y.code) (results is) i.result t.0 t.1 (code_numbers is (next_here given h i) x.next (further n x.next room (round_more given env size one few h i n i.op)))

  blocks_numbers : (bs : List Block) (h : Here) (n : ℕ) → 2 * size + 1 ≤ n → filter_map name_number (flat_map block_locals (pass_blocks given env bs h n)) ≡ filter_map name_number (flat_map block_locals bs)
  blocks_numbers [] h n room = refl
  blocks_numbers (b ∷ bs) h n room =
      let y = pass_insts given env b.insts h n in
      let later = flat_map block_locals (pass_blocks given env bs (here_after given h b.insts) y.next) in
      filter_map-append name_number (b.name ∷ results y.code) later
      ∙ ap₂ (λ k l. cons_option (name_number b.name) k ++ l) (code_numbers b.insts h n room) (blocks_numbers bs (here_after given h b.insts) y.next (further n y.next room (insts_more given env size one few b.insts h n)))
      ∙ sym (filter_map-append name_number (b.name ∷ results b.insts) (flat_map block_locals bs))

  -- what stands at the entry has no numbers
  enter_numbers : (code : List Inst) (bs : List Block) → Texts (results code) → filter_map name_number (flat_map block_locals (enter_block code bs)) ≡ filter_map name_number (flat_map block_locals bs)
  enter_numbers code [] t = refl
  enter_numbers code (b ∷ bs) t =
      let later = flat_map block_locals bs in
      filter_map-append name_number (b.name ∷ results (code ++ b.insts)) later
      ∙ ap (λ l. cons_option (name_number b.name) l ++ filter_map name_number later) (ap (filter_map name_number) (results_append code b.insts) ∙ past_texts (results code) (results b.insts) t)
      ∙ sym (filter_map-append name_number (b.name ∷ results b.insts) later)

  entry_texts : (f : Func) (n : ℕ) → Texts (results (taken given env f n))
  entry_texts f n = texts_from (results (taken given env f n)) (λ y i. let k = taken_marks given env size one few 0 f.params n y i in mark_text k.0 y k.2)

  -- the numbers among the names of a function are those of its instrumented form
  pub numbered_kept : (f : Func) (h : Here) (n : ℕ) → 2 * size + 1 ≤ n → are_numbered (locals f) ≡ true → are_numbered (locals (passed given env f h n)) ≡ true
  numbered_kept f h n room e =
      ap (count_up 0)
      (filter_map-append name_number (parameter_names f) (flat_map block_locals (passed given env f h n).blocks)
      ∙ ap (λ l. filter_map name_number (parameter_names f) ++ l)
      (enter_numbers (taken given env f n) (pass_blocks given env f.blocks h n) (entry_texts f n) ∙ blocks_numbers f.blocks h n room)
      ∙ sym (filter_map-append name_number (parameter_names f) (flat_map block_locals f.blocks)))
      ∙ e
