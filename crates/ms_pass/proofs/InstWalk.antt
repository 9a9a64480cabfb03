-- The instructions of a block at the one to which a loop has come.
use Rattle.std.proofs.Common.{◌≡◌, ℕ, ◌+◌, ◌<◌, ◌≤◌, ◌^◌, Bool, List, ◌∷◌, ◌++◌, Option, length, get_or, drop, sym, ap, ◌∙◌, append_assoc, append-nil, add_assoc, arith}
use Rattle.std.proofs.Math.Path.{ap₂}
use Rattle.std.proofs.lemmas.List.{drop_all}
use Rattle.ms_ir.specs.declared.syntax.Name.{Name}
use Rattle.ms_ir.specs.declared.syntax.Inst.{Inst}
use Rattle.ms_ir.specs.Instructions.{one_unmarked, roots_in, over_insts}
use Rattle.ms_ir.proofs.Sizes.{drop_next}
use Rattle.ms_runs.specs.World.{Here}
use Rattle.ms_pass_tasks.specs.Tasks.{InsertedCode}
use Rattle.ms_pass_tasks.specs.Environments.{Env, Given}
use Rattle.ms_pass_tasks.specs.PassLists.{emit_op, next_here, pass_insts}
use Rattle.ms_rules.specs.Placed.{with_inst}
use Rattle.ms_pass.specs.declared.counts.Counts.{Counts}
use Rattle.ms_pass.specs.Counted.{here_of, past_inst, past_insts, AreSmall}
use Rattle.ms_pass.specs.Passed.{with_insts}
use Rattle.ms_pass.proofs.Growth.{insts_grow}

-- ---- counts

module _ (func : Name → Option ℕ) where
  pub counts_next : (counts next whole : Counts) (insts : List Inst) (i : ℕ) (inst : Inst) → i < length insts → inst ≡ get_or insts i inst → next ≡ past_inst func counts inst
      → past_insts func counts (drop i insts) ≡ whole → past_insts func next (drop (i + 1) insts) ≡ whole
  counts_next counts next whole insts i inst below is later before =
      ap (λ n. past_insts func n (drop (i + 1) insts)) later
      ∙ ap₂ {C = Counts} (λ s r. record { site = s; roots = r })
      (add_assoc counts.site (one_unmarked inst) (over_insts one_unmarked (drop (i + 1) insts)))
      (add_assoc counts.roots (roots_in func inst) (over_insts (roots_in func) (drop (i + 1) insts)))
      ∙ ap (past_insts func counts) (sym (drop_next insts i inst below is)) ∙ before

  pub counts_end : (counts whole : Counts) (insts : List Inst) (i : ℕ) → length insts ≤ i → past_insts func counts (drop i insts) ≡ whole → counts ≡ whole
  counts_end counts whole insts i past before =
      ap₂ {C = Counts} (λ s r. record { site = s; roots = r }) (omega arith) (omega arith) ∙ ap (past_insts func counts) (sym (drop_all i insts past)) ∙ before

  pub small_next : (counts whole : Counts) (insts : List Inst) (i : ℕ) (inst : Inst) → i < length insts → inst ≡ get_or insts i inst
      → past_insts func counts (drop i insts) ≡ whole → AreSmall whole → AreSmall (past_inst func counts inst)
  small_next counts whole insts i inst below is before small =
      let parts = ap (past_insts func counts) (sym (drop_next insts i inst below is)) ∙ before in
      (below_sum counts.site (one_unmarked inst) _ _ (2 ^ 32) (ap (λ c. c.site) parts) small.0, below_sum counts.roots (roots_in func inst) _ _ (2 ^ 40) (ap (λ c. c.roots) parts) small.1)
    where
      below_sum : (a b c total limit : ℕ) → a + (b + c) ≡ total → total < limit → a + b < limit
      below_sum a b c total limit e l = omega (arith, e, l)

-- ---- code

module _ (given : Given) (env : Env) where
  -- one instruction, and then the others
  insts_step : (h : Here) (i : Inst) (is : List Inst) (c : InsertedCode) → with_insts given env (next_here given h i) is (with_inst given env h i c) ≡ with_insts given env h (i ∷ is) c
  insts_step h i is c =
      let x = emit_op given env h i c.next i.op in let y = pass_insts given env is (next_here given h i) x.next in
      let by : List Inst → InsertedCode = λ l. record { code = l; next = y.next } in
      ap by (append_assoc c.code (x.before ++ (i ∷ x.after)) y.code ∙ ap (λ l. c.code ++ l) (append_assoc x.before (i ∷ x.after) y.code))

  pub insts_next : (main : Bool) (counts next : Counts) (c after whole : InsertedCode) (insts : List Inst) (i : ℕ) (inst : Inst) → i < length insts → inst ≡ get_or insts i inst
      → next ≡ past_inst given.func counts inst → after ≡ with_inst given env (here_of counts main) inst c
      → with_insts given env (here_of counts main) (drop i insts) c ≡ whole → with_insts given env (here_of next main) (drop (i + 1) insts) after ≡ whole
  insts_next main counts next c after whole insts i inst below is later grown before =
      ap₂ (λ n k. with_insts given env (here_of n main) (drop (i + 1) insts) k) later grown
      ∙ insts_step (here_of counts main) inst (drop (i + 1) insts) c
      ∙ ap (λ l. with_insts given env (here_of counts main) l c) (sym (drop_next insts i inst below is)) ∙ before

  pub insts_end : (h : Here) (c whole : InsertedCode) (insts : List Inst) (i : ℕ) → length insts ≤ i → with_insts given env h (drop i insts) c ≡ whole → c ≡ whole
  insts_end h c whole insts i past before =
      let by : List Inst → InsertedCode = λ l. record { code = l; next = c.next } in
      ap by (sym (append-nil c.code)) ∙ ap (λ l. with_insts given env h l c) (sym (drop_all i insts past)) ∙ before

  -- there is room where there is room at the end
  pub room_next : (h : Here) (c whole : InsertedCode) (insts : List Inst) (limit : ℕ) → with_insts given env h insts c ≡ whole → whole.next < limit → c.next < limit
  room_next h c whole insts limit before room =
      let e = ap (λ k. k.next) before in omega (arith, (insts_grow given env insts h c.next).more, e, room)
