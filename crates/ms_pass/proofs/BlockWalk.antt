-- The blocks of a function at the one to which a loop has come.
use Rattle.std.proofs.Common.{◌≡◌, ℕ, ◌+◌, ◌<◌, ◌≤◌, ◌^◌, Bool, List, [], ◌∷◌, ◌++◌, Option, length, get_or, drop, refl, sym, ap, ◌∙◌, append_assoc, append-nil, add_assoc, arith}
use Rattle.std.proofs.Math.Path.{ap₂}
use Rattle.std.proofs.lemmas.List.{drop_all}
use Rattle.ms_ir.specs.declared.syntax.Name.{Name}
use Rattle.ms_ir.specs.declared.syntax.Block.{Block}
use Rattle.ms_ir.specs.Instructions.{one_unmarked, roots_in, over_insts, over_blocks}
use Rattle.ms_ir.proofs.Sizes.{drop_next}
use Rattle.ms_runs.specs.World.{Here}
use Rattle.ms_check_valid.specs.Formed.{count_written}
use Rattle.ms_pass_tasks.specs.Tasks.{InsertedCode}
use Rattle.ms_pass_tasks.specs.Environments.{Env, Given}
use Rattle.ms_pass_tasks.specs.PassLists.{pass_insts}
use Rattle.ms_pass_laws.specs.Pass.{here_after, pass_blocks, enter_block}
use Rattle.ms_pass_form_laws.proofs.Costs.{written_append}
use Rattle.ms_pass.specs.declared.counts.Counts.{Counts}
use Rattle.ms_pass.specs.Counted.{here_of, past_insts, past_blocks, AreSmall}
use Rattle.ms_pass.specs.Passed.{with_insts, with_blocks}
use Rattle.ms_pass.proofs.Growth.{insts_grow}

-- ---- counts

module _ (func : Name → Option ℕ) where
  pub counts_next : (counts next whole : Counts) (blocks : List Block) (i : ℕ) (b : Block) → i < length blocks → b ≡ get_or blocks i b → next ≡ past_insts func counts b.insts
      → past_blocks func counts (drop i blocks) ≡ whole → past_blocks func next (drop (i + 1) blocks) ≡ whole
  counts_next counts next whole blocks i b below is later before =
      ap (λ n. past_blocks func n (drop (i + 1) blocks)) later
      ∙ ap₂ {C = Counts} (λ s r. record { site = s; roots = r })
      (add_assoc counts.site (over_insts one_unmarked b.insts) (over_blocks one_unmarked (drop (i + 1) blocks)))
      (add_assoc counts.roots (over_insts (roots_in func) b.insts) (over_blocks (roots_in func) (drop (i + 1) blocks)))
      ∙ ap (past_blocks func counts) (sym (drop_next blocks i b below is)) ∙ before

  pub counts_end : (counts whole : Counts) (blocks : List Block) (i : ℕ) → length blocks ≤ i → past_blocks func counts (drop i blocks) ≡ whole → counts ≡ whole
  counts_end counts whole blocks i past before =
      ap₂ {C = Counts} (λ s r. record { site = s; roots = r }) (omega arith) (omega arith) ∙ ap (past_blocks func counts) (sym (drop_all i blocks past)) ∙ before

  pub small_next : (counts whole : Counts) (blocks : List Block) (i : ℕ) (b : Block) → i < length blocks → b ≡ get_or blocks i b
      → past_blocks func counts (drop i blocks) ≡ whole → AreSmall whole → AreSmall (past_insts func counts b.insts)
  small_next counts whole blocks i b below is before small =
      let parts = ap (past_blocks func counts) (sym (drop_next blocks i b below is)) ∙ before in
      (below_sum counts.site (over_insts one_unmarked b.insts) _ _ (2 ^ 32) (ap (λ c. c.site) parts) small.0, below_sum counts.roots (over_insts (roots_in func) b.insts) _ _ (2 ^ 40) (ap (λ c. c.roots) parts) small.1)
    where
      below_sum : (a b c total limit : ℕ) → a + (b + c) ≡ total → total < limit → a + b < limit
      below_sum a b c total limit e l = omega (arith, e, l)

-- ---- code

enter_nil : (bs : List Block) → enter_block [] bs ≡ bs
enter_nil [] = refl
enter_nil (b ∷ bs) = refl

module _ (given : Given) (env : Env) where
  -- the block that an instrumented one is, where it begins with code
  abbrev made : Here → Block → InsertedCode → Block
  made h b c = record b { insts = (with_insts given env h b.insts c).code }

  -- what the next block begins with
  abbrev left : Here → Block → InsertedCode → InsertedCode
  left h b c = record { code = []; next = (with_insts given env h b.insts c).next }

  -- one block, and then the others
  blocks_step : (h : Here) (b : Block) (bs : List Block) (c : InsertedCode)
      → with_blocks given env h (b ∷ bs) c ≡ made h b c ∷ with_blocks given env (here_after given h b.insts) bs (left h b c)
  blocks_step h b bs c =
      let x = pass_insts given env b.insts h c.next in ap (λ l. made h b c ∷ l) (sym (enter_nil (pass_blocks given env bs (here_after given h b.insts) x.next)))

  here_step : (main : Bool) (counts : Counts) (c : InsertedCode) (blocks : List Block) (i : ℕ) (b : Block) → i < length blocks → b ≡ get_or blocks i b
      → with_blocks given env (here_of counts main) (drop i blocks) c
      ≡ made (here_of counts main) b c ∷ with_blocks given env (here_of (past_insts given.func counts b.insts) main) (drop (i + 1) blocks) (left (here_of counts main) b c)
  here_step main counts c blocks i b below is =
      ap (λ l. with_blocks given env (here_of counts main) l c) (drop_next blocks i b below is) ∙ blocks_step (here_of counts main) b (drop (i + 1) blocks) c

  pub blocks_next : (main : Bool) (counts next : Counts) (c after : InsertedCode) (done more whole : List Block) (blocks : List Block) (i : ℕ) (b : Block) → i < length blocks → b ≡ get_or blocks i b
      → next ≡ past_insts given.func counts b.insts → after ≡ left (here_of counts main) b c → more ≡ done ++ made (here_of counts main) b c ∷ []
      → done ++ with_blocks given env (here_of counts main) (drop i blocks) c ≡ whole → more ++ with_blocks given env (here_of next main) (drop (i + 1) blocks) after ≡ whole
  blocks_next main counts next c after done more whole blocks i b below is later grown pushed before =
      ap₂ (λ l k. l ++ k) pushed (ap₂ (λ n k. with_blocks given env (here_of n main) (drop (i + 1) blocks) k) later grown)
      ∙ append_assoc done (made (here_of counts main) b c ∷ []) (with_blocks given env (here_of (past_insts given.func counts b.insts) main) (drop (i + 1) blocks) (left (here_of counts main) b c))
      ∙ ap (λ l. done ++ l) (sym (here_step main counts c blocks i b below is)) ∙ before

  pub blocks_end : (h : Here) (c : InsertedCode) (done whole : List Block) (blocks : List Block) (i : ℕ) → length blocks ≤ i → done ++ with_blocks given env h (drop i blocks) c ≡ whole → done ≡ whole
  blocks_end h c done whole blocks i past before =
      sym (append-nil done) ∙ ap (λ l. done ++ with_blocks given env h l c) (sym (drop_all i blocks past)) ∙ before

  -- ---- room

  -- what is left to write, and the number of the next inserted result
  pub room_now : (main : Bool) (counts : Counts) (c : InsertedCode) (blocks : List Block) (i : ℕ) (b : Block) (limit : ℕ) → i < length blocks → b ≡ get_or blocks i b
      → c.next + over_blocks count_written (with_blocks given env (here_of counts main) (drop i blocks) c) < limit → (with_insts given env (here_of counts main) b.insts c).next < limit
  room_now main counts c blocks i b limit below is room =
      let x = pass_insts given env b.insts (here_of counts main) c.next in
      let parts = ap (over_blocks count_written) (here_step main counts c blocks i b below is) in
      omega (arith, parts, room, written_append c.code x.code, (insts_grow given env b.insts (here_of counts main) c.next).few)

  pub room_next : (main : Bool) (counts next : Counts) (c after : InsertedCode) (blocks : List Block) (i : ℕ) (b : Block) (limit : ℕ) → i < length blocks → b ≡ get_or blocks i b
      → next ≡ past_insts given.func counts b.insts → after ≡ left (here_of counts main) b c
      → c.next + over_blocks count_written (with_blocks given env (here_of counts main) (drop i blocks) c) < limit
      → after.next + over_blocks count_written (with_blocks given env (here_of next main) (drop (i + 1) blocks) after) < limit
  room_next main counts next c after blocks i b limit below is later grown room =
      let x = pass_insts given env b.insts (here_of counts main) c.next in
      let parts = ap (over_blocks count_written) (here_step main counts c blocks i b below is) in
      let same = ap₂ (λ n k. k.next + over_blocks count_written (with_blocks given env (here_of n main) (drop (i + 1) blocks) k)) later grown in
      omega (arith, parts, same, room, written_append c.code x.code, (insts_grow given env b.insts (here_of counts main) c.next).few)
