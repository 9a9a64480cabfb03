-- There are numbers for all inserted results of a function.
use Rattle.std.proofs.Common.{◌≡◌, ℕ, ◌+◌, ◌*◌, ◌<◌, ◌≤◌, ◌^◌, Bool, true, List, [], ◌∷◌, Option, Some, None, length, map, sym, ap, subst, ◌∙◌, arith}
use Rattle.std.specs.Prelude.{◌&&◌, nat_le}
use Rattle.std.specs.List.{cons_option, list_all}
use Rattle.std.proofs.Math.Path.{ap₂}
use Rattle.std.proofs.lemmas.Bool.{le-leb}
use Rattle.std.proofs.lemmas.List.{length-append, length-map}
use Rattle.ms_ir.specs.declared.syntax.Name.{Name}
use Rattle.ms_ir.specs.declared.syntax.Ty.{Ty}
use Rattle.ms_ir.specs.declared.syntax.Inst.{Inst}
use Rattle.ms_ir.specs.declared.syntax.Block.{Block}
use Rattle.ms_ir.specs.declared.syntax.Func.{Func}
use Rattle.ms_ir.specs.Instructions.{over_insts, over_blocks}
use Rattle.ms_ir.specs.Layout.{Types}
use Rattle.ms_ir.specs.Names.{name_eq, main_name}
use Rattle.ms_runs.specs.World.{Here}
use Rattle.ms_check_valid.specs.Formed.{count_written}
use Rattle.ms_pass_tasks.specs.Tasks.{InsertedCode}
use Rattle.ms_pass_tasks.specs.Environments.{Env, Given}
use Rattle.ms_pass_laws.specs.Pass.{Numbering}
use Rattle.ms_pass_form_laws.proofs.CostSum.{funcs_cost, funcs_bound}
use Rattle.ms_pass.specs.declared.counts.Counts.{Counts}
use Rattle.ms_pass.specs.Counted.{here_of}
use Rattle.ms_rules.specs.Valued.{valued, result_names, block_results, value_names}
use Rattle.ms_pass.specs.Passed.{env_by, with_blocks, entry, first_number}
use Rattle.ms_pass.specs.Ready.{IsReady}

-- ---- how many values a function has

results_few : (is : List Inst) → length (result_names is) ≤ over_insts (λ i. 1) is
results_few [] = omega arith
results_few (i ∷ is) = by_result (valued i) (results_few is)
  where
    by_result : (o : Option Name) → length (result_names is) ≤ over_insts (λ i. 1) is → length (cons_option o (result_names is)) ≤ 1 + over_insts (λ i. 1) is
    by_result (Some x) l = omega (arith, l)
    by_result None l = omega (arith, l)

blocks_few : (bs : List Block) → length (block_results bs) ≤ over_blocks (λ i. 1) bs
blocks_few [] = omega arith
blocks_few (b ∷ bs) = omega (arith, length-append (result_names b.insts) (block_results bs), results_few b.insts, blocks_few bs)

pub values_few : (types : Types) (f : Func) → IsReady types f → length (value_names f) ≤ 100 + 2 ^ 17
values_few types f ready =
    few (length (map (λ p. p.1) f.params)) (length (block_results f.blocks)) _ _ (length-append (map (λ p. p.1) f.params) (block_results f.blocks)) (length-map f.params (λ p. p.1)) ready.params
    (blocks_few f.blocks) ready.instructions
  where
    few : (a b c d : ℕ) → length (value_names f) ≡ a + b → a ≡ c → c ≤ 100 → b ≤ d → d ≤ 2 ^ 17 → length (value_names f) ≤ 100 + 2 ^ 17
    few a b c d e h k l n = omega (arith, e, h, k, l, n)

pub values_fit : (types : Types) (f : Func) (names : List Name) → names ≡ value_names f → IsReady types f → length names ≤ 2 ^ 30
values_fit types f names same ready = let e = ap length same in fit (length names) _ e (values_few types f ready)
  where
    fit : (a b : ℕ) → a ≡ b → b ≤ 100 + 2 ^ 17 → a ≤ 2 ^ 30
    fit a b e l = omega (arith, e, l)

-- ---- room

pub func_room : (types : Types) (given : Given) (clean : List Name) (c : Counts) (f : Func) → IsReady types f →
    let names = value_names f in let start = entry (env_by names clean) (first_number (length names)) f.params in
    start.next + over_blocks count_written (with_blocks given (env_by names clean) (here_of c (name_eq f.name main_name)) f.blocks start) < 2 ^ 40
func_room types given clean c f ready =
    let names = value_names f in
    let numbers : ℕ → Numbering = λ k. record { env = env_by names clean; size = length names } in
    let limits : list_all (λ g. nat_le (length g.params) 100) (f ∷ []) ≡ true = ap (λ a. a && true) (le-leb (length f.params) 100 ready.params) in
    few (length names) _ _ _ _ (values_few types f ready) (funcs_cost given numbers (f ∷ []) c.site c.roots limits) (funcs_bound (f ∷ [])) ready.instructions ready.operands
  where
    few : (size a b c d : ℕ) → size ≤ 100 + 2 ^ 17 → a + 0 ≤ b + 1000 * 1 → b ≡ 200 * (c + 0) + 55 * (d + 0) → c ≤ 2 ^ 17 → d ≤ 2 ^ 20 → 2 * size + 1 + a < 2 ^ 40
    few size a b c d s l e p q = omega (arith, s, l, e, p, q)

module _ (given : Given) (c : Counts) (f : Func) (names clean : List Name) (main : Bool) (params : List (Ty × Name)) (blocks : List Block) (start : InsertedCode) (named : names ≡ value_names f)
    (mains : main ≡ name_eq f.name main_name) (given_params : params ≡ f.params) (blocked : blocks ≡ f.blocks) (started : start ≡ entry (env_by names clean) (first_number (length names)) params) where
  -- what is made of them is made of the function
  seen_is : {A : Type 0} (made : Env → Here → List Block → InsertedCode → A)
      → made (env_by names clean) (here_of c main) blocks start
      ≡ made (env_by (value_names f) clean) (here_of c (name_eq f.name main_name)) f.blocks (entry (env_by (value_names f) clean) (first_number (length (value_names f))) f.params)
  seen_is {A} made =
      let whole : List Name → Bool → List Block → InsertedCode → A = λ ns b bs k. made (env_by ns clean) (here_of c b) bs k in
      let entered : List Name → List (Ty × Name) → InsertedCode = λ ns ps. entry (env_by ns clean) (first_number (length ns)) ps in
      let begins = started ∙ ap₂ entered named given_params in
      ap₂ (λ ns b. whole ns b blocks start) named mains ∙ ap₂ (λ bs k. whole (value_names f) (name_eq f.name main_name) bs k) blocked begins

  pub blocks_seen : with_blocks given (env_by names clean) (here_of c main) blocks start
      ≡ with_blocks given (env_by (value_names f) clean) (here_of c (name_eq f.name main_name)) f.blocks (entry (env_by (value_names f) clean) (first_number (length (value_names f))) f.params)
  blocks_seen = seen_is {A = List Block} (λ env h bs k. with_blocks given env h bs k)

  pub func_room_at : (types : Types) → IsReady types f → start.next + over_blocks count_written (with_blocks given (env_by names clean) (here_of c main) blocks start) < 2 ^ 40
  func_room_at types ready =
      let P : ℕ → Type 0 = λ n. n < 2 ^ 40 in
      subst P (sym (seen_is {A = ℕ} (λ env h bs k. k.next + over_blocks count_written (with_blocks given env h bs k)))) (func_room types given clean c f ready)
