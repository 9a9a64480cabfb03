-- Few instructions and operands are written in the instrumented form of a module.
use Rattle.std.proofs.Common.{◌≡◌, ℕ, zero, suc, ◌+◌, ◌*◌, ◌≤◌, List, [], ◌∷◌, ◌++◌, Bool, true, false, Option, Some, None, refl, sym, ap, arith, true≢false}
use Rattle.std.specs.Prelude.{length, map, take, drop, if◌then◌else◌, nat_lt, nat_le}
use Rattle.ms_bits.specs.declared.operations.BinOp.{BinOp}
use Rattle.ms_bits.specs.declared.operations.BinOp.TheVariants as binary
use Rattle.ms_ir.specs.declared.syntax.Name.{Name}
use Rattle.ms_ir.specs.declared.syntax.Ty.{Ty, Int, Ptr}
use Rattle.ms_ir.specs.declared.syntax.Operand.{Operand}
use Rattle.ms_ir.specs.declared.syntax.Op.{Op}
use Rattle.ms_ir.specs.declared.syntax.Op.TheVariants as op
use Rattle.ms_ir.specs.declared.syntax.Inst.{Inst}
use Rattle.ms_ir.specs.declared.syntax.Block.{Block}
use Rattle.ms_ir.specs.declared.syntax.Func.{Func}
use Rattle.ms_ir.specs.Names.{name_eq, main_name}
use Rattle.ms_runs.specs.World.{Here}
use Rattle.ms_ir.specs.Equal.{type_eq}
use Rattle.ms_ir.specs.Instructions.{operands, one_undef, over_insts, over_blocks, over_funcs, one_unmarked, roots_in, external_named}
use Rattle.ms_runs.specs.Uses.{CheckedUse, Asked, uses, has_flag, has_true_flag, flagged_words, value_uses, string_uses, external_uses, callee_uses}
use Rattle.ms_ir.specs.Layout.{width_of}
use Rattle.ms_check_valid.specs.Formed.{count_written, block_formed, func_formed}
use Rattle.ms_check_valid.specs.FormedCode.{is_body}
use Rattle.ms_check_valid.proofs.SmallNumbers.{blocks_of}
use Rattle.ms_runs_good_laws.proofs.Starts.{formed_insts}
use Rattle.std.specs.List.{list_all}
use Rattle.std.proofs.lemmas.Bool.{and_parts, leb-true}
use Rattle.ms_pass_tasks.specs.Tasks.{Task, tasks_code}
use Rattle.ms_pass_tasks.specs.Environments.{Env, Given, Tracked, mask_type, tracked}
use Rattle.ms_pass_tasks.specs.CheckTasks.{check_tasks, blind_binary_of, blinded_of, blind_tasks}
use Rattle.ms_pass_tasks.specs.ResultTasks.{define_tasks, result_tasks}
use Rattle.ms_pass_tasks.specs.SlotTasks.{hand_tasks, take_parameters, take_tasks, param_mask, param_origin}
use Rattle.ms_pass_tasks.specs.PlaneTasks.{save_tasks}
use Rattle.ms_pass_tasks.specs.Emit.{before_tasks, after_tasks, start}
use Rattle.ms_pass_tasks.specs.PassLists.{mask_edges, origins_by, origin_edges, phi_pair, phi_code, next_here, pass_insts, emit_op}
use Rattle.ms_pass_laws.specs.Pass.{Numbering, here_after, pass_blocks, pass_funcs, entry_code, enter_block}
use Rattle.ms_ir.specs.declared.calls.External.{External}
use Rattle.ms_ir.specs.declared.calls.External.TheVariants.{Malloc, Printf, Word}
use Rattle.ms_bits.specs.WordFunctions.{is_flagged}
use Rattle.ms_pass_form_laws.proofs.Costs.{written_append, tasks_cost, tasks_written}
use Rattle.ms_pass_form_laws.proofs.CostRounds.{tasks_cost_append, define_cost, checks_cost, blind_cost, plane_cost, hand_cost, save_cost}
use Rattle.std.proofs.lemmas.List.{length-map}

pub tracked_many : (env : Env) (root : ℕ) (os : List (Ty × Operand)) → length (tracked env root os) ≡ length os
tracked_many env root [] = refl
tracked_many env root (o ∷ os) = let e = tracked_many env (root + one_undef o.1) os in omega (arith, e)

taken : (n : ℕ) (l : List Tracked) → length (take n l) ≤ length l
taken zero l = omega arith
taken (suc n) [] = omega arith
taken (suc n) (x ∷ l) = omega (arith, taken n l)

dropped : (n : ℕ) (l : List Tracked) → length (drop n l) ≤ length l
dropped zero l = omega arith
dropped (suc n) [] = omega arith
dropped (suc n) (x ∷ l) = omega (arith, dropped n l)

either : (b : Bool) (x y : List Tracked) (k : ℕ) → length x ≤ k → length y ≤ k → length (if b then x else y) ≤ k
either true x y k p q = p
either false x y k p q = q

blind_few : (o : BinOp) (ts : List Tracked) → length (blind_binary_of o ts) ≤ length ts
blind_few binary.Udiv ts = taken 1 ts
blind_few binary.Sdiv ts = taken 1 ts
blind_few binary.Urem ts = taken 1 ts
blind_few binary.Srem ts = taken 1 ts
blind_few binary.Shl ts = dropped 1 ts
blind_few binary.Lshr ts = dropped 1 ts
blind_few binary.Ashr ts = dropped 1 ts
blind_few _ ts = omega arith

blinded_few : (func : Name → Option ℕ) (o : Op) (ts : List Tracked) → length (blinded_of func o ts) ≤ length ts
blinded_few func (op.Binary o f t a b) ts = either (has_flag f) ts (blind_binary_of o ts) (length ts) (omega arith) (blind_few o ts)
blinded_few func (op.Icmp q f t a b) ts = either (has_flag f) ts [] (length ts) (omega arith) (omega arith)
blinded_few func (op.Cast o f t a u) ts = either (has_flag f) ts [] (length ts) (omega arith) (omega arith)
blinded_few func (op.Call r x as') ts = either (has_true_flag as') (flagged_words (external_named func x) ts) [] (length ts) (by_external (external_named func x)) (omega arith)
  where
    by_external : (e : Option External) → length (flagged_words e ts) ≤ length ts
    by_external None = omega arith
    by_external (Some (Word f n)) = either (is_flagged f) (take 1 ts) [] (length ts) (taken 1 ts) (omega arith)
    by_external (Some e) = omega arith
blinded_few func _ ts = omega arith

uses_few : (func : Name → Option ℕ) (main : Bool) (o : Op) → length (uses func main o) ≤ 5 + 2 * length (operands o)
uses_few func main (op.Binary o f t a b) = by_op o
  where
    by_op : (c : BinOp) → length (uses func main (op.Binary c f t a b)) ≤ 5 + 2 * length (operands (op.Binary c f t a b))
    by_op binary.Udiv = omega arith
    by_op binary.Sdiv = omega arith
    by_op binary.Urem = omega arith
    by_op binary.Srem = omega arith
    by_op _ = omega arith
uses_few func main (op.Call r x as') = by_name (external_named func x)
  where
    values_many : (k : ℕ) (args : List (Ty × Operand)) (us : List CheckedUse) → length (value_uses k args ++ us) ≡ length args + length us
    values_many k [] us = omega arith
    values_many k (a ∷ args) us = let l = values_many (suc k) args us in omega (arith, l)

    strings_many : (k : ℕ) (args : List (Ty × Operand)) → length (string_uses k args) ≤ length args
    strings_many k [] = omega arith
    strings_many k (a ∷ args) = by_test (type_eq a.0 Ptr) (strings_many (suc k) args)
      where
        by_test : (t : Bool) → length (string_uses (suc k) args) ≤ length args → length (if t then Asked k ∷ string_uses (suc k) args else string_uses (suc k) args) ≤ suc (length args)
        by_test true l = omega (arith, l)
        by_test false l = omega (arith, l)

    fewer : (args : List (Ty × Operand)) → length (drop 1 args) ≤ length args
    fewer [] = omega arith
    fewer (a ∷ rest) = omega arith

    by_external : (e : External) → length (external_uses e as') ≤ 5 + 2 * length as'
    by_external Malloc = omega arith
    by_external (Word f n) = omega arith
    by_external Printf = omega (arith, values_many 1 (drop 1 as') (string_uses 1 (drop 1 as')), strings_many 1 (drop 1 as'), fewer as')
    by_external _ = omega arith

    by_name : (e : Option External) → length (callee_uses e as') ≤ 5 + 2 * length as'
    by_name None = omega arith
    by_name (Some e) = by_external e
uses_few func main (op.Ret v) = by_main main
  where
    by_main : (c : Bool) → length (uses func c (op.Ret v)) ≤ 5 + 2 * length (operands (op.Ret v))
    by_main true = omega arith
    by_main false = omega arith
uses_few func main _ = omega arith

result_cost : (func : Name → Option ℕ) (env : Env) (r : Option Name) (o : Op) (ts : List Tracked) → tasks_cost (result_tasks func env r o ts) ≤ 110 + 17 * length ts
result_cost func env None o ts = omega arith
result_cost func env (Some x) o ts = by_clean (env.clean x)
  where
    by_number : (n : Option ℕ) → tasks_cost (elim n as (λ w. List Task) [ Some v ↦ define_tasks func v o ts | None ↦ [] ]) ≤ 110 + 17 * length ts
    by_number None = omega arith
    by_number (Some v) = define_cost func v o ts

    by_clean : (b : Bool) → tasks_cost (if b then [] else elim (env.number x) as (λ w. List Task) [ Some v ↦ define_tasks func v o ts | None ↦ [] ]) ≤ 110 + 17 * length ts
    by_clean true = omega arith
    by_clean false = by_number (env.number x)

-- the bound of a round with its own instruction
abbrev pub bound : Inst → ℕ
bound i = 200 + 55 * length (operands i.op)

module _ (given : Given) (env : Env) where
  before_cost : (h : Here) (i : Inst) (n : ℕ) → tasks_cost (before_tasks given env h i n) ≤ 162 + 50 * length (operands i.op)
  before_cost h i n =
      let ts = tracked env h.root (operands i.op) in
      let us = uses given.func h.main i.op in
      let hs = hand_tasks given.func h.main i.op ts in
      let cs = check_tasks h.site ts us in
      let bs = blind_tasks (blinded_of given.func i.op ts) in
      let rs = result_tasks given.func env i.result i.op ts in
      let ss = save_tasks given.func n i.op ts in
      omega (
        arith,
        tasks_cost_append hs (cs ++ (bs ++ (rs ++ ss))),
        tasks_cost_append cs (bs ++ (rs ++ ss)),
        tasks_cost_append bs (rs ++ ss),
        tasks_cost_append rs ss,
        hand_cost given.func h.main i.op ts,
        save_cost given.func n i.op ts,
        checks_cost h.site ts us,
        uses_few given.func h.main i.op,
        blind_cost (blinded_of given.func i.op ts),
        blinded_few given.func i.op ts,
        result_cost given.func env i.result i.op ts,
        tracked_many env h.root (operands i.op),
      )

  masks_many : (w : ℕ) (es : List (Operand × Name)) → length (map {B = Operand} (λ e. e.0) (mask_edges env w es)) ≡ length es
  masks_many w [] = refl
  masks_many w (e ∷ es) = let k = masks_many w es in omega (arith, k)

  mask_many : (w : ℕ) (es : List (Operand × Name)) → length (mask_edges env w es) ≡ length es
  mask_many w [] = refl
  mask_many w (e ∷ es) = let k = mask_many w es in omega (arith, k)

  origin_many : (root : ℕ) (all es : List (Operand × Name)) → length (origins_by env root all es) ≡ length es
  origin_many root all [] = refl
  origin_many root all (e ∷ es) = let k = origin_many root all es in omega (arith, k)

  pair_cost : (v root : ℕ) (t : Ty) (es : List (Operand × Name)) → over_insts count_written (phi_pair env v root t es) ≡ 2 + 2 * length es
  pair_cost v root t es =
      omega (arith, length-map {B = Ty × Operand} (mask_edges env (width_of t) es) (λ (e : Operand × Name). (mask_type t, e.0)), length-map {B = Ty × Operand} (origin_edges env root es) (λ (e : Operand × Name). (Int 32, e.0)), mask_many (width_of t) es, origin_many root es es)

  phi_cost : (root : ℕ) (r : Option Name) (t : Ty) (es : List (Operand × Name)) → over_insts count_written (phi_code env root r t es) ≤ 2 + 2 * length es
  phi_cost root None t es = omega arith
  phi_cost root (Some x) t es = by_number (env.number x)
    where
      by_clean : (v : ℕ) (b : Bool) → over_insts count_written (if b then [] else phi_pair env v root t es) ≤ 2 + 2 * length es
      by_clean v true = omega arith
      by_clean v false = omega (arith, pair_cost v root t es)

      by_number : (o : Option ℕ) → over_insts count_written (elim o as (λ w. List Inst) [ Some v ↦ if env.clean x then [] else phi_pair env v root t es | None ↦ [] ]) ≤ 2 + 2 * length es
      by_number None = omega arith
      by_number (Some v) = by_clean v (env.clean x)

  -- what is written before and after an instruction
  pub lists_cost : (h : Here) (i : Inst) (n : ℕ) (o : Op) → i.op ≡ o
      → over_insts count_written (emit_op given env h i n o).before + over_insts count_written (emit_op given env h i n o).after ≤ 192 + 50 * length (operands o)
  lists_cost h i n (op.Phi t es) s = omega (arith, phi_cost h.root i.result t es, length-map {B = Ty × Operand} es (λ (e : Operand × Name). (t, e.0)))
  lists_cost h i n o s =
      let bs = before_tasks given env h i n in let as' = after_tasks given env h i n in
      omega (
        arith,
        tasks_written bs (start given i n),
        tasks_written as' (tasks_code bs (start given i n)).next,
        before_cost h i n,
        plane_cost given env h n i.result i.op (tracked env h.root (operands i.op)),
        ap (λ x. length (operands x)) s,
      )

  code_cost : (is : List Inst) (h : Here) (n : ℕ) → over_insts count_written (pass_insts given env is h n).code ≤ over_insts bound is
  code_cost [] h n = omega arith
  code_cost (i ∷ is) h n =
      let x = emit_op given env h i n i.op in
      let y = pass_insts given env is (next_here given h i) x.next in
      omega (
        arith,
        written_append x.before (i ∷ (x.after ++ y.code)),
        written_append x.after y.code,
        lists_cost h i n i.op refl,
        code_cost is (next_here given h i) x.next,
      )

  blocks_cost : (bs : List Block) (h : Here) (n : ℕ)
      → over_blocks count_written (pass_blocks given env bs h n) ≤ over_blocks bound bs
  blocks_cost [] h n = omega arith
  blocks_cost (b ∷ bs) h n =
      omega (arith, code_cost b.insts h n, blocks_cost bs (here_after given h b.insts) (pass_insts given env b.insts h n).next)

-- what is taken at the entry
params_cost : (env : Env) (k : ℕ) (ps : List (Ty × Name)) → tasks_cost (take_parameters env k ps) ≤ 10 * length ps
params_cost env k [] = omega arith
params_cost env k (p ∷ ps) = by_clean (env.clean p.1) (params_cost env (suc k) ps)
  where
    by_number : (n : Option ℕ) → tasks_cost (take_parameters env (suc k) ps) ≤ 10 * length ps
        → tasks_cost ((elim n as (λ w. List Task) [ Some v ↦ take_tasks (param_mask k) (param_origin k) v p.0 | None ↦ [] ]) ++ take_parameters env (suc k) ps) ≤ 10 * suc (length ps)
    by_number None l = omega (arith, l)
    by_number (Some v) l = omega (arith, l)

    by_clean : (b : Bool) → tasks_cost (take_parameters env (suc k) ps) ≤ 10 * length ps
        → tasks_cost ((if b then [] else elim (env.number p.1) as (λ w. List Task) [ Some v ↦ take_tasks (param_mask k) (param_origin k) v p.0 | None ↦ [] ]) ++ take_parameters env (suc k) ps)
        ≤ 10 * suc (length ps)
    by_clean true l = omega (arith, l)
    by_clean false l = by_number (env.number p.1) l

entered_cost : (code : List Inst) (bs : List Block) → over_blocks count_written (enter_block code bs) ≤ over_insts count_written code + over_blocks count_written bs
entered_cost code [] = omega arith
entered_cost code (b ∷ bs) = let e = written_append code b.insts in omega (arith, e)

pub funcs_cost : (given : Given) (numbers : ℕ → Numbering) (fs : List Func) (site root : ℕ) → list_all (λ f. nat_le (length f.params) 100) fs ≡ true
    → over_funcs count_written (pass_funcs given numbers fs site root) ≤ over_funcs bound fs + 1000 * length fs
funcs_cost given numbers [] site root l = omega arith
funcs_cost given numbers (f ∷ fs) site root l =
    let first = 2 * (numbers 0).size + 1 in
    let env = (numbers 0).env in
    let h : Here = record { site = site; root = root; main = name_eq f.name main_name } in
    let p = and_parts (nat_le (length f.params) 100) (list_all (λ f. nat_le (length f.params) 100) fs) l in
    omega (
      arith,
      blocks_cost given env f.blocks h first,
      entered_cost (entry_code env f.params first) (pass_blocks given env f.blocks h first),
      tasks_written (take_parameters env 0 f.params) first,
      params_cost env 0 f.params,
      leb-true (length f.params) 100 p.0,
      funcs_cost given (λ k. numbers (k + 1)) fs (site + over_blocks one_unmarked f.blocks) (root + over_blocks (roots_in given.func) f.blocks) p.1,
    )

-- each function of a formed module has an instruction
block_some : (bs : List Block) → nat_lt 0 (length bs) ≡ true → list_all block_formed bs ≡ true → 1 ≤ over_blocks (λ i. 1) bs
block_some [] e h = absurd (true≢false (sym e))
block_some (b ∷ bs) e h = let l = body_some b.insts (formed_insts b (and_parts (block_formed b) (list_all block_formed bs) h).0).0 in omega (arith, l)
  where
    body_some : (is : List Inst) → is_body is ≡ true → 1 ≤ over_insts (λ i. 1) is
    body_some [] q = absurd (true≢false (sym q))
    body_some (i ∷ is) q = omega arith

pub funcs_few : (fs : List Func) → list_all func_formed fs ≡ true → length fs ≤ over_funcs (λ i. 1) fs
funcs_few [] h = omega arith
funcs_few (f ∷ fs) h =
    let p = and_parts (func_formed f) (list_all func_formed fs) h in
    let b = blocks_of f p.0 in
    omega (arith, block_some f.blocks b.0 b.1, funcs_few fs p.1)

-- ---- the sum

insts_bound : (is : List Inst) → over_insts bound is ≡ 200 * over_insts (λ i. 1) is + 55 * over_insts (λ i. length (operands i.op)) is
insts_bound [] = refl
insts_bound (i ∷ is) = let e = insts_bound is in omega (arith, e)

blocks_bound : (bs : List Block) → over_blocks bound bs ≡ 200 * over_blocks (λ i. 1) bs + 55 * over_blocks (λ i. length (operands i.op)) bs
blocks_bound [] = refl
blocks_bound (b ∷ bs) = let e = blocks_bound bs in omega (arith, e, insts_bound b.insts)

pub funcs_bound : (fs : List Func) → over_funcs bound fs ≡ 200 * over_funcs (λ i. 1) fs + 55 * over_funcs (λ i. length (operands i.op)) fs
funcs_bound [] = refl
funcs_bound (f ∷ fs) = let e = funcs_bound fs in omega (arith, e, blocks_bound f.blocks)
