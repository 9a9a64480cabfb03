-- The instrumented form of a function keeps its edges, its results, and sets the masks and origins of results in their blocks.
use Rattle.std.proofs.Common.{◌≡◌, ◌≤◌, ℕ, zero, suc, ◌+◌, ◌-◌, List, [], ◌∷◌, ◌++◌, Bool, true, false, Option, Some, None, refl, sym, ap, subst, ◌∙◌, arith, inl, inr, true≢false, length-append}
use Rattle.std.specs.Prelude.{◌⊎◌, Contains, length, is_some, take, map, flat_map, slice_index_or, if◌then◌else◌}
use Rattle.std.specs.List.{cons_option}
use Rattle.std.proofs.Math.Path.{ap₂}
use Rattle.std.proofs.lemmas.List.{append_assoc}
use Rattle.ms_bits.specs.declared.operations.BinOp.{BinOp}
use Rattle.ms_bits.specs.declared.operations.BinOp.TheVariants as binary
use Rattle.ms_ir.specs.declared.syntax.Name.{Name}
use Rattle.ms_ir.specs.declared.syntax.Ty.{Ty}
use Rattle.ms_ir.specs.declared.syntax.Operand.{Operand}
use Rattle.ms_ir.specs.declared.syntax.Op.{Op}
use Rattle.ms_ir.specs.declared.syntax.Op.TheVariants as op
use Rattle.ms_ir.specs.declared.syntax.Inst.{Inst}
use Rattle.ms_ir.specs.declared.syntax.Block.{Block}
use Rattle.ms_ir.specs.declared.syntax.Func.{Func}
use Rattle.ms_bits.specs.declared.word_functions.BitMove.{BitMove}
use Rattle.ms_ir.specs.Names.{name_eq, lookup, externals}
use Rattle.ms_ir.specs.Equal.{has_name}
use Rattle.ms_runs.specs.World.{Here}
use Rattle.ms_ir.specs.Instructions.{operands, block_index, count_undefs, external_named, is_phi}
use Rattle.ms_ir.specs.Written.{targets}
use Rattle.ms_ir.specs.Locals.{results, parameter_names}
use Rattle.ms_check_valid.specs.Paths.{insts_of, block_successors, block_results, IsDefined}
use Rattle.ms_pass_tasks.specs.Tasks.{mask_name, origin_name, inserted, Task, Sets, Tries, Fetches, Puts, Calls, half, flatten_all, parts, target, last_op, set_op, task_code, tasks_code}
use Rattle.ms_pass_tasks.specs.Environments.{Env, Given, tracked, Tracked}
use Rattle.ms_pass_tasks.specs.CheckTasks.{check_tasks, blinded_of, blind_tasks}
use Rattle.ms_pass_tasks.specs.ResultTasks.{external_move, answer_tasks, called_tasks, define_tasks, result_tasks}
use Rattle.ms_pass_tasks.specs.SlotTasks.{hand_tasks, take_tasks, take_value, take_parameters, param_mask, param_origin, result_mask_slot, result_origin_slot}
use Rattle.ms_pass_tasks.specs.PlaneTasks.{save_tasks, callee_tasks, plane_tasks}
use Rattle.ms_pass_tasks.specs.Emit.{before_tasks, after_tasks, start, emit_tasks}
use Rattle.ms_check_valid.proofs.NameTests.{name_within, within_name}
use Rattle.ms_pass_form_laws.proofs.Emitted.{is_own_call}
use Rattle.ms_pass_tasks.specs.PassLists.{phi_pair, phi_code, next_here, pass_insts, emit_op}
use Rattle.ms_pass_laws.specs.Pass.{here_after, pass_blocks, entry_code, enter_block}
use Rattle.ms_pass_laws.proofs.Marked.{is_inserted, AllInserted, tasks_inserted}
use Rattle.ms_runs.specs.Uses.{uses}
use Rattle.ms_pass_form_laws.proofs.Paths.{In, to_in, in_left, in_right, results_append, Keeps, defined_too, defined_from_entry, insts_in}
use Rattle.std.proofs.lemmas.Grind.{flat_map-append}
use Rattle.std.proofs.lemmas.List.Elements.{filter_map-append}
use Rattle.ms_pass_form_laws.proofs.Once.{set_by}

-- ---- no edges of inserted code

abbrev pub goes : List Inst → List Name
goes is = flat_map (λ i. targets i.op) is

-- what goes nowhere in front doesn't matter
pub goes_past : (a b : List Inst) → goes a ≡ [] → goes (a ++ b) ≡ goes b
goes_past a b e = flat_map-append (λ k. targets k.op) a b ∙ ap (λ l. l ++ goes b) e

no_targets : (o : Op) → is_inserted o ≡ true → targets o ≡ []
no_targets (op.Binary o f t a b) e = refl
no_targets (op.Icmp p f t a b) e = refl
no_targets (op.Cast o f t a u) e = refl
no_targets (op.Select c t a b) e = refl
no_targets (op.Load t a) e = refl
no_targets (op.Store t v a) e = refl
no_targets (op.Call ret callee args) e = refl
no_targets (op.Freeze t a) e = grind arith
no_targets (op.Phi t edges) e = grind arith
no_targets (op.Alloca t u c) e = grind arith
no_targets (op.Gep t a is) e = grind arith
no_targets (op.Br to) e = grind arith
no_targets (op.CondBr c to other) e = grind arith
no_targets (op.Switch t v other cases) e = grind arith
no_targets (op.Ret v) e = grind arith
no_targets op.Unreachable e = grind arith

inserted_goes : (is : List Inst) → AllInserted is → goes is ≡ []
inserted_goes [] h = refl
inserted_goes (i ∷ is) h = ap₂ (λ a b. a ++ b) (no_targets i.op h.1) (inserted_goes is h.2)

phi_goes : (env : Env) (root : ℕ) (x : Option Name) (t : Ty) (es : List (Operand × Name)) → goes (phi_code env root x t es) ≡ []
phi_goes env root None t es = refl
phi_goes env root (Some x) t es = by_number (env.number x)
  where
    by_clean : (v : ℕ) (b : Bool) → goes (if b then [] else phi_pair env v root t es) ≡ []
    by_clean v true = refl
    by_clean v false = refl

    by_number : (o : Option ℕ) → goes (elim o [ Some v ↦ if env.clean x then [] else phi_pair env v root t es | None ↦ [] ]) ≡ []
    by_number None = refl
    by_number (Some v) = by_clean v (env.clean x)

-- round an instruction that is no phi
pub plain_emit : (given : Given) (env : Env) (k : Here) (i : Inst) (m : ℕ) (o : Op) → is_phi o ≡ false → emit_op given env k i m o ≡ emit_tasks given env k i m
plain_emit given env k i m (op.Phi t es) e = absurd (true≢false e)
plain_emit given env k i m _ e = refl

-- an operation whose result has a mask that is computed
abbrev pub HasMask : Op → Type 0
HasMask (op.Binary o f t a b) = Unit {0}
HasMask (op.Icmp p f t a b) = Unit {0}
HasMask (op.Cast o f t a u) = Unit {0}
HasMask (op.Select c t a b) = Unit {0}
HasMask (op.Freeze t a) = Unit {0}
HasMask (op.Phi t es) = Unit {0}
HasMask (op.Alloca t u c) = Unit {0}
HasMask (op.Load t a) = Unit {0}
HasMask (op.Gep t a is) = Unit {0}
HasMask (op.Call (Some t) callee args) = Unit {0}
HasMask _ = ⊥

-- a function has a block
abbrev pub Filled : List Block → Type 0
Filled [] = ⊥
Filled (b ∷ bs) = Unit {0}

-- each instruction whose result is x computes a mask for it
abbrev pub Masks : Name → List Inst → Type 0
Masks x [] = Unit {0}
Masks x (i ∷ is) = (i.result ≡ Some x → HasMask i.op) × Masks x is

module _ (given : Given) (env : Env) where
  lists_go : (h : Here) (i : Inst) (n : ℕ) (o : Op) → (goes (emit_op given env h i n o).before ≡ []) × (goes (emit_op given env h i n o).after ≡ [])
  lists_go h i n (op.Phi t es) = (refl, phi_goes env h.root i.result t es)
  lists_go h i n _ =
      let x = tasks_code (before_tasks given env h i n) (start given i n) in
      let y = tasks_code (after_tasks given env h i n) x.next in
      (inserted_goes x.code (tasks_inserted (before_tasks given env h i n) (start given i n)), inserted_goes y.code (tasks_inserted (after_tasks given env h i n) x.next))

  pub code_goes : (is : List Inst) (h : Here) (n : ℕ) → goes (pass_insts given env is h n).code ≡ goes is
  code_goes [] h n = refl
  code_goes (i ∷ is) h n =
      let x = emit_op given env h i n i.op in
      let y = pass_insts given env is (next_here given h i) x.next in
      let l = lists_go h i n i.op in
      flat_map-append (λ k. targets k.op) x.before (i ∷ (x.after ++ y.code))
      ∙ ap₂ (λ a b. a ++ (targets i.op ++ b)) l.0 (flat_map-append (λ k. targets k.op) x.after y.code ∙ ap₂ (λ a b. a ++ b) l.1 (code_goes is (next_here given h i) x.next))

  -- ---- blocks

  blocks_index : (bs : List Block) (h : Here) (n : ℕ) (x : Name) → block_index (pass_blocks given env bs h n) x ≡ block_index bs x
  blocks_index [] h n x = refl
  blocks_index (b ∷ bs) h n x =
      ap (λ k. if name_eq b.name x then 0 else suc k) (blocks_index bs (here_after given h b.insts) (pass_insts given env b.insts h n).next x)

  enter_index : (code : List Inst) (bs : List Block) (x : Name) → block_index (enter_block code bs) x ≡ block_index bs x
  enter_index code [] x = refl
  enter_index code (b ∷ bs) x = refl

  map_same : {A B : Type 0} (u v : A → B) → ((x : A) → u x ≡ v x) → (xs : List A) → map u xs ≡ map v xs
  map_same u v e [] = refl
  map_same u v e (x ∷ xs) = ap₂ (λ y ys. y ∷ ys) (e x) (map_same u v e xs)

  all_leads : (f g : Func) → ((x : Name) → block_index g.blocks x ≡ block_index f.blocks x) → (bs : List Block) (h : Here) (n : ℕ)
      → map (block_successors g) (pass_blocks given env bs h n) ≡ map (block_successors f) bs
  all_leads f g e [] h n = refl
  all_leads f g e (b ∷ bs) h n =
      let x = pass_insts given env b.insts h n in
      ap₂ (λ y ys. y ∷ ys)
      (map_same (block_index g.blocks) (block_index f.blocks) e (goes x.code) ∙ ap (map (block_index f.blocks)) (code_goes b.insts h n))
      (all_leads f g e bs (here_after given h b.insts) x.next)

  enter_leads : (g : Func) (code : List Inst) (bs : List Block) → goes code ≡ [] → map (block_successors g) (enter_block code bs) ≡ map (block_successors g) bs
  enter_leads g code [] e = refl
  enter_leads g code (b ∷ bs) e =
      ap (λ l. map (block_index g.blocks) l ∷ map (block_successors g) bs) (goes_past code b.insts e)

  -- what stands at the entry of the instrumented form of a function
  abbrev pub taken : Func → ℕ → List Inst
  taken f n = entry_code env f.params n

  pub entry_inserted : (f : Func) (n : ℕ) → AllInserted (taken f n)
  entry_inserted f n = tasks_inserted (take_parameters env 0 f.params) n

  pub entry_goes : (f : Func) (n : ℕ) → goes (taken f n) ≡ []
  entry_goes f n = inserted_goes (taken f n) (entry_inserted f n)

  -- the instrumented form of a function
  abbrev pub passed : Func → Here → ℕ → Func
  passed f h n = record f { blocks = enter_block (taken f n) (pass_blocks given env f.blocks h n) }

  pub index_same : (f : Func) (h : Here) (n : ℕ) (x : Name) → block_index (passed f h n).blocks x ≡ block_index f.blocks x
  index_same f h n x = enter_index (taken f n) (pass_blocks given env f.blocks h n) x ∙ blocks_index f.blocks h n x

  pub keeps : (f : Func) (h : Here) (n : ℕ) → Keeps f (passed f h n)
  keeps f h n = record {
    params = refl;
    leads = λ b. ap (λ l. slice_index_or l b [])
        (enter_leads (passed f h n) (taken f n) (pass_blocks given env f.blocks h n) (entry_goes f n)
        ∙ all_leads f (passed f h n) (index_same f h n) f.blocks h n);
  }

  -- a block of it is the instrumented form of the block, after what stands at the entry
  pub record CodeAt (is js : List Inst) : Type 0 where
    pub front : List Inst
    pub here : Here
    pub next : ℕ
    pub code : js ≡ front ++ (pass_insts given env is here next).code

  abbrev pub block_code : (bs : List Block) (h : Here) (n b : ℕ) → CodeAt (insts_in bs b) (insts_in (pass_blocks given env bs h n) b)
  block_code [] h n b = record { front = []; here = h; next = n; code = refl }
  block_code (k ∷ bs) h n zero = record { front = []; here = h; next = n; code = refl }
  block_code (k ∷ bs) h n (suc b) = block_code bs (here_after given h k.insts) (pass_insts given env k.insts h n).next b

  abbrev pub entered_code : (code : List Inst) (bs : List Block) (h : Here) (n b : ℕ)
      → CodeAt (insts_in bs b) (insts_in (enter_block code (pass_blocks given env bs h n)) b)
  entered_code code [] h n b = record { front = []; here = h; next = n; code = refl }
  entered_code code (k ∷ bs) h n zero = record { front = code; here = h; next = n; code = refl }
  entered_code code (k ∷ bs) h n (suc b) = block_code bs (here_after given h k.insts) (pass_insts given env k.insts h n).next b

  block_front : (bs : List Block) (h : Here) (n b : ℕ) → (block_code bs h n b).front ≡ []
  block_front [] h n b = refl
  block_front (k ∷ bs) h n zero = refl
  block_front (k ∷ bs) h n (suc b) = block_front bs (here_after given h k.insts) (pass_insts given env k.insts h n).next b

  -- only the first block has it
  pub front_entry : (code : List Inst) (bs : List Block) (h : Here) (n b : ℕ)
      → ((entered_code code bs h n b).front ≡ []) ⊎ ((b ≡ 0) × ((entered_code code bs h n b).front ≡ code))
  front_entry code [] h n b = inl refl
  front_entry code (k ∷ bs) h n zero = inr (refl, refl)
  front_entry code (k ∷ bs) h n (suc b) = inl (block_front bs (here_after given h k.insts) (pass_insts given env k.insts h n).next b)

  pub first_front : (code : List Inst) (bs : List Block) (h : Here) (n : ℕ) → Filled bs → (entered_code code bs h n 0).front ≡ code
  first_front code [] h n f = absurd f
  first_front code (k ∷ bs) h n f = refl

  abbrev pub code_at : (f : Func) (h : Here) (n b : ℕ) → CodeAt (insts_of f b) (insts_of (passed f h n) b)
  code_at f h n b = entered_code (taken f n) f.blocks h n b

  -- ---- what is set in a block

  -- y is set in the lists round each instruction whose result is x, or by it
  abbrev pub SetsWith : Name → Name → List Inst → Type 0
  SetsWith x y [] = Unit {0}
  SetsWith x y (i ∷ is) =
      ((h : Here) (n : ℕ) → i.result ≡ Some x → In (results ((emit_op given env h i n i.op).before ++ i ∷ (emit_op given env h i n i.op).after)) y) × SetsWith x y is

  pub set_with : (x y : Name) (is : List Inst) → SetsWith x y is → (h : Here) (n : ℕ) → In (results is) x → In (results (pass_insts given env is h n).code) y
  set_with x y [] s h n p = absurd p
  set_with x y (i ∷ is) s h n p = by_result i.result refl p (set_with x y is s.1 (next_here given h i) (emit_op given env h i n i.op).next)
    where
      code_split : (a c d : List Inst) (j : Inst) → (a ++ j ∷ c) ++ d ≡ a ++ (j ∷ (c ++ d))
      code_split a c d j = append_assoc a (j ∷ c) d

      from_round : In (results ((emit_op given env h i n i.op).before ++ i ∷ (emit_op given env h i n i.op).after)) y
          → In (results ((emit_op given env h i n i.op).before ++ (i ∷ ((emit_op given env h i n i.op).after
          ++ (pass_insts given env is (next_here given h i) (emit_op given env h i n i.op).next).code)))) y
      from_round q =
          let o = emit_op given env h i n i.op in
          let r = (pass_insts given env is (next_here given h i) o.next).code in
          subst (λ l. In (results l) y) (code_split o.before o.after r i)
          (subst (λ l. In l y) (sym (results_append (o.before ++ i ∷ o.after) r)) (in_left (results (o.before ++ i ∷ o.after)) (results r) y q))

      from_rest : In (results (pass_insts given env is (next_here given h i) (emit_op given env h i n i.op).next).code) y
          → In (results ((emit_op given env h i n i.op).before ++ (i ∷ ((emit_op given env h i n i.op).after
          ++ (pass_insts given env is (next_here given h i) (emit_op given env h i n i.op).next).code)))) y
      from_rest q =
          let o = emit_op given env h i n i.op in
          let r = (pass_insts given env is (next_here given h i) o.next).code in
          subst (λ l. In (results l) y) (code_split o.before o.after r i)
          (subst (λ l. In l y) (sym (results_append (o.before ++ i ∷ o.after) r)) (in_right (results (o.before ++ i ∷ o.after)) (results r) y q))

      by_result : (o : Option Name) → i.result ≡ o → In (cons_option o (results is)) x
          → (In (results is) x → In (results (pass_insts given env is (next_here given h i) (emit_op given env h i n i.op).next).code) y)
          → In (results (pass_insts given env (i ∷ is) h n).code) y
      by_result None a p go = from_rest (go p)
      by_result (Some z) a (inl e) go = from_round (s.0 h n (a ∙ ap Some e))
      by_result (Some z) a (inr p) go = from_rest (go p)

  -- ---- where the masks of results are set

  abbrev Both : ℕ → List Name → Type 0
  Both v names = In names (mask_name v) × In names (origin_name v)

  both_right : (v : ℕ) (a b : List Name) → Both v b → Both v (a ++ b)
  both_right v a b p = (in_right a b (mask_name v) p.0, in_right a b (origin_name v) p.1)

  both_left : (v : ℕ) (a b : List Name) → Both v a → Both v (a ++ b)
  both_left v a b p = (in_left a b (mask_name v) p.0, in_left a b (origin_name v) p.1)

  define_targets : (v : ℕ) (o : Op) (ts : List Tracked) → HasMask o → is_phi o ≡ false → is_own_call given.func o ≡ false → Both v (set_by (define_tasks given.func v o ts))
  define_targets v (op.Binary o f t a b) ts h e w = by_op o
    where
      by_op : (c : BinOp) → Both v (set_by (define_tasks given.func v (op.Binary c f t a b) ts))
      by_op binary.Shl = (inr (inl refl), inl refl)
      by_op binary.Lshr = (inr (inl refl), inl refl)
      by_op binary.Ashr = (inr (inl refl), inl refl)
      by_op _ = (inr (inl refl), inl refl)
  define_targets v (op.Icmp q f t a b) ts h e w = (inr (inl refl), inl refl)
  define_targets v (op.Cast o f t a u) ts h e w = (inr (inl refl), inl refl)
  define_targets v (op.Select c t a b) ts h e w = (inr (inl refl), inl refl)
  define_targets v (op.Freeze t a) ts h e w = (inr (inl refl), inl refl)
  define_targets v (op.Alloca t u c) ts h e w = (inr (inl refl), inl refl)
  define_targets v (op.Load t a) ts h e w = (inl refl, inr (inl refl))
  define_targets v (op.Gep t a is) ts h e w = (inr (inl refl), inl refl)
  define_targets v (op.Phi t es) ts h e w = grind arith
  define_targets v (op.Store t a b) ts h e w = absurd h
  define_targets v (op.Call r c as') ts h e w =
      subst (λ b. Both v (set_by (called_tasks b v (op.Call r c as') ts))) (sym w) (by_move (external_move (lookup externals c)))
    where
      by_move : (k : Option BitMove) → Both v (set_by (answer_tasks (mask_name v) (origin_name v) k (op.Call r c as') ts))
      by_move None = (inr (inl refl), inl refl)
      by_move (Some k) = (inr (inl refl), inl refl)
  define_targets v (op.Br to) ts h e w = absurd h
  define_targets v (op.CondBr c to other) ts h e w = absurd h
  define_targets v (op.Switch t a other cases) ts h e w = absurd h
  define_targets v (op.Ret a) ts h e w = absurd h
  define_targets v op.Unreachable ts h e w = absurd h

  pub result_is : (r : Option Name) (x : Name) (v : ℕ) (o : Op) (ts : List Tracked) → r ≡ Some x → env.number x ≡ Some v → env.clean x ≡ false
      → result_tasks given.func env r o ts ≡ define_tasks given.func v o ts
  result_is r x v o ts e k c =
      ap (λ q. result_tasks given.func env q o ts) e ∙ ap (λ b. if b then [] else elim (env.number x) as (λ w. List Task) [ Some w ↦ define_tasks given.func w o ts | None ↦ [] ]) c
      ∙ ap (λ q. elim q as (λ w. List Task) [ Some w ↦ define_tasks given.func w o ts | None ↦ [] ]) k

  -- a task sets its target
  ends_set : (code : List Inst) (r : Option Name) (o : Op) → results (code ++ inserted r o ∷ []) ≡ results code ++ cons_option r []
  ends_set code r o = results_append code (inserted r o ∷ [])

  task_ends : (t : Task) (n : ℕ) → (c : List Inst) × (results (task_code t n).code ≡ results c ++ cons_option (target t) [])
  task_ends (Sets x t e) n = ((half e n).code, ends_set (half e n).code (Some x) (set_op t (half e n).last))
  task_ends (Tries x o t a b) n = let l = flatten_all (parts (Tries x o t a b)) n in (l.code, ends_set l.code (Some x) (last_op (Tries x o t a b) l.operands))
  task_ends (Fetches x t a) n = let l = flatten_all (parts (Fetches x t a)) n in (l.code, ends_set l.code (Some x) (last_op (Fetches x t a) l.operands))
  task_ends (Puts t a b) n = let l = flatten_all (parts (Puts t a b)) n in (l.code, ends_set l.code None (last_op (Puts t a b) l.operands))
  task_ends (Calls x f args) n = let l = flatten_all args n in (l.code, ends_set l.code x (last_op (Calls x f args) l.operands))

  target_set : (ts : List Task) (n : ℕ) (x : Name) → In (set_by ts) x → In (results (tasks_code ts n).code) x
  target_set [] n x p = absurd p
  target_set (t ∷ ts) n x p =
      let c = task_code t n in
      let d = task_ends t n in
      subst (λ l. In l x) (sym (results_append c.code (tasks_code ts c.next).code))
      (by_target (target t) (results c.code) (results (tasks_code ts c.next).code) (results d.0) d.1 p (target_set ts c.next x))
    where
      by_target : (o : Option Name) (l r before : List Name) → l ≡ before ++ cons_option o [] → In (cons_option o (set_by ts)) x
          → (In (set_by ts) x → In r x) → In (l ++ r) x
      by_target None l r before e q go = in_right l r x (go q)
      by_target (Some y) l r before e (inl q) go = in_left l r x (subst (λ k. In k x) (sym e) (in_right before (y ∷ []) x (inl q)))
      by_target (Some y) l r before e (inr q) go = in_right l r x (go q)

  pub phi_sets : (root v : ℕ) (r : Option Name) (x : Name) (t : Ty) (es : List (Operand × Name)) → r ≡ Some x → env.number x ≡ Some v → env.clean x ≡ false
      → phi_code env root r t es ≡ phi_pair env v root t es
  phi_sets root v r x t es e k c =
      ap (λ q. phi_code env root q t es) e ∙ ap (λ q. elim q as (λ w. List Inst) [ Some w ↦ if env.clean x then [] else phi_pair env w root t es | None ↦ [] ]) k
      ∙ ap (λ b. if b then [] else phi_pair env v root t es) c

  both_targets : (v : ℕ) (ts : List Task) (n : ℕ) → Both v (set_by ts) → Both v (results (tasks_code ts n).code)
  both_targets v ts n p = (target_set ts n (mask_name v) p.0, target_set ts n (origin_name v) p.1)

  before_sets : (i : Inst) (x : Name) (v : ℕ) → i.result ≡ Some x → env.number x ≡ Some v → env.clean x ≡ false → (h : Here) (n : ℕ) → is_phi i.op ≡ false
      → is_own_call given.func i.op ≡ false → HasMask i.op
      → Both v (results (tasks_code (before_tasks given env h i n) (start given i n)).code)
  before_sets i x v e k c h n q w m =
      let ts = tracked env h.root (operands i.op) in
      let cs = check_tasks h.site ts (uses given.func h.main i.op) in
      let bs = blind_tasks (blinded_of given.func i.op ts) in
      let rs = result_tasks given.func env i.result i.op ts in
      let hs = hand_tasks given.func h.main i.op ts in
      let ss = save_tasks given.func n i.op ts in
      both_targets v (before_tasks given env h i n) (start given i n)
      (subst (Both v) (sym (filter_map-append target hs (cs ++ (bs ++ (rs ++ ss))))) (both_right v (set_by hs) (set_by (cs ++ (bs ++ (rs ++ ss))))
      (subst (Both v) (sym (filter_map-append target cs (bs ++ (rs ++ ss)))) (both_right v (set_by cs) (set_by (bs ++ (rs ++ ss)))
      (subst (Both v) (sym (filter_map-append target bs (rs ++ ss))) (both_right v (set_by bs) (set_by (rs ++ ss))
      (subst (Both v) (sym (filter_map-append target rs ss)) (both_left v (set_by rs) (set_by ss)
      (subst (λ l. Both v (set_by l)) (sym (result_is i.result x v i.op ts e k c)) (define_targets v i.op ts m q w))))))))))

  -- a value is taken from its slots
  pub value_taken : (mask origin : Operand) (y x : Name) (t : Ty) (v : ℕ) → y ≡ x → env.number x ≡ Some v → env.clean x ≡ false → take_value env mask origin y t ≡ take_tasks mask origin v t
  value_taken mask origin y x t v s k c =
      ap (λ z. take_value env mask origin z t) s
      ∙ ap (λ b. if b then [] else elim (env.number x) as (λ w. List Task) [ Some w ↦ take_tasks mask origin w t | None ↦ [] ]) c
      ∙ ap (λ q. elim q as (λ w. List Task) [ Some w ↦ take_tasks mask origin w t | None ↦ [] ]) k

  -- what stands after a call of a function of the module
  pub called_taken : (h : Here) (saved : ℕ) (x : Name) (v : ℕ) (t : Ty) (callee : Name) (args : List (Ty × Operand)) (ts : List Tracked) → env.number x ≡ Some v → env.clean x ≡ false
      → is_some (given.func callee) ≡ true → plane_tasks given env h saved (Some x) (op.Call (Some t) callee args) ts ≡ take_tasks result_mask_slot result_origin_slot v t
  called_taken h saved x v t callee args ts k c own =
      ap (λ b. callee_tasks env h.site (h.root + count_undefs args + 1) saved (Some x) (Some t) b (external_named given.func callee) ts) own
      ∙ value_taken result_mask_slot result_origin_slot x x t v refl k c

  plane_targets : (h : Here) (saved : ℕ) (x : Name) (v : ℕ) (o : Op) (ts : List Tracked) → env.number x ≡ Some v → env.clean x ≡ false → is_own_call given.func o ≡ true → HasMask o
      → Both v (set_by (plane_tasks given env h saved (Some x) o ts))
  plane_targets h saved x v (op.Call (Some t) callee args) ts k c own m =
      subst (λ l. Both v (set_by l)) (sym (called_taken h saved x v t callee args ts k c own)) (inl refl, inr (inl refl))
  plane_targets h saved x v (op.Call None callee args) ts k c own m = absurd m
  plane_targets h saved x v _ ts k c own m = absurd (true≢false (sym own))

  after_sets : (i : Inst) (x : Name) (v : ℕ) → i.result ≡ Some x → env.number x ≡ Some v → env.clean x ≡ false → (h : Here) (n m : ℕ) → is_own_call given.func i.op ≡ true → HasMask i.op
      → Both v (results (tasks_code (after_tasks given env h i n) m).code)
  after_sets i x v e k c h n m own has =
      both_targets v (after_tasks given env h i n) m
      (subst (λ r. Both v (set_by (plane_tasks given env h n r i.op (tracked env h.root (operands i.op))))) (sym e)
      (plane_targets h n x v i.op (tracked env h.root (operands i.op)) k c own has))

  -- the lists round an instruction set the mask and the origin of its result
  emit_sets : (i : Inst) (x : Name) (v : ℕ) → i.result ≡ Some x → env.number x ≡ Some v → env.clean x ≡ false → (h : Here) (n : ℕ) (o : Op) → i.op ≡ o → HasMask o
      → Both v (results ((emit_op given env h i n o).before ++ i ∷ (emit_op given env h i n o).after))
  emit_sets i x v e k c h n (op.Phi t es) is m =
      subst (λ l. Both v (results (i ∷ l))) (sym (phi_sets h.root v i.result x t es e k c))
      (subst (λ l. Both v l) (sym (results_append (i ∷ []) (phi_pair env v h.root t es)))
      (both_right v (results (i ∷ [])) (mask_name v ∷ origin_name v ∷ []) (inl refl, inr (inl refl))))
  emit_sets i x v e k c h n o is m =
      let a = tasks_code (before_tasks given env h i n) (start given i n) in
      let b = tasks_code (after_tasks given env h i n) a.next in
      subst (Both v) (sym (results_append a.code (i ∷ b.code))) (by_own (is_own_call given.func i.op) refl)
    where
      by_own : (w : Bool) → is_own_call given.func i.op ≡ w
          → Both v (results (tasks_code (before_tasks given env h i n) (start given i n)).code
          ++ results (i ∷ (tasks_code (after_tasks given env h i n) (tasks_code (before_tasks given env h i n) (start given i n)).next).code))
      by_own true w =
          let a = tasks_code (before_tasks given env h i n) (start given i n) in
          let b = tasks_code (after_tasks given env h i n) a.next in
          both_right v (results a.code) (results (i ∷ b.code))
          (subst (λ l. Both v l) (sym (results_append (i ∷ []) b.code))
          (both_right v (results (i ∷ [])) (results b.code) (after_sets i x v e k c h n a.next w (subst HasMask (sym is) m))))
      by_own false w =
          let a = tasks_code (before_tasks given env h i n) (start given i n) in
          let b = tasks_code (after_tasks given env h i n) a.next in
          both_left v (results a.code) (results (i ∷ b.code)) (before_sets i x v e k c h n (ap is_phi is) w (subst HasMask (sym is) m))

  masks_take : (x : Name) (p : ℕ) (is : List Inst) → Masks x is → Masks x (take p is)
  masks_take x zero is m = tt
  masks_take x (suc p) [] m = tt
  masks_take x (suc p) (i ∷ is) m = (m.0, masks_take x p is m.1)

  pub own_with : (x : Name) (is : List Inst) → SetsWith x x is
  own_with x [] = tt
  own_with x (i ∷ is) = (λ h n e. own i (emit_op given env h i n i.op).before (emit_op given env h i n i.op).after e, own_with x is)
    where
      own : (j : Inst) (a b : List Inst) → j.result ≡ Some x → In (results (a ++ j ∷ b)) x
      own j a b e = subst (λ l. In l x) (sym (results_append a (j ∷ b))) (in_right (results a) (results (j ∷ b)) x (subst (λ o. In (cons_option o (results b)) x) (sym e) (inl refl)))

  mask_with : (x : Name) (v : ℕ) → env.number x ≡ Some v → env.clean x ≡ false → (is : List Inst) → Masks x is → SetsWith x (mask_name v) is × SetsWith x (origin_name v) is
  mask_with x v k c [] m = (tt, tt)
  mask_with x v k c (i ∷ is) m =
      let rest = mask_with x v k c is m.1 in
      ((λ h n e. (emit_sets i x v e k c h n i.op refl (m.0 e)).0, rest.0), (λ h n e. (emit_sets i x v e k c h n i.op refl (m.0 e)).1, rest.1))

  -- ---- what is set at the entry

  take_targets : (k : ℕ) (ps : List (Ty × Name)) (x : Name) (v : ℕ) → env.number x ≡ Some v → env.clean x ≡ false → In (map (λ p. p.1) ps) x
      → Both v (set_by (take_parameters env k ps))
  take_targets k [] x v e c i = absurd i
  take_targets k (p ∷ ps) x v e c (inl s) =
      let first = take_value env (param_mask k) (param_origin k) p.1 p.0 in
      let rest = take_parameters env (suc k) ps in
      subst (Both v) (sym (filter_map-append target first rest)) (both_left v (set_by first) (set_by rest)
      (subst (λ l. Both v (set_by l)) (sym (value_taken (param_mask k) (param_origin k) p.1 x p.0 v s e c)) (inl refl, inr (inl refl))))
  take_targets k (p ∷ ps) x v e c (inr i) =
      let first = take_value env (param_mask k) (param_origin k) p.1 p.0 in
      let rest = take_parameters env (suc k) ps in
      subst (Both v) (sym (filter_map-append target first rest)) (both_right v (set_by first) (set_by rest) (take_targets (suc k) ps x v e c i))

  entry_sets : (f : Func) (n : ℕ) (x : Name) (v : ℕ) → env.number x ≡ Some v → env.clean x ≡ false → In (parameter_names f) x → Both v (results (taken f n))
  entry_sets f n x v e c i = both_targets v (take_parameters env 0 f.params) n (take_targets 0 f.params x v e c i)

  -- ---- places

  take_past : {A : Type 0} (a b : List A) (k : ℕ) → take (length a + k) (a ++ b) ≡ a ++ take k b
  take_past [] b k = ap (λ q. take q b) {x = 0 + k} {y = k} (omega arith)
  take_past (x ∷ a) b k = ap (λ q. take q (x ∷ (a ++ b))) {x = suc (length a) + k} {y = suc (length a + k)} (omega arith) ∙ ap (λ l. x ∷ l) (take_past a b k)

  in_take : (a b : List Inst) (q : ℕ) (y : Name) → length a ≤ q → In (results a) y → In (results (take q (a ++ b))) y
  in_take a b q y l i =
      let k = q - length a in
      subst (λ z. In (results (take z (a ++ b))) y) {x = length a + k} {y = q} (omega (arith, l))
      (subst (λ z. In (results z) y) (sym (take_past a b k)) (subst (λ z. In z y) (sym (results_append a (take k b))) (in_left (results a) (results (take k b)) y i)))

  -- a list in two parts
  pub pass_split : (is : List Inst) (p : ℕ) (h : Here) (n : ℕ) → (r : List Inst) × ((pass_insts given env is h n).code ≡ (pass_insts given env (take p is) h n).code ++ r)
  pass_split is zero h n = ((pass_insts given env is h n).code, refl)
  pass_split [] (suc p) h n = ([], refl)
  pass_split (i ∷ is) (suc p) h n =
      let o = emit_op given env h i n i.op in
      let r = pass_split is p (next_here given h i) o.next in
      let first = (pass_insts given env (take p is) (next_here given h i) o.next).code in (
        r.0,
        ap (λ l. o.before ++ (i ∷ (o.after ++ l))) r.1 ∙ ap (λ l. o.before ++ (i ∷ l)) (sym (append_assoc o.after first r.0))
            ∙ sym (append_assoc o.before (i ∷ (o.after ++ first)) r.0),
      )

  take_first : {A : Type 0} (a b : List A) → take (length a) (a ++ b) ≡ a
  take_first [] b = refl
  take_first (x ∷ a) b = ap (λ l. x ∷ l) (take_first a b)

  -- how many instructions stand before the lists round instruction p
  abbrev pub place : List Inst → ℕ → Here → ℕ → ℕ
  place is p h n = length (pass_insts given env (take p is) h n).code

  pub take_place : (is : List Inst) (p : ℕ) (h : Here) (n : ℕ) → take (place is p h n) (pass_insts given env is h n).code ≡ (pass_insts given env (take p is) h n).code
  take_place is p h n =
      let s = pass_split is p h n in
      ap (take (place is p h n)) s.1 ∙ take_first (pass_insts given env (take p is) h n).code s.0

  module _ (f : Func) (h : Here) (n : ℕ) where
    -- where the lists round instruction p of block b begin
    abbrev pub begins : ℕ → ℕ → ℕ
    begins b p = let c = code_at f h n b in length c.front + place (insts_of f b) p c.here c.next

    set_before : (x y : Name) (b p : ℕ) → SetsWith x y (take p (insts_of f b)) → In (results (take p (insts_of f b))) x
        → In (results (take (begins b p) (insts_of (passed f h n) b))) y
    set_before x y b p s q =
        let c = code_at f h n b in
        let all = (pass_insts given env (insts_of f b) c.here c.next).code in
        let code = (pass_insts given env (take p (insts_of f b)) c.here c.next).code in
        subst (λ l. In (results l) y)
        (sym (ap (take (begins b p)) c.code ∙ take_past c.front all (place (insts_of f b) p c.here c.next) ∙ ap (λ l. c.front ++ l) (take_place (insts_of f b) p c.here c.next)))
        (subst (λ l. In l y) (sym (results_append c.front code)) (in_right (results c.front) (results code) y (set_with x y (take p (insts_of f b)) s c.here c.next q)))

    set_block : (x y : Name) (b : ℕ) → SetsWith x y (insts_of f b) → In (block_results f b) x → In (block_results (passed f h n) b) y
    set_block x y b s q =
        let c = code_at f h n b in
        let code = (pass_insts given env (insts_of f b) c.here c.next).code in
        subst (λ l. In (results l) y) (sym c.code)
        (subst (λ l. In l y) (sym (results_append c.front code)) (in_right (results c.front) (results code) y (set_with x y (insts_of f b) s c.here c.next q)))

    abbrev rest : List Inst
    rest = let c = code_at f h n 0 in (pass_insts given env (insts_of f 0) c.here c.next).code

    -- what is taken at the entry is defined after it, and in all other blocks
    entry_defined : (y : Name) (b q : ℕ) → Filled f.blocks → In (results (taken f n)) y → (b ≡ 0 → length (taken f n) ≤ q) → IsDefined (passed f h n) (record { block = b; place = q; name = y })
    entry_defined y b q filled i l = defined_from_entry (passed f h n) b q y there here
      where
        first : insts_of (passed f h n) 0 ≡ taken f n ++ rest
        first = (code_at f h n 0).code ∙ ap (λ z. z ++ rest) (first_front (taken f n) f.blocks h n filled)

        there : In (block_results (passed f h n) 0) y
        there = subst (λ z. In (results z) y) (sym first) (subst (λ z. In z y) (sym (results_append (taken f n) rest)) (in_left (results (taken f n)) (results rest) y i))

        here : b ≡ 0 → In (results (take q (insts_of (passed f h n) b))) y
        here e =
            subst (λ c. In (results (take q (insts_of (passed f h n) c))) y) (sym e)
            (subst (λ z. In (results (take q z)) y) (sym first) (in_take (taken f n) rest q y (l e) i))

    begins_after : (b p : ℕ) → Filled f.blocks → b ≡ 0 → length (taken f n) ≤ begins b p
    begins_after b p filled e = subst (λ c. length (taken f n) ≤ begins c p) (sym e) (let same = ap length (first_front (taken f n) f.blocks h n filled) in omega (arith, same))

    ends_after : (b : ℕ) → Filled f.blocks → b ≡ 0 → length (taken f n) ≤ length (insts_of (passed f h n) b)
    ends_after b filled e =
        subst (λ c. length (taken f n) ≤ length (insts_of (passed f h n) c)) (sym e)
        (let c = code_at f h n 0 in
        let same = ap length (first_front (taken f n) f.blocks h n filled) in
        let whole = ap length c.code ∙ length-append c.front (pass_insts given env (insts_of f 0) c.here c.next).code in
        omega (arith, same, whole))

    -- a value of the function is defined at the lists round an instruction where it was defined at the instruction
    pub own_defined : (b p : ℕ) (x : Name) → IsDefined f (record { block = b; place = p; name = x }) → IsDefined (passed f h n) (record { block = b; place = begins b p; name = x })
    own_defined b p x d =
        defined_too f (passed f h n) (keeps f h n) x x (record { own = λ o. o; blocks = λ c. set_block x x c (own_with x (insts_of f c)) }) b p (begins b p)
        (set_before x x b p (own_with x (take p (insts_of f b)))) d

    -- and so are its mask and its origin, where it is not known to be clean
    pub masks_defined : (b p : ℕ) (x : Name) (v : ℕ) → env.number x ≡ Some v → env.clean x ≡ false → Filled f.blocks → ((c : ℕ) → Masks x (insts_of f c))
        → IsDefined f (record { block = b; place = p; name = x })
        → IsDefined (passed f h n) (record { block = b; place = begins b p; name = mask_name v })
        × IsDefined (passed f h n) (record { block = b; place = begins b p; name = origin_name v })
    masks_defined b p x v k c filled m d = by_test (has_name (parameter_names f) x) refl
      where
        result_defined : ¬ Contains (parameter_names f) x → IsDefined (passed f h n) (record { block = b; place = begins b p; name = mask_name v })
            × IsDefined (passed f h n) (record { block = b; place = begins b p; name = origin_name v })
        result_defined own = (
          defined_too f (passed f h n) (keeps f h n) x (mask_name v)
              (record { own = λ o. absurd (own o); blocks = λ a. set_block x (mask_name v) a (mask_with x v k c (insts_of f a) (m a)).0 }) b p (begins b p)
              (set_before x (mask_name v) b p (mask_with x v k c (take p (insts_of f b)) (masks_take x p (insts_of f b) (m b))).0) d,
          defined_too f (passed f h n) (keeps f h n) x (origin_name v)
              (record { own = λ o. absurd (own o); blocks = λ a. set_block x (origin_name v) a (mask_with x v k c (insts_of f a) (m a)).1 }) b p (begins b p)
              (set_before x (origin_name v) b p (mask_with x v k c (take p (insts_of f b)) (masks_take x p (insts_of f b) (m b))).1) d,
        )

        by_test : (t : Bool) → has_name (parameter_names f) x ≡ t → IsDefined (passed f h n) (record { block = b; place = begins b p; name = mask_name v })
            × IsDefined (passed f h n) (record { block = b; place = begins b p; name = origin_name v })
        by_test true e =
            let s = entry_sets f n x v k c (to_in (parameter_names f) x (name_within (parameter_names f) x e)) in
            (entry_defined (mask_name v) b (begins b p) filled s.0 (begins_after b p filled), entry_defined (origin_name v) b (begins b p) filled s.1 (begins_after b p filled))
        by_test false e = result_defined (λ i. true≢false (sym (within_name (parameter_names f) x i) ∙ e))

    -- the same at the end of a block
    take_all : {A : Type 0} (l : List A) → take (length l) l ≡ l
    take_all [] = refl
    take_all (x ∷ l) = ap (λ k. x ∷ k) (take_all l)

    end_set : (x y : Name) (b : ℕ) → SetsWith x y (insts_of f b) → In (results (take (length (insts_of f b)) (insts_of f b))) x
        → In (results (take (length (insts_of (passed f h n) b)) (insts_of (passed f h n) b))) y
    end_set x y b s q =
        subst (λ l. In (results l) y) (sym (take_all (insts_of (passed f h n) b)))
        (set_block x y b s (subst (λ l. In (results l) x) (take_all (insts_of f b)) q))

    pub own_defined_end : (b : ℕ) (x : Name) → IsDefined f (record { block = b; place = length (insts_of f b); name = x })
        → IsDefined (passed f h n) (record { block = b; place = length (insts_of (passed f h n) b); name = x })
    own_defined_end b x d =
        defined_too f (passed f h n) (keeps f h n) x x (record { own = λ o. o; blocks = λ c. set_block x x c (own_with x (insts_of f c)) }) b (length (insts_of f b))
        (length (insts_of (passed f h n) b)) (end_set x x b (own_with x (insts_of f b))) d

    pub masks_defined_end : (b : ℕ) (x : Name) (v : ℕ) → env.number x ≡ Some v → env.clean x ≡ false → Filled f.blocks → ((c : ℕ) → Masks x (insts_of f c))
        → IsDefined f (record { block = b; place = length (insts_of f b); name = x })
        → IsDefined (passed f h n) (record { block = b; place = length (insts_of (passed f h n) b); name = mask_name v })
        × IsDefined (passed f h n) (record { block = b; place = length (insts_of (passed f h n) b); name = origin_name v })
    masks_defined_end b x v k c filled m d = by_test (has_name (parameter_names f) x) refl
      where
        result_defined : ¬ Contains (parameter_names f) x → IsDefined (passed f h n) (record { block = b; place = length (insts_of (passed f h n) b); name = mask_name v })
            × IsDefined (passed f h n) (record { block = b; place = length (insts_of (passed f h n) b); name = origin_name v })
        result_defined own = (
          defined_too f (passed f h n) (keeps f h n) x (mask_name v)
              (record { own = λ o. absurd (own o); blocks = λ a. set_block x (mask_name v) a (mask_with x v k c (insts_of f a) (m a)).0 }) b (length (insts_of f b))
              (length (insts_of (passed f h n) b)) (end_set x (mask_name v) b (mask_with x v k c (insts_of f b) (m b)).0) d,
          defined_too f (passed f h n) (keeps f h n) x (origin_name v)
              (record { own = λ o. absurd (own o); blocks = λ a. set_block x (origin_name v) a (mask_with x v k c (insts_of f a) (m a)).1 }) b (length (insts_of f b))
              (length (insts_of (passed f h n) b)) (end_set x (origin_name v) b (mask_with x v k c (insts_of f b) (m b)).1) d,
        )

        by_test : (t : Bool) → has_name (parameter_names f) x ≡ t → IsDefined (passed f h n) (record { block = b; place = length (insts_of (passed f h n) b); name = mask_name v })
            × IsDefined (passed f h n) (record { block = b; place = length (insts_of (passed f h n) b); name = origin_name v })
        by_test true e =
            let q = length (insts_of (passed f h n) b) in
            let s = entry_sets f n x v k c (to_in (parameter_names f) x (name_within (parameter_names f) x e)) in
            (entry_defined (mask_name v) b q filled s.0 (ends_after b filled), entry_defined (origin_name v) b q filled s.1 (ends_after b filled))
        by_test false e = result_defined (λ i. true≢false (sym (within_name (parameter_names f) x i) ∙ e))
