-- A jump of the instrumented module follows the shadow run's.
use Rattle.std.proofs.Common.{◌≡◌, ◌≢◌, ℕ, zero, suc, ◌+◌, ◌*◌, ◌≤◌, List, [], ◌∷◌, ◌++◌, Bool, true, false, Option, Some, None, refl, sym, ap, ◌∙◌, subst, arith}
use Rattle.std.specs.Prelude.{if◌then◌else◌, filter, cond, not, take, drop}
use Rattle.std.proofs.Math.Path.{ap₂}
use Rattle.ms_ir.specs.declared.syntax.Name.{Name}
use Rattle.ms_ir.specs.declared.syntax.Ty.{Ty}
use Rattle.ms_ir.specs.declared.syntax.Operand.{Operand}
use Rattle.ms_ir.specs.declared.syntax.Inst.{Inst}
use Rattle.ms_ir.specs.declared.syntax.Op.{Op}
use Rattle.ms_ir.specs.declared.syntax.Op.TheVariants as op
use Rattle.ms_ir.specs.declared.syntax.Block.{Block}
use Rattle.ms_ir.specs.declared.syntax.Func.{Func}
use Rattle.ms_ir.specs.declared.syntax.Module.{Module}
use Rattle.ms_ir.specs.Names.{name_eq, main_name}
use Rattle.ms_runs.specs.World.{World, Setting, Here}
use Rattle.ms_ir.specs.Instructions.{func_index, blocks_at, insts_at, block_index, over_blocks, over_funcs, one_unmarked, roots_in, root_at, is_unmarked, strip}
use Rattle.ms_runs.specs.Control.{Frame, here, rest_of, block_name, count_phis, phis, jumped, params_at}
use Rattle.ms_runs.specs.Act.{plain_reading}
use Rattle.ms_runs.specs.Poisoned.{Poisoned}
use Rattle.ms_runs.specs.Shadow.{shadow_reading}
use Rattle.ms_pass_tasks.specs.Tasks.{tasks_code}
use Rattle.ms_pass_tasks.specs.Meaning.{AllMarked}
use Rattle.ms_pass_tasks.specs.Environments.{Env, Given}
use Rattle.ms_pass_tasks.specs.Emit.{before_tasks, after_tasks, start}
use Rattle.ms_pass_tasks.specs.Known.{OneName, KnownPhis, PhiRoots}
use Rattle.ms_pass_tasks.specs.PassLists.{emit_op, phi_code, phi_pair, next_here, pass_insts, here_past}
use Rattle.ms_pass_tasks.specs.Match.{Matches, RangedValues}
use Rattle.ms_pass_tasks.specs.InstructionLaw.{given_of}
use Rattle.ms_pass_tasks.proofs.Marked.{tasks_more, tasks_marked}
use Rattle.ms_pass_tasks.proofs.Phis.{Raw, raw_of, raw_matches, jump_raw, jump_rest}
use Rattle.ms_pass_laws.specs.Pass.{Numbering, here_after, pass_blocks, entry_code, enter_block, pass_funcs, pass}
use Rattle.ms_pass_laws.specs.Law.{TopFollows}
use Rattle.ms_pass_laws.proofs.Places.{frame_at, drop_step, here_step, insts_in, blocks_in, params_in, name_of, func_name_of}
use Rattle.ms_runs_laws.proofs.Numbering.{here_agrees}

-- ---- names of blocks

block_found : (given : Given) (env : Env) (bs : List Block) (h : Here) (n : ℕ) (to : Name) → block_index (pass_blocks given env bs h n) to ≡ block_index bs to
block_found given env [] h n to = refl
block_found given env (b ∷ bs) h n to =
    ap (λ k. if name_eq b.name to then 0 else suc k) (block_found given env bs (here_after given h b.insts) (pass_insts given env b.insts h n).next to)

block_named : (given : Given) (env : Env) (bs : List Block) (h : Here) (n b : ℕ) → name_of (pass_blocks given env bs h n) b ≡ name_of bs b
block_named given env [] h n b = refl
block_named given env (k ∷ bs) h n zero = refl
block_named given env (k ∷ bs) h n (suc b) = block_named given env bs (here_after given h k.insts) (pass_insts given env k.insts h n).next b

enter_found : (code : List Inst) (bs : List Block) (to : Name) → block_index (enter_block code bs) to ≡ block_index bs to
enter_found code [] to = refl
enter_found code (b ∷ bs) to = refl

enter_named : (code : List Inst) (bs : List Block) (b : ℕ) → name_of (enter_block code bs) b ≡ name_of bs b
enter_named code [] b = refl
enter_named code (k ∷ bs) zero = refl
enter_named code (k ∷ bs) (suc b) = refl

enter_later : (code : List Inst) (bs : List Block) (b : ℕ) → insts_in (enter_block code bs) (suc b) ≡ insts_in bs (suc b)
enter_later code [] b = refl
enter_later code (k ∷ bs) b = refl

pub enter_first : (code : List Inst) (bs : List Block) → (bs ≡ [] → code ≡ []) → insts_in (enter_block code bs) 0 ≡ code ++ insts_in bs 0
enter_first code [] e = sym (ap (λ l. l ++ []) (e refl))
enter_first code (k ∷ bs) e = refl

pub none_passed : (given : Given) (env : Env) (bs : List Block) (h : Here) (n : ℕ) → pass_blocks given env bs h n ≡ [] → bs ≡ []
none_passed given env [] h n e = refl
none_passed given env (b ∷ bs) h n e = grind arith

-- ---- where a block begins

op_more : (given : Given) (env : Env) (h : Here) (i : Inst) (n : ℕ) (o : Op) → n ≤ (emit_op given env h i n o).next
op_more given env h i n (op.Phi t es) = omega arith
op_more given env h i n _ =
    let m = start given i n in
    omega (arith, tasks_more (before_tasks given env h i n) m, tasks_more (after_tasks given env h i n) (tasks_code (before_tasks given env h i n) m).next)

insts_more : (given : Given) (env : Env) (is : List Inst) (h : Here) (n : ℕ) → n ≤ (pass_insts given env is h n).next
insts_more given env [] h n = omega arith
insts_more given env (i ∷ is) h n =
    omega (arith, op_more given env h i n i.op, insts_more given env is (next_here given h i) (emit_op given env h i n i.op).next)

-- where a block begins
abbrev here_block : Given → Here → List Block → ℕ → Here
here_block given h bs b = record {
  site = h.site + over_blocks one_unmarked (take b bs);
  root = h.root + over_blocks (roots_in given.func) (take b bs);
  main = h.main;
}

-- a block of the instrumented function is the instrumented form of the block, from some free number on
record Begins (given : Given) (env : Env) (bs : List Block) (h : Here) (n b : ℕ) : Type 0 where
  pub next : ℕ
  pub more : n ≤ next
  pub code : insts_in (pass_blocks given env bs h n) b ≡ (pass_insts given env (insts_in bs b) (here_block given h bs b) next).code

block_begins : (given : Given) (env : Env) (bs : List Block) (h : Here) (n b : ℕ) → Begins given env bs h n b
block_begins given env [] h n b = record { next = n; more = omega arith; code = refl }
block_begins given env (k ∷ bs) h n zero = record {
  next = n;
  more = omega arith;
  code = ap₂ (λ x y. (pass_insts given env k.insts (let z : Here = record { site = x; root = y; main = h.main } in z) n).code) (none h.site) (none h.root);
}
  where
    none : (x : ℕ) → x ≡ x + 0
    none x = omega arith
block_begins given env (k ∷ bs) h n (suc b) =
    let r = block_begins given env bs (here_after given h k.insts) (pass_insts given env k.insts h n).next b in
    record {
      next = r.next;
      more = omega (arith, r.more, insts_more given env k.insts h n);
      code = r.code
          ∙ ap₂ (λ x y. (pass_insts given env (insts_in bs b) (let z : Here = record { site = x; root = y; main = h.main } in z) r.next).code) (sums h.site _ _) (sums h.root _ _);
    }
  where
    sums : (x y z : ℕ) → x + y + z ≡ x + (y + z)
    sums x y z = omega arith

func_begins : (given : Given) (fs : List Func) (f : ℕ) (numbers : ℕ → Numbering) (site root : ℕ)
    → blocks_in (pass_funcs given numbers fs site root) f
    ≡ enter_block (entry_code (numbers f).env (params_in fs f) (2 * (numbers f).size + 1)) (pass_blocks given (numbers f).env (blocks_in fs f)
    (record { site = site + over_funcs one_unmarked (take f fs); root = root + over_funcs (roots_in given.func) (take f fs); main = name_eq (func_name_of fs f) main_name })
    (2 * (numbers f).size + 1))
func_begins given [] f numbers site root = refl
func_begins given (g ∷ fs) zero numbers site root =
    ap₂ (λ x y. enter_block (entry_code (numbers 0).env g.params (2 * (numbers 0).size + 1)) (pass_blocks given (numbers 0).env g.blocks (let z : Here = record { site = x; root = y; main = name_eq g.name main_name } in z) (2 * (numbers 0).size + 1))) (none site) (none root)
  where
    none : (x : ℕ) → x ≡ x + 0
    none x = omega arith
func_begins given (g ∷ fs) (suc f) numbers site root =
    func_begins given fs f (λ k. numbers (k + 1)) (site + over_blocks one_unmarked g.blocks) (root + over_blocks (roots_in given.func) g.blocks)
    ∙ ap (λ k. enter_block (entry_code (numbers k).env (params_in fs f) (2 * (numbers k).size + 1)) (pass_blocks given (numbers k).env (blocks_in fs f) (let z : Here = record {
      site = site + over_blocks one_unmarked g.blocks + over_funcs one_unmarked (take f fs);
      root = root + over_blocks (roots_in given.func) g.blocks + over_funcs (roots_in given.func) (take f fs);
      main = name_eq (func_name_of fs f) main_name;
    } in z) (2 * (numbers k).size + 1))) later
    ∙ ap₂ (λ x y. enter_block (entry_code (numbers (suc f)).env (params_in fs f) (2 * (numbers (suc f)).size + 1)) (pass_blocks given (numbers (suc f)).env (blocks_in fs f) (let z : Here = record { site = x; root = y; main = name_eq (func_name_of fs f) main_name } in z) (2 * (numbers (suc f)).size + 1))) (sums site _ _) (sums root _ _)
  where
    sums : (x y z : ℕ) → x + y + z ≡ x + (y + z)
    sums x y z = omega arith

    later : f + 1 ≡ suc f
    later = omega arith

-- ---- what is inserted is gone when marked instructions are

-- all instructions are marked
abbrev pub AllGone : List Inst → Type 0
AllGone [] = Unit {0}
AllGone (i ∷ is) = (i.marked ≡ true) × AllGone is

pub gone : (a b : List Inst) → AllGone a → filter is_unmarked (a ++ b) ≡ filter is_unmarked b
gone [] b h = refl
gone (i ∷ a) b h = ap (λ k. cond (not k) (i ∷ filter is_unmarked (a ++ b)) (filter is_unmarked (a ++ b))) h.0 ∙ gone a b h.1

pub gone_tasks : (l : List Inst) → AllMarked l → AllGone l
gone_tasks [] h = tt
gone_tasks (i ∷ l) h = (h.0, gone_tasks l h.2)

gone_phi : (env : Env) (root : ℕ) (x : Option Name) (t : Ty) (es : List (Operand × Name)) → AllGone (phi_code env root x t es)
gone_phi env root None t es = tt
gone_phi env root (Some x) t es = by_number (env.number x) (env.clean x)
  where
    by_number : (o : Option ℕ) (b : Bool) → AllGone (elim o [ Some v ↦ if b then [] else phi_pair env v root t es | None ↦ [] ])
    by_number (Some v) true = tt
    by_number (Some v) false = (refl, (refl, tt))
    by_number None b = tt

pub insts_strip : (given : Given) (env : Env) (is : List Inst) (h : Here) (n : ℕ) → filter is_unmarked (pass_insts given env is h n).code ≡ filter is_unmarked is
insts_strip given env [] h n = refl
insts_strip given env (i ∷ is) h n = by_op i.op (λ k. insts_strip given env is (next_here given h i) k)
  where
    by_op : (o : Op) → ((k : ℕ) → filter is_unmarked (pass_insts given env is (next_here given h i) k).code ≡ filter is_unmarked is)
        → filter is_unmarked ((emit_op given env h i n o).before
        ++ (i ∷ ((emit_op given env h i n o).after
        ++ (pass_insts given env is (next_here given h i) (emit_op given env h i n o).next).code)))
        ≡ filter is_unmarked (i ∷ is)
    by_op (op.Phi t es) go = ap (λ l. cond (not i.marked) (i ∷ l) l) (gone (phi_code env h.root i.result t es) _ (gone_phi env h.root i.result t es) ∙ go n)
    by_op _ go =
        let x = tasks_code (before_tasks given env h i n) (start given i n) in
        let y = tasks_code (after_tasks given env h i n) x.next in
        gone x.code _ (gone_tasks x.code (tasks_marked (before_tasks given env h i n) (start given i n)))
        ∙ ap (λ l. cond (not i.marked) (i ∷ l) l) (gone y.code _ (gone_tasks y.code (tasks_marked (after_tasks given env h i n) x.next)) ∙ go y.next)

pub all_kept : (env : Env) (size : ℕ) (is : List Inst) → KnownPhis env size is → filter is_unmarked is ≡ is
all_kept env size [] k = refl
all_kept env size (i ∷ is) k = ap (λ b. cond (not b) (i ∷ filter is_unmarked is) (filter is_unmarked is)) k.0 ∙ ap (λ l. i ∷ l) (all_kept env size is k.2)

pub known_drop : (env : Env) (size n : ℕ) (is : List Inst) → KnownPhis env size is → KnownPhis env size (drop n is)
known_drop env size zero is k = k
known_drop env size (suc n) [] k = tt
known_drop env size (suc n) (i ∷ is) k = known_drop env size n is k.2

-- ---- the jump

module _ (s : Setting) (numbers : ℕ → Numbering) (m : Module) (strips : strip (pass numbers m) ≡ m)
    (same_given : given_of s ≡ (let g : Given = record { types = m.types; func = func_index m.funcs } in g)) where
  -- the first instruction of a block
  abbrev at_block : Frame Poisoned → ℕ → Frame Poisoned
  at_block f b = record { func = f.func; block = b; place = 0; values = f.values; mark = f.mark; heap = f.heap }

  -- where a function begins
  abbrev start_of : ℕ → Here
  start_of f = record { site = 1 + over_funcs one_unmarked (take f m.funcs); root = 0 + over_funcs (roots_in s.func) (take f m.funcs); main = name_eq (func_name_of m.funcs f) main_name }

  -- the blocks of a function
  blocks_are : (f : ℕ) → blocks_at (pass numbers m) f
      ≡ enter_block (entry_code (numbers f).env (params_at m f) (2 * (numbers f).size + 1)) (pass_blocks (given_of s) (numbers f).env (blocks_at m f) (start_of f) (2 * (numbers f).size + 1))
  blocks_are f = ap (λ g. blocks_in (pass_funcs g numbers m.funcs 1 0) f) (sym same_given) ∙ func_begins (given_of s) m.funcs f numbers 1 0

  past_entry : (code : List Inst) (bs : List Block) (b : ℕ) → b ≢ 0 → insts_in (enter_block code bs) b ≡ insts_in bs b
  past_entry code bs zero ne = absurd (ne refl)
  past_entry code bs (suc b) ne = enter_later code bs b

  block_start : (f : Frame Poisoned) (b : ℕ) → b ≢ 0
      → (next : ℕ) × (2 * (numbers f.func).size + 1 ≤ next) × (insts_at (pass numbers m) f.func b ≡ (pass_insts (given_of s) (numbers f.func).env (insts_at m f.func b) (here s m (at_block f b)) next).code)
  block_start f b ne = (
    r.next,
    r.more,
    ap (λ l. insts_in l b) (blocks_are f.func)
        ∙ past_entry (entry_code (numbers f.func).env (params_at m f.func) (2 * (numbers f.func).size + 1)) (pass_blocks (given_of s) (numbers f.func).env (blocks_at m f.func) (start_of f.func) (2 * (numbers f.func).size + 1)) b ne
        ∙ r.code
        ∙ ap₂ (λ x y. (pass_insts (given_of s) (numbers f.func).env (insts_at m f.func b) (let z : Here = record { site = x; root = y; main = name_eq (func_name_of m.funcs f.func) main_name } in z) r.next).code)
        (sites _ _) (roots _ _),
  )
    where
      r : Begins (given_of s) (numbers f.func).env (blocks_in m.funcs f.func) (start_of f.func) (2 * (numbers f.func).size + 1) b
      r = block_begins (given_of s) (numbers f.func).env (blocks_in m.funcs f.func) (start_of f.func) (2 * (numbers f.func).size + 1) b

      sites : (x y : ℕ) → 1 + x + y ≡ 1 + (x + y + 0)
      sites x y = omega arith

      roots : (x y : ℕ) → 0 + x + y ≡ x + y + 0
      roots x y = omega arith

  -- the entry block, which takes the parameters first
  pub entry_start : (f : Frame Poisoned) → (blocks_at m f.func ≡ [] → params_at m f.func ≡ [])
      → (next : ℕ) × (2 * (numbers f.func).size + 1 ≤ next) × (insts_at (pass numbers m) f.func 0
      ≡ entry_code (numbers f.func).env (params_at m f.func) (2 * (numbers f.func).size + 1)
      ++ (pass_insts (given_of s) (numbers f.func).env (insts_at m f.func 0) (here s m (at_block f 0)) next).code)
  entry_start f body = (
    r.next,
    r.more,
    ap (λ l. insts_in l 0) (blocks_are f.func)
        ∙ enter_first code bs (λ e. ap (λ ps. entry_code (numbers f.func).env ps (2 * (numbers f.func).size + 1)) (body (none_passed (given_of s) (numbers f.func).env (blocks_at m f.func) (start_of f.func) (2 * (numbers f.func).size + 1) e)))
        ∙ ap (λ l. code ++ l) (r.code
        ∙ ap₂ (λ x y. (pass_insts (given_of s) (numbers f.func).env (insts_at m f.func 0) (let z : Here = record { site = x; root = y; main = name_eq (func_name_of m.funcs f.func) main_name } in z) r.next).code)
        (sites _ _) (roots _ _)),
  )
    where
      code : List Inst
      code = entry_code (numbers f.func).env (params_at m f.func) (2 * (numbers f.func).size + 1)

      bs : List Block
      bs = pass_blocks (given_of s) (numbers f.func).env (blocks_at m f.func) (start_of f.func) (2 * (numbers f.func).size + 1)

      r : Begins (given_of s) (numbers f.func).env (blocks_in m.funcs f.func) (start_of f.func) (2 * (numbers f.func).size + 1) 0
      r = block_begins (given_of s) (numbers f.func).env (blocks_in m.funcs f.func) (start_of f.func) (2 * (numbers f.func).size + 1) 0

      sites : (x y : ℕ) → 1 + x + y ≡ 1 + (x + y + 0)
      sites x y = omega arith

      roots : (x y : ℕ) → 0 + x + y ≡ x + y + 0
      roots x y = omega arith

  -- after the phis
  past_here : (l : List Inst) (f : Frame Poisoned) → rest_of m f ≡ l → here_past s.func (here s m f) l ≡ here s m (frame_at f (f.place + count_phis l) f.values)
  past_here [] f e = let p : f.place ≡ f.place + 0 = omega arith in ap (λ n. here s m (frame_at f n f.values)) p
  past_here (i ∷ is) f e = by_op i.op i.result i.marked e (past_here is (frame_at f (f.place + 1) f.values) (drop_step _ f.place i is e))
    where
      by_op : (o : Op) (x : Option Name) (b : Bool) → rest_of m f ≡ record { op = o; result = x; marked = b } ∷ is
          → here_past s.func (here s m (frame_at f (f.place + 1) f.values)) is ≡ here s m (frame_at f (f.place + 1 + count_phis is) f.values)
          → here_past s.func (here s m f) (record { op = o; result = x; marked = b } ∷ is) ≡ here s m (frame_at f (f.place + count_phis (record { op = o; result = x; marked = b } ∷ is)) f.values)
      by_op (op.Phi t es) x b e go =
          let p : f.place + 1 + count_phis is ≡ f.place + suc (count_phis is) = omega arith in
          ap (λ h. here_past s.func h is) (sym (here_step s m f f.values (record { op = op.Phi t es; result = x; marked = b }) is e)) ∙ go ∙ ap (λ n. here s m (frame_at f n f.values)) p
      by_op _ x b e go = let p : f.place ≡ f.place + 0 = omega arith in ap (λ n. here s m (frame_at f n f.values)) p

  pub jump_follows : (f : Frame Poisoned) (names : Name → ℕ) (p : ℕ) (cells : ℕ → ℕ) (w : World) (to : Name)
      → Matches (numbers f.func).env f.values names → RangedValues f.values → OneName (numbers f.func).env
      → KnownPhis (numbers f.func).env (numbers f.func).size (insts_at m f.func (block_index (blocks_at m f.func) to))
      → PhiRoots s.func (insts_at m f.func (block_index (blocks_at m f.func) to)) (here s m (at_block f (block_index (blocks_at m f.func) to))).root
      → block_index (blocks_at m f.func) to ≢ 0
      → ((x : Name) → (numbers f.func).env.clean x ≡ true → ((jumped shadow_reading s m to f).values x).mask ≡ 0)
      → TopFollows s numbers m (jumped shadow_reading s m to f) w
      (jumped plain_reading s (pass numbers m) to (record { func = f.func; block = f.block; place = p; values = names; mark = f.mark; heap = f.heap })) cells w
  jump_follows f names p cells w to matches ranged one known roots inner cleans = record {
    same_func = refl;
    same_block = same_block;
    same_mark = refl;
    same_heap = refl;
    stands = here_agrees s (pass numbers m) m strips g' f' refl same_block left;
    waiting = [];
    marked = tt;
    no_block = tt;
    next = start.0;
    room = start.1;
    rest = rest;
    after = record { names = g'.values; slots = cells };
    runs = refl;
    matches = raw_matches env f'.values g'.values raw cleans;
    sees = λ e. refl;
  }
    where
      env : Env
      env = (numbers f.func).env

      b : ℕ
      b = block_index (blocks_at m f.func) to

      is : List Inst
      is = insts_at m f.func (block_index (blocks_at m f.func) to)

      g : Frame ℕ
      g = record { func = f.func; block = f.block; place = p; values = names; mark = f.mark; heap = f.heap }

      f' : Frame Poisoned
      f' = jumped shadow_reading s m to f

      g' : Frame ℕ
      g' = jumped plain_reading s (pass numbers m) to (record { func = f.func; block = f.block; place = p; values = names; mark = f.mark; heap = f.heap })

      code : List Inst
      code = entry_code (numbers f.func).env (params_at m f.func) (2 * (numbers f.func).size + 1)

      bs : List Block
      bs = pass_blocks (given_of s) (numbers f.func).env (blocks_at m f.func) (start_of f.func) (2 * (numbers f.func).size + 1)

      same_block : block_index (blocks_at (pass numbers m) f.func) to ≡ block_index (blocks_at m f.func) to
      same_block = ap (λ l. block_index l to) (blocks_are f.func) ∙ enter_found code bs to ∙ block_found (given_of s) (numbers f.func).env (blocks_at m f.func) _ _ to

      from : block_name (pass numbers m) f.func f.block ≡ block_name m f.func f.block
      from = ap (λ l. name_of l f.block) (blocks_are f.func) ∙ enter_named code bs f.block ∙ block_named (given_of s) (numbers f.func).env (blocks_at m f.func) _ _ f.block

      start : (next : ℕ) × (2 * (numbers f.func).size + 1 ≤ next) × (insts_at (pass numbers m) f.func b ≡ (pass_insts (given_of s) (numbers f.func).env (insts_at m f.func b) (here s m (at_block f b)) next).code)
      start = block_start f b inner

      insts : insts_at (pass numbers m) f.func (block_index (blocks_at (pass numbers m) f.func) to) ≡ (pass_insts (given_of s) (numbers f.func).env is (here s m (at_block f b)) start.0).code
      insts = ap (insts_at (pass numbers m) f.func) same_block ∙ start.2

      beyond : rest_of (pass numbers m) g' ≡ (pass_insts (given_of s) (numbers f.func).env (drop (count_phis is) is) (here_past s.func (here s m (at_block f b)) is) start.0).code
      beyond = ap (λ l. drop (count_phis l) l) insts
          ∙ jump_rest (given_of s) (numbers f.func).env (numbers f.func).size is known (here s m (at_block f b)) start.0

      stands_at : here_past s.func (here s m (at_block f b)) is ≡ here s m f'
      stands_at = past_here is (at_block f b) refl ∙ ap (λ n. here s m (frame_at (at_block f b) n f.values)) (none (count_phis is))
        where
          none : (c : ℕ) → 0 + c ≡ c
          none c = omega arith

      rest : rest_of (pass numbers m) g' ≡ (pass_insts (given_of s) (numbers f.func).env (rest_of m f') (here s m f') start.0).code
      rest = beyond ∙ ap (λ h. (pass_insts (given_of s) (numbers f.func).env (drop (count_phis is) is) h start.0).code) stands_at

      left : filter is_unmarked (rest_of (pass numbers m) g') ≡ rest_of m f'
      left = ap (filter is_unmarked) rest ∙ insts_strip (given_of s) (numbers f.func).env (rest_of m f') (here s m f') start.0
          ∙ all_kept (numbers f.func).env (numbers f.func).size (rest_of m f') (known_drop (numbers f.func).env (numbers f.func).size (count_phis is) is known)

      raw : Raw (numbers f.func).env f'.values g'.values
      raw = subst (λ l. Raw (numbers f.func).env f'.values (phis (plain_reading.read s names) 0 s.func (block_name (pass numbers m) f.func f.block) l
          (root_at s.func (pass numbers m) f.func (block_index (blocks_at (pass numbers m) f.func) to) 0) names)) (sym insts)
          (subst (λ n. Raw (numbers f.func).env f'.values (phis (plain_reading.read s names) 0 s.func n (pass_insts (given_of s) (numbers f.func).env is (here s m (at_block f b)) start.0).code
          (root_at s.func (pass numbers m) f.func (block_index (blocks_at (pass numbers m) f.func) to) 0) names)) (sym from)
          (jump_raw (given_of s) s (numbers f.func).env (numbers f.func).size one f.values names matches ranged (block_name m f.func f.block) is known
          (here s m (at_block f b)) start.0 (root_at s.func (pass numbers m) f.func (block_index (blocks_at (pass numbers m) f.func) to) 0) roots f.values names (raw_of (numbers f.func).env f.values names matches)))
