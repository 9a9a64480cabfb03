-- The instrumented form strips to the module, and its plain runs are the module's shadow runs.
use Rattle.std.proofs.Common.{◌≡◌, ℕ, zero, suc, ◌+◌, ◌*◌, List, [], ◌∷◌, ◌++◌, Bool, true, false, Option, Some, None, refl, sym, ap, ◌∙◌, arith}
use Rattle.std.specs.Prelude.{if◌then◌else◌, map, filter, not, take, option_map, unwrap_or, slice_get}
use Rattle.std.proofs.Math.Path.{ap₂}
use Rattle.std.proofs.lemmas.List.Elements.{filter-append}
use Rattle.ms_ir.specs.declared.syntax.Name.{Name}
use Rattle.ms_ir.specs.declared.syntax.Operand.TheVariants as operand
use Rattle.ms_ir.specs.declared.syntax.Inst.{Inst}
use Rattle.ms_ir.specs.declared.syntax.Block.{Block}
use Rattle.ms_ir.specs.declared.syntax.Func.{Func}
use Rattle.ms_ir.specs.declared.syntax.Module.{Module}
use Rattle.ms_runs.specs.declared.runs.Setup.{Setup}
use Rattle.ms_ir.specs.Names.{name_eq, is_reserved, main_name}
use Rattle.ms_runs.specs.World.{Here}
use Rattle.ms_ir.specs.Instructions.{func_index, insts_at, over_blocks, over_funcs, one_unmarked, roots_in, strip_block, strip_func, strip}
use Rattle.ms_runs.specs.Control.{here, params_at}
use Rattle.ms_runs.specs.Act.{plain_reading}
use Rattle.ms_runs.specs.Plain.{plain_start, plain_step, run, setting_of, start_world, start_frame, plain}
use Rattle.ms_runs.specs.Shadow.{shadow_reading, shadow, shadow_start}
use Rattle.ms_runs.specs.Faithful.{Fair, Faithful}
use Rattle.ms_pass_tasks.specs.Tasks.{mask_name, origin_name}
use Rattle.ms_pass_tasks.specs.Environments.{Env, Given, local_mask, local_origin}
use Rattle.ms_pass_tasks.specs.SlotTasks.{take_parameters}
use Rattle.ms_pass_tasks.specs.Match.{held}
use Rattle.ms_pass_tasks.specs.InstructionLaw.{given_of}
use Rattle.ms_pass_laws.specs.Pass.{Numbering, here_after, pass_blocks, entry_code, enter_block, pass_funcs, pass}
use Rattle.ms_pass_tasks.specs.PassLists.{pass_insts}
use Rattle.ms_ir.specs.Signatures.{slot_globals, runtime_declarations}
use Rattle.ms_pass_laws.specs.Law.{TopFollows, Follows}
use Rattle.ms_pass_laws.specs.Known.{IsTaken}
use Rattle.ms_pass_laws.proofs.Places.{insts_in, params_in, blocks_in, func_name_of}
use Rattle.ms_pass_laws.proofs.Jumps.{AllGone, gone, gone_tasks, enter_first, insts_strip}
use Rattle.ms_pass_tasks.proofs.Marked.{tasks_marked}
use Rattle.ms_pass_laws.proofs.Step.{clean_runs_agree}
use Rattle.ms_runs_laws.proofs.ExactRules.{computed}
use Rattle.ms_runs_laws.proofs.Stripped.{setting_same, start_same, frame_same, insts_stripped}
use Rattle.ms_runs_laws.proofs.Numbering.{here_agrees}
use Rattle.std.proofs.lemmas.List.{append-nil}

blocks_strip : (given : Given) (env : Env) (bs : List Block) (h : Here) (n : ℕ) → map strip_block (pass_blocks given env bs h n) ≡ map strip_block bs
blocks_strip given env [] h n = refl
blocks_strip given env (b ∷ bs) h n =
    ap₂ (λ x y. record b { insts = x } ∷ y) (insts_strip given env b.insts h n) (blocks_strip given env bs (here_after given h b.insts) (pass_insts given env b.insts h n).next)

enter_strips : (code : List Inst) (bs : List Block) → AllGone code → map strip_block (enter_block code bs) ≡ map strip_block bs
enter_strips code [] g = refl
enter_strips code (b ∷ bs) g = ap (λ x. record b { insts = x } ∷ map strip_block bs) (gone code b.insts g)

funcs_strip : (given : Given) (numbers : ℕ → Numbering) (fs : List Func) (site root : ℕ) → map strip_func (pass_funcs given numbers fs site root) ≡ map strip_func fs
funcs_strip given numbers [] site root = refl
funcs_strip given numbers (f ∷ fs) site root =
    ap₂ (λ x y. record f { blocks = x } ∷ y)
    (enter_strips (entry_code (numbers 0).env f.params (2 * (numbers 0).size + 1)) _ (gone_tasks _ (tasks_marked (take_parameters (numbers 0).env 0 f.params) (2 * (numbers 0).size + 1)))
    ∙ blocks_strip given (numbers 0).env f.blocks (record { site = site; root = root; main = name_eq f.name main_name }) (2 * (numbers 0).size + 1))
    (funcs_strip given (λ k. numbers (k + 1)) fs (site + over_blocks one_unmarked f.blocks) (root + over_blocks (roots_in given.func) f.blocks))

pub pass_strips : (numbers : ℕ → Numbering) (m : Module) → strip (pass numbers m) ≡ strip m
pass_strips numbers m = λ i. record {
  types = m.types;
  globals = globals i;
  decls = decls i;
  funcs = funcs_strip (record { types = m.types; func = func_index m.funcs }) numbers m.funcs 1 0 i;
}
  where
    globals : filter (λ g. not (is_reserved g.name)) (m.globals ++ slot_globals) ≡ filter (λ g. not (is_reserved g.name)) m.globals
    globals = filter-append (λ g. not (is_reserved g.name)) m.globals slot_globals ∙ append-nil (filter (λ g. not (is_reserved g.name)) m.globals)

    decls : filter (λ d. not (is_reserved d.name)) (m.decls ++ runtime_declarations) ≡ filter (λ d. not (is_reserved d.name)) m.decls
    decls = filter-append (λ d. not (is_reserved d.name)) m.decls runtime_declarations ∙ append-nil (filter (λ d. not (is_reserved d.name)) m.decls)

-- a module without marks and without reserved globals and declarations
pub strip_pass : (numbers : ℕ → Numbering) (m : Module) → strip m ≡ m → strip (pass numbers m) ≡ m
strip_pass numbers m e = pass_strips numbers m ∙ e

-- ---- where a function of the instrumented module begins

-- the instructions of the first block of the function at a place
abbrev first_insts : List Func → ℕ → List Inst
first_insts fs f = insts_in (blocks_in fs f) 0

begins : (given : Given) (fs : List Func) (f : ℕ) (numbers : ℕ → Numbering) (site root : ℕ) (h : Here)
    → h.site ≡ site + over_funcs one_unmarked (take f fs) → h.root ≡ root + over_funcs (roots_in given.func) (take f fs) → h.main ≡ name_eq (func_name_of fs f) main_name → params_in fs f ≡ []
    → first_insts (pass_funcs given numbers fs site root) f ≡ (pass_insts given (numbers f).env (first_insts fs f) h (2 * (numbers f).size + 1)).code
begins given [] f numbers site root h e1 e2 e3 e4 = refl
begins given (g ∷ fs) zero numbers site root h e1 e2 e3 e4 =
    ap (λ ps. insts_in (enter_block (entry_code (numbers 0).env ps (2 * (numbers 0).size + 1)) (pass_blocks given (numbers 0).env g.blocks (record { site = site; root = root; main = name_eq g.name main_name }) (2 * (numbers 0).size + 1))) 0) e4
    ∙ enter_first [] (pass_blocks given (numbers 0).env g.blocks (record { site = site; root = root; main = name_eq g.name main_name }) (2 * (numbers 0).size + 1)) (λ e. refl) ∙ of_blocks g.blocks
  where
    same : (let k : Here = record { site = site; root = root; main = name_eq g.name main_name } in k) ≡ h
    same = λ i. record { site = (none _ _ e1) i; root = (none _ _ e2) i; main = (sym e3) i }
      where
        none : (x y : ℕ) → x ≡ y + 0 → y ≡ x
        none x y e = omega arith

    of_blocks : (bs : List Block)
        → unwrap_or (option_map (λ k. k.insts) (slice_get (pass_blocks given (numbers 0).env bs (record { site = site; root = root; main = name_eq g.name main_name }) (2 * (numbers 0).size + 1)) 0)) []
        ≡ (pass_insts given (numbers 0).env (unwrap_or (option_map (λ k. k.insts) (slice_get bs 0)) []) h (2 * (numbers 0).size + 1)).code
    of_blocks [] = refl
    of_blocks (b ∷ bs) = ap (λ k. (pass_insts given (numbers 0).env b.insts k (2 * (numbers 0).size + 1)).code) same
begins given (g ∷ fs) (suc f) numbers site root h e1 e2 e3 e4 =
    begins given fs f (λ k. numbers (k + 1)) (site + over_blocks one_unmarked g.blocks) (root + over_blocks (roots_in given.func) g.blocks) h
    (e1 ∙ sums site _ _) (e2 ∙ sums root _ _) e3 e4
    ∙ ap (λ k. (pass_insts given (numbers k).env (first_insts fs f) h (2 * (numbers k).size + 1)).code) later
  where
    sums : (x y z : ℕ) → x + (y + z) ≡ x + y + z
    sums x y z = omega arith

    later : f + 1 ≡ suc f
    later = omega arith

-- ---- the start

no_mask : (env : Env) (x : Name) → held (λ y. 0) (local_mask env x) ≡ 0
no_mask env x = by_number (env.number x) (env.clean x)
  where
    by_number : (o : Option ℕ) (b : Bool) → held (λ y. 0) (elim o [ Some v ↦ if b then operand.Int 0 else operand.Local (mask_name v) | None ↦ operand.Int 0 ]) ≡ 0
    by_number (Some v) true = refl
    by_number (Some v) false = refl
    by_number None b = refl

no_origin : (env : Env) (x : Name) → held (λ y. 0) (local_origin env x) ≡ 0
no_origin env x = by_number (env.number x) (env.clean x)
  where
    by_number : (o : Option ℕ) (b : Bool) → held (λ y. 0) (elim o [ Some v ↦ if b then operand.Int 0 else operand.Local (origin_name v) | None ↦ operand.Int 0 ]) ≡ 0
    by_number (Some v) true = refl
    by_number (Some v) false = refl
    by_number None b = refl

pub starts : (numbers : ℕ → Numbering) (m : Module) (setup : Setup) → strip (pass numbers m) ≡ m → params_at m (unwrap_or (func_index m.funcs main_name) 0) ≡ [] → Follows (setting_of m setup) numbers m (shadow_start m setup) (plain_start m setup)
starts numbers m setup e none =
    let s = setting_of m setup in
    let j = pass numbers m in
    let k = unwrap_or (func_index m.funcs main_name) 0 in
    let g = start_frame plain_reading m in
    let f = start_frame shadow_reading m in
    let top : TopFollows s numbers m f (start_world m setup) g (λ a. 0) (start_world m setup) = record {
      same_func = refl;
      same_block = refl;
      same_mark = refl;
      same_heap = refl;
      stands = here_agrees s j m e g f refl refl (sym (insts_stripped j k 0) ∙ ap (λ x. insts_at x k 0) e);
      waiting = [];
      marked = tt;
      no_block = tt;
      next = 2 * (numbers k).size + 1;
      room = omega arith;
      rest = begins (given_of s) m.funcs k numbers 1 0 (here s m f) (site_none _) (root_none _) refl none;
      after = record { names = λ x. 0; slots = λ a. 0 };
      runs = refl;
      matches = record { value = λ x own. refl; mask = λ x v at. no_mask (numbers k).env x; origin = λ x v at unset. no_origin (numbers k).env x };
      sees = λ x. refl;
    } in
    (top, tt)
  where
    site_none : (y : ℕ) → 1 + (y + 0 + 0) ≡ 1 + y
    site_none y = omega arith

    root_none : (y : ℕ) → y + 0 + 0 ≡ 0 + y
    root_none y = omega arith

-- ---- the theorem

pub faithful_pass : (numbers : ℕ → Numbering) (m : Module) → IsTaken numbers m → Faithful m (pass numbers m)
faithful_pass numbers m taken = record { strips = strips; runs = runs }
  where
    strips : strip (pass numbers m) ≡ m
    strips = strip_pass numbers m taken.strips

    runs : (setup : Setup) → Fair setup → plain (pass numbers m) setup ≡ shadow m setup
    runs setup fair =
        (λ i. run (λ d. d.world) (plain_step (setting_same m (pass numbers m) strips setup i) (pass numbers m)) setup.steps
        (record { frames = frame_same plain_reading m (pass numbers m) strips i ∷ []; slots = λ a. 0; world = start_same m (pass numbers m) strips setup i }))
        ∙ clean_runs_agree (setting_of m setup) numbers m (taken.known setup fair) setup.steps (shadow_start m setup) (plain_start m setup)
        (taken.clean setup fair) (record { frames = (λ x. omega arith, tt); world = taken.placed setup fair }) (starts numbers m setup strips taken.starts)
        ∙ sym (computed m setup)
