-- A step of the instrumented module is a step of the shadow run.
use Rattle.std.proofs.Common.{◌≡◌, ◌≢◌, Bool, Option, None, ℕ, zero, suc, ◌+◌, ◌*◌, ◌≤◌, List, [], ◌∷◌, ◌++◌, length, true, false, Some, inl, inr, refl, sym, ap, ◌∙◌, subst, arith}
use Rattle.std.specs.Prelude.{map, filter, if◌then◌else◌, leb, get_or, is_some, option_and_then}
use Rattle.std.proofs.Math.Path.{ap₂}
use Rattle.ms_ir.specs.declared.syntax.Name.{Name}
use Rattle.ms_ir.specs.declared.syntax.Inst.{Inst}
use Rattle.ms_ir.specs.declared.syntax.Module.{Module}
use Rattle.ms_runs.specs.declared.runs.End.TheVariants as «end»
use Rattle.ms_runs.specs.World.{World, Setting, Here, Effect, Gives, Does, Goes, Enters, Leaves, Ends, stuck, result}
use Rattle.ms_ir.specs.Instructions.{operands, one_undef, count_undefs, external_named, is_unmarked, one_unmarked, roots_in, over_blocks, insts_at, blocks_at, block_index, is_phi}
use Rattle.ms_ir.specs.Names.{is_reserved}
use Rattle.ms_ir.specs.declared.syntax.Op.{Op}
use Rattle.ms_ir.specs.declared.syntax.Op.TheVariants as op
use Rattle.ms_runs.specs.Control.{Frame, Over, On, here, rest_of, read_all, put, bind, params_at, entry_mark, entered, result_at, given_back, blocks_made, keeping, after_effect, jumped, left, frame_limit}
use Rattle.ms_runs.specs.Act.{act, plain_reading}
use Rattle.ms_runs.specs.Plain.{PlainState, Stepped, More, Stop, and_then, plain_state, through, plain_first, plain_step, run, go_on, steps}
use Rattle.ms_runs.specs.Poisoned.{Poisoned, clean}
use Rattle.ms_runs.specs.Masks.{by_completions, by_formulas}
use Rattle.ms_runs.specs.Uses.{uses}
use Rattle.ms_runs.specs.Shadow.{read_poisoned, ShadowState, shadow_reading, shadow_moved, poisoned_result, planes, after_checks, shadow_inst, shadow_first, shadow_frames, shadow_step}
use Rattle.ms_pass_tasks.specs.Meaning.{Values, Reach, Reaches, Went, Over as Done, run_marked, do_tasks, set_result, AllMarked}
use Rattle.ms_pass_tasks.specs.Tasks.{tasks_code}
use Rattle.ms_pass_tasks.specs.Environments.{Env, Given, tracked}
use Rattle.ms_pass_tasks.specs.Emit.{Emitted, before_tasks, after_tasks, start, emit_tasks}
use Rattle.ms_pass_tasks.specs.PlaneTasks.{plane_tasks, callee_tasks, saves}
use Rattle.ms_pass_tasks.specs.SlotTasks.{take_parameters, take_result}
use Rattle.ms_pass_tasks.specs.Known.{IsBuilt, ArgsFit, AllApart, KnownPhis}
use Rattle.ms_ir.specs.declared.syntax.Ty.{Ty}
use Rattle.ms_ir.specs.declared.syntax.Operand.{Operand}
use Rattle.ms_ir.specs.declared.syntax.Func.{Func}
use Rattle.ms_runs.specs.declared.runs.End.{End}
use Rattle.ms_bits.specs.declared.traps.Trap.TheVariants as trap
use Rattle.ms_pass_tasks.specs.SlotLaw.{SameLength, ReturnFits}
use Rattle.ms_pass_tasks.proofs.Slots.{result_taken, params_low, function_entered}
use Rattle.ms_pass_tasks.proofs.MatchedNames.{matches_same}
use Rattle.ms_pass_tasks.proofs.Flatten.{same_refl, went_inv, tasks_run}
use Rattle.ms_pass_tasks.proofs.OperandWords.{ap₃}
use Rattle.ms_pass_tasks.proofs.TaskNames.{after_low}
use Rattle.ms_runs_laws.proofs.Numbering.{here_agrees}
use Rattle.ms_runs.proofs.HeapBlocks.{gives_same}
use Rattle.ms_pass_tasks.specs.PassLists.{emit_op, next_here, pass_insts}
use Rattle.ms_pass_tasks.specs.Match.{Handed, CallHeld, ArgsHeld, ResultHeld, SlotsHold, Saved, Matches, RangedWorld, RangedValues}
use Rattle.ms_pass_tasks.specs.InstructionLaw.{GoesOn, Stands, given_of, words_at, checked_at, counted_at, acted_at, after_result, before_code, BeforeLaw, Checked, Failed, Due, AfterLaw}
use Rattle.ms_pass_laws.proofs.Marked.{AllInserted, inserted_marked, inserted_no_block, tasks_inserted, GetsThrough as RunsOn, reach_step, state_of, through_inst, through_marked}
use Rattle.ms_pass_laws.specs.Pass.{Numbering, entry_code, pass_funcs, pass}
use Rattle.ms_pass_laws.specs.Law.{AtCall, FramesFollow, TopFollows, FollowsBy, Follows, Steps, CleanFrames, Sound, RangedFrames, Ranged}
use Rattle.ms_pass_laws.specs.Known.{KnownModule, AnswerFits, ReturnsAs, ret_at, ApartFrames, CleanRun}
use Rattle.ms_pass_laws.proofs.Places.{frame_at, drop_step, drop_many, put_plain, put_shadow, here_step, marked_here, params_in}
use Rattle.ms_pass_laws.proofs.Built.{Tells, act_tells}
use Rattle.ms_pass_laws.proofs.Jumps.{gone, gone_tasks, insts_strip, all_kept, entry_start, jump_follows, known_drop}
use Rattle.ms_pass_tasks.proofs.InsertedNames.{with_other, with_here}
use Rattle.ms_pass_laws.proofs.RangedKept.{checks_ranged, ranged_kept, phi_shadow}
use Rattle.ms_pass_tasks.proofs.Marked.{tasks_more, tasks_marked}
use Rattle.ms_pass_tasks.proofs.Before.{before_law}
use Rattle.ms_pass_tasks.proofs.After.{numbers_low, after_gives, after_does}
use Rattle.ms_runs_laws.proofs.SameRuns.{same_step}
use Rattle.ms_runs_laws.proofs.ExactRules.{formulas_exact}
use Rattle.ms_runs_good_laws.proofs.Frames.{drop_first}

-- the lists round an instruction that is no phi
abbrev pub task_lists : Given → Env → Here → Inst → ℕ → Emitted
task_lists given env h i n = emit_tasks given env h i n

plain_lists : (given : Given) (env : Env) (h : Here) (i : Inst) (n : ℕ) (o : Op) → is_phi o ≡ false → emit_op given env h i n o ≡ task_lists given env h i n
plain_lists given env h i n (op.Phi t es) e = absurd (grind arith)
plain_lists given env h i n _ e = refl

-- functions keep their parameters
params_of_kept : (given : Given) (fs : List Func) (f : ℕ) (numbers : ℕ → Numbering) (site root : ℕ) → params_in (pass_funcs given numbers fs site root) f ≡ params_in fs f
params_of_kept given [] f numbers site root = refl
params_of_kept given (g ∷ fs) zero numbers site root = refl
params_of_kept given (g ∷ fs) (suc f) numbers site root = params_of_kept given fs f (λ k. numbers (k + 1)) (site + over_blocks one_unmarked g.blocks) (root + over_blocks (roots_in given.func) g.blocks)

params_kept : (numbers : ℕ → Numbering) (m : Module) (f : ℕ) → params_at (pass numbers m) f ≡ params_at m f
params_kept numbers m f = params_of_kept _ m.funcs f numbers 1 0

-- the same place after marked instructions
pub here_marked : {V : Type 0} (s : Setting) (j : Module) (a b : List Inst) → AllMarked a → (g : Frame V) (values : Name → V) → rest_of j g ≡ a ++ b
    → here s j (frame_at g (g.place + length a) values) ≡ here s j g
here_marked s j [] b k g values r = let p : g.place + 0 ≡ g.place = omega arith in ap (λ n. here s j (frame_at g n g.values)) p
here_marked s j (i ∷ a) b k g values r =
    let p : g.place + length (i ∷ a) ≡ g.place + 1 + length a = omega arith in
    ap (λ n. here s j (frame_at g n g.values)) p
    ∙ here_marked s j a b k.2 (frame_at g (g.place + 1) g.values) values (drop_step _ g.place i (a ++ b) r)
    ∙ here_step s j g g.values i (a ++ b) r ∙ marked_here s (here s j g) i k.0

-- what the states of a shadow run have, from step to step, if clean values have the mask 0 there
pub record Kept (s : Setting) (numbers : ℕ → Numbering) (m : Module) (inv : ShadowState → Type 0) : Type 0 where
  pub step : (c c' : ShadowState) → inv c → shadow_step by_formulas s m c ≡ More c' → inv c'
  pub clean : (c : ShadowState) → inv c → CleanFrames s numbers m c.frames
  pub apart : (c : ShadowState) → inv c → ApartFrames m c.frames

pub clean_kept : (s : Setting) (numbers : ℕ → Numbering) (m : Module) → Kept s numbers m (CleanRun s numbers m)
clean_kept s numbers m = record {
  step = λ c c' k e. record {
    masks = λ n c2 f. k.masks (suc n) c2 (ap (λ r. and_then r (steps (shadow_step by_formulas s m) n)) e ∙ f);
    apart = λ n c2 f. k.apart (suc n) c2 (ap (λ r. and_then r (steps (shadow_step by_formulas s m) n)) e ∙ f);
  };
  clean = λ c k. k.masks 0 c refl;
  apart = λ c k. k.apart 0 c refl;
}

module _ (s : Setting) (numbers : ℕ → Numbering) (m : Module) (known : KnownModule s numbers m) where
  -- both stand at an instruction, with the list before it done, and next is the first number that was free there
  pub record AtInst (f : Frame Poisoned) (fs : List (Frame Poisoned)) (g : Frame ℕ) (gs : List (Frame ℕ)) (i : Inst) (is : List Inst) (next : ℕ) : Type 0 where
    pub same_func : g.func ≡ f.func
    pub same_block : g.block ≡ f.block
    pub same_mark : g.mark ≡ f.mark
    pub same_heap : g.heap ≡ f.heap
    pub stands : here s (pass numbers m) g ≡ here s m f
    pub room : 2 * (numbers f.func).size + 1 ≤ next
    pub rest_m : rest_of m f ≡ i ∷ is
    pub no_phi : is_phi i.op ≡ false
    pub rest_j : rest_of (pass numbers m) g
        ≡ i
        ∷ ((task_lists (given_of s) (numbers f.func).env (here s m f) i next).after
        ++ (pass_insts (given_of s) (numbers f.func).env is (next_here (given_of s) (here s m f) i) (task_lists (given_of s) (numbers f.func).env (here s m f) i next).next).code)
    pub lower : FramesFollow s numbers m f.func fs gs

  -- the free number after the list before an instruction
  abbrev pub middle : Frame Poisoned → Inst → ℕ → ℕ
  middle f i next = (tasks_code (before_tasks (given_of s) (numbers f.func).env (here s m f) i next) (start (given_of s) i next)).next

  stands_at : (f : Frame Poisoned) (i : Inst) (is : List Inst) (base : ℕ) → rest_of m f ≡ i ∷ is → is_phi i.op ≡ false → 2 * (numbers f.func).size + 1 ≤ base
      → Stands s (numbers f.func).env (numbers f.func).size base (here s m f) i
  stands_at f i is base e np le = record { known = known.known f i is e np; one_name = known.one_name f.func; few = known.few f.func; room = le; ranged = known.ranged f i is e; slots = known.slots }

  middle_more : (f : Frame Poisoned) (i : Inst) (next : ℕ) → next + saves s.func i.op ≤ middle f i next
  middle_more f i next = tasks_more (before_tasks (given_of s) (numbers f.func).env (here s m f) i next) (start (given_of s) i next)

  -- one instruction further in both, with the list after it waiting, which leads from a world w to a world y
  next_by : (f : Frame Poisoned) (fs : List (Frame Poisoned)) (g : Frame ℕ) (gs : List (Frame ℕ)) (i : Inst) (is : List Inst) (next : ℕ) → AtInst f fs g gs i is next
      → (after : Name → Poisoned) (names : Name → ℕ) (cells : ℕ → ℕ) (w y : World)
      → ((at : Here) → (u : Values) × (run_marked s at (task_lists (given_of s) (numbers f.func).env (here s m f) i next).after (record { names = names; slots = cells }) w ≡ Went u y)
      × Matches (numbers f.func).env after u.names)
      → ((e : End) → result e w ≡ result e y)
      → FollowsBy s numbers m (frame_at f (f.place + 1) after ∷ fs) y (frame_at g (g.place + 1) names ∷ gs) cells w
  next_by f fs g gs i is next z after names cells w y runs quiet =
      let given = given_of s in
      let env = (numbers f.func).env in
      let h = here s m f in
      let lists = task_lists given env h i next in
      let f' = frame_at f (f.place + 1) after in
      let here_f : here s m f' ≡ next_here given h i = here_step s m f after i is z.rest_m in
      let here_g = here_step s (pass numbers m) g names i _ z.rest_j in
      let ran = runs (here s m f') in
      let le0 : 2 * (numbers f.func).size + 1 ≤ next = z.room in
      let le1 : next + saves s.func i.op ≤ middle f i next = middle_more f i next in
      let le2 : middle f i next ≤ lists.next = tasks_more (after_tasks given env h i next) (middle f i next) in
      let top : TopFollows s numbers m f' y (frame_at g (g.place + 1) names) cells w = record {
        same_func = z.same_func;
        same_block = z.same_block;
        same_mark = z.same_mark;
        same_heap = z.same_heap;
        stands = here_g ∙ ap (λ y. next_here given y i) z.stands ∙ sym here_f;
        waiting = lists.after;
        marked = inserted_marked _ (tasks_inserted (after_tasks given env h i next) (middle f i next));
        no_block = inserted_no_block _ (tasks_inserted (after_tasks given env h i next) (middle f i next));
        next = lists.next;
        room = omega arith;
        rest = drop_step _ g.place i _ z.rest_j
            ∙ ap₂ (λ y l. lists.after ++ (pass_insts given env l y lists.next).code) (sym here_f) (sym (drop_step _ f.place i is z.rest_m));
        after = ran.0;
        runs = ran.1;
        matches = ran.2;
        sees = quiet;
      } in
      (top, z.lower)

  next_follows : (f : Frame Poisoned) (fs : List (Frame Poisoned)) (g : Frame ℕ) (gs : List (Frame ℕ)) (i : Inst) (is : List Inst) (next : ℕ) → AtInst f fs g gs i is next
      → (after : Name → Poisoned) (before : World) (x : ℕ) (names : Name → ℕ) (cells : ℕ → ℕ) (w : World)
      → AfterLaw s (numbers f.func).env next (middle f i next) (here s m f) i f.values after before x names w
      → FollowsBy s numbers m (frame_at f (f.place + 1) after ∷ fs)
      (planes s (here s m f).site ((here s m f).root + count_undefs (operands i.op) + 1) i.op (words_at s f.values (here s m f) i) before x w)
      (frame_at g (g.place + 1) names ∷ gs) cells w
  next_follows f fs g gs i is next z after before x names cells w law =
      next_by f fs g gs i is next z after names cells w
      (planes s (here s m f).site ((here s m f).root + count_undefs (operands i.op) + 1) i.op (words_at s f.values (here s m f) i) before x w) (λ at. law.runs at cells) law.quiet

  -- both sides of a step, by the equations that compute them
  steps_by : {r r' : Stepped ShadowState} {t t' : Stepped PlainState} → r ≡ r' → t ≡ t' → Steps s numbers m r' t' → Steps s numbers m r t
  steps_by {r} {r'} {t} {t'} e f h = subst (λ x. Steps s numbers m x t) (sym e) (subst (Steps s numbers m r') (sym f) h)

  -- the program's own names but the result's hold what they held
  own_kept : (f : Frame Poisoned) (g : Frame ℕ) (i : Inst) (x : ℕ) (p : Poisoned) → Matches (numbers f.func).env (after_result f.values i.result p) (set_result g.values i.result x)
      → (y : Name) → is_reserved y ≡ false → i.result ≢ Some y → g.values y ≡ (f.values y).value
  own_kept f g i x p m y own ne = by_result i.result ne (m.value y own)
    where
      by_result : (r : Option Name) → r ≢ Some y → set_result g.values r x y ≡ (after_result f.values r p y).value → g.values y ≡ (f.values y).value
      by_result None ne e = e
      by_result (Some z) ne e =
          let other : y ≢ z = λ q. ne (ap Some (sym q)) in
          sym (with_other g.values z y x other) ∙ e ∙ ap (λ q. q.value) (with_other f.values z y p other)

  same_frame : (f : Frame Poisoned) (g : Frame ℕ) → g.func ≡ f.func → g.block ≡ f.block → g.mark ≡ f.mark → g.heap ≡ f.heap
      → g ≡ (let k : Frame ℕ = record { func = f.func; block = f.block; place = g.place; values = g.values; mark = f.mark; heap = f.heap } in k)
  same_frame f g a b c d = λ i. record { func = a i; block = b i; place = g.place; values = g.values; mark = c i; heap = d i }

  -- ---- a call

  pub same_length : (n : ℕ) (fs : List (Frame Poisoned)) (gs : List (Frame ℕ)) → FramesFollow s numbers m n fs gs → length gs ≡ length fs
  same_length n [] [] l = refl
  same_length n [] (g ∷ gs) l = absurd l
  same_length n (f ∷ fs) [] l = absurd l
  same_length n (f ∷ fs) (g ∷ gs) l = ap suc (same_length f.func fs gs l.1)

  read_length : (values : Name → Poisoned) (os : List (Ty × Operand)) (root : ℕ) → SameLength os (read_all (read_poisoned s values) os root)
  read_length values [] root = tt
  read_length values (o ∷ os) root = read_length values os (root + one_undef o.1)

  held_args : (o : Op) (n : ℕ) (main : Bool) (ps : List Poisoned) (cells : ℕ → ℕ) (ret : Option Ty) (callee : Name) (args : List (Ty × Operand)) → o ≡ op.Call ret callee args → s.func callee ≡ Some n
      → Handed s.func main o ps cells → ArgsHeld cells 0 args ps
  held_args o n main ps cells ret callee args e own h =
      subst (λ b. CallHeld b cells args ps) (ap is_some own) (subst (λ o. Handed s.func main o ps cells) e h)

  few_args : (x : Option Name) (o : Op) (n : ℕ) (ret : Option Ty) (callee : Name) (args : List (Ty × Operand)) → o ≡ op.Call ret callee args → s.func callee ≡ Some n → IsBuilt s.func x o → length args ≤ 100
  few_args x o n ret callee args e own b = (subst (IsBuilt s.func x) e b).1 (ap is_some own)

  -- the new frames at the entry of the function that is called
  pub entered_follows : (n : ℕ) (words : List Poisoned) (os : List (Ty × Operand)) (cells : ℕ → ℕ) (w : World)
      → ArgsFit (params_at m n) os → length os ≤ 100 → ArgsHeld cells 0 os words → SameLength os words
      → ((x : Name) → (numbers n).env.clean x ≡ true → (bind clean (params_at m n) words x).mask ≡ 0)
      → TopFollows s numbers m (entered shadow_reading m n words w) w (entered plain_reading (pass numbers m) n (map (λ p. p.value) words) w) cells w
  entered_follows n words os cells w fit few holds len cleans =
      subst (λ ps. TopFollows s numbers m (entered shadow_reading m n words w) w (let k : Frame ℕ = record { func = n; block = 0; place = 0; values = bind 0 ps (map (λ p. p.value) words); mark = entry_mark w; heap = [] } in k) cells w)
      (sym (params_kept numbers m n)) top
    where
      f' : Frame Poisoned
      f' = entered shadow_reading m n words w

      start_at : (next : ℕ) × (2 * (numbers n).size + 1 ≤ next) × (insts_at (pass numbers m) n 0
          ≡ entry_code (numbers n).env (params_at m n) (2 * (numbers n).size + 1) ++ (pass_insts (given_of s) (numbers n).env (insts_at m n 0) (here s m (entered shadow_reading m n words w)) next).code)
      start_at = entry_start s numbers m known.strips known.given (entered shadow_reading m n words w) (known.bodies n)

      code : List Inst
      code = entry_code (numbers n).env (params_at m n) (2 * (numbers n).size + 1)

      -- what is left without marks
      left_of : filter is_unmarked (insts_at (pass numbers m) n 0) ≡ insts_at m n 0
      left_of =
          ap (filter is_unmarked) start_at.2
          ∙ gone (entry_code (numbers n).env (params_at m n) (2 * (numbers n).size + 1)) _ (gone_tasks _ (tasks_marked (take_parameters (numbers n).env 0 (params_at m n)) (2 * (numbers n).size + 1)))
          ∙ insts_strip (given_of s) (numbers n).env (insts_at m n 0) (here s m (entered shadow_reading m n words w)) start_at.0
          ∙ all_kept (numbers n).env (numbers n).size (insts_at m n 0) (known.phis n 0)

      g0 : Frame ℕ
      g0 = record { func = n; block = 0; place = 0; values = bind 0 (params_at m n) (map (λ p. p.value) words); mark = entry_mark w; heap = [] }

      top : TopFollows s numbers m (entered shadow_reading m n words w) w (let k : Frame ℕ = record { func = n; block = 0; place = 0; values = bind 0 (params_at m n) (map (λ p. p.value) words); mark = entry_mark w; heap = [] } in k) cells w
      top =
          let g0 : Frame ℕ = record { func = n; block = 0; place = 0; values = bind 0 (params_at m n) (map (λ p. p.value) words); mark = entry_mark w; heap = [] } in
          let f' = entered shadow_reading m n words w in
          let base = 2 * (numbers n).size + 1 in
          let env = (numbers n).env in
          let ts = take_parameters env 0 (params_at m n) in
          let v : Values = record { names = bind 0 (params_at m n) (map (λ p. p.value) words); slots = cells } in
          let done = function_entered s known.slots (here s m f') cells env (numbers n).size (known.one_name n) (params_at m n) os words fit few (known.params n) holds len cleans in
          let t = tasks_run s (here s m f') base ts (params_low env (numbers n).size base (omega arith) 0 (params_at m n) (known.params n)) base (omega arith) v v w (same_refl base v) in
          let r = went_inv base (record { names = done.after; slots = cells }) w (run_marked s (here s m f') (tasks_code ts base).code v w)
          (subst (λ q. Reaches base q (run_marked s (here s m f') (tasks_code ts base).code v w)) (done.runs w) t) in
          record {
            same_func = refl;
            same_block = refl;
            same_mark = refl;
            same_heap = refl;
            stands = here_agrees s (pass numbers m) m known.strips g0 f' refl refl left_of;
            waiting = entry_code env (params_at m n) base;
            marked = inserted_marked _ (tasks_inserted ts base);
            no_block = inserted_no_block _ (tasks_inserted ts base);
            next = start_at.0;
            room = start_at.1;
            rest = start_at.2;
            after = r.0;
            runs = r.1;
            matches = matches_same env base (numbers_low env (numbers n).size base (known.few n) (omega arith)) (bind clean (params_at m n) words) (record { names = done.after; slots = cells }) r.0 done.matches r.2;
            sees = λ e. refl;
          }

  -- ---- a return

  own_after : (given : Given) (env : Env) (h : Here) (i : Inst) (next : ℕ) (ret : Option Ty) (callee : Name) (args : List (Ty × Operand)) → i.op ≡ op.Call ret callee args → is_some (given.func callee) ≡ true
      → after_tasks given env h i next ≡ take_result env i.result ret
  own_after given env h i next ret callee args e own =
      ap (λ o. plane_tasks given env h next i.result o (tracked env h.root (operands o))) e ∙ by_result i.result
    where
      by_result : (x : Option Name) → plane_tasks given env h next x (op.Call ret callee args) (tracked env h.root args) ≡ take_result env x ret
      by_result None = ap (λ b. callee_tasks env h.site (h.root + count_undefs args + 1) next None ret b (external_named given.func callee) (tracked env h.root args)) own
      by_result (Some x) = ap (λ b. callee_tasks env h.site (h.root + count_undefs args + 1) next (Some x) ret b (external_named given.func callee) (tracked env h.root args)) own

  result_found : (f : Frame Poisoned) (i : Inst) (is : List Inst) → rest_of m f ≡ i ∷ is → result_at m f ≡ i.result
  result_found f i is e = ap (λ o. option_and_then (λ inst. inst.result) o) (drop_first (insts_at m f.func f.block) f.place i is e)

  plain_found : (g : Frame ℕ) (i : Inst) (is : List Inst) → rest_of (pass numbers m) g ≡ i ∷ is → result_at (pass numbers m) g ≡ i.result
  plain_found g i is e = ap (λ o. option_and_then (λ inst. inst.result) o) (drop_first (insts_at (pass numbers m) g.func g.block) g.place i is e)

  first_value : (ps : List Poisoned) → get_or (map (λ p. p.value) ps) 0 0 ≡ (get_or ps 0 clean).value
  first_value [] = refl
  first_value (p ∷ ps) = refl

  -- what is returned stands in the slots at the width that the call asks for
  return_fits : (o : Op) (v : Option (Ty × Operand)) (main : Bool) (ps : List Poisoned) (cells : ℕ → ℕ) (x : Option Name) (ret own : Option Ty) → o ≡ op.Ret v → main ≡ false → SameLength (operands (op.Ret v)) ps
      → Handed s.func main o ps cells → AnswerFits x ret own → ReturnsAs own v → ReturnFits x ret cells (get_or ps 0 clean)
  return_fits o v main ps cells None ret own e outside len h a r = tt
  return_fits o v main ps cells (Some x) None own e outside len h a r = absurd a
  return_fits o v main ps cells (Some x) (Some t) None e outside len h a r = absurd a
  return_fits o None main ps cells (Some x) (Some t) (Some u) e outside len h a r = absurd r
  return_fits o (Some v) main [] cells (Some x) (Some t) (Some u) e outside len h a r = absurd len
  return_fits o (Some v) main (p ∷ ps) cells (Some x) (Some t) (Some u) e outside len h a r = (
    a.1,
    subst (λ k. SlotsHold cells 0x680000002000 0x680000003000 k p) (r ∙ sym a.0)
        (subst (λ b. ResultHeld b cells (v ∷ []) (p ∷ ps)) outside (subst (λ o. Handed s.func main o (p ∷ ps) cells) e h)),
  )

  -- the caller goes on after its call
  return_follows : (called : ℕ) (f : Frame Poisoned) (fs : List (Frame Poisoned)) (g : Frame ℕ) (gs : List (Frame ℕ)) (a : AtCall s numbers m called f g) → FramesFollow s numbers m f.func fs gs
      → (p : Poisoned) (cells : ℕ → ℕ) (w : World) → ReturnFits a.call.result a.ret cells p
      → ((x : Name) → (numbers f.func).env.clean x ≡ true → (after_result f.values a.call.result p x).mask ≡ 0)
      → FollowsBy s numbers m (frame_at f (f.place + 1) (after_result f.values a.call.result p) ∷ fs) w (frame_at g (g.place + 1) (set_result g.values a.call.result p.value) ∷ gs) cells w
  return_follows called f fs g gs a lower p cells w fits cleans =
      let i = a.call in
      let env = (numbers f.func).env in
      let h = here s m f in
      let np : is_phi i.op ≡ false = subst (λ o. is_phi o ≡ false) (sym a.calls) refl in
      let lists_are = plain_lists (given_of s) env h i a.next i.op np in
      let z : AtInst f fs g gs i a.left a.next = record {
        same_func = a.same_func;
        same_block = a.same_block;
        same_mark = a.same_mark;
        same_heap = a.same_heap;
        stands = a.stands;
        room = a.room;
        rest_m = a.rest_m;
        no_phi = np;
        rest_j = a.rest_j ∙ ap (λ x. i ∷ (x.after ++ (pass_insts (given_of s) env a.left (next_here (given_of s) h i) x.next).code)) lists_are;
        lower = lower;
      } in
      let st = stands_at f i a.left a.next a.rest_m np a.room in
      let ts = after_tasks (given_of s) env h i a.next in
      let base = middle f i a.next in
      let low = after_low s env (numbers f.func).size a.next base h i st (middle_more f i a.next) in
      let v : Values = record { names = set_result g.values i.result p.value; slots = cells } in
      let le : 2 * (numbers f.func).size + 1 ≤ base = let q = middle_more f i a.next in omega (arith, a.room, q) in
      next_by f fs g gs i a.left a.next z (after_result f.values i.result p) (set_result g.values i.result p.value) cells w w
      (λ at.
      let done = result_taken s known.slots at env (numbers f.func).size (known.one_name f.func) i.result a.ret st.known.named f.values p g.values cells a.matches fits
      (λ y e c. after_named f.values i.result p y e ∙ cleans y c) in
      let t = tasks_run s at base ts low base (omega arith) v v w (same_refl base v) in
      let ran = ap (λ l. do_tasks s at l v w) (own_after (given_of s) env h i a.next a.ret a.callee a.args a.calls (ap is_some a.own)) ∙ done.runs w in
      let r = went_inv base (record { names = done.after; slots = cells }) w (run_marked s at (tasks_code ts base).code v w)
      (subst (λ q. Reaches base q (run_marked s at (tasks_code ts base).code v w)) ran t) in
      (r.0, r.1, matches_same env base (numbers_low env (numbers f.func).size base (known.few f.func) le) (after_result f.values i.result p) (record { names = done.after; slots = cells }) r.0 done.matches r.2))
      (λ e. refl)
    where
      after_named : (values : Name → Poisoned) (x : Option Name) (p : Poisoned) (y : Name) → x ≡ Some y → p.mask ≡ (after_result values x p y).mask
      after_named values x p y e = sym (ap (λ q. q.mask) (ap (λ x. after_result values x p y) e ∙ with_here values y p))

  -- both get the same heap blocks
  pub keeping_both : (f : Frame Poisoned) (fs : List (Frame Poisoned)) (g : Frame ℕ) (gs : List (Frame ℕ)) (i : Inst) (is : List Inst) (next : ℕ) (o : Op) (e : Effect)
      → AtInst f fs g gs i is next → AtInst (keeping o e f) fs (keeping o e g) gs i is next
  keeping_both f fs g gs i is next o e z = record {
    same_func = z.same_func;
    same_block = z.same_block;
    same_mark = z.same_mark;
    same_heap = ap (λ l. blocks_made o e ++ l) z.same_heap;
    stands = z.stands;
    room = z.room;
    rest_m = z.rest_m;
    no_phi = z.no_phi;
    rest_j = z.rest_j;
    lower = z.lower;
  }

  -- the instruction itself, which is due in both
  pub effect_step : (f : Frame Poisoned) (fs : List (Frame Poisoned)) (g : Frame ℕ) (gs : List (Frame ℕ)) (i : Inst) (is : List Inst) (next : ℕ) → AtInst f fs g gs i is next
      → (cells : ℕ → ℕ) (before : World) → RangedWorld before → RangedValues f.values → AllApart i.result (operands i.op)
      → Handed s.func (here s m f).main i.op (words_at s f.values (here s m f) i) cells → Saved s.func next i.op (words_at s f.values (here s m f) i) before g.values
      → ((x : ℕ) (w : World) → acted_at s f.values (here s m f) i before ≡ Gives x w
      → Matches (numbers f.func).env (after_result f.values i.result (poisoned_result by_formulas i.op (words_at s f.values (here s m f) i) x w)) (set_result g.values i.result x))
      → (GoesOn (acted_at s f.values (here s m f) i before) → Matches (numbers f.func).env f.values g.values)
      → (e : Effect) → acted_at s f.values (here s m f) i before ≡ e → Tells s (here s m f) i.op e
      → Sound s numbers m (shadow_moved (after_effect shadow_reading s m (here s m f).site i.result (words_at s f.values (here s m f) i)
      (poisoned_result by_formulas i.op (words_at s f.values (here s m f) i))
      (planes s (here s m f).site ((here s m f).root + count_undefs (operands i.op) + 1) i.op (words_at s f.values (here s m f) i) before) f fs e))
      → Steps s numbers m
      (shadow_moved (after_effect shadow_reading s m (here s m f).site i.result (words_at s f.values (here s m f) i)
      (poisoned_result by_formulas i.op (words_at s f.values (here s m f) i))
      (planes s (here s m f).site ((here s m f).root + count_undefs (operands i.op) + 1) i.op (words_at s f.values (here s m f) i) before) f fs e))
      (and_then (plain_state cells (after_effect plain_reading s (pass numbers m) (here s m f).site i.result (map (λ p. p.value) (words_at s f.values (here s m f) i)) (λ v w. v) (λ v w. w) g gs e)) More)
  effect_step f fs g gs i is next z cells before in_world in_values apart handed size_saved gives does (Gives x w) e tells sound =
      let h = here s m f in
      let p = poisoned_result by_formulas i.op (words_at s f.values h i) x w in
      let law = after_gives s (numbers f.func).env (numbers f.func).size next (middle f i next) h i f.values before x w g.values
      (stands_at f i is next z.rest_m z.no_phi z.room) (middle_more f i next) in_world in_values apart size_saved e (gives x w e) (own_kept f g i x p (gives x w e)) in
      steps_by
      (ap (λ y. More (let c : ShadowState = record { frames = y ∷ fs; world = planes s h.site (h.root + count_undefs (operands i.op) + 1) i.op (words_at s f.values h i) before x w } in c)) (put_shadow f i.result p))
      (ap (λ y. More (state_of y gs cells w)) (put_plain g i.result x))
      (next_follows f fs g gs i is next z (after_result f.values i.result p) before x (set_result g.values i.result x) cells w law)
  effect_step f fs g gs i is next z cells before in_world in_values apart handed size_saved gives does (Does w) e tells sound =
      let law = after_does s (numbers f.func).env (numbers f.func).size next (middle f i next) (here s m f) i f.values before w g.values
      (stands_at f i is next z.rest_m z.no_phi z.room) (middle_more f i next) in_world in_values size_saved e (does (subst GoesOn (sym e) tt)) in
      next_follows f fs g gs i is next z f.values before 0 g.values cells w law
  effect_step f fs g gs i is next z cells before in_world in_values apart handed size_saved gives does (Ends x w) e tells sound = (refl, refl)
  effect_step f fs g gs i is next z cells before in_world in_values apart handed size_saved gives does (Goes to w) e tells sound = (
    subst (λ k. TopFollows s numbers m (jumped shadow_reading s m to f) w (jumped plain_reading s (pass numbers m) to k) cells w) (sym (same_frame f g z.same_func z.same_block z.same_mark z.same_heap))
        (jump_follows s numbers m known.strips known.given f g.values g.place cells w to (does (subst GoesOn (sym e) tt)) in_values (known.one_name f.func)
        (known.phis f.func (block_index (blocks_at m f.func) to)) (known.roots f.func (block_index (blocks_at m f.func) to)) (known.inner f i is z.rest_m to tells) (λ x c. sound.masks _ refl x c)),
    z.lower,
  )
  effect_step f fs g gs i is next z cells before in_world in_values apart handed size_saved gives does (Enters n w) e tells sound =
      steps_by refl (ap (λ k. and_then (plain_state cells (if leb frame_limit (k + 1) then Over («end».Trap trap.Depth (here s m f).site) w else On (entered plain_reading (pass numbers m) n (map (λ p. p.value) (words_at s f.values (here s m f) i)) w ∷ g ∷ gs) w)) More) (same_length f.func fs gs z.lower))
      (by_depth (leb frame_limit (length fs + 1)) sound)
    where
      ps : List Poisoned
      ps = words_at s f.values (here s m f) i

      by_depth : (b : Bool)
          → Sound s numbers m (shadow_moved (if b then Over («end».Trap trap.Depth (here s m f).site) w else On (entered shadow_reading m n (words_at s f.values (here s m f) i) w ∷ f ∷ fs) w))
          → Steps s numbers m
          (shadow_moved (if b then Over («end».Trap trap.Depth (here s m f).site) w else On (entered shadow_reading m n (words_at s f.values (here s m f) i) w ∷ f ∷ fs) w))
          (and_then (plain_state cells (if b then Over («end».Trap trap.Depth (here s m f).site) w else On (entered plain_reading (pass numbers m) n (map (λ p. p.value) (words_at s f.values (here s m f) i)) w ∷ g ∷ gs) w)) More)
      by_depth true sound = (refl, refl)
      by_depth false sound =
          let c = tells in
          let fit = known.called f i is z.rest_m c.ret c.callee c.args c.is n c.own in
          let words = words_at s f.values (here s m f) i in
          let at : AtCall s numbers m n f g = record {
            same_func = z.same_func;
            same_block = z.same_block;
            same_mark = z.same_mark;
            same_heap = z.same_heap;
            stands = z.stands;
            call = i;
            left = is;
            next = next;
            room = z.room;
            ret = c.ret;
            callee = c.callee;
            args = c.args;
            calls = c.is;
            own = c.own;
            rest_m = z.rest_m;
            rest_j = z.rest_j ∙ ap (λ x. i ∷ (x.after ++ (pass_insts (given_of s) (numbers f.func).env is (next_here (given_of s) (here s m f) i) x.next).code)) (sym (plain_lists (given_of s) (numbers f.func).env (here s m f) i next i.op z.no_phi));
            matches = does (subst GoesOn (sym e) tt);
          } in (
            entered_follows n words c.args cells w fit.fits (few_args i.result i.op n c.ret c.callee c.args c.is c.own (known.known f i is z.rest_m z.no_phi).built)
                (held_args i.op n (here s m f).main words cells c.ret c.callee c.args c.is c.own handed)
                (subst (λ o. SameLength (operands o) words) c.is (read_length f.values (operands i.op) (here s m f).root)) (λ x q. sound.masks _ refl x q),
            (at, z.lower),
          )
  effect_step f fs g gs i is next z cells before in_world in_values apart handed size_saved gives does (Leaves w) e tells sound = by_lower fs gs z.lower sound
    where
      by_lower : (fs : List (Frame Poisoned)) (gs : List (Frame ℕ)) → FramesFollow s numbers m f.func fs gs
          → Sound s numbers m (shadow_moved (left shadow_reading m (words_at s f.values (here s m f) i) f fs w))
          → Steps s numbers m (shadow_moved (left shadow_reading m (words_at s f.values (here s m f) i) f fs w))
          (and_then (plain_state cells (left plain_reading (pass numbers m) (map (λ p. p.value) (words_at s f.values (here s m f) i)) g gs w)) More)
      by_lower [] [] l sound = (refl, refl)
      by_lower [] (g2 ∷ gs) l sound = absurd l
      by_lower (f2 ∷ fs) [] l sound = absurd l
      by_lower (f2 ∷ fs) (g2 ∷ gs) l sound =
          let a = l.0 in
          let words = words_at s f.values (here s m f) i in
          let p = get_or words 0 clean in
          let u = given_back f w in
          let shadow_is : More (let c : ShadowState = record { frames = put f2 (result_at m f2) p ∷ fs; world = u } in c)
          ≡ More (let c : ShadowState = record { frames = frame_at f2 (f2.place + 1) (after_result f2.values a.call.result p) ∷ fs; world = u } in c) =
          ap (λ y. More (let c : ShadowState = record { frames = y ∷ fs; world = u } in c)) (ap (λ x. put f2 x p) (result_found f2 a.call a.left a.rest_m) ∙ put_shadow f2 a.call.result p) in
          let plain_is : More (state_of (put g2 (result_at (pass numbers m) g2) (get_or (map (λ p. p.value) words) 0 0)) gs cells (given_back g w))
          ≡ More (state_of (frame_at g2 (g2.place + 1) (set_result g2.values a.call.result p.value)) gs cells u) =
          ap₃ (λ x k y. More (state_of (put g2 x k) gs cells y)) (plain_found g2 a.call _ a.rest_j) (first_value words) (gives_same f g z.same_mark z.same_heap w)
          ∙ ap (λ y. More (state_of y gs cells u)) (put_plain g2 a.call.result p.value) in
          let clean_sound : Sound s numbers m (More (let c : ShadowState = record { frames = frame_at f2 (f2.place + 1) (after_result f2.values a.call.result p) ∷ fs; world = u } in c)) = subst (Sound s numbers m) shadow_is sound in
          let np : is_phi a.call.op ≡ false = subst (λ o. is_phi o ≡ false) (sym a.calls) refl in
          let fit = known.called f2 a.call a.left a.rest_m a.ret a.callee a.args a.calls f.func a.own in
          steps_by shadow_is plain_is
          (return_follows f.func f2 fs g2 gs a l.1 p cells u
          (return_fits i.op tells.value (here s m f).main words cells a.call.result a.ret (ret_at m f.func) tells.is tells.outside
          (subst (λ o. SameLength (operands o) words) tells.is (read_length f.values (operands i.op) (here s m f).root)) handed fit.answer (known.returned f i is z.rest_m tells.value tells.is))
          (λ x c. clean_sound.masks _ refl x c))

  -- where the list before an instruction stands, and the instruction after it
  abbrev round : Frame Poisoned → Inst → List Inst → ℕ → List Inst
  round f i is next =
      i
      ∷ ((task_lists (given_of s) (numbers f.func).env (here s m f) i next).after
      ++ (pass_insts (given_of s) (numbers f.func).env is (next_here (given_of s) (here s m f) i) (task_lists (given_of s) (numbers f.func).env (here s m f) i next).next).code)

  -- where the shadow run goes on after its checks
  checks_by : (f : Frame Poisoned) (fs : List (Frame Poisoned)) (i : Inst) (w : World) (e : Effect) → checked_at s f.values (here s m f) i w ≡ e
      → shadow_moved (shadow_inst by_formulas s m i f fs w) ≡ shadow_moved (after_checks by_formulas s m i (here s m f) (words_at s f.values (here s m f) i) f fs e)
  checks_by f fs i w e h = ap (λ x. shadow_moved (after_checks by_formulas s m i (here s m f) (words_at s f.values (here s m f) i) f fs x)) h

  shadow_does : (f : Frame Poisoned) (fs : List (Frame Poisoned)) (i : Inst) (w w1 : World) (e : Effect) → checked_at s f.values (here s m f) i w ≡ Does w1
      → acted_at s f.values (here s m f) i (counted_at s f.values (here s m f) i w1) ≡ e
      → shadow_moved (shadow_inst by_formulas s m i f fs w)
      ≡ shadow_moved (after_effect shadow_reading s m (here s m f).site i.result (words_at s f.values (here s m f) i)
      (poisoned_result by_formulas i.op (words_at s f.values (here s m f) i))
      (planes s (here s m f).site ((here s m f).root + count_undefs (operands i.op) + 1) i.op (words_at s f.values (here s m f) i) (counted_at s f.values (here s m f) i w1)) (keeping i.op e f) fs e)
  shadow_does f fs i w w1 e h g =
      checks_by f fs i w (Does w1) h
      ∙ ap (λ x. shadow_moved (after_effect shadow_reading s m (here s m f).site i.result (words_at s f.values (here s m f) i)
      (poisoned_result by_formulas i.op (words_at s f.values (here s m f) i))
      (planes s (here s m f).site ((here s m f).root + count_undefs (operands i.op) + 1) i.op (words_at s f.values (here s m f) i) (counted_at s f.values (here s m f) i w1)) (keeping i.op x f) fs x)) g

  -- a clean result has the mask 0, where the shadow run goes on with it
  clean_result : (f : Frame Poisoned) (fs : List (Frame Poisoned)) (i : Inst) (w : World) → Sound s numbers m (shadow_moved (shadow_inst by_formulas s m i f fs w))
      → (r : Name) (x : ℕ) (w1 w2 : World) → i.result ≡ Some r → (numbers f.func).env.clean r ≡ true → checked_at s f.values (here s m f) i w ≡ Does w1
      → acted_at s f.values (here s m f) i (counted_at s f.values (here s m f) i w1) ≡ Gives x w2
      → (poisoned_result by_formulas i.op (words_at s f.values (here s m f) i) x w2).mask ≡ 0
  clean_result f fs i w sound r x w1 w2 named cl checks acts =
      let p = poisoned_result by_formulas i.op (words_at s f.values (here s m f) i) x w2 in
      let z = planes s (here s m f).site ((here s m f).root + count_undefs (operands i.op) + 1) i.op (words_at s f.values (here s m f) i) (counted_at s f.values (here s m f) i w1) x w2 in
      let goes : shadow_moved (shadow_inst by_formulas s m i f fs w) ≡ More (record { frames = put (keeping i.op (Gives x w2) f) (Some r) p ∷ fs; world = z }) =
      shadow_does f fs i w w1 (Gives x w2) checks acts ∙ ap (λ y. More (let c : ShadowState = record { frames = put (keeping i.op (Gives x w2) f) y p ∷ fs; world = z } in c)) named in
      sym (ap (λ q. q.mask) (with_here f.values r p)) ∙ sound.masks _ goes r cl

  -- one instruction with its lists
  inst_step : (f : Frame Poisoned) (fs : List (Frame Poisoned)) (w : World) (g : Frame ℕ) (gs : List (Frame ℕ)) (cells : ℕ → ℕ) (i : Inst) (is : List Inst) (next : ℕ)
      → g.func ≡ f.func → g.block ≡ f.block → g.mark ≡ f.mark → g.heap ≡ f.heap → here s (pass numbers m) g ≡ here s m f → 2 * (numbers f.func).size + 1 ≤ next → rest_of m f ≡ i ∷ is → is_phi i.op ≡ false
      → rest_of (pass numbers m) g ≡ before_code s (numbers f.func).env (here s m f) i next ++ round f i is next
      → FramesFollow s numbers m f.func fs gs → Matches (numbers f.func).env f.values g.values → RangedWorld w → RangedValues f.values → ApartFrames m (f ∷ fs)
      → Sound s numbers m (shadow_moved (shadow_inst by_formulas s m i f fs w))
      → Steps s numbers m (shadow_moved (shadow_inst by_formulas s m i f fs w))
      (through s (pass numbers m) (before_code s (numbers f.func).env (here s m f) i next ++ round f i is next) (state_of g gs cells w))
  inst_step f fs w g gs cells i is next same_func same_block same_mark same_heap stands room rest_m no_phi rest_j lower matches in_world in_values apart sound =
      by_law (before_law s (numbers f.func).env (numbers f.func).size next (here s m f) i f.values (record { names = g.values; slots = cells }) w
      (stands_at f i is next rest_m no_phi room) matches in_world in_values (clean_result f fs i w sound))
    where
      before : List Inst
      before = before_code s (numbers f.func).env (here s m f) i next

      rest : List Inst
      rest = round f i is next

      all : AllInserted (before_code s (numbers f.func).env (here s m f) i next)
      all = tasks_inserted (before_tasks (given_of s) (numbers f.func).env (here s m f) i next) (start (given_of s) i next)

      ran : (r : Reach) → run_marked s (here s m f) (before_code s (numbers f.func).env (here s m f) i next) (record { names = g.values; slots = cells }) w ≡ r
          → through s (pass numbers m) (before_code s (numbers f.func).env (here s m f) i next ++ round f i is next) (state_of g gs cells w)
          ≡ reach_step r (λ u z. through s (pass numbers m) (round f i is next) (state_of (frame_at g (g.place + length (before_code s (numbers f.func).env (here s m f) i next)) u.names) gs u.slots z))
      ran r e =
          through_marked s (pass numbers m) (here s m f) before rest (inserted_marked _ all) (inserted_no_block _ all) g gs cells w stands rest_j (inl all)
          ∙ ap (λ y. reach_step y (λ u z. through s (pass numbers m) rest (state_of (frame_at g (g.place + length before) u.names) gs u.slots z))) e

      by_law : BeforeLaw s (numbers f.func).env next (here s m f) i f.values (record { names = g.values; slots = cells }) w
          → Steps s numbers m (shadow_moved (shadow_inst by_formulas s m i f fs w))
          (through s (pass numbers m) (before_code s (numbers f.func).env (here s m f) i next ++ round f i is next) (state_of g gs cells w))
      by_law (Checked e w1 r checks) = steps_by (checks_by f fs i w (Ends e w1) checks) (ran (Done e w1) r) (refl, refl)
      by_law (Failed e w1 w2 inside r checks acts) = steps_by (shadow_does f fs i w w1 (Ends e w2) checks acts) (ran (Done e w2) r) (refl, refl)
      by_law (Due u w1 r checks handed size_saved words gives answers does) =
          let h = here s m f in
          let ps = words_at s f.values h i in
          let z1 = counted_at s f.values h i w1 in
          let g1 = frame_at g (g.place + length before) u.names in
          let x = acted_at s f.values h i z1 in
          let at : AtInst f fs g1 gs i is next = record {
            same_func = same_func;
            same_block = same_block;
            same_mark = same_mark;
            same_heap = same_heap;
            stands = here_marked s (pass numbers m) before rest (inserted_marked _ all) g u.names rest_j ∙ stands;
            room = room;
            rest_m = rest_m;
            no_phi = no_phi;
            rest_j = drop_many _ g.place before rest rest_j;
            lower = lower;
          } in
          let k = known.known f i is rest_m no_phi in
          let in_world1 : RangedWorld z1 = checks_ranged s h.site (operands i.op) ps (uses s.func h.main i.op) _ w w1 checks in_world in
          steps_by (shadow_does f fs i w w1 (acted_at s f.values h i z1) checks refl)
          (ran (Went u z1) r
          ∙ through_inst s (pass numbers m) i _ h g1 gs u.slots z1 false k.unmarked at.stands
          ∙ ap (λ l. and_then (plain_state u.slots (after_effect plain_reading s (pass numbers m) h.site i.result l (λ v w. v) (λ v w. w) (keeping i.op (act s h i.op l z1) g1) gs (act s h i.op l z1))) More) words)
          (effect_step (keeping i.op x f) fs (keeping i.op x g1) gs i is next (keeping_both f fs g1 gs i is next i.op x at) u.slots z1 in_world1 in_values (apart i is rest_m no_phi) handed size_saved gives does (acted_at s f.values h i z1) refl
          (act_tells s h i.op (map (λ p. p.value) ps) z1) (subst (Sound s numbers m) (shadow_does f fs i w w1 (acted_at s f.values h i z1) checks refl) sound))

  -- what stands in the module has no mark
  pub unmarked_of : (f : Frame Poisoned) (i : Inst) (is : List Inst) → rest_of m f ≡ i ∷ is → i.marked ≡ false
  unmarked_of f i is e = (subst (KnownPhis (numbers f.func).env (numbers f.func).size) e (known_drop (numbers f.func).env (numbers f.func).size f.place (insts_at m f.func f.block) (known.phis f.func f.block))).0

  -- what is left of the program's block, and its instrumented list
  list_step : (f : Frame Poisoned) (fs : List (Frame Poisoned)) (w : World) (g : Frame ℕ) (gs : List (Frame ℕ)) (cells : ℕ → ℕ) (l : List Inst) (next : ℕ)
      → g.func ≡ f.func → g.block ≡ f.block → g.mark ≡ f.mark → g.heap ≡ f.heap → here s (pass numbers m) g ≡ here s m f → 2 * (numbers f.func).size + 1 ≤ next → rest_of m f ≡ l
      → rest_of (pass numbers m) g ≡ (pass_insts (given_of s) (numbers f.func).env l (here s m f) next).code
      → FramesFollow s numbers m f.func fs gs → Matches (numbers f.func).env f.values g.values → RangedWorld w → RangedValues f.values → ApartFrames m (f ∷ fs)
      → Sound s numbers m (shadow_moved (shadow_first by_formulas s m l f fs w))
      → Steps s numbers m (shadow_moved (shadow_first by_formulas s m l f fs w))
      (through s (pass numbers m) (pass_insts (given_of s) (numbers f.func).env l (here s m f) next).code (state_of g gs cells w))
  list_step f fs w g gs cells [] next same_func same_block same_mark same_heap stands room rest_m rest_j lower matches in_world in_values apart sound = (refl, refl)
  list_step f fs w g gs cells (i ∷ is) next same_func same_block same_mark same_heap stands room rest_m rest_j lower matches in_world in_values apart sound = by_phi (is_phi i.op) refl
    where
      given : Given
      given = given_of s

      env : Env
      env = (numbers f.func).env

      by_phi : (b : Bool) → is_phi i.op ≡ b
          → Steps s numbers m (shadow_moved (shadow_inst by_formulas s m i f fs w)) (through s (pass numbers m) (pass_insts (given_of s) (numbers f.func).env (i ∷ is) (here s m f) next).code (state_of g gs cells w))
      by_phi true e = steps_by (phi_shadow s m i.op i.result i.marked f fs w e) (phi_code i.op i.result i.marked (unmarked_of f i is rest_m) e) (refl, refl)
        where
          phi_code : (o : Op) (x : Option Name) (b : Bool) → b ≡ false → is_phi o ≡ true
              → through s (pass numbers m) (pass_insts (given_of s) (numbers f.func).env (record { op = o; result = x; marked = b } ∷ is) (here s m f) next).code (state_of g gs cells w) ≡ Stop stuck w
          phi_code (op.Phi t es) x true u e = absurd (grind arith)
          phi_code (op.Phi t es) x false u e = refl
          phi_code _ x b u e = absurd (grind arith)
      by_phi false e =
          let lists_are = plain_lists (given_of s) (numbers f.func).env (here s m f) i next i.op e in
          let code_is = ap (λ x. x.before ++ (i ∷ (x.after ++ (pass_insts (given_of s) (numbers f.func).env is (next_here (given_of s) (here s m f) i) x.next).code))) lists_are in
          steps_by refl (ap (λ l. through s (pass numbers m) l (state_of g gs cells w)) code_is)
          (inst_step f fs w g gs cells i is next same_func same_block same_mark same_heap stands room rest_m e (rest_j ∙ code_is) lower matches in_world in_values apart sound)

  top_step : (f : Frame Poisoned) (fs : List (Frame Poisoned)) (w : World) (g : Frame ℕ) (gs : List (Frame ℕ)) (cells : ℕ → ℕ) (z : World)
      → TopFollows s numbers m f w g cells z → FramesFollow s numbers m f.func fs gs → RangedWorld w → RangedValues f.values → ApartFrames m (f ∷ fs)
      → Sound s numbers m (shadow_moved (shadow_frames by_formulas s m (f ∷ fs) w))
      → Steps s numbers m (shadow_moved (shadow_frames by_formulas s m (f ∷ fs) w)) (through s (pass numbers m) (rest_of (pass numbers m) g) (state_of g gs cells z))
  top_step f fs w g gs cells z t lower in_world in_values apart sound =
      let code = (pass_insts (given_of s) (numbers f.func).env (rest_of m f) (here s m f) t.next).code in
      let g1 = frame_at g (g.place + length t.waiting) t.after.names in
      steps_by refl
      (ap (λ l. through s (pass numbers m) l (state_of g gs cells z)) t.rest
      ∙ through_marked s (pass numbers m) (here s m f) t.waiting code t.marked t.no_block g gs cells z t.stands t.rest (inr (subst RunsOn (sym t.runs) tt))
      ∙ ap (λ y. reach_step y (λ u w. through s (pass numbers m) code (state_of (frame_at g (g.place + length t.waiting) u.names) gs u.slots w))) t.runs)
      (list_step f fs w g1 gs t.after.slots (rest_of m f) t.next t.same_func t.same_block t.same_mark t.same_heap
      (here_marked s (pass numbers m) t.waiting code t.marked g t.after.names t.rest ∙ t.stands) t.room refl
      (drop_many _ g.place t.waiting code t.rest) lower t.matches in_world in_values apart sound)

  frames_step : (fs : List (Frame Poisoned)) (w : World) (gs : List (Frame ℕ)) (cells : ℕ → ℕ) (z : World)
      → FollowsBy s numbers m fs w gs cells z → RangedFrames fs → RangedWorld w → ApartFrames m fs
      → Sound s numbers m (shadow_moved (shadow_frames by_formulas s m fs w))
      → Steps s numbers m (shadow_moved (shadow_frames by_formulas s m fs w)) (plain_first s (pass numbers m) gs (record { frames = gs; slots = cells; world = z }))
  frames_step [] w gs cells z h in_frames in_world apart sound = absurd h
  frames_step (f ∷ fs) w [] cells z h in_frames in_world apart sound = absurd h
  frames_step (f ∷ fs) w (g ∷ gs) cells z h in_frames in_world apart sound = top_step f fs w g gs cells z h.0 h.1 in_world in_frames.0 apart sound

  pub step_law : (c : ShadowState) (d : PlainState) → Follows s numbers m c d → Ranged c → ApartFrames m c.frames → Sound s numbers m (shadow_step by_formulas s m c)
      → Steps s numbers m (shadow_step by_formulas s m c) (plain_step s (pass numbers m) d)
  step_law c d follows ranged apart sound = frames_step c.frames c.world d.frames d.slots d.world follows ranged.frames ranged.world apart sound

  -- the same where masks are said by completions
  pub step_completed : (c : ShadowState) (d : PlainState) → Follows s numbers m c d → Ranged c → ApartFrames m c.frames → Sound s numbers m (shadow_step by_completions s m c)
      → Steps s numbers m (shadow_step by_completions s m c) (plain_step s (pass numbers m) d)
  step_completed c d follows ranged apart sound =
      let same = same_step formulas_exact s m c in
      subst (λ r. Steps s numbers m r (plain_step s (pass numbers m) d)) (sym same) (step_law c d follows ranged apart (subst (Sound s numbers m) same sound))

  steps_answer : (n : ℕ) (r : Stepped ShadowState) (t : Stepped PlainState) → Steps s numbers m r t
      → ((c : ShadowState) (d : PlainState) → Follows s numbers m c d → r ≡ More c → run (λ d. d.world) (plain_step s (pass numbers m)) n d ≡ run (λ c. c.world) (shadow_step by_formulas s m) n c)
      → go_on (run (λ d. d.world) (plain_step s (pass numbers m)) n) t ≡ go_on (run (λ c. c.world) (shadow_step by_formulas s m) n) r
  steps_answer n (More c) (More d) h k = k c d h refl
  steps_answer n (Stop e w) (Stop e' w') h k = ap₂ result h.0 h.1
  steps_answer n (More c) (Stop e w) h k = absurd h
  steps_answer n (Stop e w) (More d) h k = absurd h

  spent : (fs : List (Frame Poisoned)) (w : World) (gs : List (Frame ℕ)) (cells : ℕ → ℕ) (z : World) → FollowsBy s numbers m fs w gs cells z → result «end».Spent z ≡ result «end».Spent w
  spent [] w gs cells z h = absurd h
  spent (f ∷ fs) w [] cells z h = absurd h
  spent (f ∷ fs) w (g ∷ gs) cells z h = h.0.sees «end».Spent

  -- the whole run, for every number of steps
  pub runs_agree : (inv : ShadowState → Type 0) → Kept s numbers m inv → (n : ℕ) (c : ShadowState) (d : PlainState) → inv c → Ranged c → Follows s numbers m c d
      → run (λ d. d.world) (plain_step s (pass numbers m)) n d ≡ run (λ c. c.world) (shadow_step by_formulas s m) n c
  runs_agree inv kept zero c d i r f = spent c.frames c.world d.frames d.slots d.world f
  runs_agree inv kept (suc n) c d i r f =
      steps_answer n (shadow_step by_formulas s m c) (plain_step s (pass numbers m) d)
      (step_law c d f r (kept.apart c i) (record { masks = λ c' e. kept.clean c' (kept.step c c' i e) }))
      (λ c' d' g e. runs_agree inv kept n c' d' (kept.step c c' i e)
      (ranged_kept s numbers m known c c' r e) g)

  pub clean_runs_agree : (n : ℕ) (c : ShadowState) (d : PlainState) → CleanRun s numbers m c → Ranged c → Follows s numbers m c d
      → run (λ d. d.world) (plain_step s (pass numbers m)) n d ≡ run (λ c. c.world) (shadow_step by_formulas s m) n c
  clean_runs_agree n c d k r f = runs_agree (CleanRun s numbers m) (clean_kept s numbers m) n c d k r f
