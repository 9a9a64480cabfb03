-- No step of a fiber that goes on makes a thread, or takes back a report.
use Rattle.std.proofs.Common.{◌≡◌, ◌≤◌, ℕ, zero, suc, Bool, true, false, List, [], ◌∷◌, length, eqb, if◌then◌else◌, Some, refl, sym, ap, ◌∙◌, arith, true≢false}
use Rattle.ms_ir.specs.declared.syntax.Inst.{Inst}
use Rattle.ms_ir.specs.declared.syntax.Module.{Module}
use Rattle.ms_ir.specs.Instructions.{operands}
use Rattle.ms_runs.specs.World.{World, Thread, Setting, Here, Effect, Gives, Does, Goes as Jumps, Enters, Leaves, Ends}
use Rattle.ms_runs.specs.Threads.{Fibers as FibersOf, fibers_of, changed_at, changed_thread}
use Rattle.ms_runs.specs.Control.{Frame, Outcome, On, Over, here, rest_of, read_all, keeping, after_effect}
use Rattle.ms_runs.specs.Act.{plain_reading, act}
use Rattle.ms_runs.specs.Plain.{PlainState, Stepped, More, Stop, act_marked, slots_after, and_then, plain_state, plain_inst, through, plain_first, plain_step}
use Rattle.ms_runs.specs.Calls.{call_sites}
use Rattle.ms_runs_good_laws.specs.GoodWorlds.{GoodAfter}
use Rattle.ms_runs_good_laws.proofs.FibersKept.{world_of as world_after, Kept, marked_keeps}
use Rattle.ms_runs_good_laws.proofs.Frames.{MovedTo, moves_to}
use Rattle.ms_runs_good_laws.proofs.ReportsGrow.{stepped_world}
use Rattle.ms_runs_good_laws.proofs.ThreadsApart.{CallsNoThread}
use Rattle.ms_runs_threads.specs.Alike.{count_of, left_world}
use Rattle.ms_runs_threads.specs.Fibers.{Due, Own, Asks, Returns, Going, Others, Fibers, Goes, Waits, goes_on, standing, ended, moved, fibers_step, world_of}
use Rattle.ms_runs_threads.specs.PlainFibers.{Shared, state_of, due_inst, due_at, frames_due, frames_left, plain_going, through_marked, plain_reach, plain_fiber}
use Rattle.ms_runs_threads.proofs.Follow.{step_counted}
use Rattle.ms_threads_laws.proofs.OwnSteps.{back_keeps, calm_keeps, calm_due}
use Rattle.ms_threads_laws.proofs.OneEach.{counting, none_alike, none_late, grows}

-- an effect's world is one that has the fibers of another
after_same : (w : World) (e : Effect) → fibers_of (world_after e) ≡ fibers_of w → GoodAfter (λ z. fibers_of z ≡ fibers_of w) e
after_same w (Gives v z) q = q
after_same w (Does z) q = q
after_same w (Jumps to z) q = q
after_same w (Enters f z) q = q
after_same w (Leaves z) q = q
after_same w (Ends e z) q = q

-- so is that of a state after a move
state_same : (w : World) (cells : ℕ → ℕ) (o : Outcome ℕ) → MovedTo (λ z. fibers_of z ≡ fibers_of w) o → fibers_of (stepped_world (plain_state cells o)) ≡ fibers_of w
state_same w cells (On fs z) q = q
state_same w cells (Over e z) q = q

-- and that of a step after another
then_same : (w : World) (x : Stepped PlainState) (go : PlainState → Stepped PlainState) → fibers_of (stepped_world x) ≡ fibers_of w → ((c : PlainState) → fibers_of (stepped_world (go c)) ≡ fibers_of c.world)
    → fibers_of (stepped_world (and_then x go)) ≡ fibers_of w
then_same w (More c) go q rest = rest c ∙ q
then_same w (Stop e z) go q rest = q

-- the number of threads stays where one is changed
changed_length : (change : Thread → Thread) (k : ℕ) (ts : List Thread) → length (changed_at k change ts) ≡ length ts
changed_length change k [] = refl
changed_length change zero (t ∷ ts) = refl
changed_length change (suc k) (t ∷ ts) = ap suc (changed_length change k ts)

thread_length : (change : Thread → Thread) (n : ℕ) (ts : List Thread) → length (changed_thread n change ts) ≡ length ts
thread_length change zero ts = refl
thread_length change (suc k) ts = changed_length change k ts

module _ (s : Setting) (m : Module) where
  -- ---- instructions

  -- one that is marked, or calls no thread call
  inst_same : (i : Inst) (state : PlainState) (fs : List (Frame ℕ)) → (i.marked ≡ false → CallsNoThread s.func i.op) → fibers_of (stepped_world (plain_inst s m i state fs)) ≡ fibers_of state.world
  inst_same i state [] calm = refl
  inst_same i state (frame ∷ below) calm =
      let h = here s m frame in
      let words = read_all (plain_reading.read s frame.values) (operands i.op) h.root in
      let e = if i.marked then act_marked s h i.op words state.slots state.world else act s h i.op words state.world in
      state_same state.world (if i.marked then slots_after i.op words state.slots else state.slots)
      (after_effect plain_reading s m h.site i.result words (λ v w. v) (λ v w. w) (keeping i.op e frame) below e)
      (moves_to plain_reading s m (λ z. fibers_of z ≡ fibers_of state.world) (λ f w q. back_keeps f w ∙ q) h.site i.result words (λ v w. v) (λ v w. w) (λ v w q. q) (keeping i.op e frame) below e
      (after_same state.world e (by_mark h words i.marked refl).kept))
    where
      by_mark : (h : Here) (words : List ℕ) (b : Bool) → i.marked ≡ b → Kept state.world (if b then act_marked s h i.op words state.slots state.world else act s h i.op words state.world)
      by_mark h words true is = marked_keeps s h i.op words state.slots state.world
      by_mark h words false is = calm_keeps s h i.op words state.world (calm is)

  -- ---- a fiber's own step

  through_same : (is : List Inst) (state : PlainState) (main only : Bool) → due_at s.func main only (due_inst is) ≡ Own → fibers_of (stepped_world (through s m is state)) ≡ fibers_of state.world
  through_same [] state main only own = refl
  through_same (i ∷ is) state main only own = by_mark (λ q c. through_same is c main only q) i.marked refl own
    where
      by_mark : (due_at s.func main only (due_inst is) ≡ Own → (c : PlainState) → fibers_of (stepped_world (through s m is c)) ≡ fibers_of c.world) → (b : Bool) → i.marked ≡ b → due_at s.func main only (if b then due_inst is else Some i) ≡ Own
          → fibers_of (stepped_world (and_then (plain_inst s m i state state.frames) (if b then through s m is else More))) ≡ fibers_of state.world
      by_mark rest true marked q =
          then_same state.world (plain_inst s m i state state.frames) (through s m is) (inst_same i state state.frames (λ e. absurd (true≢false (sym marked ∙ e)))) (rest q)
      by_mark rest false unmarked q =
          then_same state.world (plain_inst s m i state state.frames) More (inst_same i state state.frames (λ e. calm_due s.func main only i.op q)) (λ c. refl)

  first_same : (fs : List (Frame ℕ)) (state : PlainState) → frames_due s m fs ≡ Own → fibers_of (stepped_world (plain_first s m fs state)) ≡ fibers_of state.world
  first_same [] state own = refl
  first_same (f ∷ below) state own = through_same (rest_of m f) state (here s m f).main (eqb (length below) 0) own

  -- leaves what the world has of fibers
  pub own_same : (state : PlainState) → frames_due s m state.frames ≡ Own → fibers_of (stepped_world (plain_step s m state)) ≡ fibers_of state.world
  own_same state own = first_same state.frames state own

  -- ---- up to what is due

  marked_same : (is : List Inst) (state : PlainState) → fibers_of (stepped_world (through_marked s m is state)) ≡ fibers_of state.world
  marked_same [] state = refl
  marked_same (i ∷ is) state = by_mark (λ c. marked_same is c) i.marked refl
    where
      by_mark : ((c : PlainState) → fibers_of (stepped_world (through_marked s m is c)) ≡ fibers_of c.world) → (b : Bool) → i.marked ≡ b → fibers_of (stepped_world (if b then and_then (plain_inst s m i state state.frames) (through_marked s m is) else More state)) ≡ fibers_of state.world
      by_mark rest true marked = then_same state.world (plain_inst s m i state state.frames) (through_marked s m is) (inst_same i state state.frames (λ e. absurd (true≢false (sym marked ∙ e)))) rest
      by_mark rest false unmarked = refl

  reach_same : (frames : List (Frame ℕ)) (shared : Shared) → fibers_of (stepped_world (plain_reach s m frames shared)) ≡ fibers_of shared.world
  reach_same [] shared = refl
  reach_same (f ∷ below) shared = marked_same (rest_of m f) (state_of (f ∷ below) shared)

  -- ---- a step of a run of fibers

  -- the world after it
  abbrev pub fibers_world : Stepped (Fibers (List (Frame ℕ)) Shared) → World
  fibers_world (More c) = world_of (plain_fiber s m) c
  fibers_world (Stop e w) = w

  -- what is made of where a fiber comes to
  going_length : (x : Stepped PlainState) (go : Going (List (Frame ℕ)) Shared → Fibers (List (Frame ℕ)) Shared)
      → ((g : Going (List (Frame ℕ)) Shared) → length (world_of (plain_fiber s m) (go g)).threads ≡ length g.shared.world.threads)
      → length (fibers_world (goes_on (plain_going x) (λ g. More (go g)))).threads ≡ length (stepped_world x).threads
  going_length (More c) go same = same (record { fiber = c.frames; shared = record { slots = c.slots; world = c.world } })
  going_length (Stop e w) go same = refl

  left_length : (frames : List (Frame ℕ)) (w : World) → length (frames_left frames w).threads ≡ length w.threads
  left_length [] w = refl
  left_length (f ∷ below) w = ap (λ (k : FibersOf). length k.threads) (back_keeps f w)

  counted : (x w : World) → fibers_of x ≡ fibers_of w → length x.threads ≡ length w.threads
  counted x w q = ap (λ (k : FibersOf). length k.threads) q

  moved_length : (frames : List (Frame ℕ)) (shared : Shared) (others : Others (List (Frame ℕ))) (due : Due) → frames_due s m frames ≡ due
      → length (fibers_world (moved (plain_fiber s m) frames shared others due)).threads ≡ length shared.world.threads
  moved_length frames shared others Own is =
      going_length (plain_step s m (state_of frames shared)) (λ g. Goes g.fiber g.shared others) (λ g. refl) ∙ counted (stepped_world (plain_step s m (state_of frames shared))) shared.world (own_same (state_of frames shared) is)
  moved_length frames shared others Asks is =
      going_length (plain_reach s m frames shared) (λ g. Waits g.shared (record others { stands = standing g.shared.world.turn (Some g.fiber) others.stands })) (λ g. refl)
      ∙ counted (stepped_world (plain_reach s m frames shared)) shared.world (reach_same frames shared)
  moved_length frames shared others Returns is =
      going_length (plain_reach s m frames shared) (λ g. Waits (ended (plain_fiber s m) g.fiber g.shared) others)
      (λ g. thread_length (λ t. record t { ended = true }) (frames_left g.fiber g.shared.world).turn (frames_left g.fiber g.shared.world).threads ∙ left_length g.fiber g.shared.world)
      ∙ counted (stepped_world (plain_reach s m frames shared)) shared.world (reach_same frames shared)

  -- as many threads are there after it
  pub goes_length : (schedule : List ℕ) (frames : List (Frame ℕ)) (shared : Shared) (others : Others (List (Frame ℕ)))
      → length (fibers_world (fibers_step (plain_fiber s m) schedule (Goes frames shared others))).threads ≡ length shared.world.threads
  goes_length schedule frames shared others = moved_length frames shared others (frames_due s m frames) refl

  -- and no fewer reports
  pub goes_reports : (schedule : List ℕ) (frames : List (Frame ℕ)) (shared : Shared) (others : Others (List (Frame ℕ)))
      → length shared.world.reports ≤ length (fibers_world (fibers_step (plain_fiber s m) schedule (Goes frames shared others))).reports
  goes_reports schedule frames shared others =
      let means = plain_fiber s m in
      let r = counting means (call_sites m) in
      let le = step_counted means means r (none_alike means (call_sites m)) (grows s m) (none_late means (call_sites m)) schedule (Goes frames shared others) in
      let e = same (fibers_step means schedule (Goes frames shared others)) in
      omega (arith, le, e)
    where
      same : (x : Stepped (Fibers (List (Frame ℕ)) Shared)) → count_of (λ w. length w.reports) (left_world (plain_fiber s m) (plain_fiber s m) (counting (plain_fiber s m) (call_sites m))) x ≡ length (fibers_world x).reports
      same (More c) = refl
      same (Stop e w) = refl
