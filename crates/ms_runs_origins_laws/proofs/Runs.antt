-- In every state of a shadow run, and at its end, poisoned bits come from what the run has reached.
use Rattle.std.proofs.Common.{◌≡◌, inl, inr, ⊎_elim, ℕ, suc, List, [], ◌∷◌, Some, refl, sym, subst, arith, false}
use Rattle.ms_ir.specs.ThreadCalls.{is_threaded}
use Rattle.ms_ir.specs.declared.syntax.Inst.{Inst}
use Rattle.ms_ir.specs.declared.syntax.Module.{Module}
use Rattle.ms_runs.specs.declared.runs.Setup.{Setup}
use Rattle.ms_runs.specs.World.{World}
use Rattle.ms_ir.specs.Instructions.{count_roots, NoMarks}
use Rattle.ms_runs.specs.Control.{Frame, Outcome, On, Over, rest_of}
use Rattle.ms_runs.specs.Plain.{Stepped, More, Stop, setting_of}
use Rattle.ms_runs.specs.Poisoned.{Poisoned}
use Rattle.ms_runs.specs.Masks.{Rules, by_completions}
use Rattle.ms_runs.specs.Shadow.{ShadowState, shadow_moved, shadow_frames, shadow_step}
use Rattle.ms_check_valid.specs.Formed.{Formed}
use Rattle.ms_check_valid.specs.Valid.{Valid}
use Rattle.ms_runs_good_laws.specs.Reached.{Walk, walk_start, walked, Due, IsOperand, Reaches, AsOperand, AsItself, AsEdge, AnyStep, IsReached, HasRun, HasReachedOrigins, ShowsTrails, IsTold, ended, FromReached}
use Rattle.ms_runs_good_laws.specs.GoodRules.{KeepWidths}
use Rattle.ms_runs_good_laws.specs.GoodStates.{PoisonedBelow, GoodFrames}
use Rattle.ms_runs_good_laws.specs.GoodWorlds.{GivesBytes}
use Rattle.ms_runs_good_laws.specs.GoodRuns.{SoundShadow}
use Rattle.ms_runs_good_laws.proofs.Frames.{top_good, due_first}
use Rattle.ms_runs_good_laws.proofs.MaskRanges.{completions_keep}
use Rattle.ms_runs_good_laws.proofs.ThreadsApart.{no_thread_called}
use Rattle.ms_runs_good_laws.proofs.Walks.{walks_keep, walks_sound}
use Rattle.ms_runs_clean_laws.specs.KeepClean.{KeepClean}
use Rattle.ms_runs_clean_laws.proofs.CleanRules.{completions_clean}
use Rattle.ms_runs_origins_laws.proofs.Worlds.{Back, Backed, NoneFree}
use Rattle.ms_runs_origins_laws.proofs.Frames.{FramesHold, each_holds}
use Rattle.ms_runs_origins_laws.proofs.Steps.{backed_weaker, frames_back, Leads, RunsNow, ReachesNow, ReachesNext, MovedLeads, CalmFirst, CalmTop, frames_lead}
use Rattle.ms_runs_origins_laws.proofs.Starting.{start_backed}

-- what every state of a run has
abbrev WalkLeads : Module → Walk → (told : ℕ → Type 0) → Type 0
WalkLeads m walk told = Leads m walk.state (HasRun m walk) (IsReached m walk) told

-- ---- one step more

-- the walk one step on
abbrev next_walk : Walk → List (Frame Poisoned) → World → Walk
next_walk walk fs u = record { state = record { frames = fs; world = u }; passed = walk.state ∷ walk.passed }

module _ (m : Module) (walk : Walk) (fs : List (Frame Poisoned)) (u : World) where
  -- which sites have run, and which roots are reached
  abbrev Runs : ℕ → Type 0
  Runs at = HasRun m walk at

  abbrev Reached : ℕ → Type 0
  Reached id = IsReached m walk id

  runs_later : (at : ℕ) → RunsNow m walk.state Runs at → HasRun m (next_walk walk fs u) at
  runs_later at (inl h) = (0, walk.state, omega arith, refl, h)
  runs_later at (inr h) = (suc h.0, h.1, omega (arith, h.2), h.3, h.4)

  now_later : (id : ℕ) → ReachesNow m walk.state Reached id → IsReached m (next_walk walk fs u) id
  now_later id (inl (inl h)) = inl (AsOperand h)
  now_later id (inl (inr h)) = inl (AsItself h)
  now_later id (inr h) = inr h

  next_later : (id : ℕ) → ReachesNext m walk.state Reached fs u id → IsReached m (next_walk walk fs u) id
  next_later id (inl h) = now_later id h
  next_later id (inr h) = inl (AsEdge h)

  told_later : (id : ℕ) → IsTold m walk id → IsReached m (next_walk walk fs u) id
  told_later id (inl h) = inr h
  told_later id (inr h) = inl (AsOperand h)

  leads_later : MovedLeads m walk.state Runs Reached (On fs u) → WalkLeads m (next_walk walk fs u) (IsReached m (next_walk walk fs u))
  leads_later h = record {
    frames = frames_back (RunsNow m walk.state Runs) (ReachesNext m walk.state Reached fs u) (HasRun m (next_walk walk fs u)) (IsReached m (next_walk walk fs u)) runs_later next_later (count_roots m) u.pairs fs h.0;
    world = backed_weaker (RunsNow m walk.state Runs) (ReachesNow m walk.state Reached) (IsTold m walk) (HasRun m (next_walk walk fs u)) (IsReached m (next_walk walk fs u)) (IsReached m (next_walk walk fs u)) runs_later now_later told_later (count_roots m) u h.1;
  }

-- ---- the end

module _ (m : Module) (walk : Walk) (world : World) where
  -- the instruction that is due is the same at the end
  abbrev due_still : Due m walk.state → Due m (ended walk world).state
  due_still due = record { frame = due.frame; below = due.below; innermost = due.innermost; inst = due.inst; stands = due.stands }

  operand_still : (id : ℕ) → IsOperand m walk.state id → IsOperand m (ended walk world).state id
  operand_still id h = record { due = due_still h.due; above = h.above; within = h.within }

  reaches_still : (before : ShadowState) (id : ℕ) → Reaches m before walk.state id → Reaches m before (ended walk world).state id
  reaches_still before id (AsOperand h) = AsOperand h
  reaches_still before id (AsItself h) = AsItself h
  reaches_still before id (AsEdge h) = AsEdge (record {
    due = h.due;
    branches = h.branches;
    frame = h.frame;
    below = h.below;
    innermost = h.innermost;
    place = h.place;
    leading = h.leading;
    phi = h.phi;
    stands = h.stands;
    ty = h.ty;
    edges = h.edges;
    shape = h.shape;
    undefined = h.undefined;
    taken = h.taken;
  })

  any_still : (id : ℕ) (passed : List ShadowState) → AnyStep (λ before after. Reaches m before after id) walk.state passed → AnyStep (λ before after. Reaches m before after id) (ended walk world).state passed
  any_still id [] h = absurd h
  any_still id (before ∷ rest) (inl h) = inl (reaches_still before id h)
  any_still id (before ∷ rest) (inr h) = inr h

  reached_still : (id : ℕ) → IsReached m walk id → IsReached m (ended walk world) id
  reached_still id h = any_still id walk.passed h

  told_still : (id : ℕ) → IsTold m walk id → IsTold m (ended walk world) id
  told_still id (inl h) = inl (reached_still id h)
  told_still id (inr h) = inr (operand_still id h)

  leads_still : WalkLeads m walk (IsTold m walk) → (world.pairs ≡ walk.state.world.pairs) × Backed (HasRun m walk) (IsReached m walk) (IsTold m walk) (count_roots m) NoneFree world → WalkLeads m (ended walk world) (IsTold m (ended walk world))
  leads_still leads h = record {
    frames = subst (λ ps. FramesHold (Back (HasRun m walk) (IsReached m (ended walk world)) (count_roots m) ps) walk.state.frames) (sym h.0)
        (frames_back (HasRun m walk) (IsReached m walk) (HasRun m walk) (IsReached m (ended walk world)) (λ k e. e) reached_still (count_roots m) walk.state.world.pairs walk.state.frames leads.frames);
    world = backed_weaker (HasRun m walk) (IsReached m walk) (IsTold m walk) (HasRun m walk) (IsReached m (ended walk world)) (IsTold m (ended walk world)) (λ k e. e) reached_still told_still (count_roots m) world h.1;
  }

-- ---- runs

-- what every state of a run has is what is promised
shown : (m : Module) (setup : Setup) (walk : Walk) (told : ℕ → Type 0) → WalkLeads m walk told → HasReachedOrigins m setup walk × ShowsTrails m setup walk told
shown m setup walk told leads = (
  record {
    words = λ frame within x ne. each_holds (Back (HasRun m walk) (IsReached m walk) (count_roots m) walk.state.world.pairs) walk.state.frames leads.frames frame within x ne;
    cells = λ x ne. ⊎_elim (λ h. absurd h) (λ h. h) (leads.world.cells x ne);
  },
  record { leads = λ r within. (leads.world.reports_back r within).0; shown = λ r within. (leads.world.reports_back r within).1 },
)

-- origins lead back after a step
abbrev SteppedLeads : Module → Walk → Stepped ShadowState → Type 0
SteppedLeads m walk (More next) = WalkLeads m (next_walk walk next.frames next.world) (IsReached m (next_walk walk next.frames next.world))
SteppedLeads m walk (Stop e world) = WalkLeads m (ended walk world) (IsTold m (ended walk world))

-- in a step an undefined operand of the instruction that is due counts as reached
telling : (m : Module) (walk : Walk) → WalkLeads m walk (IsReached m walk) → WalkLeads m walk (IsTold m walk)
telling m walk leads = record {
  frames = leads.frames;
  world = backed_weaker (HasRun m walk) (IsReached m walk) (IsReached m walk) (HasRun m walk) (IsReached m walk) (IsTold m walk) (λ k e. e) (λ k e. e) (λ k e. inl e) (count_roots m) walk.state.world leads.world;
}

module _ (d : Rules) (keep : KeepClean d) (widths : KeepWidths d) (m : Module) (formed : Formed m) (valid : Valid m) (calm : is_threaded m ≡ false) (bare : NoMarks m) (setup : Setup) (bytes : GivesBytes setup) where
  -- nothing that is due is a thread call
  calm_top : (walk : Walk) (fs : List (Frame Poisoned)) → GoodFrames PoisonedBelow m fs → CalmTop m formed valid bare setup d keep walk.state (HasRun m walk) (IsReached m walk) fs
  calm_top walk [] good = tt
  calm_top walk (frame ∷ below) good = by_list (rest_of m frame) refl
    where
      by_list : (l : List Inst) → rest_of m frame ≡ l → CalmFirst m formed valid bare setup d keep walk.state (HasRun m walk) (IsReached m walk) l
      by_list [] e = tt
      by_list (i ∷ is) e =
          let top = top_good PoisonedBelow m frame below good in
          no_thread_called m calm frame.func frame.block frame.place top.func i top.stands (due_first PoisonedBelow m frame top i is e)

  step_leads : (walk : Walk) → SoundShadow m walk.state → WalkLeads m walk (IsReached m walk) → SteppedLeads m walk (shadow_step d (setting_of m setup) m walk.state)
  step_leads walk sound leads = by_moved (shadow_frames d (setting_of m setup) m walk.state.frames walk.state.world) (frames_lead m formed valid bare setup d keep walk.state (HasRun m walk) (IsReached m walk) walk.state.frames refl sound.frames (telling m walk leads) sound.world.shadow leads.frames
      (calm_top walk walk.state.frames sound.frames))
    where
      by_moved : (moved : Outcome Poisoned) → MovedLeads m walk.state (HasRun m walk) (IsReached m walk) moved → SteppedLeads m walk (shadow_moved moved)
      by_moved (On fs u) h = leads_later m walk fs u h
      by_moved (Over e u) h = leads_still m walk u (telling m walk leads) h

  start_leads : WalkLeads m (walk_start m setup) (IsReached m (walk_start m setup))
  start_leads = record {
    frames = ((λ x ne. absurd (ne refl)), tt);
    world = start_backed (HasRun m (walk_start m setup)) (IsReached m (walk_start m setup)) (IsReached m (walk_start m setup)) (count_roots m) m valid setup;
  }

  walks_lead : (n : ℕ) (walk : Walk) → walked d m setup n ≡ Some walk → WalkLeads m walk (IsReached m walk)
  walks_lead = walks_keep d m setup (λ walk. WalkLeads m walk (IsReached m walk)) start_leads
      (λ n walk next at h is. subst (SteppedLeads m walk) is (step_leads walk (walks_sound d widths m formed valid setup bytes n walk at) h))

  -- poisoned bits come from what a run has reached, by any rules that poison nothing of their own
  pub from_reached : FromReached d m setup
  from_reached = record {
    states = λ n walk at. shown m setup walk (IsReached m walk) (walks_lead n walk at);
    ends = λ n walk e world at is. shown m setup (ended walk world) (IsTold m (ended walk world)) (subst (SteppedLeads m walk) is (step_leads walk (walks_sound d widths m formed valid setup bytes n walk at) (walks_lead n walk at)));
  }

-- so also by completions
pub from_completions : (m : Module) → Formed m → Valid m → is_threaded m ≡ false → NoMarks m → (setup : Setup) → GivesBytes setup → FromReached by_completions m setup
from_completions = from_reached by_completions completions_clean completions_keep
