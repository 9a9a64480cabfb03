-- What a shadow run of fibers has reached, and that origins lead back there: each origin leads back, over instructions that ran
-- in some fiber, to a root that some fiber has reached (own; for modules without marks).
use Rattle.std.specs.Prelude.{◌≡◌, ◌⊎◌, ℕ, zero, suc, ◌/◌, List, [], ◌∷◌, ◌++◌, Any, Contains, Option, Some, None, option_and_then}
use Rattle.ms_ir.specs.declared.syntax.Name.{Name}
use Rattle.ms_ir.specs.declared.places.Root.{Root as Place}
use Rattle.ms_ir.specs.declared.syntax.Module.{Module}
use Rattle.ms_ir.specs.Roots.{root_numbered}
use Rattle.ms_runs.specs.declared.runs.End.{End}
use Rattle.ms_runs.specs.declared.runs.Report.{Report}
use Rattle.ms_runs.specs.declared.runs.Setup.{Setup}
use Rattle.ms_runs.specs.World.{World}
use Rattle.ms_runs.specs.Calls.{call_sites}
use Rattle.ms_runs.specs.Control.{Frame}
use Rattle.ms_runs.specs.Origins.{trail}
use Rattle.ms_runs.specs.Plain.{Stepped, More, Stop, setting_of}
use Rattle.ms_runs.specs.Poisoned.{Poisoned}
use Rattle.ms_runs.specs.Masks.{Rules}
use Rattle.ms_runs.specs.Shadow.{ShadowState}
use Rattle.ms_runs_good_laws.specs.Reached.{Reaches, IsOperand, StandsAt, LeadsBack}
use Rattle.ms_runs_threads.specs.Calls.{acting}
use Rattle.ms_runs_threads.specs.Fibers.{Fibers, Goes, Waits, world_of}
use Rattle.ms_runs_threads.specs.ShadowFibers.{shadow_state, shadow_fiber, shadow_threads_start}
use Rattle.ms_threads_runs_laws.specs.Halves.{half_step}
use Rattle.ms_threads_runs_laws.specs.ThreadStates.{HasFiber}

-- ---- runs

-- what a fiber did in half a step: its frames and the world before, and after
pub record Ran : Type 0 where
  pub before : ShadowState
  pub after : ShadowState

-- a shadow run of fibers as far as it came, in halves of steps: the state in which it is, and what fibers did, the latest first
pub record ThreadWalk : Type 0 where
  pub state : Fibers (List (Frame Poisoned)) World
  pub ran : List Ran

-- the frames of the fiber that goes on
abbrev pub frames_going : Fibers (List (Frame Poisoned)) World → List (Frame Poisoned)
frames_going (Goes f w rest) = f
frames_going (Waits w rest) = []

module _ (d : Rules) (m : Module) (setup : Setup) (schedule : List ℕ) where
  -- the frames from which a fiber takes half a step; none where it begins
  abbrev pub frames_acting : Fibers (List (Frame Poisoned)) World → Option (List (Frame Poisoned))
  frames_acting c = (acting (shadow_fiber d (setting_of m setup) m) (call_sites m) schedule c).from

  abbrev pub world_in : Fibers (List (Frame Poisoned)) World → World
  world_in c = world_of (shadow_fiber d (setting_of m setup) m) c

  -- what was done from one state to the next
  abbrev pub ran_by : Option (List (Frame Poisoned)) → World → Fibers (List (Frame Poisoned)) World → List Ran
  ran_by None w next = []
  ran_by (Some f) w next = record { before = shadow_state f w; after = shadow_state (frames_going next) (world_in next) } ∷ []

  -- a run that took no step
  abbrev pub thread_walk_start : ThreadWalk
  thread_walk_start = record { state = shadow_threads_start m setup; ran = [] }

  abbrev pub thread_walk_next : ThreadWalk → Fibers (List (Frame Poisoned)) World → ThreadWalk
  thread_walk_next walk next = record { state = next; ran = ran_by (frames_acting walk.state) (world_in walk.state) next ++ walk.ran }

  abbrev pub thread_walked_on : ThreadWalk → Stepped (Fibers (List (Frame Poisoned)) World) → Option ThreadWalk
  thread_walked_on walk (More next) = Some (thread_walk_next walk next)
  thread_walked_on walk (Stop e w) = None

  -- the run after so many halves of steps; none where it ended before
  abbrev pub threads_walked : ℕ → Option ThreadWalk
  threads_walked zero = Some thread_walk_start
  threads_walked (suc n) = option_and_then (λ walk. thread_walked_on walk (half_step (shadow_fiber d (setting_of m setup) m) schedule walk.state)) (threads_walked n)

-- ---- what is reached

-- the instruction with a site ran in a fiber
abbrev pub RanThere : Module → ThreadWalk → ℕ → Type 0
RanThere m walk site = Any (λ r. StandsAt m site r.before) walk.ran

-- a fiber has reached a root
abbrev pub ReachedThere : Module → ThreadWalk → ℕ → Type 0
ReachedThere m walk id = Any (λ r. Reaches m r.before r.after id) walk.ran

-- or it is an undefined operand of the instruction that is due in the fiber that acts, whose checks may end the run
abbrev pub ToldThere : Rules → Module → Setup → (schedule : List ℕ) → ThreadWalk → ℕ → Type 0
ToldThere d m setup schedule walk id =
    ReachedThere m walk id ⊎ ((f : List (Frame Poisoned)) × (frames_acting d m setup schedule walk.state ≡ Some f) × IsOperand m (shadow_state f (world_in d m setup schedule walk.state)) id)

-- an origin's trail in a world ends in a root that a fiber has reached, and each store on it ran
abbrev pub IsFromThreads : Module → Setup → ThreadWalk → World → ℕ → Type 0
IsFromThreads m setup walk w id = LeadsBack (RanThere m walk) (ReachedThere m walk) (trail (setting_of m setup) w id)

-- each word of a fiber with a poisoned bit, each cell of a byte with one, and each answer of a fiber with one has such an origin
pub record HasThreadOrigins (m : Module) (setup : Setup) (walk : ThreadWalk) (w : World) : Type 0 where
  pub words : (fs : List (Frame Poisoned)) → HasFiber walk.state fs → (frame : Frame Poisoned) → Contains fs frame → (x : Name) → ¬ ((frame.values x).mask ≡ 0)
      → IsFromThreads m setup walk w (frame.values x).origin
  pub cells : (addr : ℕ) → ¬ (w.shadow addr ≡ 0) → IsFromThreads m setup walk w (w.origins (addr / 4))
  pub answers : (fiber : ℕ) → ¬ (w.answer_masks fiber ≡ 0) → IsFromThreads m setup walk w (w.answer_origins fiber)

-- each report shows the trail of its origin, which has not changed since: it leads back to a root of a kind
pub record ShowsThreadTrails (m : Module) (setup : Setup) (walk : ThreadWalk) (w : World) (root : ℕ → Type 0) : Type 0 where
  pub leads : (r : Report) → Contains w.reports r → LeadsBack (RanThere m walk) root r.chain
  pub shown : (r : Report) → Contains w.reports r → trail (setting_of m setup) w r.origin ≡ r.chain

-- in every state of a run, and at its end, poisoned bits come from what fibers have reached, and so do those that reports tell of
pub record FromThreads (d : Rules) (m : Module) (setup : Setup) (schedule : List ℕ) : Type 0 where
  pub states : (n : ℕ) (walk : ThreadWalk) → threads_walked d m setup schedule n ≡ Some walk
      → HasThreadOrigins m setup walk (world_in d m setup schedule walk.state) × ShowsThreadTrails m setup walk (world_in d m setup schedule walk.state) (ReachedThere m walk)
  pub ends : (n : ℕ) (walk : ThreadWalk) (e : End) (w : World) → threads_walked d m setup schedule n ≡ Some walk
      → half_step (shadow_fiber d (setting_of m setup) m) schedule walk.state ≡ Stop e w
      → HasThreadOrigins m setup walk w × ShowsThreadTrails m setup walk w (ToldThere d m setup schedule walk)

-- a report's origins lead back to what the run had reached, as far as it came
abbrev pub ComesFromThreads : Rules → Module → Setup → (schedule : List ℕ) → Report → Type 0
ComesFromThreads d m setup schedule r =
    (n : ℕ) × (walk : ThreadWalk) × (threads_walked d m setup schedule n ≡ Some walk) × LeadsBack (RanThere m walk) (ToldThere d m setup schedule walk) r.chain

-- the root that a number names is listed, so that it isn't unknown
abbrev pub IsListed : Module → ℕ → Type 0
IsListed m id = (p : Place) × (root_numbered m id ≡ Some p)
