-- States of runs of fibers in which nothing is missing: the frames of each fiber are good, each that stands does so at a
-- thread call, and `main` stands wherever another fiber goes on (own).
use Rattle.std.specs.Prelude.{◌≡◌, ◌⊎◌, ◌<◌, ◌^◌, ℕ, true, not, eqb, List, Some, is_some}
use Rattle.ms_ir.specs.declared.syntax.Module.{Module}
use Rattle.ms_runs.specs.World.{World, Setting, Thread}
use Rattle.ms_runs.specs.Control.{Frame}
use Rattle.ms_runs.specs.Poisoned.{Poisoned}
use Rattle.ms_runs.specs.Threads.{thread_at}
use Rattle.ms_runs_good_laws.specs.GoodStates.{IsBelow, PoisonedBelow, GoodFrames, IsStart, Bottom, begins}
use Rattle.ms_runs_good_laws.specs.GoodWorlds.{GoodWorld, FitsCell, AnyOrigin}
use Rattle.ms_runs_clean_laws.specs.CleanStates.{AllCleanValues, ReadsClean}
use Rattle.ms_runs_threads.specs.Fibers.{Asks, Others, Fibers, Goes, Waits}
use Rattle.ms_runs_threads.specs.PlainFibers.{Shared, frames_due}
use Rattle.ms_runs_threads.specs.ShadowFibers.{shadow_state}

-- the frames of the fiber with a number are good, and the last is `main`'s where the number is 0, and else one with which a
-- fiber may begin
pub record SoundFiber {V : Type 0} (holds : V → ℕ → Type 0) (m : Module) (number : ℕ) (fs : List (Frame V)) : Type 0 where
  pub frames : GoodFrames holds m fs
  pub began : Bottom (begins m (not (eqb number 0))) fs

-- and a thread call is due
pub record StandsSound {V : Type 0} (holds : V → ℕ → Type 0) (s : Setting) (m : Module) (number : ℕ) (fs : List (Frame V)) : Type 0 where
  pub sound : SoundFiber holds m number fs
  pub asks : frames_due s m fs ≡ Asks

-- each fiber that was made began with a function with which it may, and its argument is a word
abbrev pub SoundThreads : Module → List Thread → Type 0
SoundThreads m threads = (k : ℕ) (t : Thread) → thread_at k threads ≡ Some t → IsStart m t.func × (t.argument < 2 ^ 64)

-- so is each fiber of a state: the one that goes on, and those that stand
module _ {F S : Type 0} (fiber stands : ℕ → F → Type 0) (shared : S → Type 0) (world : S → World) where
  abbrev pub OthersHold : Others F → Type 0
  OthersHold rest = (k : ℕ) (f : F) → rest.stands k ≡ Some f → stands k f

  abbrev pub FibersHold : Fibers F S → Type 0
  FibersHold (Goes f s rest) = fiber (world s).turn f × shared s × OthersHold rest × (((world s).turn ≡ 0) ⊎ (is_some (rest.stands 0) ≡ true))
  FibersHold (Waits s rest) = shared s × OthersHold rest × (is_some (rest.stands 0) ≡ true)

-- what fibers share in a plain run: a good world, and slots that hold bytes
pub record SoundShared (m : Module) (shared : Shared) : Type 0 where
  pub slots : (a : ℕ) → shared.slots a < 256
  pub world : GoodWorld FitsCell shared.world
  pub threads : SoundThreads m shared.world.threads

-- and in a shadow run
pub record SoundWorld (m : Module) (w : World) : Type 0 where
  pub world : GoodWorld AnyOrigin w
  pub threads : SoundThreads m w.threads

-- a state of a plain run of fibers
abbrev pub SoundPlainFibers : Setting → Module → Fibers (List (Frame ℕ)) Shared → Type 0
SoundPlainFibers s m = FibersHold (SoundFiber IsBelow m) (StandsSound IsBelow s m) (SoundShared m) (λ shared. shared.world)

-- a state of a shadow run of fibers
abbrev pub SoundShadowFibers : Setting → Module → Fibers (List (Frame Poisoned)) World → Type 0
SoundShadowFibers s m = FibersHold (SoundFiber PoisonedBelow m) (StandsSound PoisonedBelow s m) (SoundWorld m) (λ world. world)

-- a fiber of a state has these frames
abbrev pub HasFiber : {F S : Type 0} → Fibers F S → F → Type 0
HasFiber (Goes f s rest) g = (f ≡ g) ⊎ ((k : ℕ) × (rest.stands k ≡ Some g))
HasFiber (Waits s rest) g = (k : ℕ) × (rest.stands k ≡ Some g)

-- clean values have no poisoned bit in any fiber, and clean operands are read without one
pub record CleanFibers (m : Module) (c : Fibers (List (Frame Poisoned)) World) : Type 0 where
  pub values : (frames : List (Frame Poisoned)) → HasFiber c frames → (world : World) → AllCleanValues m (shadow_state frames world)
  pub operands : (frames : List (Frame Poisoned)) → HasFiber c frames → (world : World) → ReadsClean m (shadow_state frames world)
