-- Fibers and worlds that stand for a state of the plain run of a module (own).
use Rattle.std.specs.Prelude.{◌≡◌, ℕ, List}
use Rattle.ms_ir.specs.declared.syntax.Module.{Module}
use Rattle.ms_runs.specs.declared.runs.Setup.{Setup}
use Rattle.ms_runs.specs.Control.{Frame}
use Rattle.ms_runs.specs.Plain.{PlainState}
use Rattle.ms_runs_good_laws.specs.GoodWorlds.{GivesBytes}
use Rattle.ms_runs_good_laws.specs.GoodRuns.{SoundPlain}
use Rattle.ms_host.specs.State.{WorldState, Beside}
use Rattle.ms_host.specs.Shows.{Shows}
use Rattle.ms_host.specs.SlotBytes.{ShowsSlots}
use Rattle.ms_host.specs.declared.calls.HostCall.{HostCall}
use Rattle.ms_machine_frames.specs.declared.frames.Frame.{Frame as Kept}
use Rattle.ms_machine_frames.specs.declared.fibers.Fiber.{Fiber}
use Rattle.ms_machine_frames.specs.Owning.{Owns}
use Rattle.ms_machine_frames.specs.Standing.{frames_of}
use Rattle.ms_machine_steps.specs.Waiting.{FirstWaits}
use Rattle.ms_machine_steps.specs.Callers as callers

-- a kept frame stands for one of the definitions
abbrev pub StandsFor : Module → Kept → Frame ℕ → Type 0
StandsFor m kept frame = callers.StandsFor m kept frame

-- kept frames stand for frames of the definitions, innermost first
abbrev pub AllStandFor : Module → List Kept → List (Frame ℕ) → Type 0
AllStandFor m ks fs = callers.AllStandFor m ks fs

-- a fiber and a world stand for a state of the plain run of a module with a setup, where so much is kept beside
pub record IsRunning (m : Module) (u : Setup) (beside : Beside) (fiber : Fiber) (w : WorldState) (state : PlainState) : Type 0 where
  pub bytes : GivesBytes u
  pub frames : AllStandFor m (frames_of fiber) state.frames
  pub shows : Shows w beside state.world
  pub slots : ShowsSlots w.slots state.slots
  pub fill : w.fill ≡ u.fill
  pub sound : SoundPlain m state
  pub owns : Owns fiber state.world state.frames

-- a fiber and a world stand for some state
abbrev pub Runs : Module → Fiber → WorldState → Type 0
Runs m fiber w = (u : Setup) × (beside : Beside) × (state : PlainState) × IsRunning m u beside fiber w state

-- a fiber waits for the answer of a call
abbrev pub WaitsFor : Module → Fiber → Type 0
WaitsFor m fiber = (u : Setup) × (frames : List (Frame ℕ)) × (call : HostCall) × (AllStandFor m (frames_of fiber) frames × FirstWaits m u frames call)
