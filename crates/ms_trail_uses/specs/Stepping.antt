-- What a single step of the machine comes to (own).
use Rattle.std.specs.Prelude.{◌≡◌, Bool, true, false}
use Rattle.ms_ir.specs.declared.syntax.Module.{Module}
use Rattle.ms_runs.specs.declared.runs.Setup.{Setup}
use Rattle.ms_runs.specs.declared.runs.End.{End}
use Rattle.ms_runs.specs.World.{World}
use Rattle.ms_runs.specs.Plain.{PlainState, More, Stop}
use Rattle.ms_host.specs.declared.calls.HostCall.{HostCall}
use Rattle.ms_host.specs.State.{WorldState, Beside}
use Rattle.ms_machine_frames.specs.declared.fibers.Fiber.{Fiber}
use Rattle.ms_machine_frames.specs.declared.pauses.Pause.{Pause}
use Rattle.ms_machine_frames.specs.declared.pauses.Pause.TheVariants as pause
use Rattle.ms_machine_steps.specs.Waiting.{FirstWaits}
use Rattle.ms_machine_steps.specs.Advances.{step_of}
use Rattle.ms_machine.specs.Running.{IsRunning}

-- the instruction that is due calls no function that the module doesn't define
abbrev pub AsksNothing : Module → Setup → PlainState → Type 0
AsksNothing m u state = (call : HostCall) → FirstWaits m u state.frames call → ⊥

-- the machine stopped for want of steps
abbrev pub spent : Pause → Bool
spent pause.Spent = true
spent _ = false

-- the run goes on, and fiber and world stand for the next state, or it ends
abbrev pub Stepped : Module → Setup → Beside → PlainState → Bool → Fiber → WorldState → Type 0
Stepped m u beside state true fiber w = (next : PlainState) × ((step_of m u state ≡ More next) × IsRunning m u beside fiber w next)
Stepped m u beside state false fiber w = (e : End) × (last : World) × (step_of m u state ≡ Stop e last)
