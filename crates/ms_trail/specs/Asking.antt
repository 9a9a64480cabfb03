-- Calls that are asked for (own).
use Rattle.std.specs.Prelude.{◌≡◌, ℕ, Some}
use Rattle.ms_ir.specs.declared.syntax.Func.{Func}
use Rattle.ms_ir.specs.declared.syntax.Module.{Module}
use Rattle.ms_ir.specs.Instructions.{func_at}
use Rattle.ms_runs.specs.declared.runs.Setup.{Setup}
use Rattle.ms_runs.specs.Control.{Frame}
use Rattle.ms_host.specs.declared.calls.HostCall.{HostCall}
use Rattle.ms_machine_steps.specs.Waiting.{Waits}

-- some frame of a run of the module waits for the answer of a call
abbrev pub WaitsSome : Module → HostCall → Type 0
WaitsSome m call = (u : Setup) × (frame : Frame ℕ) × (func : Func) × ((func_at m frame.func ≡ Some func) × Waits m u frame call)
