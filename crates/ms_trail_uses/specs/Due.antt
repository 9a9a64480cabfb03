-- The code of the instruction that is due (own).
use Rattle.std.specs.Prelude.{◌≡◌, ℕ, List, ◌∷◌, Option, Some, None, slice_get}
use Rattle.ms_ir.specs.declared.syntax.Func.{Func}
use Rattle.ms_ir.specs.declared.syntax.Inst.{Inst}
use Rattle.ms_ir.specs.declared.syntax.Module.{Module}
use Rattle.ms_ir.specs.Instructions.{func_at, insts_at}
use Rattle.ms_runs.specs.declared.runs.Setup.{Setup}
use Rattle.ms_runs.specs.Control.{Frame, rest_of}
use Rattle.ms_runs.specs.Plain.{PlainState}
use Rattle.ms_machine_code.specs.declared.code.Code.{Code}
use Rattle.ms_machine_code.specs.declared.code.Code.TheVariants as code
use Rattle.ms_machine_code.specs.Encodes.{Encodes}
use Rattle.ms_machine_code.specs.Compiled.{where_is}
use Rattle.ms_host.specs.State.{WorldState, Beside}
use Rattle.ms_machine_frames.specs.declared.fibers.Fiber.{Fiber}
use Rattle.ms_machine.specs.Running.{IsRunning}

-- code stands for the instruction at which a frame stands
pub record HasCode (m : Module) (frame : Frame ℕ) (made : Code) : Type 0 where
  pub func : Func
  pub is : func_at m frame.func ≡ Some func
  pub inst : Inst
  pub rest : List Inst
  pub item : slice_get (insts_at m frame.func frame.block) frame.place ≡ Some inst
  pub due : rest_of m frame ≡ inst ∷ rest
  pub encodes : Encodes (where_is m frame.func func frame.block) made inst

-- code stands for the instruction at which a fiber stands, in whatever state that is
abbrev pub IsDue : Module → Fiber → WorldState → Code → Type 0
IsDue m fiber w made = (u : Setup) (beside : Beside) (state : PlainState) (frame : Frame ℕ) (below : List (Frame ℕ)) → IsRunning m u beside fiber w state → state.frames ≡ frame ∷ below → HasCode m frame made

-- the place of the result of code that sets one by its operands alone
abbrev pub sets_at : Code → Option ℕ
sets_at (code.Binary o flags w a b to) = Some to
sets_at (code.Icmp o flags w a b to) = Some to
sets_at (code.Cast o flags w a into to) = Some to
sets_at (code.Select c a b to) = Some to
sets_at (code.Freeze a to) = Some to
sets_at (code.Gep base offset strides to) = Some to
sets_at k = None
