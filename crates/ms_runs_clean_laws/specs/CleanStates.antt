-- States in which clean values have no poisoned bit (own).
use Rattle.std.specs.Prelude.{◌≡◌, ℕ, Some, Contains}
use Rattle.ms_ir.specs.declared.syntax.Name.{Name}
use Rattle.ms_ir.specs.declared.syntax.Operand.{Operand}
use Rattle.ms_ir.specs.declared.syntax.Func.{Func}
use Rattle.ms_ir.specs.declared.syntax.Module.{Module}
use Rattle.ms_ir.specs.Instructions.{func_at}
use Rattle.ms_runs.specs.Control.{Frame}
use Rattle.ms_runs.specs.Poisoned.{Poisoned}
use Rattle.ms_runs.specs.Shadow.{ShadowState, operand_mask}
use Rattle.ms_check_valid.specs.CleanValues.{IsClean, IsCleanOperand}

-- each clean value of a frame's function has no poisoned bit in the frame
abbrev pub HasCleanValues : Module → Frame Poisoned → Type 0
HasCleanValues m frame = (f : Func) → func_at m frame.func ≡ Some f → (x : Name) → IsClean m f x → (frame.values x).mask ≡ 0

-- so has each frame of a state, the innermost and those that wait for a call
abbrev pub AllCleanValues : Module → ShadowState → Type 0
AllCleanValues m state = (frame : Frame Poisoned) → Contains state.frames frame → HasCleanValues m frame

-- each clean operand of a frame's function is read without a poisoned bit, whatever its width
abbrev pub ReadsClean : Module → ShadowState → Type 0
ReadsClean m state =
    (frame : Frame Poisoned) → Contains state.frames frame → (f : Func) → func_at m frame.func ≡ Some f
    → (o : Operand) → IsCleanOperand m f o → (w : ℕ) → operand_mask frame.values w o ≡ 0
