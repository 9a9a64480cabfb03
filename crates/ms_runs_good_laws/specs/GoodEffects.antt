-- What an instruction may come to in a good state (own).
use Rattle.std.specs.Prelude.{◌≡◌, ◌^◌, ℕ, List, get_or, Option, Some, None, slice_get, IsTrue, IsFalse}
use Rattle.ms_ir.specs.declared.syntax.Name.{Name}
use Rattle.ms_ir.specs.declared.syntax.Ty.{Ty}
use Rattle.ms_ir.specs.declared.syntax.Operand.{Operand}
use Rattle.ms_ir.specs.declared.syntax.Op.TheVariants as op
use Rattle.ms_ir.specs.declared.syntax.Inst.{Inst}
use Rattle.ms_ir.specs.declared.syntax.Func.{Func}
use Rattle.ms_ir.specs.declared.syntax.Module.{Module}
use Rattle.ms_ir.specs.Layout.{width_of}
use Rattle.ms_runs.specs.World.{World, Effect, Gives, Does, Goes, Enters, Leaves, Ends}
use Rattle.ms_ir.specs.Instructions.{func_index, func_at}
use Rattle.ms_runs.specs.Control.{Outcome, On, Over}
use Rattle.ms_ir.specs.Equal.{has_name}
use Rattle.ms_ir.specs.Written.{targets, result_type}
use Rattle.ms_check_valid.specs.FormedCode.{is_terminator}
use Rattle.ms_runs_good_laws.specs.GoodStates.{GoodFrames}

-- a call of the function with a number, whose parameters get words in range
pub record FitsCall {V : Type 0} (holds : V → ℕ → Type 0) (unset : V) (m : Module) (inst : Inst) (words : List V) (n : ℕ) : Type 0 where
  pub callee : Name
  pub ret : Option Ty
  pub args : List (Ty × Operand)
  pub calls : inst.op ≡ op.Call ret callee args
  pub found : func_index m.funcs callee ≡ Some n
  pub in_range : (f : Func) (k : ℕ) (t : Ty) (x : Name) → func_at m n ≡ Some f → slice_get f.params k ≡ Some (t, x) → holds (get_or words k unset) (2 ^ width_of t)

-- an effect that an instruction of a function may have: a result in the range of its type, none where it has none, a jump to
-- one of its targets, a call with words in range, and a return of a word in the range of what the function returns
abbrev pub FitsEffect : {V : Type 0} → (V → ℕ → Type 0) → V → Module → Func → Inst → List V → (ℕ → World → V) → Effect → Type 0
FitsEffect holds unset m f inst words lift (Gives v world) =
    IsFalse (is_terminator inst.op) × ((x : Name) (t : Ty) → inst.result ≡ Some x → result_type inst.op ≡ Some t → holds (lift v world) (2 ^ width_of t))
FitsEffect holds unset m f inst words lift (Does world) = IsFalse (is_terminator inst.op) × (inst.result ≡ None)
FitsEffect holds unset m f inst words lift (Goes to world) = IsTrue (is_terminator inst.op) × IsTrue (has_name (targets inst.op) to)
FitsEffect holds unset m f inst words lift (Enters n world) = FitsCall holds unset m inst words n
FitsEffect holds unset m f inst words lift (Leaves world) = (t : Ty) → f.ret ≡ Some t → holds (get_or words 0 unset) (2 ^ width_of t)
FitsEffect holds unset m f inst words lift (Ends e world) = Unit {0}

-- where a run goes on, its frames are good
abbrev pub GoodMoved : {V : Type 0} → (V → ℕ → Type 0) → Module → Outcome V → Type 0
GoodMoved holds m (On frames world) = GoodFrames holds m frames
GoodMoved holds m (Over e world) = Unit {0}
