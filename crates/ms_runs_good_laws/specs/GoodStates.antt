-- States of a run in which nothing is missing: each frame stands at an instruction, came there on a path, and has the
-- values that this path defines (own).
use Rattle.std.specs.Prelude.{◌≡◌, ◌⊎◌, ◌≤◌, ◌<◌, ◌^◌, ℕ, Bool, true, false, List, [], ◌∷◌, ◌++◌, length, Option, Some, slice_get}
use Rattle.ms_ir.specs.declared.syntax.Name.{Name}
use Rattle.ms_ir.specs.declared.syntax.Ty.{Ty, Ptr}
use Rattle.ms_ir.specs.declared.syntax.Operand.{Operand}
use Rattle.ms_ir.specs.declared.syntax.Op.TheVariants as op
use Rattle.ms_ir.specs.declared.syntax.Inst.{Inst}
use Rattle.ms_ir.specs.declared.syntax.Func.{Func}
use Rattle.ms_ir.specs.declared.syntax.Module.{Module}
use Rattle.ms_ir.specs.Layout.{width_of}
use Rattle.ms_ir.specs.Instructions.{func_index, func_at}
use Rattle.ms_runs.specs.Control.{Frame, count_phis}
use Rattle.ms_ir.specs.Names.{main_name}
use Rattle.ms_ir.specs.Signatures.{answers, signature_eq, func_signature}
use Rattle.ms_runs.specs.Plain.{PlainState}
use Rattle.ms_runs.specs.Poisoned.{Poisoned}
use Rattle.ms_runs.specs.Shadow.{ShadowState}
use Rattle.ms_ir.specs.Locals.{value_type}
use Rattle.ms_check_valid.specs.Paths.{insts_of, Path}
use Rattle.ms_check_valid.specs.Paths.{IsSet}

-- a frame stands at an instruction after its block's phis, came there over the blocks `before`, and each value that is
-- set has a word of its type's width; `holds` says what a word must be below
pub record GoodFrame {V : Type 0} (holds : V → ℕ → Type 0) (m : Module) (frame : Frame V) : Type 0 where
  pub func : Func
  pub stands : func_at m frame.func ≡ Some func
  pub before : List ℕ
  pub path : Path func (before ++ frame.block ∷ [])
  pub place : frame.place < length (insts_of func frame.block)
  pub after_phis : count_phis (insts_of func frame.block) ≤ frame.place
  pub words : (x : Name) (t : Ty) → IsSet func before frame.block frame.place x → value_type func x ≡ Some t → holds (frame.values x) (2 ^ width_of t)

-- a frame stands at a call of the function with a number
pub record StandsAtCall {V : Type 0} (m : Module) (frame : Frame V) (called : ℕ) : Type 0 where
  pub func : Func
  pub stands : func_at m frame.func ≡ Some func
  pub inst : Inst
  pub due : slice_get (insts_of func frame.block) frame.place ≡ Some inst
  pub callee : Name
  pub ret : Option Ty
  pub args : List (Ty × Operand)
  pub calls : inst.op ≡ op.Call ret callee args
  pub found : func_index m.funcs callee ≡ Some called

-- the function with a number is `main`
abbrev pub IsMain : Module → ℕ → Type 0
IsMain m f = func_index m.funcs main_name ≡ Some f

-- a fiber may begin with the function with a number: it has the type `ptr (ptr)`
abbrev pub IsStart : Module → ℕ → Type 0
IsStart m f = (func : Func) × ((func_at m f ≡ Some func) × (signature_eq (func_signature func) (answers Ptr (Ptr ∷ [])) ≡ true))

-- frames, innermost first: each is good, each below another stands at the call of its function, and the last is `main`'s, or
-- that with which a fiber began
abbrev pub GoodFrames : {V : Type 0} → (V → ℕ → Type 0) → Module → List (Frame V) → Type 0
GoodFrames holds m [] = ⊥
GoodFrames holds m (frame ∷ []) = GoodFrame holds m frame × (IsMain m frame.func ⊎ IsStart m frame.func)
GoodFrames holds m (frame ∷ caller ∷ below) = GoodFrame holds m frame × StandsAtCall m caller frame.func × GoodFrames holds m (caller ∷ below)

-- the function of the last frame is so
abbrev pub Bottom : {V : Type 0} → (ℕ → Type 0) → List (Frame V) → Type 0
Bottom so [] = Unit {0}
Bottom so (frame ∷ []) = so frame.func
Bottom so (frame ∷ caller ∷ below) = Bottom so (caller ∷ below)

-- what a fiber begins with that was spawned, or wasn't
abbrev pub begins : Module → (spawned : Bool) → ℕ → Type 0
begins m true f = IsStart m f
begins m false f = IsMain m f

-- a word in range
abbrev pub IsBelow : ℕ → ℕ → Type 0
IsBelow v bound = v < bound

-- a good state of a plain run
abbrev pub GoodPlain : Module → PlainState → Type 0
GoodPlain m state = GoodFrames IsBelow m state.frames

-- a poisoned word in range
abbrev pub PoisonedBelow : Poisoned → ℕ → Type 0
PoisonedBelow p bound = (p.value < bound) × (p.mask < bound)

-- a good state of a shadow run
abbrev pub GoodShadow : Module → ShadowState → Type 0
GoodShadow m state = GoodFrames PoisonedBelow m state.frames
