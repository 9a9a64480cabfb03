-- Where fibers stand, and what their values are by name (own).
use Rattle.std.specs.Prelude.{◌≡◌, ℕ, List, [], ◌∷◌, Option, Some}
use Rattle.ms_bits.specs.Numeral.{Numeral}
use Rattle.ms_ir.specs.declared.syntax.Name.{Name}
use Rattle.ms_ir.specs.declared.syntax.Func.{Func}
use Rattle.ms_ir.specs.declared.syntax.Module.{Module}
use Rattle.ms_ir.specs.declared.places.Place.{Place}
use Rattle.ms_ir.specs.Instructions.{func_at}
use Rattle.ms_runs.specs.Control.{Frame}
use Rattle.ms_host.specs.State.{WorldState}
use Rattle.ms_machine_frames.specs.declared.fibers.Fiber.{Fiber}
use Rattle.ms_machine.specs.Running.{Runs}
use Rattle.ms_machine.specs.WordsNamed.{word_named}

-- a fiber stands for frames of a run, whatever its world is
abbrev pub RunsSomewhere : Module → Fiber → Type 0
RunsSomewhere m fiber = (w : WorldState) × Runs m fiber w

-- a place is that of the instruction which is due in the innermost of some frames
abbrev pub IsPlaceDue : List (Frame ℕ) → Place → Type 0
IsPlaceDue [] place = ⊥
IsPlaceDue (frame ∷ below) place = (place.func ≡ frame.func) × (place.block ≡ frame.block) × (place.inst ≡ frame.place)

-- a word is that of a name in the innermost of some frames
abbrev pub IsWordNamed : Module → List (Frame ℕ) → Name → Option Numeral → Type 0
IsWordNamed m [] x word = ⊥
IsWordNamed m (frame ∷ below) x word = (func : Func) → func_at m frame.func ≡ Some func → word ≡ word_named func frame.values x
