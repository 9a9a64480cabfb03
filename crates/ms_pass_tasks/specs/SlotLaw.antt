-- What is taken from the slots: what was put into them.
use Rattle.std.specs.Prelude.{◌≡◌, ◌≤◌, ℕ, List, [], ◌∷◌, map, Option, Some, None}
use Rattle.ms_ir.specs.declared.calls.Slot.TheVariants as slot
use Rattle.ms_ir.specs.declared.syntax.Name.{Name}
use Rattle.ms_ir.specs.declared.syntax.Ty.{Ty}
use Rattle.ms_ir.specs.declared.syntax.Operand.{Operand}
use Rattle.ms_ir.specs.Names.{slot_room}
use Rattle.ms_ir.specs.Layout.{width_of}
use Rattle.ms_runs.specs.World.{World, Setting, Here}
use Rattle.ms_runs.specs.Control.{bind}
use Rattle.ms_runs.specs.Poisoned.{Poisoned, clean}
use Rattle.ms_pass_tasks.specs.Meaning.{Went, set_result, do_tasks}
use Rattle.ms_pass_tasks.specs.Environments.{Env}
use Rattle.ms_pass_tasks.specs.SlotTasks.{take_parameters, take_result}
use Rattle.ms_pass_tasks.specs.Match.{Matches, SlotsHold}
use Rattle.ms_pass_tasks.specs.InstructionLaw.{after_result}

-- there are no more arguments than words
abbrev pub SameLength : List (Ty × Operand) → List Poisoned → Type 0
SameLength [] ps = Unit {0}
SameLength (o ∷ os) [] = ⊥
SameLength (o ∷ os) (p ∷ ps) = SameLength os ps

-- what a function does first, with the words of its parameters and no others: masks and origins of the parameters stand
-- as the shadow run hands them over
pub record Entered (s : Setting) (h : Here) (env : Env) (params : List (Ty × Name)) (ps : List Poisoned) (cells : ℕ → ℕ) : Type 0 where
  pub after : Name → ℕ
  pub runs : (w : World) → do_tasks s h (take_parameters env 0 params) (record { names = bind 0 params (map (λ p. p.value) ps); slots = cells }) w ≡ Went (record { names = after; slots = cells }) w
  pub matches : Matches env (bind clean params ps) after

-- where a word is returned to a name the call has a type for it, and the slots hold its mask and its origin
abbrev pub ReturnFits : Option Name → Option Ty → (ℕ → ℕ) → Poisoned → Type 0
ReturnFits None ret cells p = Unit {0}
ReturnFits (Some x) None cells p = ⊥
ReturnFits (Some x) (Some t) cells p = (width_of t ≤ 64) × SlotsHold cells (slot_room slot.RetvalMask).0 (slot_room slot.RetvalOrigin).0 (width_of t) p

-- what stands after a call, with the word of its result: mask and origin of the result stand as the shadow run has them
pub record ResultTaken (s : Setting) (h : Here) (env : Env) (x : Option Name) (ret : Option Ty) (values : Name → Poisoned) (p : Poisoned) (names : Name → ℕ) (cells : ℕ → ℕ) : Type 0 where
  pub after : Name → ℕ
  pub runs : (w : World) → do_tasks s h (take_result env x ret) (record { names = set_result names x p.value; slots = cells }) w ≡ Went (record { names = after; slots = cells }) w
  pub matches : Matches env (after_result values x p) after
