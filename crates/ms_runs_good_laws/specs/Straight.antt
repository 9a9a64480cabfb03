-- Instructions that go on after themselves: what they answer has the range of its type (own).
use Rattle.std.specs.Prelude.{◌≡◌, ◌<◌, ◌^◌, ℕ, List, get_or, Option, Some, None, slice_get}
use Rattle.ms_ir.specs.declared.syntax.Ty.{Ty}
use Rattle.ms_ir.specs.Layout.{width_of}
use Rattle.ms_runs.specs.World.{World, Effect, Gives, Does, Goes, Enters, Leaves, Ends}

-- an effect that answers a word of a type, or nothing where there is no type, or ends the run, and leaves a good world
abbrev pub Answers : (World → Type 0) → Option Ty → Effect → Type 0
Answers good ret (Gives v world) = ((t : Ty) → ret ≡ Some t → v < 2 ^ width_of t) × good world
Answers good ret (Does world) = (ret ≡ None) × good world
Answers good ret (Goes to world) = ⊥
Answers good ret (Enters n world) = ⊥
Answers good ret (Leaves world) = ⊥
Answers good ret (Ends e world) = good world

-- words of types, in order; one that is missing reads as unset, and `holds` says what a word must be below
abbrev pub HaveTypes : {V : Type 0} → (V → ℕ → Type 0) → V → List V → List Ty → Type 0
HaveTypes holds unset words types = (k : ℕ) (t : Ty) → slice_get types k ≡ Some t → holds (get_or words k unset) (2 ^ width_of t)
