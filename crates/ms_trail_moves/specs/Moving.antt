-- A source is written to, and poisoned bits that are so in a state (own).
use Rattle.std.specs.Prelude.{◌≡◌, ◌≢◌, ◌⊎◌, ℕ, List, ◌∷◌, Some, slice_get}
use Rattle.ms_runs.specs.Control.{Frame}
use Rattle.ms_runs.specs.Poisoned.{Poisoned}
use Rattle.ms_runs.specs.Shadow.{ShadowState}
use Rattle.ms_ir.specs.declared.syntax.Name.{Name}
use Rattle.ms_trail_moves.specs.declared.moves.Source.{Source}
use Rattle.ms_trail_moves.specs.declared.moves.Source.TheVariants.{Root, Value, Byte}
use Rattle.ms_trail_moves.specs.declared.moves.Move.{Move}
use Rattle.ms_trail_moves.specs.Leads.{reached}

-- one of the frames that stand has the number, and its value is poisoned
abbrev pub IsPoisonedIn : List ℕ → List (Frame Poisoned) → (frame : ℕ) → Name → Type 0
IsPoisonedIn (n ∷ ns) (f ∷ fs) frame x = ((n ≡ frame) × ((f.values x).mask ≢ 0)) ⊎ IsPoisonedIn ns fs frame x
IsPoisonedIn _ _ frame x = ⊥

-- what is read there is poisoned in a state, whose frames' numbers are given: so is a root of a kind
abbrev pub IsPoisoned : (ℕ → Type 0) → List ℕ → ShadowState → Source → Type 0
IsPoisoned kind numbers c (Root n) = kind n
IsPoisoned kind numbers c (Value frame x) = IsPoisonedIn numbers c.frames frame x
IsPoisoned kind numbers c (Byte a) = c.world.shadow a ≢ 0

-- a move of a list writes to a source
pub record Writes (moves : List Move) (source : Source) : Type 0 where
  pub index : ℕ
  pub byte : ℕ
  pub move : Move
  pub stands : slice_get moves index ≡ Some move
  pub reaches : reached move.to byte ≡ Some source
