-- The moves of a step are all that it poisons (own).
use Rattle.std.specs.Prelude.{◌≡◌, ◌≢◌, ◌⊎◌, ℕ, List, ◌∷◌, length}
use Rattle.ms_ir.specs.declared.syntax.Name.{Name}
use Rattle.ms_ir.specs.declared.syntax.Module.{Module}
use Rattle.ms_runs.specs.World.{Setting}
use Rattle.ms_runs.specs.Control.{Frame}
use Rattle.ms_runs.specs.Poisoned.{Poisoned}
use Rattle.ms_runs.specs.Shadow.{ShadowState}
use Rattle.ms_trail_moves.specs.declared.moves.Source.{Source}
use Rattle.ms_trail_moves.specs.declared.moves.Source.TheVariants.{Root, Value, Byte}
use Rattle.ms_trail_moves.specs.Events.{Numbers, renumbered, event_moves}
use Rattle.ms_trail_moves.specs.Moving.{Writes}

-- one of the frames that stand has the number, and its value has this mask
abbrev pub HasMask : (mask : ℕ) → List ℕ → List (Frame Poisoned) → (frame : ℕ) → Name → Type 0
HasMask mask (n ∷ ns) (f ∷ fs) frame x = ((n ≡ frame) × ((f.values x).mask ≡ mask)) ⊎ HasMask mask ns fs frame x
HasMask mask _ _ frame x = ⊥

-- a place has this mask, or this byte of shadow, in a state, whose frames' numbers are given; a root is no place
abbrev pub HasBits : (bits : ℕ) → List ℕ → ShadowState → Source → Type 0
HasBits bits numbers c (Root n) = ⊥
HasBits bits numbers c (Value frame x) = HasMask bits numbers c.frames frame x
HasBits bits numbers c (Byte a) = c.world.shadow a ≡ bits

-- where no move of the step from one state to the next writes to a place, it is as before, or clean
abbrev pub IsComplete : Setting → Module → (event : ℕ) → (before : Numbers) → (c d : ShadowState) → Type 0
IsComplete s m event before c d =
    let after = renumbered (length d.frames) before in
    (place : Source) (bits : ℕ) → bits ≢ 0 → HasBits bits after.standing d place
    → HasBits bits before.standing c place ⊎ Writes (event_moves s m event before after c d) place
