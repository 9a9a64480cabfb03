-- The way over moves on which poisoned bits came to a use (own).
use Rattle.std.specs.Prelude.{◌≡◌, ◌≤◌, ◌<◌, ℕ, ◌+◌, eqb, ltb, List, [], ◌∷◌, reverse, if◌then◌else◌, Option, Some, None, slice_get}
use Rattle.ms_trail_moves.specs.declared.moves.Source.{Source}
use Rattle.ms_trail_moves.specs.declared.moves.Source.TheVariants.{Root, Value, Byte}
use Rattle.ms_trail_moves.specs.declared.moves.Target.{Target}
use Rattle.ms_trail_moves.specs.declared.moves.Target.TheVariants as target
use Rattle.ms_trail_moves.specs.declared.moves.Move.{Move}
use Rattle.ms_trail_moves.specs.declared.moves.Hop.{Hop}

-- what byte k of a target is, if it has one: a value has byte 0 alone
abbrev pub reached : Target → ℕ → Option Source
reached (target.Value frame x) k = if eqb k 0 then Some (Value frame x) else None
reached (target.Bytes a n) k = if ltb k n then Some (Byte (a + k)) else None

-- where byte k of a target comes from: of bytes that come from a byte, each one comes from the byte at its distance
abbrev pub came_from : Source → Target → ℕ → Source
came_from (Byte b) (target.Bytes a n) k = Byte (b + k)
came_from from to k = from

-- a move of a step before one, or of any step
abbrev pub IsBefore : Option ℕ → Move → Type 0
IsBefore None move = Unit {0}
IsBefore (Some event) move = move.event < event

-- a hop is the last one, of steps before one, that reaches a source
pub record IsLast (moves : List Move) (before : Option ℕ) (source : Source) (hop : Hop) (move : Move) : Type 0 where
  pub stands : slice_get moves hop.index ≡ Some move
  pub counts : IsBefore before move
  pub reaches : reached move.to hop.byte ≡ Some source
  pub last : (j k : ℕ) (other : Move) → slice_get moves j ≡ Some other → IsBefore before other → reached other.to k ≡ Some source → j ≤ hop.index

-- a source is a root of a kind
abbrev pub IsRoot : (ℕ → Type 0) → Source → Type 0
IsRoot kind (Root n) = kind n
IsRoot kind _ = ⊥

-- hops, the last first, go back from a source to a root of a kind: each is the last one that reaches what the next one
-- reads, of the steps before that one's
abbrev pub LeadsBack : (ℕ → Type 0) → List Move → Option ℕ → Source → List Hop → Type 0
LeadsBack kind moves before source [] = IsRoot kind source
LeadsBack kind moves before source (hop ∷ rest) =
    (move : Move) × IsLast moves before source hop move × LeadsBack kind moves (Some move.event) (came_from move.from move.to hop.byte) rest

-- hops, from a root of a kind on, lead to what a use reads
abbrev pub LeadsFrom : (ℕ → Type 0) → List Move → Source → List Hop → Type 0
LeadsFrom kind moves at hops = LeadsBack kind moves None at (reverse hops)

-- from any root
abbrev pub Leads : List Move → Source → List Hop → Type 0
Leads = LeadsFrom (λ n. Unit {0})
