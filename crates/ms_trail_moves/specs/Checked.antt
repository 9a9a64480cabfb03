-- What is looked at where hops are checked (own).
use Rattle.std.specs.Prelude.{◌≡◌, ◌≤◌, ◌<◌, ℕ, ◌+◌, Bool, true, false, ◌&&◌, eqb, leb, ltb, List, length, Option, Some, slice_get}
use Rattle.ms_ir.specs.Names.{name_eq}
use Rattle.ms_trail_moves.specs.declared.moves.Source.{Source}
use Rattle.ms_trail_moves.specs.declared.moves.Source.TheVariants.{Root, Value, Byte}
use Rattle.ms_trail_moves.specs.declared.moves.Target.{Target}
use Rattle.ms_trail_moves.specs.declared.moves.Target.TheVariants as target
use Rattle.ms_trail_moves.specs.declared.moves.Move.{Move}
use Rattle.ms_trail_moves.specs.declared.moves.Hop.{Hop}
use Rattle.ms_trail_moves.specs.Scanned.{is_before}

-- the byte at a distance from a byte, and else the source itself
abbrev pub after : Source → (distance : ℕ) → Source
after (Byte a) d = Byte (a + d)
after s d = s

-- the distance of what byte k of a target comes from
abbrev pub distance_in : Target → (k : ℕ) → ℕ
distance_in (target.Value f x) k = 0
distance_in (target.Bytes a n) k = k

-- byte k of a target is what is read
abbrev pub is_reached : Target → (k : ℕ) → Source → (distance : ℕ) → Bool
is_reached (target.Value f x) k (Value g y) d = eqb k 0 && (eqb f g && name_eq x y)
is_reached (target.Bytes a n) k (Byte b) d = ltb k n && eqb (a + k) (b + d)
is_reached _ _ _ _ = false

-- some byte of a target is
abbrev pub is_written : Target → Source → (distance : ℕ) → Bool
is_written (target.Value f x) (Value g y) d = eqb f g && name_eq x y
is_written (target.Bytes a n) (Byte b) d = leb a (b + d) && ltb (b + d) (a + n)
is_written _ _ _ = false

-- a move of a step before one writes what is read
abbrev pub counts_there : Option ℕ → Source → (distance : ℕ) → Move → Bool
counts_there event s d move = is_before event move && is_written move.to s d

-- none of the moves from one number to another does
abbrev pub NoneBetween : List Move → (first bound : ℕ) → Option ℕ → Source → (distance : ℕ) → Type 0
NoneBetween moves first bound event s d = (j : ℕ) (other : Move) → first ≤ j → j < bound → slice_get moves j ≡ Some other → counts_there event s d other ≡ false

-- nor of those from a number on
abbrev pub NoneAfter : List Move → (first : ℕ) → Option ℕ → Source → (distance : ℕ) → Type 0
NoneAfter moves first event s d = NoneBetween moves first (length moves) event s d

-- a hop's move is the last one that does
pub record IsNext (moves : List Move) (event : Option ℕ) (s : Source) (d : ℕ) (hop : Hop) : Type 0 where
  pub move : Move
  pub stands : slice_get moves hop.index ≡ Some move
  pub earlier : is_before event move ≡ true
  pub reaches : is_reached move.to hop.byte s d ≡ true
  pub last : NoneAfter moves (hop.index + 1) event s d

abbrev pub is_root_at : Source → Bool
is_root_at (Root n) = true
is_root_at _ = false
