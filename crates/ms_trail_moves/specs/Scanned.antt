-- The way to a use, found in one pass over the moves from the last one back (own).
use Rattle.std.specs.Prelude.{◌≡◌, ◌≤◌, ℕ, zero, suc, ◌-◌, Bool, true, false, ◌&&◌, eqb, leb, ltb, List, [], ◌∷◌, length, reverse, if◌then◌else◌, Option, Some, None, option_map, slice_get}
use Rattle.ms_ir.specs.Names.{name_eq}
use Rattle.ms_trail_moves.specs.declared.moves.Source.{Source}
use Rattle.ms_trail_moves.specs.declared.moves.Source.TheVariants.{Root, Value, Byte}
use Rattle.ms_trail_moves.specs.declared.moves.Target.{Target}
use Rattle.ms_trail_moves.specs.declared.moves.Target.TheVariants as target
use Rattle.ms_trail_moves.specs.declared.moves.Move.{Move}
use Rattle.ms_trail_moves.specs.declared.moves.Hop.{Hop}
use Rattle.ms_trail_moves.specs.Leads.{came_from}

-- no move is of an earlier step than one before it
abbrev pub Ascending : List Move → Type 0
Ascending moves = (i j : ℕ) (m o : Move) → i ≤ j → slice_get moves i ≡ Some m → slice_get moves j ≡ Some o → m.event ≤ o.event

-- which byte of a target a source is, if it is one
abbrev pub byte_in : Target → Source → Option ℕ
byte_in (target.Value frame x) (Value other y) = if eqb frame other && name_eq x y then Some 0 else None
byte_in (target.Bytes a n) (Byte b) = if leb a b && ltb (b - a) n then Some (b - a) else None
byte_in _ _ = None

abbrev pub is_before : Option ℕ → Move → Bool
is_before None move = true
is_before (Some event) move = ltb move.event event

-- whether a move counts, and which byte of it the source is
abbrev pub counted_byte : Option ℕ → Source → Move → Option ℕ
counted_byte before source move = if is_before before move then byte_in move.to source else None

abbrev pub is_root : Source → Bool
is_root (Root n) = true
is_root _ = false

-- the way back from a source over the first n moves, the last hop first: down to the first move that counts and reaches
-- the source, and on from what that one read
abbrev pub scan : List Move → (n : ℕ) → Option ℕ → Source → Option (List Hop)
scan moves zero before source = if is_root source then Some [] else None
scan moves (suc n) before source =
    if is_root source then Some [] else
    elim (slice_get moves n) [
      | Some move ↦
          elim (counted_byte before source move) [
            | Some k ↦ option_map (λ hops. record { index = n; byte = k } ∷ hops) (scan moves n (Some move.event) (came_from move.from move.to k))
            | None ↦ scan moves n before source
          ]
      | None ↦ scan moves n before source
    ]

-- the way to a use, from a root on
abbrev pub trail_of : List Move → Source → Option (List Hop)
trail_of moves at = option_map reverse (scan moves (length moves) None at)
