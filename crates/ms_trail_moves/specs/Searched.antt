-- The way to a use over moves in any order (own).
use Rattle.std.specs.Prelude.{◌≡◌, ◌≤◌, ◌<◌, ◌^◌, ℕ, List, [], ◌∷◌, Option, Some, None, slice_get}
use Rattle.ms_trail_moves.specs.declared.moves.Source.{Source}
use Rattle.ms_trail_moves.specs.declared.moves.Move.{Move}
use Rattle.ms_trail_moves.specs.declared.moves.Hop.{Hop}
use Rattle.ms_trail_moves.specs.Leads.{reached, IsBefore, IsLast, Leads}

-- a hop is the last one, of steps before one, that reaches a source; none where no move does
abbrev pub IsLastWrite : List Move → Option ℕ → Source → Option Hop → Type 0
IsLastWrite moves before source (Some hop) = (move : Move) × IsLast moves before source hop move
IsLastWrite moves before source None = (j k : ℕ) (other : Move) → slice_get moves j ≡ Some other → IsBefore before other → reached other.to k ≡ Some source → ⊥

-- hops are found exactly where they lead to a use
pub record IsWay (moves : List Move) (at : Source) (found : Option (List Hop)) : Type 0 where
  pub leads : (hops : List Hop) → found ≡ Some hops → Leads moves at hops
  pub only : (hops : List Hop) → Leads moves at hops → found ≡ Some hops

-- so many first moves are in the order of their steps, none of them after one
pub record Rising (moves : List Move) (n event : ℕ) : Type 0 where
  pub ordered : (i j : ℕ) (m o : Move) → i ≤ j → j < n → slice_get moves i ≡ Some m → slice_get moves j ≡ Some o → m.event ≤ o.event
  pub highest : (i : ℕ) (m : Move) → i < n → slice_get moves i ≡ Some m → m.event ≤ event

-- the steps that are left to go back over
abbrev pub steps_left : Option ℕ → ℕ
steps_left None = 2 ^ 64
steps_left (Some event) = event
