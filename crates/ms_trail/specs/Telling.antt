-- Moves of words (own).
use Rattle.std.specs.Prelude.{ℕ, eqb, List, [], ◌∷◌, if◌then◌else◌}
use Rattle.ms_trail_moves.specs.declared.moves.Source.{Source}
use Rattle.ms_trail_moves.specs.declared.moves.Target.{Target}
use Rattle.ms_trail_moves.specs.declared.moves.Move.{Move}
use Rattle.ms_trail_moves.specs.Events.{moved}

-- a move of a word with a mask, where it is poisoned
abbrev pub masked_move : (event site mask : ℕ) → Source → Target → List Move
masked_move event site mask from to = if eqb mask 0 then [] else moved event site from to ∷ []
