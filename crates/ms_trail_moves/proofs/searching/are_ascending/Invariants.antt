use Rattle.ms_trail_moves.specs.Searched.{Rising}
use Rattle.ms_trail_moves.proofs.searching.are_ascending.Given as goal

abbrev pub invariant-loop-number : goal.invariant-loop-number
invariant-loop-number l = Rising l.moves l.number l.event
