use Rattle.ms_trail_moves.specs.Readings.{source_of}
use Rattle.ms_trail_moves.proofs.WaySearch.{Left}
use Rattle.ms_trail_moves.proofs.searching.last_write.Given as goal

abbrev pub invariant-loop-below : goal.invariant-loop-below
invariant-loop-below l = Left l.moves l.below l.event (source_of l.reading)

abbrev pub decreases-loop-below : goal.decreases-loop-below
decreases-loop-below l = l.below
