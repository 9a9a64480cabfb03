use Rattle.ms_trail_moves.specs.Readings.{source_of}
use Rattle.ms_trail_moves.specs.Searched.{steps_left}
use Rattle.ms_trail_moves.proofs.WaySearch.{Gone}
use Rattle.ms_trail_moves.proofs.searching.search.Given as goal

abbrev pub invariant-loop-reading : goal.invariant-loop-reading
invariant-loop-reading l = Gone l.moves l.at l.hops.items l.event (source_of l.reading)

abbrev pub decreases-loop-reading : goal.decreases-loop-reading
decreases-loop-reading l = steps_left l.event
