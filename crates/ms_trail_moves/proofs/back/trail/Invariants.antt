use Rattle.ms_trail_moves.specs.Readings.{source_of}
use Rattle.ms_trail_moves.proofs.Backwards.{Sofar}
use Rattle.ms_trail_moves.proofs.back.trail.Given as goal

abbrev pub invariant-loop-below : goal.invariant-loop-below
invariant-loop-below l = Sofar l.moves l.at l.hops.items l.below l.event (source_of l.reading)

-- proposed from the loop's first test
abbrev pub decreases-loop-below : goal.decreases-loop-below
decreases-loop-below l = l.below
