use Rattle.ms_trail_moves.proofs.Checking.{Going}
use Rattle.ms_trail_moves.proofs.checks.check_trail.Given as goal

abbrev pub invariant-loop-left : goal.invariant-loop-left
invariant-loop-left l = Going l.moves l.at l.hops l.left l.event l.read l.distance

abbrev pub decreases-loop-left : goal.decreases-loop-left
decreases-loop-left l = l.left
