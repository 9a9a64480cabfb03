use Rattle.ms_trail_moves.specs.Checked.{NoneBetween}
use Rattle.ms_trail_moves.proofs.checks.none_writes.Given as goal

abbrev pub invariant-loop-number : goal.invariant-loop-number
invariant-loop-number l = NoneBetween l.moves l.first l.number l.event l.read l.distance
