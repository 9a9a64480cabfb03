use Rattle.ms_trail.proofs.PhisTold.{PhisSoFar}
use Rattle.ms_trail.proofs.jumps.tell_phis.Given as goal

abbrev pub invariant-loop-k : goal.invariant-loop-k
invariant-loop-k l = PhisSoFar l.tables.rows.items l.first l.read l.after.event l.after.site l.frame l.from l.initial.log l.log l.k
