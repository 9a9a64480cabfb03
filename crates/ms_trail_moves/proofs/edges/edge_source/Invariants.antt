use Rattle.ms_trail_moves.proofs.EdgeWalks.{Passed}
use Rattle.ms_trail_moves.proofs.edges.edge_source.Given as goal

abbrev pub invariant-loop-number : goal.invariant-loop-number
invariant-loop-number l = Passed l.frame l.from l.edges l.before l.number l.count
