use Rattle.ms_trail.proofs.Tracing.{Following}
use Rattle.ms_trail.proofs.traces.trace.Given as goal

abbrev pub invariant-loop-left : goal.invariant-loop-left
invariant-loop-left l = Following l.fn.m l.fn.setup l.left l.run

abbrev pub decreases-loop-left : goal.decreases-loop-left
decreases-loop-left l = l.left
