use Rattle.std.proofs.Common.{◌-◌, length}
use Rattle.ms_runtime.proofs.NotedCalls.{Noting}
use Rattle.ms_runtime.proofs.runs.record_calls.Given as goal

abbrev pub invariant-loop-alloc : goal.invariant-loop-alloc
invariant-loop-alloc l = Noting l.m l.fiber l.started l.count l.fn.recorded.items l.recorded.items

abbrev pub decreases-loop-alloc : goal.decreases-loop-alloc
decreases-loop-alloc l = l.count - length l.recorded.items
