use Rattle.ms_flow.proofs.Visited.{Going}
use Rattle.ms_flow.proofs.trails.go_on.Given as goal

abbrev pub invariant-loop-next : goal.invariant-loop-next
invariant-loop-next l =
    Going l.g l.from l.initial.seen l.initial.visits.items l.next-items l.next-index l.seen l.visits.items
