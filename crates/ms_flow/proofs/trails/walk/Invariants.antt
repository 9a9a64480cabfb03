use Rattle.std.proofs.Common.{◌≡◌, ◌+◌, ◌-◌, ◌≤◌, length}
use Rattle.ms_flow.specs.Walks.{IsWalk, Marks, unseen}
use Rattle.ms_flow.proofs.Visited.{IsClosed}
use Rattle.ms_flow.proofs.trails.walk.Given as goal

abbrev pub invariant-loop-at : goal.invariant-loop-at
invariant-loop-at l = record {
  walk : IsWalk l.g l.value l.visits.items;
  marks : Marks l.seen.items l.visits.items;
  closed : IsClosed l.g l.value l.visits.items l.at;
  len : length l.seen.items ≡ length l.g.next;
  within : l.at ≤ length l.visits.items;
}

abbrev pub decreases-loop-at : goal.decreases-loop-at
decreases-loop-at l = unseen l.seen.items + (length l.visits.items - l.at)
