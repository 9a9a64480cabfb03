use Rattle.std.proofs.Common.{◌<◌, length, reverse}
use Rattle.ms_flow.specs.Walks.{Trail}
use Rattle.ms_flow.proofs.trails.trail.Given as goal

abbrev pub invariant-loop-at : goal.invariant-loop-at
invariant-loop-at l = record {
  within : l.at < length l.visits;
  trail : Trail l.visits l.last l.at (reverse l.path.items);
}

abbrev pub decreases-loop-at : goal.decreases-loop-at
decreases-loop-at l = l.at
