use Rattle.std.proofs.Common.{◌≡◌}
use Rattle.ms_host.specs.State.{Keeps}
use Rattle.ms_host.proofs.OriginSteps.{MarksTo}
use Rattle.ms_host.proofs.worlds.World.mark_cells.Given as goal

abbrev pub invariant-loop-k : goal.invariant-loop-k
invariant-loop-k l = record {
  marked : MarksTo l.initial.self l.self l.k l.addr l.rest l.mask l.origin;
  keeps : Keeps l.initial.self l.self;
  made : l.self.made ≡ l.initial.self.made;
}
