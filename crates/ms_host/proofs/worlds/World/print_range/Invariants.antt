use Rattle.std.proofs.Common.{◌≡◌, ◌++◌}
use Rattle.ms_bits.specs.Maps.{bytes_at}
use Rattle.ms_runs.specs.World.{World}
use Rattle.ms_host.specs.State.{Beside, Keeps}
use Rattle.ms_host.specs.Shows.{Shows}
use Rattle.ms_host.proofs.worlds.World.print_range.Given as goal

abbrev pub invariant-loop-k : goal.invariant-loop-k
invariant-loop-k l = record {
  printed : (beside : Beside) (world : World) → Shows l.initial.self beside world → Shows l.self beside (record world { output = world.output ++ bytes_at world.bytes l.addr l.k });
  planes : l.self.planes ≡ l.initial.self.planes;
  keeps : Keeps l.initial.self l.self;
  made : l.self.made ≡ l.initial.self.made;
}
