use Rattle.std.proofs.Common.{◌≡◌, get_or}
use Rattle.ms_runs.specs.World.{World}
use Rattle.ms_runs.specs.Memory.{set_bytes}
use Rattle.ms_host.specs.State.{Beside, Keeps}
use Rattle.ms_host.specs.Shows.{Shows}
use Rattle.ms_host.proofs.worlds.World.initialise_text.Given as goal

abbrev pub invariant-loop-k : goal.invariant-loop-k
invariant-loop-k l = record {
  written : (beside : Beside) (world : World) → Shows l.initial.self beside world → Shows l.self beside (set_bytes l.addr l.k (λ j. get_or l.bytes j 0) world);
  keeps : Keeps l.initial.self l.self;
  made : l.self.made ≡ l.initial.self.made;
}
