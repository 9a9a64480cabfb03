use Rattle.std.proofs.Common.{◌≡◌, ◌+◌, ℕ}
use Rattle.ms_bits.specs.Maps.{byte_of}
use Rattle.ms_runs.specs.World.{World}
use Rattle.ms_runs.specs.Memory.{set_bytes}
use Rattle.ms_host.specs.State.{Beside, Keeps}
use Rattle.ms_host.specs.Shows.{Shows}
use Rattle.ms_host.proofs.worlds.World.initialise_number.Given as goal

abbrev pub invariant-loop-k : goal.invariant-loop-k
invariant-loop-k l = record {
  written : (beside : Beside) (world : World) → Shows l.initial.self beside world → Shows l.self beside (set_bytes l.addr l.k (byte_of l.v) world);
  rest : (j : ℕ) → byte_of l.rest j ≡ byte_of l.v (l.k + j);
  keeps : Keeps l.initial.self l.self;
  made : l.self.made ≡ l.initial.self.made;
}
