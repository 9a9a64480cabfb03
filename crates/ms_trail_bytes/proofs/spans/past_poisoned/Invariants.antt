use Rattle.std.proofs.Common.{◌≢◌, ◌≤◌, ◌<◌, ◌+◌, ℕ}
use Rattle.ms_runs.specs.World.{World}
use Rattle.ms_runs_good_laws.specs.GoodWorlds.{GoodWorld, FitsCell}
use Rattle.ms_host.specs.State.{Beside}
use Rattle.ms_host.specs.Shows.{Shows}
use Rattle.ms_trail_bytes.proofs.spans.past_poisoned.Given as goal

abbrev pub invariant-loop-k : goal.invariant-loop-k
invariant-loop-k l = (beside : Beside) (meant : World) → Shows l.world beside meant → GoodWorld FitsCell meant → (j : ℕ) → l.first ≤ j → j < l.k → meant.shadow (l.addr + j) ≢ 0
