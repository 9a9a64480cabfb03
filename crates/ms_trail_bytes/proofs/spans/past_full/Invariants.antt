use Rattle.std.proofs.Common.{◌≢◌, ◌≤◌, ◌<◌, ◌+◌, ◌-◌, ℕ}
use Rattle.ms_runs.specs.World.{World}
use Rattle.ms_runs_good_laws.specs.GoodWorlds.{GoodWorld, FitsCell}
use Rattle.ms_host.specs.State.{Beside}
use Rattle.ms_host.specs.Shows.{Shows}
use Rattle.ms_trail_bytes.proofs.spans.past_full.Given as goal

abbrev pub invariant-loop-k : goal.invariant-loop-k
invariant-loop-k l = record {
  past : l.first ≤ l.k;
  end : l.k ≤ l.n;
  poisoned : (beside : Beside) (meant : World) → Shows l.world beside meant → GoodWorld FitsCell meant → (j : ℕ) → l.first ≤ j → j < l.k → meant.shadow (l.addr + j) ≢ 0;
}

abbrev pub decreases-loop-k : goal.decreases-loop-k
decreases-loop-k l = l.n - l.k
