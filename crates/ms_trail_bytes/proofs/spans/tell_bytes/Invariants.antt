use Rattle.std.proofs.Common.{◌≤◌, ◌+◌, ◌-◌, List}
use Rattle.ms_runs.specs.World.{World}
use Rattle.ms_runs_good_laws.specs.GoodWorlds.{GoodWorld, FitsCell}
use Rattle.ms_host.specs.State.{Beside}
use Rattle.ms_host.specs.Shows.{Shows}
use Rattle.ms_trail_moves.specs.declared.moves.Move.{Move}
use Rattle.ms_trail_bytes.specs.Logs.{IsLog}
use Rattle.ms_trail_bytes.specs.Spans.{Telling}
use Rattle.ms_trail_bytes.proofs.spans.tell_bytes.Given as goal

abbrev pub invariant-loop-k : goal.invariant-loop-k
invariant-loop-k l = record {
  within : l.k ≤ l.n;
  count : l.log.count ≤ l.initial.log.count + l.k;
  told : (beside : Beside) (meant : World) (moves : List Move) → Shows l.world beside meant → GoodWorld FitsCell meant → IsLog l.initial.log moves → Telling l.stamp.event l.stamp.site l.from l.copied l.addr l.n meant.shadow moves l.log l.k;
}

abbrev pub decreases-loop-k : goal.decreases-loop-k
decreases-loop-k l = l.n - l.k
