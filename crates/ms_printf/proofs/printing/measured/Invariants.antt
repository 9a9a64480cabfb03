use Rattle.ms_runs.specs.World.{World}
use Rattle.ms_host.specs.State.{Beside}
use Rattle.ms_host.specs.Shows.{Shows}
use Rattle.ms_printf.specs.Walks.{rest_shown, IsWalk}
use Rattle.ms_printf.proofs.Sums.{SoFar}
use Rattle.ms_printf.proofs.printing.measured.Given as goal

abbrev pub invariant-parts : goal.invariant-parts
invariant-parts l = record {
  walk : IsWalk l.world.planes.table l.walk;
  so_far : (beside : Beside) (meant : World) → Shows l.world beside meant → SoFar l.sum (rest_shown meant l.types l.words l.walk) (rest_shown meant l.types l.words l.fn.format);
}

abbrev pub decreases-parts : goal.decreases-parts
decreases-parts l = l.walk.left
