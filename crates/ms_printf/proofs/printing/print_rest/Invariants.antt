use Rattle.std.proofs.Common.{◌≡◌, ℕ, List, Ok}
use Rattle.ms_runs.specs.World.{World}
use Rattle.ms_host.specs.State.{Beside, Keeps}
use Rattle.ms_host.specs.Shows.{Shows}
use Rattle.ms_printf.specs.Walks.{rest_shown, IsWalk}
use Rattle.ms_printf.proofs.Output.{PrintedSoFar}
use Rattle.ms_printf.proofs.printing.print_rest.Given as goal

abbrev pub invariant-parts : goal.invariant-parts
invariant-parts l = record {
  walk : IsWalk l.world.planes.table l.walk;
  printed : (beside : Beside) (meant : World) (bytes : List ℕ) → Shows l.initial.world beside meant → rest_shown meant l.types l.words l.fn.format ≡ Ok bytes
      → PrintedSoFar l.world beside meant bytes (rest_shown meant l.types l.words l.walk);
  keeps : Keeps l.initial.world l.world;
  made : l.world.made ≡ l.initial.world.made;
}

abbrev pub decreases-parts : goal.decreases-parts
decreases-parts l = l.walk.left
