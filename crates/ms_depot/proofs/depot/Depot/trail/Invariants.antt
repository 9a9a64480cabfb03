use Rattle.std.proofs.Common.{◌≡◌, ◌++◌}
use Rattle.ms_depot.proofs.Trails.{way_in}
use Rattle.ms_depot.proofs.depot.Depot.trail.Given as goal

abbrev pub invariant-loop-origin : goal.invariant-loop-origin
invariant-loop-origin l = l.way.items ++ way_in l.self l.at ≡ way_in l.self l.id

abbrev pub decreases-loop-origin : goal.decreases-loop-origin
decreases-loop-origin l = l.at
