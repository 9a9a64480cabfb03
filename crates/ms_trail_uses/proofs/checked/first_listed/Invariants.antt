use Rattle.std.proofs.Common.{◌≡◌, map, drop}
use Rattle.ms_runs.specs.World.{World}
use Rattle.ms_runs_uses.specs.Uses.{use_of}
use Rattle.ms_host.specs.State.{Beside}
use Rattle.ms_host.specs.Shows.{Shows}
use Rattle.ms_trail_uses.specs.Used.{first_read, seen}
use Rattle.ms_trail_uses.proofs.checked.first_listed.Given as goal

abbrev pub invariant-loop-checked : goal.invariant-loop-checked
invariant-loop-checked l = (beside : Beside) (meant : World) → Shows l.world beside meant
    → let ps = seen l.view.fill.now l.view.values.now l.view.masks.now l.args in
    first_read meant ps (map use_of l.uses) ≡ first_read meant ps (map use_of (drop l.checked-index l.uses))
