use Rattle.std.proofs.Common.{◌≡◌, drop}
use Rattle.ms_runs.specs.World.{World}
use Rattle.ms_runs.specs.Uses.{string_uses}
use Rattle.ms_host.specs.State.{Beside}
use Rattle.ms_host.specs.Shows.{Shows}
use Rattle.ms_trail_uses.specs.Used.{first_read, seen}
use Rattle.ms_trail_uses.proofs.checked.first_string.Given as goal

abbrev pub invariant-loop-k : goal.invariant-loop-k
invariant-loop-k l = (beside : Beside) (meant : World) → Shows l.world beside meant
    → let ps = seen l.view.fill.now l.view.values.now l.view.masks.now l.args in
    first_read meant ps (string_uses 1 (drop 1 l.typed)) ≡ first_read meant ps (string_uses l.k (drop l.k l.typed))
