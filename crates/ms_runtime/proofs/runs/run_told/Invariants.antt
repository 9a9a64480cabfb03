use Rattle.std.proofs.Common.{◌≡◌}
use Rattle.ms_runtime.specs.Going.{ahead}
use Rattle.ms_runtime.specs.Recorded.{GoingTold}
use Rattle.ms_runtime.proofs.runs.run_told.Given as goal

abbrev pub invariant-loop-recorded : goal.invariant-loop-recorded
invariant-loop-recorded l = GoingTold l.m l.setup l.recorded × (l.recorded.wanted ≡ l.wanted)

abbrev pub decreases-loop-recorded : goal.decreases-loop-recorded
decreases-loop-recorded l = ahead l.m l.recorded.running
