use Rattle.std.proofs.Common.{◌≡◌}
use Rattle.ms_runtime.specs.Going.{ahead}
use Rattle.ms_threads.specs.Going.{Going}
use Rattle.ms_threads.proofs.runs.run_to_end.Given as goal

abbrev pub invariant-loop-threads : goal.invariant-loop-threads
invariant-loop-threads l = Going l.m l.setup l.schedule l.threads × (l.threads.wanted ≡ l.wanted)

abbrev pub decreases-loop-threads : goal.decreases-loop-threads
decreases-loop-threads l = ahead l.m l.threads.running
