use Rattle.std.proofs.Common.{◌≡◌, ◌+◌, ◌-◌}
use Rattle.ms_runs_threads.specs.PlainFibers.{plain_threads}
use Rattle.ms_threads_schedules_laws.specs.Picks.{plain_picks}
use Rattle.ms_threads_explore.specs.Trials.{IsGoing}
use Rattle.ms_threads_explore.proofs.explorer.explore.Given as goal

abbrev pub invariant-loop-exploration : goal.invariant-loop-exploration
invariant-loop-exploration g l = IsGoing (plain_picks l.m l.setup) (plain_threads l.m l.setup) l.exploration × (l.exploration.most ≡ l.count + 1)

-- how many runs may still be made
abbrev pub decreases-loop-exploration : goal.decreases-loop-exploration
decreases-loop-exploration g l = l.exploration.most - l.exploration.next
