use Rattle.std.proofs.Common.{◌≡◌, take}
use Rattle.ms_threads_schedules_laws.specs.Exploration.{padded}
use Rattle.ms_threads_explore.specs.Beginnings.{told_from}
use Rattle.ms_threads_explore.proofs.beginnings.Beginning.schedule.Given as goal

abbrev pub invariant-loop-k : goal.invariant-loop-k
invariant-loop-k l = l.schedule ≡ padded (told_from 0 (take l.k l.self.marks.items))
