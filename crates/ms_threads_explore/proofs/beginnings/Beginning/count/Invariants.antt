use Rattle.std.proofs.Common.{◌≡◌, take, length}
use Rattle.ms_threads_explore.specs.Beginnings.{told_from}
use Rattle.ms_threads_explore.proofs.beginnings.Beginning.count.Given as goal

abbrev pub invariant-loop-k : goal.invariant-loop-k
invariant-loop-k l = l.count ≡ length (told_from 0 (take l.k l.self.marks.items))
