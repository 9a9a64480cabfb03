use Rattle.std.proofs.Common.{◌-◌, ◌≡◌, ◌≤◌, ◌++◌, map}
use Rattle.ms_threads_schedules_laws.specs.Trees.{Everywhere}
use Rattle.ms_threads_explore.specs.Beginnings.{IsBeginning, told_of}
use Rattle.ms_threads_explore.proofs.Marked.{pushed}
use Rattle.ms_threads_explore.proofs.beginnings.push_others.Given as goal

abbrev pub invariant-loop-number : goal.invariant-loop-number
invariant-loop-number l = record {
  some : 1 ≤ l.number;
  few : l.number ≤ l.among;
  told : map told_of l.queue.items ≡ map told_of l.fn.queue.items ++ pushed (told_of l.told) l.place l.among l.number;
  are : Everywhere IsBeginning l.fn.queue.items → Everywhere IsBeginning l.queue.items;
}

abbrev pub decreases-loop-number : goal.decreases-loop-number
decreases-loop-number l = l.number - 1
