use Rattle.std.proofs.Common.{◌≡◌, ◌≤◌, ◌++◌, length, map, drop}
use Rattle.ms_threads.specs.Recording.{pick_of}
use Rattle.ms_threads_schedules_laws.specs.Trees.{Everywhere, branches}
use Rattle.ms_threads_explore.specs.Beginnings.{IsBeginning, told_of, rows}
use Rattle.ms_threads_explore.proofs.beginnings.push_branches.Given as goal

abbrev pub invariant-loop-place : goal.invariant-loop-place
invariant-loop-place l = record {
  after : length (told_of l.told) ≤ l.place;
  told : map told_of l.queue.items ++ rows (told_of l.told) l.place (drop l.place (map pick_of l.picks)) ≡ map told_of l.fn.queue.items ++ branches (told_of l.told) (map pick_of l.picks);
  are : Everywhere IsBeginning l.fn.queue.items → Everywhere IsBeginning l.queue.items;
}
