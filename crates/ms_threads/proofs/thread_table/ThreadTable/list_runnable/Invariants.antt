use Rattle.std.proofs.Common.{◌≡◌, ◌<◌, ◌≤◌, ◌+◌, ℕ, length, get_or}
use Rattle.ms_threads.proofs.Numbered.{rest, test_of}
use Rattle.ms_threads.proofs.thread_table.ThreadTable.list_runnable.Given as goal

abbrev pub invariant-loop-k : goal.invariant-loop-k
invariant-loop-k l = record {
  total : l.count + length (rest (test_of l.self) l.k (length l.self.parked.items)) ≡ length (rest (test_of l.self) 0 (length l.self.parked.items));
  few : l.count ≤ l.k;
  listed : (d : ℕ) → d < l.count → get_or l.ready d 0 ≡ get_or (rest (test_of l.self) 0 (length l.self.parked.items)) d 0;
  ahead : (d : ℕ) → get_or (rest (test_of l.self) l.k (length l.self.parked.items)) d 0 ≡ get_or (rest (test_of l.self) 0 (length l.self.parked.items)) (l.count + d) 0;
}
