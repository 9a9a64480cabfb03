use Rattle.std.proofs.Common.{◌≡◌, ◌+◌, ◌-◌, ◌≤◌, length}
use Rattle.ms_io.specs.Counts.{last_count, RoseBy}
use Rattle.ms_io.proofs.real.read_to_end.Given as goal

abbrev pub invariant-loop-bytes : goal.invariant-loop-bytes
invariant-loop-bytes g l =
    (length l.bytes.items ≤ l.limit + 1)
    × RoseBy (length l.bytes.items) l.initial.counters.taken l.counters.taken
    × (l.initial.counters.taken ≤ l.counters.taken)
    × (l.counters.taken ≤ last_count)
    × (l.counters.faults ≡ l.initial.counters.faults)

abbrev pub decreases-loop-bytes : goal.decreases-loop-bytes
decreases-loop-bytes g l = l.limit + 1 - length l.bytes.items
