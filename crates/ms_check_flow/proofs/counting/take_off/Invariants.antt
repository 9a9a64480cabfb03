use Rattle.std.proofs.Common.{◌≡◌, ◌+◌, ℕ, slice_index, take}
use Rattle.ms_check_flow.specs.Counted.{count_of}
use Rattle.ms_check_flow.proofs.counting.take_off.Given as goal

abbrev pub invariant-loop-number : goal.invariant-loop-number
invariant-loop-number l = (k : ℕ) → slice_index l.due k + count_of k (take l.number-index l.numbers) ≡ slice_index l.fn.due k
