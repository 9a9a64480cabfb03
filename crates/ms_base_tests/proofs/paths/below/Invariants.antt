use Rattle.std.proofs.Common.{ℕ, ◌<◌, get_or}
use Rattle.ms_base_tests.proofs.paths.below.Given as goal

abbrev pub invariant-loop-block : goal.invariant-loop-block
invariant-loop-block l = (k : ℕ) → k < l.block-index → get_or l.blocks k 0 < l.len
