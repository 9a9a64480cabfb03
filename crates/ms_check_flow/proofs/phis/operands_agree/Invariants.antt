use Rattle.std.proofs.Common.{◌≡◌, ◌<◌, ◌≤◌, ℕ, slice_index}
use Rattle.ms_check_flow.specs.Fitting.{AgreeBelow}
use Rattle.ms_check_flow.proofs.phis.operands_agree.Given as goal

abbrev pub invariant-loop-place : goal.invariant-loop-place
invariant-loop-place l = record {
  agree : AgreeBelow l.place l.edges l.numbers;
  last : (j : ℕ) → j < l.place → let at = slice_index l.last (slice_index l.numbers j) in
      (j ≤ at) × (at < l.place) × (slice_index l.numbers at ≡ slice_index l.numbers j);
}
