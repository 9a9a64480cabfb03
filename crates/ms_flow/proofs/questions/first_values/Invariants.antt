use Rattle.std.proofs.Common.{ℕ, ◌<◌, ◌≤◌, get_or, vec_len, Contains}
use Rattle.ms_flow.proofs.questions.first_values.Given as goal

abbrev pub invariant-loop-count : goal.invariant-loop-count
invariant-loop-count l = record {
  few : vec_len l.values ≤ 64;
  fewer : vec_len l.values ≤ l.count;
  values : (k : ℕ) → k < l.count → Contains l.values.items (get_or l.questions k (0, 0)).0;
}
