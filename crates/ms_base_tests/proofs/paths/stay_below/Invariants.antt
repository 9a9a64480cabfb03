use Rattle.std.proofs.Common.{ℕ, ◌<◌, List, get_or, All}
use Rattle.ms_base_tests.proofs.paths.stay_below.Given as goal

abbrev pub invariant-loop-list : goal.invariant-loop-list
invariant-loop-list l = (k : ℕ) (d : List ℕ) → k < l.list-index → All (λ b. b < l.len) (get_or l.lists k d)
