use Rattle.std.proofs.Common.{ℕ, ◌<◌, get_or}
use Rattle.ms_flow.specs.declared.graphs.Use.{Use}
use Rattle.ms_base_tests.proofs.paths.uses_below.Given as goal

abbrev pub invariant-loop-u : goal.invariant-loop-u
invariant-loop-u l = (k : ℕ) (d : Use) → k < l.u-index → (get_or l.uses k d).block < l.len
