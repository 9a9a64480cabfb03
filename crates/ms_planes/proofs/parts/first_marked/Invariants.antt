use Rattle.std.proofs.Common.{◌≡◌, ℕ, ◌+◌, ◌<◌}
use Rattle.ms_planes.specs.Areas.{held}
use Rattle.ms_planes.proofs.parts.first_marked.Given as goal

abbrev pub invariant-loop-i : goal.invariant-loop-i
invariant-loop-i l = record { none : (k : ℕ) → k < l.i → held l.block.shadow (l.at + k) ≡ 0 }
