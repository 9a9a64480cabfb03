use Rattle.std.proofs.Common.{◌≡◌, ℕ, ◌+◌, ◌<◌, IsTrue}
use Rattle.ms_planes.specs.Areas.{held}
use Rattle.ms_planes.proofs.parts.is_clean.Given as goal

abbrev pub invariant-loop-i : goal.invariant-loop-i
invariant-loop-i l = record { clean : IsTrue l.clean → (k : ℕ) → k < l.i → held l.block.shadow (l.at + k) ≡ 0 }
