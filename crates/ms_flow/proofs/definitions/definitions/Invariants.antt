use Rattle.std.proofs.Common.{ℕ, ◌<◌, ◌↔◌, Contains}
use Rattle.ms_flow.specs.Paths.{Defines}
use Rattle.ms_flow.proofs.definitions.definitions.Given as goal

abbrev pub invariant-loop-block : goal.invariant-loop-block
invariant-loop-block l = (b v : ℕ) → Contains l.pairs.items (b, v) ↔ ((b < l.block) × Defines l.g b v)
