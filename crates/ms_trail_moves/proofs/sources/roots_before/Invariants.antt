use Rattle.std.proofs.Common.{◌≡◌, take}
use Rattle.ms_ir.specs.Instructions.{operands, count_undefs}
use Rattle.ms_trail_moves.proofs.sources.roots_before.Given as goal

abbrev pub invariant-loop-place : goal.invariant-loop-place
invariant-loop-place l = l.roots ≡ count_undefs (take l.place (operands l.op))
