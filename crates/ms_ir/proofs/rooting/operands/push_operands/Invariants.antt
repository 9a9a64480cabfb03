use Rattle.std.proofs.Common.{◌≡◌, ◌++◌, map, take}
use Rattle.std.specs.Prelude.{flat_map}
use Rattle.ms_ir.specs.Instructions.{operands}
use Rattle.ms_ir.specs.Rooted.{operand_roots}
use Rattle.ms_ir.proofs.rooting.operands.push_operands.Given as goal

abbrev pub invariant-loop-k : goal.invariant-loop-k
invariant-loop-k l = l.roots.items ≡ l.fn.roots.items ++ flat_map (operand_roots l.site) (take l.k (map (λ o. o.1) (operands l.op)))
