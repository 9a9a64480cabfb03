use Rattle.std.proofs.Common.{◌≡◌, ◌++◌, map, take}
use Rattle.std.specs.Prelude.{flat_map}
use Rattle.ms_ir.specs.Instructions.{operands}
use Rattle.ms_check_flow.specs.Noted.{operand_here}
use Rattle.ms_check_flow.proofs.inst_uses.UseSite.note_operands.Given as goal

abbrev pub invariant-loop-k : goal.invariant-loop-k
invariant-loop-k l = l.noted.items ≡ l.fn.noted.items ++ flat_map (operand_here l.self) (take l.k (map (λ a. a.1) (operands l.op)))
