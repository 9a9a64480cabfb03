use Rattle.std.proofs.Common.{◌≡◌, ◌+◌, drop}
use Rattle.ms_ir.specs.Instructions.{over_blocks}
use Rattle.ms_machine.proofs.places.find_block.Given as goal

abbrev pub invariant-loop-index : goal.invariant-loop-index
invariant-loop-index l = over_blocks (λ inst. 1) l.blocks + l.left ≡ over_blocks (λ inst. 1) (drop l.index l.blocks) + l.number
