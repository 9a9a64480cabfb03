use Rattle.std.proofs.Common.{◌≡◌, ◌+◌, drop}
use Rattle.ms_ir.specs.Instructions.{over_funcs}
use Rattle.ms_machine.proofs.places.find_func.Given as goal

abbrev pub invariant-loop-index : goal.invariant-loop-index
invariant-loop-index l = over_funcs (λ inst. 1) l.funcs + l.left ≡ over_funcs (λ inst. 1) (drop l.index l.funcs) + l.number
