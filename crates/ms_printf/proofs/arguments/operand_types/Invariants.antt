use Rattle.std.proofs.Common.{◌≡◌, take}
use Rattle.ms_printf.specs.Walks.{types_of}
use Rattle.ms_printf.proofs.arguments.operand_types.Given as goal

abbrev pub invariant-loop-k : goal.invariant-loop-k
invariant-loop-k l = l.types.items ≡ take l.k (types_of l.op)
