use Rattle.std.proofs.Common.{◌≡◌, drop}
use Rattle.ms_ir.specs.Equal.{types_eq}
use Rattle.ms_ir.proofs.equality.+types.Given as goal

abbrev pub invariant-same_types-loop-i : goal.invariant-same_types-loop-i
invariant-same_types-loop-i l = types_eq (drop l.i l.types) (drop l.i l.others) ≡ types_eq l.types l.others
