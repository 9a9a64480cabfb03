use Rattle.std.proofs.Common.{◌≡◌, drop, map}
use Rattle.ms_ir.specs.Equal.{types_eq}
use Rattle.ms_ir.specs.Rows.{kind_type}
use Rattle.ms_ir.proofs.rows.are_params.Given as goal

abbrev pub invariant-loop-i : goal.invariant-loop-i
invariant-loop-i l = types_eq (drop l.i l.params) (map kind_type (drop l.i l.kinds)) ≡ types_eq l.params (map kind_type l.kinds)
