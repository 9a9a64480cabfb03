use Rattle.std.proofs.Common.{◌≡◌, ◌++◌, drop, map}
use Rattle.ms_ir.specs.Rows.{kind_type}
use Rattle.ms_ir.proofs.rows.types_of.Given as goal

abbrev pub invariant-loop-kind : goal.invariant-loop-kind
invariant-loop-kind l = l.types.items ++ map kind_type (drop l.kind-index l.kinds) ≡ map kind_type l.kinds
