use Rattle.std.proofs.Common.{◌≡◌, drop}
use Rattle.ms_ir.specs.Names.{lookup}
use Rattle.ms_ir.proofs.extents.find.Given as goal

abbrev pub invariant-loop-other : goal.invariant-loop-other
invariant-loop-other l = lookup (drop l.other-index l.types) l.name ≡ lookup l.types l.name
