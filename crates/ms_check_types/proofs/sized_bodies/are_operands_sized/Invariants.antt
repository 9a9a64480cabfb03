use Rattle.std.proofs.Common.{◌≡◌, drop}
use Rattle.std.specs.List.{list_all}
use Rattle.ms_ir.specs.Instructions.{operands}
use Rattle.ms_check_types.specs.SizedParts.{is_typed_sized}
use Rattle.ms_check_types.proofs.sized_bodies.are_operands_sized.Given as goal

abbrev pub invariant-loop-place : goal.invariant-loop-place
invariant-loop-place l = list_all (is_typed_sized l.extents) (drop l.place (operands l.op)) ≡ list_all (is_typed_sized l.extents) (operands l.op)
