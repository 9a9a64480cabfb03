use Rattle.std.proofs.Common.{◌≡◌, drop}
use Rattle.ms_ir.specs.Instructions.{operands}
use Rattle.ms_check_valid.specs.TypesAgree.{first_misfit}
use Rattle.ms_check_types.specs.Bodies.{fits_in}
use Rattle.ms_check_types.proofs.operands.first_misfit.Given as goal

abbrev pub invariant-loop-place : goal.invariant-loop-place
invariant-loop-place l = first_misfit (fits_in l.body) l.place (drop l.place (operands l.op)) ≡ first_misfit (fits_in l.body) 0 (operands l.op)
