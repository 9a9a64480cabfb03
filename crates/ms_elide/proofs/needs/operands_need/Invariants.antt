use Rattle.std.proofs.Common.{◌≡◌, map, take, Some}
use Rattle.ms_ir.specs.Instructions.{operands}
use Rattle.ms_check_tables.specs.FirstPlace.{first_place}
use Rattle.ms_elide.specs.Needed.{all_needs}
use Rattle.ms_elide.proofs.needs.operands_need.Given as goal

abbrev pub invariant-loop-place : goal.invariant-loop-place
invariant-loop-place l = all_needs (first_place l.locals) (take l.place (map (λ o. o.1) (operands l.op))) ≡ Some l.needs.items
