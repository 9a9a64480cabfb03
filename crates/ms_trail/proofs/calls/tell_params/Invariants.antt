use Rattle.ms_ir.specs.Instructions.{operands}
use Rattle.ms_trail_moves.specs.Sources.{sources}
use Rattle.ms_trail.proofs.Called.{ParamsSoFar}
use Rattle.ms_trail.proofs.calls.tell_params.Given as goal

abbrev pub invariant-loop-k : goal.invariant-loop-k
invariant-loop-k l = ParamsSoFar l.stamp.event l.stamp.site l.number l.params l.masks (sources l.caller (operands l.row.inst.now.op) l.row.roots) l.initial.log l.log l.k
