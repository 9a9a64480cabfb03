use Rattle.std.proofs.Common.{◌≡◌, map, take}
use Rattle.ms_check_valid.specs.FlowGraph.{name_place}
use Rattle.ms_ir.specs.Locals.{results}
use Rattle.ms_check_flow.proofs.graphs.defs_of.Given as goal

abbrev pub invariant-loop-inst : goal.invariant-loop-inst
invariant-loop-inst l = l.numbers.items ≡ map (name_place l.values) (results (take l.inst-index l.insts))
