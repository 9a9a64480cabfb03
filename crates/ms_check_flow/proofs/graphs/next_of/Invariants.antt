use Rattle.std.proofs.Common.{◌≡◌, map, take}
use Rattle.std.specs.Prelude.{flat_map}
use Rattle.ms_check_valid.specs.FlowGraph.{name_place}
use Rattle.ms_ir.specs.Written.{targets}
use Rattle.ms_check_flow.proofs.graphs.next_of.Given as goal

abbrev pub invariant-loop-inst : goal.invariant-loop-inst
invariant-loop-inst l = l.numbers.items ≡ map (name_place l.blocks) (flat_map (λ inst. targets inst.op) (take l.inst-index l.insts))
