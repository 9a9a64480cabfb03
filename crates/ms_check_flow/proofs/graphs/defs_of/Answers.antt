use Rattle.ms_check_valid.specs.FlowGraph.{name_place}
use Rattle.ms_check_flow.proofs.Appended.{definition_appended}
use Rattle.ms_check_flow.proofs.graphs.defs_of.Goals as goal

pub loop-inst-preserved : goal.loop-inst-preserved
loop-inst-preserved c =
    definition_appended (name_place c.args.values.now) c.loop-inst.numbers.items c.push_definition.new.numbers.items c.args.insts.now c.loop-inst.inst-index c.inst-item.result
    c.loop-inst-test.true c.inst-item.is c.in_ok-push_definition.ensures c.loop-inst.invariant
