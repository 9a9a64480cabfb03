use Rattle.ms_check_flow.proofs.Appended.{room_for_result, result_appended}
use Rattle.ms_check_flow.proofs.numbers.push_results.Goals as goal

pub push_result-requires : goal.push_result-requires
push_result-requires c =
    room_for_result c.args.names.now c.loop-inst.names c.args.insts.now c.loop-inst.inst-index c.inst-item.result _ c.loop-inst-test.true c.inst-item.is
    c.loop-inst.invariant c.requires

pub loop-inst-preserved : goal.loop-inst-preserved
loop-inst-preserved c =
    result_appended c.args.names.now c.loop-inst.names c.push_result.new.names c.args.insts.now c.loop-inst.inst-index c.inst-item.result c.loop-inst-test.true c.inst-item.is
    c.in_ok-push_result.ensures c.loop-inst.invariant
