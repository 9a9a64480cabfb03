use Rattle.ms_check_tables.proofs.Given.{given_seen}
use Rattle.ms_rules.specs.Valued.{valued}
use Rattle.ms_rules.proofs.values.push_results.Goals as goal

pub loop-inst-preserved : goal.loop-inst-preserved
loop-inst-preserved c =
    given_seen valued c.args.names.now c.loop-inst.names c.push_result.new.names c.args.insts.now c.loop-inst.inst-index c.inst-item.result c.loop-inst-test.true c.inst-item.is
    c.in_ok-push_result.ensures c.loop-inst.invariant
