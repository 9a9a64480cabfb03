use Rattle.ms_check_tables.proofs.Given.{given_seen}
use Rattle.ms_check_tables.proofs.name_filters.push_insts.Goals as goal

pub loop-inst-preserved : goal.loop-inst-preserved
loop-inst-preserved g c =
    given_seen (g.P.Pick.picked c.args.pick.now) c.args.names.now c.loop-inst.names c.push_picked.new.names c.args.insts.now c.loop-inst.inst-index c.inst-item.result c.loop-inst-test.true c.inst-item.is
    c.in_ok-push_picked.ensures c.loop-inst.invariant
