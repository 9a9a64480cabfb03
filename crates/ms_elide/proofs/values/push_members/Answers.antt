use Rattle.std.specs.Prelude.{filter}
use Rattle.std.proofs.lemmas.List.Elements.{filter-append}
use Rattle.ms_elide.specs.Needed.{is_member}
use Rattle.ms_elide.proofs.Steps.{one_result}
use Rattle.ms_elide.proofs.values.push_members.Goals as goal

pub loop-inst-preserved : goal.loop-inst-preserved
loop-inst-preserved c =
    let test = is_member c.args.locals.now c.args.members.now in
    one_result (λ i. i.result) (filter test) (filter-append test) c.args.insts.now c.loop-inst.inst-index c.inst-item.result c.args.names.now c.loop-inst.names c.push_member.new.names
    c.loop-inst-test.true c.inst-item.is c.in_ok-push_member.ensures c.loop-inst.invariant
