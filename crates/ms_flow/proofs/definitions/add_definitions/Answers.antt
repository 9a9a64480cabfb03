use Rattle.std.proofs.lemmas.List.{take_all}
use Rattle.ms_flow.proofs.Members.{pairs_more}
use Rattle.ms_flow.proofs.definitions.add_definitions.Goals as goal

pub loop-value-preserved : goal.loop-value-preserved
loop-value-preserved c =
    rw c.in_ok-push.ensures.items
    (pairs_more c.args.pairs.now.items c.loop-value.pairs.items c.args.block c.args.values.now c.loop-value.value-index c.loop-value-test.true c.loop-value.invariant)

pub returns : goal.returns
returns c = rw (take_all c.loop-value.value-index c.args.values.now c.loop-value-test.false) at c.loop-value.invariant
