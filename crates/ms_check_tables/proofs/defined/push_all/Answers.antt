use Rattle.ms_check_tables.proofs.Given.{given_seen}
use Rattle.ms_check_tables.proofs.defined.push_all.Goals as goal

pub loop-part-preserved : goal.loop-part-preserved
loop-part-preserved g c =
    given_seen g.T.Named.name_of c.args.names.now c.loop-part.names c.push_given.new.names c.args.parts.now c.loop-part.part-index c.part-item.result c.loop-part-test.true c.part-item.is
    c.in_ok-push_given.ensures c.loop-part.invariant
