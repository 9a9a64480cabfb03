use Rattle.std.proofs.Common.{sym, ◌∙◌}
use Rattle.ms_check_tables.proofs.Items.{none_left}
use Rattle.ms_check_tables.proofs.Mentioned.{sought_passed, sought_stopped}
use Rattle.ms_check_tables.proofs.uses.first_among.Goals as goal

pub returns-in-Some : goal.returns-in-Some
returns-in-Some g c =
    sym (sought_stopped (g.S.Search.sought c.args.search.now) g.T.Uses.mentions_of c.args.parts.now c.loop-part.part-index c.part-item.result c.in-Some.spelled c.loop-part-test.true c.part-item.is
    (sym c.first_in.ensures ∙ c.in-Some.is))
    ∙ c.loop-part.invariant

pub loop-part-preserved : goal.loop-part-preserved
loop-part-preserved g c =
    sought_passed (g.S.Search.sought c.args.search.now) g.T.Uses.mentions_of c.args.parts.now c.loop-part.part-index c.part-item.result _ c.loop-part-test.true c.part-item.is
    (sym c.first_in.ensures ∙ none_left c.first_in.result c.in_default.not-Some) c.loop-part.invariant
