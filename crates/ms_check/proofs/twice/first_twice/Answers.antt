use Rattle.std.proofs.Common.{sym, ◌∙◌, ap}
use Rattle.std.specs.Option.{option_copied}
use Rattle.ms_check_tables.proofs.Items.{none_left}
use Rattle.ms_check.proofs.Given.{given_passed}
use Rattle.ms_check_tables.proofs.Given.{given_seen}
use Rattle.ms_check.proofs.twice.first_twice.Goals as goal

pub loop-part-preserved : goal.loop-part-preserved
loop-part-preserved g c =
    let f = g.T.Named.name_of in
    record {
      first = given_passed f c.loop-part.seen c.append_given.new.seen c.args.parts.now c.loop-part.part-index c.part-item.result _ c.loop-part-test.true c.part-item.is c.in_ok-name.ensures.seen
          (sym c.in_ok-name.ensures.first ∙ ap option_copied (none_left c.in_ok-name.field-0 c.in_default.not-Some)) c.loop-part.invariant.first;
      seen = given_seen f c.args.seen.now c.loop-part.seen c.append_given.new.seen c.args.parts.now c.loop-part.part-index c.part-item.result c.loop-part-test.true c.part-item.is c.in_ok-name.ensures.seen c.loop-part.invariant.seen;
    }
