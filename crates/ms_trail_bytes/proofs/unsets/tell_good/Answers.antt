use Rattle.std.proofs.Common.{sym, ◌∙◌, arith}
use Rattle.ms_trail_bytes.proofs.Filling.{good_told, bad_told}
use Rattle.ms_trail_bytes.proofs.unsets.tell_good.Goals as goal
use Rattle.std.proofs.lemmas.Result.{on_ok_weaker}

pub law_range-requires-clause-live : goal.law_range-requires-clause-live
law_range-requires-clause-live c = sym c.covers-good.ensures.table ∙ c.if-good.true

pub tell_bytes-requires-clause-live : goal.tell_bytes-requires-clause-live
tell_bytes-requires-clause-live c = sym c.covers-good.ensures.table ∙ c.if-good.true

pub tell_bytes-requires-clause-low : goal.tell_bytes-requires-clause-low
tell_bytes-requires-clause-low c = λ a e. absurd (cc)

pub tell_bytes-requires-clause-few : goal.tell_bytes-requires-clause-few
tell_bytes-requires-clause-few c = omega (arith, c.requires.few, c.law_range.ensures.few)

pub returns-then-good-clause-told : goal.returns-then-good-clause-told
returns-then-good-clause-told c = λ beside meant moves shows whole is.
    on_ok_weaker c.tell_bytes.result
    (good_told c.tell_bytes.new.log moves c.args.stamp.event c.args.stamp.site meant c.args.first c.args.n c.args.root (sym (c.covers-good.ensures.good beside meant shows) ∙ c.if-good.true)) (c.tell_bytes.ensures.told beside meant moves shows whole is)

pub returns-then-good-clause-count : goal.returns-then-good-clause-count
returns-then-good-clause-count c = omega (arith, c.tell_bytes.ensures.count, c.law_range.ensures.few)

pub returns-else-good-clause-told : goal.returns-else-good-clause-told
returns-else-good-clause-told c = λ beside meant moves shows whole is.
    bad_told c.args.log.now moves c.args.stamp.event c.args.stamp.site meant c.args.first c.args.n c.args.root (sym (c.covers-good.ensures.good beside meant shows) ∙ c.if-good.false) is
