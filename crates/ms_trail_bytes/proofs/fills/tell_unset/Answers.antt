use Rattle.std.proofs.Common.{sym, ◌∙◌}
use Rattle.ms_trail_bytes.proofs.Filling.{good_told, bad_told}
use Rattle.ms_trail_bytes.proofs.fills.tell_unset.Goals as goal
use Rattle.std.proofs.lemmas.Result.{on_ok_weaker}

pub tell_bytes-requires-clause-live : goal.tell_bytes-requires-clause-live
tell_bytes-requires-clause-live c = sym c.covers-good.ensures.table ∙ c.if-good.true

pub tell_bytes-requires-clause-low : goal.tell_bytes-requires-clause-low
tell_bytes-requires-clause-low c = λ a e. absurd (cc)

pub returns-then-good-clause-told : goal.returns-then-good-clause-told
returns-then-good-clause-told c = λ beside meant moves shows whole is.
    on_ok_weaker c.tell_bytes.result
    (good_told c.tell_bytes.new.log moves c.args.stamp.event c.args.stamp.site meant c.args.first c.args.n c.args.root (sym (c.covers-good.ensures.good beside meant shows) ∙ c.if-good.true)) (c.tell_bytes.ensures.told beside meant moves shows whole is)

pub returns-else-good-clause-told : goal.returns-else-good-clause-told
returns-else-good-clause-told c = λ beside meant moves shows whole is.
    bad_told c.args.log.now moves c.args.stamp.event c.args.stamp.site meant c.args.first c.args.n c.args.root (sym (c.covers-good.ensures.good beside meant shows) ∙ c.if-good.false) is
