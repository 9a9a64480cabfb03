use Rattle.std.proofs.Common.{sym, ◌∙◌, arith, true≢false}
use Rattle.ms_trail_bytes.proofs.Refilled.{set_clean, set_marked, not_clean, some_bytes}
use Rattle.ms_trail_bytes.proofs.Unsetting.{positive}
use Rattle.ms_trail_bytes.proofs.sets.shade_set.Goals as goal
use Rattle.std.proofs.lemmas.Result.{on_ok_weaker}

pub returns-then-clean-clause-set : goal.returns-then-clean-clause-set
returns-then-clean-clause-set c = λ beside meant moves shows whole good is.
    let a = c.args in
    set_clean meant a.addr a.n a.mask good c.requires.byte beside c.unpoison.new.self a.stamp.event a.stamp.site a.from.now a.log.now moves (sym c.is_clean-clean.ensures ∙ c.if-clean.true) (c.unpoison.ensures.cleaned beside meant shows) is

pub shade_filled-requires-clause-live : goal.shade_filled-requires-clause-live
shade_filled-requires-clause-live c = sym c.covers-good.ensures.table ∙ c.if-good.true

pub shade_filled-requires-clause-some : goal.shade_filled-requires-clause-some
shade_filled-requires-clause-some c = λ z. true≢false (sym (not_clean c.args.mask c.args.n (sym c.is_clean-clean.ensures ∙ c.if-clean.false) z))

pub law_range-requires-clause-live : goal.law_range-requires-clause-live
law_range-requires-clause-live c = sym c.covers-good.ensures.table ∙ c.if-good.true

pub law_range-requires-clause-some : goal.law_range-requires-clause-some
law_range-requires-clause-some c = positive c.args.n (λ z. true≢false (sym (some_bytes c.args.mask c.args.n (sym c.is_clean-clean.ensures ∙ c.if-clean.false) z)))

pub shade_filled-requires-clause-few : goal.shade_filled-requires-clause-few
shade_filled-requires-clause-few c = omega (arith, c.requires.few, c.law_range.ensures.few)

pub returns-then-good-clause-count : goal.returns-then-good-clause-count
returns-then-good-clause-count c = omega (arith, c.shade_filled.ensures.count, c.law_range.ensures.few)

pub returns-then-good-clause-set : goal.returns-then-good-clause-set
returns-then-good-clause-set c = λ beside meant moves shows whole good is.
    let a = c.args in
    on_ok_weaker c.shade_filled.result
    (set_marked meant a.addr a.n a.mask good c.requires.byte beside c.shade_filled.new.world a.stamp.event a.stamp.site a.from.now c.shade_filled.new.log moves (sym c.is_clean-clean.ensures ∙ c.if-clean.false))
    (c.shade_filled.ensures.filled beside meant moves shows whole is)

pub returns-else-good-clause-set : goal.returns-else-good-clause-set
returns-else-good-clause-set c = λ beside meant moves shows whole good is.
    absurd (true≢false (sym good ∙ sym (c.covers-good.ensures.good beside meant shows) ∙ c.if-good.false))
