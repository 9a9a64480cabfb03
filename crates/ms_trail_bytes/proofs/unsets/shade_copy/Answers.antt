use Rattle.std.proofs.Common.{true≢false, sym, ◌∙◌, arith}
use Rattle.ms_runs.specs.Origins.{copy_planes}
use Rattle.ms_trail_bytes.proofs.Unsetting.{copied_as, none_copied, positive}
use Rattle.ms_trail_bytes.proofs.unsets.shade_copy.Goals as goal
use Rattle.std.proofs.lemmas.Result.{on_ok_weaker}

pub returns-then-n-eq0-clause-copied : goal.returns-then-n-eq0-clause-copied
returns-then-n-eq0-clause-copied c = λ beside meant moves shows whole good source is.
    let a = c.args in (
      copied_as beside meant a.to a.from a.n c.copy_planes.new.self (c.in_ok-copy_planes.ensures.copied beside meant shows),
      none_copied a.log.now moves a.stamp.event a.stamp.site (copy_planes a.to a.from a.n meant).shadow a.to a.from a.n c.if-n-eq0.true is,
    )

pub law_range-requires-clause-live : goal.law_range-requires-clause-live
law_range-requires-clause-live c = sym c.covers-good.ensures.table ∙ c.if-good.true

pub law_range-requires-clause-some : goal.law_range-requires-clause-some
law_range-requires-clause-some c = positive c.args.n c.if-n-eq0.false

pub shade_copied-requires-clause-low : goal.shade_copied-requires-clause-low
shade_copied-requires-clause-low c = omega (arith, c.law_range.ensures.high)

pub shade_copied-requires-clause-few : goal.shade_copied-requires-clause-few
shade_copied-requires-clause-few c = omega (arith, c.requires.few, c.law_range.ensures.few)

pub returns-then-good-clause-copied : goal.returns-then-good-clause-copied
returns-then-good-clause-copied c = λ beside meant moves shows whole good source is.
    let a = c.args in
    on_ok_weaker c.shade_copied.result (λ h. (copied_as beside meant a.to a.from a.n c.shade_copied.new.world h.0, h.1)) (c.shade_copied.ensures.copied beside meant moves shows whole good is)

pub returns-then-good-clause-count : goal.returns-then-good-clause-count
returns-then-good-clause-count c = omega (arith, c.shade_copied.ensures.count, c.law_range.ensures.few)

pub returns-else-good-clause-copied : goal.returns-else-good-clause-copied
returns-else-good-clause-copied c = λ beside meant moves shows whole good source is. absurd (true≢false (sym source ∙ sym (c.covers-good.ensures.good beside meant shows) ∙ c.if-good.false))
