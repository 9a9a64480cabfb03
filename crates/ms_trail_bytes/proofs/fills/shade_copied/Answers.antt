use Rattle.std.proofs.Common.{◌≡◌, sym, ◌∙◌, arith, true≢false}
use Rattle.ms_runs.specs.Origins.{copy_planes}
use Rattle.ms_trail_bytes.proofs.Filling.{copied_good, good_copied}
use Rattle.ms_trail_bytes.proofs.fills.shade_copied.Goals as goal
use Rattle.std.proofs.lemmas.Result.{on_ok_weaker}

pub tell_bytes-requires-clause-live : goal.tell_bytes-requires-clause-live
tell_bytes-requires-clause-live c = sym c.covers-good.ensures.table ∙ c.if-good.true

pub tell_bytes-requires-clause-low : goal.tell_bytes-requires-clause-low
tell_bytes-requires-clause-low c = λ a e. let same : c.args.from ≡ a = cc in omega (arith, same, c.requires.low)

pub returns-then-good-clause-copied : goal.returns-then-good-clause-copied
returns-then-good-clause-copied c = λ beside meant moves shows whole good is.
    let there = c.in_ok-copy_planes.ensures.copied beside meant shows in
    on_ok_weaker c.tell_bytes.result (λ h. (there, h)) (c.tell_bytes.ensures.told beside (copy_planes c.args.to c.args.from c.args.n meant) moves there (good_copied c.args.to c.args.from c.args.n meant whole) is)

pub returns-else-good-clause-copied : goal.returns-else-good-clause-copied
returns-else-good-clause-copied c = λ beside meant moves shows whole good is.
    let there = c.in_ok-copy_planes.ensures.copied beside meant shows in
    absurd (true≢false (sym (copied_good meant c.args.to c.args.from c.args.n good) ∙ sym (c.covers-good.ensures.good beside (copy_planes c.args.to c.args.from c.args.n meant) there) ∙ c.if-good.false))
