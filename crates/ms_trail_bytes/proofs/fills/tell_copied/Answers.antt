use Rattle.std.proofs.Common.{◌≡◌, sym, ◌∙◌, arith, true≢false}
use Rattle.ms_trail_bytes.proofs.fills.tell_copied.Goals as goal

pub tell_bytes-requires-clause-live : goal.tell_bytes-requires-clause-live
tell_bytes-requires-clause-live c = sym c.covers-good.ensures.table ∙ c.if-good.true

pub tell_bytes-requires-clause-low : goal.tell_bytes-requires-clause-low
tell_bytes-requires-clause-low c = λ a e. let same : c.args.from ≡ a = cc in omega (arith, same, c.requires.low)

pub returns-then-good-clause-told : goal.returns-then-good-clause-told
returns-then-good-clause-told c = λ beside meant moves shows whole good is. c.tell_bytes.ensures.told beside meant moves shows whole is

pub returns-else-good-clause-told : goal.returns-else-good-clause-told
returns-else-good-clause-told c = λ beside meant moves shows whole good is. absurd (true≢false (sym good ∙ sym (c.covers-good.ensures.good beside meant shows) ∙ c.if-good.false))
