use Rattle.std.proofs.Common.{arith}
use Rattle.ms_trail_bytes.proofs.Filling.{made_told, none_made}
use Rattle.ms_trail_bytes.proofs.unsets.tell_made.Goals as goal
use Rattle.std.proofs.lemmas.Result.{on_ok_weaker}

pub tell_good-requires-clause-some : goal.tell_good-requires-clause-some
tell_good-requires-clause-some c = omega (arith, c.if-from-to.true)

pub returns-then-from-to-clause-told : goal.returns-then-from-to-clause-told
returns-then-from-to-clause-told c = λ beside meant moves shows whole is.
    let a = c.args in
    on_ok_weaker c.tell_good.result (made_told c.tell_good.new.log moves a.stamp.event a.stamp.site meant a.addr a.from a.to a.root c.if-from-to.true) (c.tell_good.ensures.told beside meant moves shows whole is)

pub returns-else-from-to-clause-told : goal.returns-else-from-to-clause-told
returns-else-from-to-clause-told c = λ beside meant moves shows whole is.
    let a = c.args in
    none_made a.log.now moves a.stamp.event a.stamp.site meant a.addr a.from a.to a.root (λ lt. absurd (omega (arith, lt, c.if-from-to.false))) is
