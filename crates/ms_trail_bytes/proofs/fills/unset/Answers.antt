use Rattle.std.proofs.Common.{arith}
use Rattle.ms_runs.specs.Origins.{poison}
use Rattle.ms_trail_bytes.proofs.Filling.{made_told, none_made, good_poison}
use Rattle.ms_trail_bytes.proofs.fills.unset.Goals as goal
use Rattle.std.proofs.lemmas.Result.{on_ok_weaker}

pub returns-then-from-to-clause-unset : goal.returns-then-from-to-clause-unset
returns-then-from-to-clause-unset c = λ beside meant moves shows whole is.
    let a = c.args in
    let after = poison a.addr a.from a.to 0 meant in
    let there = c.poison.ensures.poisoned beside meant shows in
    on_ok_weaker c.tell_unset.result (λ h. (there, made_told c.tell_unset.new.log moves a.stamp.event a.stamp.site after a.addr a.from a.to a.root c.if-from-to.true h)) (c.tell_unset.ensures.told beside after moves there (good_poison a.addr a.from a.to meant whole) is)

pub returns-else-from-to-clause-unset : goal.returns-else-from-to-clause-unset
returns-else-from-to-clause-unset c = λ beside meant moves shows whole is.
    let a = c.args in (
      c.poison.ensures.poisoned beside meant shows,
      none_made a.log.now moves a.stamp.event a.stamp.site (poison a.addr a.from a.to 0 meant) a.addr a.from a.to a.root (λ lt. absurd (omega (arith, lt, c.if-from-to.false))) is,
    )
