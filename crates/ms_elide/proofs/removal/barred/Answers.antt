use Rattle.std.proofs.Common.{arith}
use Rattle.ms_elide.proofs.RemovalSteps.{barred_old, barred_new}
use Rattle.ms_elide.proofs.removal.barred.Goals as goal
use Rattle.ms_elide.proofs.removal.barred.Goals.{then-not-able+in_ok-push, else-not-able}

pub loop-item-preserved : goal.loop-item-preserved
loop-item-preserved c =
    let can = c.args.able.now in
    let items = c.loop-item.barred.items in
    let item = c.loop-item.item in
    elim c.if-not-able.branch [
      | then-not-able+in_ok-push w ↦ rw (w.barred-is, w.in_ok-push.ensures.items) (barred_new can items item w.if-not-able.true c.loop-item.invariant)
      | else-not-able w ↦ rw w.barred-is (barred_old can items item w.if-not-able.false c.loop-item.invariant)
    ]

pub returns : goal.returns
returns c = λ k.
    let h = c.loop-item.invariant k in (
      λ p. let q = h.0 p in let below = q.0 in (omega arith, q.1),
      λ p. let below = p.0 in h.1 (omega arith, p.1),
    )
