use Rattle.std.proofs.Common.{◌<◌, take, length, get_or, arith}
use Rattle.std.proofs.lemmas.List.{take_more}
use Rattle.ms_elide.proofs.RemovalSteps.{removed_old, removed_new}
use Rattle.ms_elide.proofs.removal.remove.Goals as goal
use Rattle.ms_elide.proofs.removal.remove.Goals.{then-members-item+in_ok-push, else-members-item}

pub loop-item-preserved : goal.loop-item-preserved
loop-item-preserved c =
    let items = c.args.items.now in
    let k = c.loop-item.item-index in
    let item = get_or items k 0 in
    let members = c.loop-item.members in
    let removed = c.loop-item.removed.items in
    let inside : item < length members = omega (arith, c.requires k 0 c.loop-item-test.true) in
    rw (take_more items k 0 c.loop-item-test.true)
    (elim c.if-members-item.branch [
      | then-members-item+in_ok-push w ↦
          rw (w.members-is, w.removed-is, w.in_ok-push.ensures.items)
          (removed_new (take k items) item c.args.members.now c.args.removed.now.items members removed inside w.if-members-item.true c.loop-item.invariant)
      | else-members-item w ↦
          rw (w.members-is, w.removed-is)
          (removed_old (take k items) item c.args.members.now c.args.removed.now.items members removed w.if-members-item.false c.loop-item.invariant)
    ])
