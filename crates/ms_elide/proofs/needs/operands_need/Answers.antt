use Rattle.std.proofs.Common.{[], ◌∷◌, map, Some, ap, sym, ◌∙◌, append-nil}
use Rattle.ms_ir.specs.Instructions.{operands}
use Rattle.ms_check_tables.specs.FirstPlace.{first_place}
use Rattle.ms_elide.proofs.Steps.{needs_more, needs_never}
use Rattle.ms_elide.proofs.needs.operands_need.Goals as goal
use Rattle.ms_elide.proofs.needs.operands_need.Goals.{in-Nothing, in-Local+in_ok-push-in-Local}

pub returns-in-Never : goal.returns-in-Never
returns-in-Never c =
    sym (needs_never (first_place c.args.locals.now) (map (λ o. o.1) (operands c.args.op.now)) c.loop-place.place c.args.count c.loop-place.needs.items c.loop-place-test.true c.loop-place.invariant (sym c.in-Never.ensures))

pub loop-place-preserved : goal.loop-place-preserved
loop-place-preserved c =
    let place = first_place c.args.locals.now in
    let ops = map (λ o. o.1) (operands c.args.op.now) in
    let items = c.loop-place.needs.items in
    elim c.match-need_at.branch [
      | in-Nothing w ↦ rw w.needs-is (needs_more place ops c.loop-place.place (Some items) (Some []) c.loop-place.invariant (sym w.in-Nothing.ensures) ∙ ap Some (append-nil items))
      | in-Local+in_ok-push-in-Local w ↦ rw (w.needs-is, w.in_ok-push-in-Local.ensures.items)
          (needs_more place ops c.loop-place.place (Some items) (Some (w.in-Local.local ∷ [])) c.loop-place.invariant (sym w.in-Local.ensures))
    ]
