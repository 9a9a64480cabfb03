use Rattle.std.proofs.Common.{◌++◌, length, map, ap, sym, ◌∙◌}
use Rattle.ms_pass_tasks.specs.Environments.{unknown}
use Rattle.ms_rules_builder.specs.Steps.{tracked_of}
use Rattle.ms_rules_builder.specs.Joins.{masks_from}
use Rattle.ms_rules_builder.proofs.Joins.{clean_passed, mask_added}
use Rattle.ms_rules_builder.proofs.unions.push_masks.Goals as goal
use Rattle.ms_rules_builder.proofs.unions.push_masks.Goals.{then-not-is_clean+in_ok-push_mask, else-not-is_clean}

pub loop-place-preserved : goal.loop-place-preserved
loop-place-preserved c =
    let ops = c.args.operands.now in let how = c.args.widening in let x = c.index-operands-place in
    let ts = map tracked_of ops in
    let all = c.args.steps.now.items ++ masks_from how 0 ts in
    let after = c.if-not-is_clean in
    elim after.branch [
      | then-not-is_clean+in_ok-push_mask w ↦ mask_added ops how c.loop-place.place x.result c.loop-place-test.true x.is c.loop-place.steps.items all after.steps.items c.loop-place.masks (length (unknown ts)) after.masks
          w.width.result (sym c.is_clean.ensures ∙ w.if-not-is_clean.true) w.width.ensures (ap (λ s. s.items) w.steps-is ∙ w.in_ok-push_mask.ensures) w.masks-is c.loop-place.invariant
      | else-not-is_clean w ↦ clean_passed ops how c.loop-place.place x.result c.loop-place-test.true x.is c.loop-place.steps.items all after.steps.items c.loop-place.masks (length (unknown ts)) after.masks
          (sym c.is_clean.ensures ∙ w.if-not-is_clean.false) (ap (λ s. s.items) w.steps-is) w.masks-is c.loop-place.invariant
    ]
