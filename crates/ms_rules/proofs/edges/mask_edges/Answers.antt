use Rattle.std.proofs.Common.{◌++◌, [], ◌∷◌, get_or, sym, ◌∙◌, arith}
use Rattle.ms_rules_builder.specs.Steps.{shadow_mask}
use Rattle.ms_rules.proofs.PhiEdges.{edges_more}
use Rattle.ms_rules.proofs.edges.mask_edges.Goals as goal

pub loop-place-preserved : goal.loop-place-preserved
loop-place-preserved c =
    let e = edges_more c.args.operands.now c.args.edges.now c.loop-place.place c.index-operands-place.result c.index-edges-place.result (omega arith) c.requires c.index-edges-place.is in
    c.in_ok-push_mask.ensures
    ∙ (λ j. c.loop-place.invariant j ++ (shadow_mask (get_or c.args.operands.now c.loop-place.place c.index-operands-place.result).shadow, c.index-edges-place.result.1) ∷ []) ∙ sym e
