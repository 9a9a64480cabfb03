use Rattle.std.proofs.Common.{◌++◌, [], ◌∷◌, sym, ◌∙◌, arith}
use Rattle.ms_rules.specs.Edges.{origins, first_operand}
use Rattle.ms_rules.proofs.PhiEdges.{firsts_more}
use Rattle.ms_rules.proofs.edges.first_edges.Goals as goal

pub loop-edge-preserved : goal.loop-edge-preserved
loop-edge-preserved c =
    let os = origins c.args.operands.now in
    let labels = c.args.labels.now in
    let es = c.args.edges.now in
    let e = c.edge-item.result in
    c.in_ok-push_first.ensures ∙ (λ j. c.loop-edge.invariant j ++ (first_operand os labels e.1, e.1) ∷ [])
    ∙ sym (firsts_more os labels es c.loop-edge.edge-index e (omega arith) c.edge-item.is)
