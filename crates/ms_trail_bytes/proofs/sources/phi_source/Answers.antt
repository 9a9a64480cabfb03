use Rattle.std.proofs.Common.{◌≡◌, ap, subst, ◌∙◌, IfOk, arith}
use Rattle.ms_ir.specs.Instructions.{operands, count_undefs}
use Rattle.ms_trail_moves.specs.Edges.{count_edges, edge_source}
use Rattle.ms_trail_bytes.proofs.PhiEdges.{same_edges, counted_as}
use Rattle.ms_trail_bytes.proofs.sources.phi_source.Goals as goal

pub edge_source-requires : goal.edge_source-requires
edge_source-requires c =
    let k = c.in-Phi in
    let same : count_edges c.as_slice.result.now ≡ count_undefs (operands c.args.op.now) = ap count_edges c.as_slice.ensures ∙ counted_as c.args.op.now k.ty k.edges k.is in
    omega (arith, same, c.requires)

pub returns-in-Phi : goal.returns-in-Phi
returns-in-Phi c = λ t es is.
    let k = c.in-Phi in
    subst (λ xs. IfOk c.edge_source.result (λ s. s ≡ edge_source c.args.frame t c.args.from.now xs c.args.before)) (c.as_slice.ensures ∙ same_edges c.args.op.now k.ty t k.edges es k.is is) (c.edge_source.ensures t)
