use Rattle.ms_text_grammar.specs.LayoutInsts.{edge_tokens}
use Rattle.ms_write_values.proofs.Loops.{commas_step}
use Rattle.ms_write.proofs.operations.write_more_edges.Goals as goal

pub loop-edge-preserved : goal.loop-edge-preserved
loop-edge-preserved c =
    commas_step (edge_tokens c.args.ty.now) c.args.edges.now c.loop-edge.edge-index c.edge-item.result c.loop-edge.writer c.token.new.self c.write_edge.new.writer _
    c.loop-edge-test.true c.edge-item.is c.in_ok-token.ensures c.in_ok-write_edge.ensures c.loop-edge.invariant
