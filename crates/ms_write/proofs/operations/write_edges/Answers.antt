use Rattle.ms_text_grammar.specs.LayoutInsts.{edge_tokens}
use Rattle.ms_write_values.proofs.Loops.{commas_first}
use Rattle.ms_write.proofs.operations.write_edges.Goals as goal

pub returns-in_ok-write_more_edges-in-len1-up : goal.returns-in_ok-write_more_edges-in-len1-up
returns-in_ok-write_more_edges-in-len1-up c =
    commas_first (edge_tokens c.args.ty.now) c.args.edges.now c.first-item.result c.args.writer.now c.write_edge.new.writer c.write_more_edges.new.writer
    c.in-len1-up.len_at_least c.first-item.is c.in_ok-write_edge-in-len1-up.ensures c.in_ok-write_more_edges-in-len1-up.ensures
