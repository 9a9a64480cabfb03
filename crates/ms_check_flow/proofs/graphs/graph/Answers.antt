use Rattle.ms_check_flow.proofs.Rows.{graph_is}
use Rattle.ms_check_flow.proofs.graphs.graph.Goals as goal

pub returns : goal.returns
returns c =
    graph_is c.args.func.now c.args.numbers.now c.in_ok-next.next c.in_ok-defs.defs c.requires c.in_ok-next.ensures c.in_ok-defs.ensures
