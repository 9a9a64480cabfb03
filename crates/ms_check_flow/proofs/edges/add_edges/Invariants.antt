use Rattle.std.proofs.Common.{take}
use Rattle.ms_check_flow.specs.Arriving.{Joined, edges_to}
use Rattle.ms_check_flow.proofs.edges.add_edges.Given as goal

abbrev pub invariant-loop-to : goal.invariant-loop-to
invariant-loop-to l = Joined (edges_to l.from (take l.to-index l.targets)) l.fn.arrivals l.arrivals
