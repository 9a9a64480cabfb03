use Rattle.std.proofs.Common.{◌≡◌, map, take}
use Rattle.ms_check_valid.specs.FlowGraph.{name_place}
use Rattle.ms_check_flow.proofs.phis.put_labels.Given as goal

abbrev pub invariant-loop-edge : goal.invariant-loop-edge
invariant-loop-edge l = l.labels.items ≡ map (λ e. name_place l.blocks e.1) (take l.edge-index l.edges)
