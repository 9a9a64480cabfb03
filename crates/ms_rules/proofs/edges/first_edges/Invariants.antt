use Rattle.std.proofs.Common.{◌≡◌, take}
use Rattle.ms_rules.specs.Edges.{origins, with_first}
use Rattle.ms_rules.proofs.edges.first_edges.Given as goal

abbrev pub invariant-loop-edge : goal.invariant-loop-edge
invariant-loop-edge l = l.made.items ≡ with_first (origins l.operands) l.labels (take l.edge-index l.edges)
