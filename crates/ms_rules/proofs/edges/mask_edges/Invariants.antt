use Rattle.std.proofs.Common.{◌≡◌, take}
use Rattle.ms_rules.specs.Edges.{masks, with_operands}
use Rattle.ms_rules.proofs.edges.mask_edges.Given as goal

abbrev pub invariant-loop-place : goal.invariant-loop-place
invariant-loop-place l = l.made.items ≡ with_operands (masks l.operands) (take l.place l.edges)
