use Rattle.std.proofs.Common.{◌≡◌, ◌++◌, take}
use Rattle.std.specs.Prelude.{flat_map}
use Rattle.ms_check_flow.specs.Noted.{edge_here}
use Rattle.ms_check_flow.proofs.inst_uses.UseSite.note_edges.Given as goal

abbrev pub invariant-loop-edge : goal.invariant-loop-edge
invariant-loop-edge l = l.noted.items ≡ l.fn.noted.items ++ flat_map (edge_here l.self) (take l.edge-index l.edges)
