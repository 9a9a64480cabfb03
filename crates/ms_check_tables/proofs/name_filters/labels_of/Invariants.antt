use Rattle.std.proofs.Common.{◌≡◌, map, take}
use Rattle.ms_check_tables.proofs.name_filters.labels_of.Given as goal

abbrev pub invariant-loop-edge : goal.invariant-loop-edge
invariant-loop-edge l = l.names ≡ map (λ e. e.1) (take l.edge-index l.edges)
