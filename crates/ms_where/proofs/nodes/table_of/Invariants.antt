use Rattle.ms_where.proofs.NodeTables.{IsTableFrom}
use Rattle.ms_where.proofs.nodes.table_of.Given as goal

abbrev pub invariant-loop-place : goal.invariant-loop-place
invariant-loop-place l = IsTableFrom l.marked l.place l.nodes.items
