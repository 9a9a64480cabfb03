use Rattle.std.proofs.Common.{◌≡◌}
use Rattle.ms_where.specs.Variables.{function_at}
use Rattle.ms_where.proofs.VariableTables.{IsTableOf}
use Rattle.ms_where.proofs.variables.all_records.Given as goal

abbrev pub invariant-loop-mark : goal.invariant-loop-mark
invariant-loop-mark l = IsTableOf l.marked l.mark-index l.records.items × (l.function ≡ function_at l.marked l.mark-index)
