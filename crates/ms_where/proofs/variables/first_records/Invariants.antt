use Rattle.std.proofs.Common.{◌≡◌}
use Rattle.ms_where.specs.NotedRecords.{HasFirst}
use Rattle.ms_where.specs.Variables.{function_at}
use Rattle.ms_where.proofs.variables.first_records.Given as goal

abbrev pub invariant-loop-place : goal.invariant-loop-place
invariant-loop-place l = HasFirst l.marked l.place l.records × (l.function ≡ function_at l.marked l.place)
