use Rattle.std.proofs.Common.{◌≡◌, map, drop}
use Rattle.ms_pass_tasks.specs.CheckTasks.{all_zero}
use Rattle.ms_rules_builder.specs.Steps.{tracked_of}
use Rattle.ms_rules_tables.proofs.blind.are_clean.Given as goal

abbrev pub invariant-loop-operand : goal.invariant-loop-operand
invariant-loop-operand l = all_zero (map tracked_of (drop l.operand-index l.operands)) ≡ all_zero (map tracked_of l.operands)
