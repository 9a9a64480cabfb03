use Rattle.std.proofs.Common.{◌≡◌, map, take}
use Rattle.ms_pass_tasks.specs.CheckTasks.{check_tasks}
use Rattle.ms_rules_builder.specs.Made.{with_tasks}
use Rattle.ms_rules_builder.specs.Steps.{tracked_of}
use Rattle.ms_runs_uses.specs.Uses.{use_of}
use Rattle.ms_rules_tables.proofs.checks.check.Given as goal

abbrev pub invariant-loop-used : goal.invariant-loop-used
invariant-loop-used l = l.builder ≡ with_tasks l.initial.builder (check_tasks l.site (map tracked_of l.operands) (map use_of (take l.used-index l.used-items)))
