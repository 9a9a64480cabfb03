use Rattle.std.proofs.Common.{◌≡◌, map, drop}
use Rattle.ms_runs.specs.Uses.{string_uses}
use Rattle.ms_pass_tasks.specs.CheckTasks.{check_tasks}
use Rattle.ms_rules_builder.specs.Made.{with_tasks}
use Rattle.ms_rules_builder.specs.Steps.{tracked_of}
use Rattle.ms_rules_tables.proofs.checks.check_strings.Given as goal

abbrev pub invariant-loop-place : goal.invariant-loop-place
invariant-loop-place l =
    let ts = map tracked_of l.inst.operands.now in
    with_tasks l.builder (check_tasks l.inst.site ts (string_uses l.place (drop l.place l.args))) ≡ with_tasks l.initial.builder (check_tasks l.inst.site ts (string_uses 1 (drop 1 l.args)))
