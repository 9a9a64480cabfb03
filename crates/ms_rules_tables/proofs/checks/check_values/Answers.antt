use Rattle.std.proofs.Common.{map, drop}
use Rattle.ms_runs.specs.Uses.{value_uses}
use Rattle.ms_pass_tasks.specs.CheckTasks.{check_tasks}
use Rattle.ms_rules_builder.specs.Made.{with_tasks}
use Rattle.ms_rules_builder.specs.Steps.{tracked_of}
use Rattle.ms_rules_tables.proofs.Checking.{value_more}
use Rattle.ms_rules_tables.proofs.checks.check_values.Goals as goal

pub loop-place-preserved : goal.loop-place-preserved
loop-place-preserved c =
    let ts = map tracked_of c.args.inst.now.operands.now in
    let all = with_tasks c.args.builder.now (check_tasks c.args.inst.now.site ts (value_uses 1 (drop 1 c.args.args.now))) in
    value_more c.args.inst.now.site ts c.args.args.now c.loop-place.place c.loop-place.builder c.check_use.new.builder all c.loop-place-test.true c.printed_word.result c.printed_word.ensures
    c.in_ok-check_use.ensures c.loop-place.invariant
