use Rattle.std.proofs.Common.{map, drop, ◌∙◌}
use Rattle.ms_runs.specs.Uses.{string_uses}
use Rattle.ms_pass_tasks.specs.CheckTasks.{check_tasks}
use Rattle.ms_rules_builder.specs.Made.{with_tasks}
use Rattle.ms_rules_builder.specs.Steps.{tracked_of}
use Rattle.ms_rules_tables.proofs.Checking.{string_more, string_none}
use Rattle.ms_rules_tables.proofs.checks.check_strings.Goals.{in-Some+in_ok-check_use, in_default}
use Rattle.ms_rules_tables.proofs.checks.check_strings.Goals as goal

pub loop-place-preserved : goal.loop-place-preserved
loop-place-preserved c =
    let site = c.args.inst.now.site in
    let ts = map tracked_of c.args.inst.now.operands.now in
    let args = c.args.args.now in
    let all = with_tasks c.args.builder.now (check_tasks site ts (string_uses 1 (drop 1 args))) in
    elim c.match-printed_string.branch [
      | in-Some+in_ok-check_use w ↦
          string_more site ts args c.loop-place.place c.loop-place.builder c.match-printed_string.builder all c.loop-place-test.true c.index-args-place.result c.printed_string.result w.in-Some.string
          c.printed_string.ensures w.in-Some.is (w.builder-is ∙ w.in_ok-check_use.ensures) c.loop-place.invariant
      | in_default w ↦
          string_none site ts args c.loop-place.place c.loop-place.builder c.match-printed_string.builder all c.loop-place-test.true c.index-args-place.result c.printed_string.result c.printed_string.ensures
          w.in_default.not-Some w.builder-is c.loop-place.invariant
    ]
