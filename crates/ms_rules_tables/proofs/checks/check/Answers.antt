use Rattle.std.proofs.Common.{◌≤◌, map, drop, length, ap, ◌∙◌}
use Rattle.std.proofs.lemmas.List.{take_all}
use Rattle.std.proofs.lemmas.Result.{on_ok_weaker}
use Rattle.ms_runs.specs.Uses.{value_uses, string_uses}
use Rattle.ms_runs_uses.specs.Uses.{use_of, further_uses}
use Rattle.ms_pass_tasks.specs.CheckTasks.{check_tasks}
use Rattle.ms_rules_builder.specs.Made.{with_tasks}
use Rattle.ms_rules_builder.specs.Steps.{tracked_of}
use Rattle.ms_rules_tables.proofs.Checking.{check_more, all_checked}
use Rattle.ms_rules_tables.proofs.checks.check.Goals as goal

pub loop-used-preserved : goal.loop-used-preserved
loop-used-preserved c =
    check_more c.args.site (map tracked_of c.args.operands.now) c.args.builder.now c.loop-used.builder c.check_use.new.builder c.checked_uses-used-items.result.now c.loop-used.used-index _ c.loop-used-test.true c.loop-used.invariant
    c.in_ok-check_use.ensures

pub returns : goal.returns
returns c = λ func calls.
    let ts = map tracked_of c.args.operands.now in
    let us = c.checked_uses-used-items.result.now in
    let printed = c.printed_args-printed.result.now in
    let done = c.loop-used.invariant ∙ ap (λ l. with_tasks c.args.builder.now (check_tasks c.args.site ts (map use_of l))) (take_all c.loop-used.used-index us c.loop-used-test.false) in
    on_ok_weaker c.check_strings.result
    (all_checked c.args.site ts func c.args.main c.args.external c.args.op.now (map use_of us) (value_uses 1 (drop 1 printed)) (string_uses 1 (drop 1 printed)) (further_uses c.args.external c.args.op.now) c.args.builder.now
    c.loop-used.builder c.check_values.new.builder c.check_strings.new.builder calls c.checked_uses-used-items.ensures c.printed_args-printed.ensures done c.in_ok-check_values.ensures) c.check_strings.ensures
