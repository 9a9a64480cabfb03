use Rattle.std.proofs.Common.{◌≡◌, subst}
use Rattle.std.specs.Prelude.{OnOk}
use Rattle.ms_pass_tasks.specs.SlotTasks.{param_mask, param_origin}
use Rattle.ms_rules_builder.specs.Made.{with_tasks}
use Rattle.ms_rules.proofs.Taking.{take_numbered}
use Rattle.ms_rules.proofs.entries.push_parameter.Goals as goal

pub returns-in-Some : goal.returns-in-Some
returns-in-Some c =
    subst (λ ts. OnOk c.fetch_parameter.result (c.fetch_parameter.new.builder ≡ with_tasks c.args.builder.now ts))
    (take_numbered c.args.scope.now (param_mask c.args.place) (param_origin c.args.place) c.args.param.now.1 c.args.param.now.0 c.in-Some.value c.in-Some.ensures) c.fetch_parameter.ensures
