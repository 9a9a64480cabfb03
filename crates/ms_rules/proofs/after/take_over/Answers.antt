use Rattle.std.proofs.Common.{◌≡◌, subst}
use Rattle.std.specs.Prelude.{OnOk}
use Rattle.ms_pass_tasks.specs.SlotTasks.{result_mask_slot, result_origin_slot}
use Rattle.ms_rules_builder.specs.Made.{with_tasks}
use Rattle.ms_rules.proofs.Taking.{take_numbered}
use Rattle.ms_rules.proofs.after.take_over.Goals as goal

pub returns-in-Some : goal.returns-in-Some
returns-in-Some c =
    subst (λ ts. OnOk c.fetch_result.result (c.fetch_result.new.builder ≡ with_tasks c.args.builder.now ts))
    (take_numbered c.args.scope.now result_mask_slot result_origin_slot c.args.name.now c.args.ty.now c.in-Some.value c.in-Some.ensures) c.fetch_result.ensures
