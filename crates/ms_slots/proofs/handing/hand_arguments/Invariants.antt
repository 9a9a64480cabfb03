use Rattle.std.proofs.Common.{◌≡◌, map, drop}
use Rattle.ms_pass_tasks.specs.SlotTasks as slots
use Rattle.ms_rules_builder.specs.Made.{with_tasks}
use Rattle.ms_rules_builder.specs.Steps.{tracked_of}
use Rattle.ms_slots.proofs.handing.hand_arguments.Given as goal

abbrev pub invariant-loop-place : goal.invariant-loop-place
invariant-loop-place l =
    with_tasks l.builder (slots.give_arguments l.place (map tracked_of (drop l.place l.operands))) ≡ with_tasks l.fn.builder (slots.give_arguments 0 (map tracked_of l.operands))
