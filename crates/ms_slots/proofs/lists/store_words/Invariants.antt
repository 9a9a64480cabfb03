use Rattle.std.proofs.Common.{◌≡◌, drop}
use Rattle.ms_rules_builder.specs.Made.{with_tasks}
use Rattle.ms_slots.specs.Places.{store_arguments}
use Rattle.ms_slots.proofs.lists.store_words.Given as goal

abbrev pub invariant-loop-place : goal.invariant-loop-place
invariant-loop-place l = with_tasks l.builder (store_arguments l.place (drop l.place l.args)) ≡ with_tasks l.fn.builder (store_arguments 0 l.args)
