use Rattle.std.proofs.Common.{◌≡◌, drop}
use Rattle.ms_rules_builder.specs.Made.{with_tasks}
use Rattle.ms_slots.specs.Places.{load_parameters}
use Rattle.ms_slots.proofs.lists.load_words.Given as goal

abbrev pub invariant-loop-place : goal.invariant-loop-place
invariant-loop-place l = with_tasks l.builder (load_parameters l.next l.place (drop l.place l.params)) ≡ with_tasks l.fn.builder (load_parameters l.next 0 l.params)
