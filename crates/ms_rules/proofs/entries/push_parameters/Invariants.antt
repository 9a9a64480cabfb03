use Rattle.std.proofs.Common.{◌≡◌, drop}
use Rattle.ms_pass_tasks.specs.SlotTasks.{take_parameters}
use Rattle.ms_rules_builder.specs.Made.{with_tasks}
use Rattle.ms_rules.specs.Scopes.{env_of}
use Rattle.ms_rules.proofs.entries.push_parameters.Given as goal

abbrev pub invariant-loop-place : goal.invariant-loop-place
invariant-loop-place l =
    with_tasks l.builder (take_parameters (env_of l.scope) l.place (drop l.place l.params)) ≡ with_tasks l.initial.builder (take_parameters (env_of l.scope) 0 l.params)
