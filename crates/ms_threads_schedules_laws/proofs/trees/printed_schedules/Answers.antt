use Rattle.ms_runs.specs.Masks.{by_completions}
use Rattle.ms_runs.specs.Plain.{setting_of}
use Rattle.ms_runs_threads.specs.PlainFibers.{plain_fiber, plain_threads_start}
use Rattle.ms_runs_threads.specs.ShadowFibers.{shadow_fiber, shadow_threads_start}
use Rattle.ms_threads_schedules_laws.specs.Picks.{plain_picks, shadow_picks}
use Rattle.ms_threads_schedules_laws.proofs.SamePicks.{one_tree}
use Rattle.ms_threads_schedules_laws.proofs.Printed.{all_chosen, printed}
use Rattle.ms_threads_schedules_laws.proofs.trees.printed_schedules.Goals as goal

pub returns-clause-plain : goal.returns-clause-plain
returns-clause-plain c = λ m setup a.
    printed (plain_picks m setup a) (all_chosen (plain_picks m setup a) (one_tree (plain_fiber (setting_of m setup) m) a a setup.steps (plain_threads_start m setup)))

pub returns-clause-shadow : goal.returns-clause-shadow
returns-clause-shadow c = λ m setup a.
    printed (shadow_picks m setup a) (all_chosen (shadow_picks m setup a) (one_tree (shadow_fiber by_completions (setting_of m setup) m) a a setup.steps (shadow_threads_start m setup)))
