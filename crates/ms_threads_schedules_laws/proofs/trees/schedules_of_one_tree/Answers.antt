use Rattle.std.proofs.Common.{ap}
use Rattle.ms_runs.specs.declared.runs.End.{End}
use Rattle.ms_runs.specs.World.{World, result}
use Rattle.ms_runs.specs.Masks.{by_completions}
use Rattle.ms_runs.specs.Plain.{setting_of}
use Rattle.ms_runs_threads.specs.PlainFibers.{plain_fiber, plain_threads_start}
use Rattle.ms_runs_threads.specs.ShadowFibers.{shadow_fiber, shadow_threads_start}
use Rattle.ms_threads_schedules_laws.proofs.SamePicks.{plain_tree, shadow_tree, same_run, same_end}
use Rattle.ms_threads_schedules_laws.proofs.trees.schedules_of_one_tree.Goals as goal

pub returns-clause-plain : goal.returns-clause-plain
returns-clause-plain c = plain_tree

pub returns-clause-shadow : goal.returns-clause-shadow
returns-clause-shadow c = shadow_tree

pub returns-clause-plain_repeats : goal.returns-clause-plain_repeats
returns-clause-plain_repeats c = λ m setup a b h.
    let r = same_run (plain_fiber (setting_of m setup) m) a b setup.steps (plain_threads_start m setup) h in (r.0, ap (λ (x : End × World). result x.0 x.1) r.1)

pub returns-clause-shadow_repeats : goal.returns-clause-shadow_repeats
returns-clause-shadow_repeats c = λ m setup a b h.
    let r = same_run (shadow_fiber by_completions (setting_of m setup) m) a b setup.steps (shadow_threads_start m setup) h in (r.0, ap (λ (x : End × World). result x.0 x.1) r.1)

pub returns-clause-plain_same : goal.returns-clause-plain_same
returns-clause-plain_same c = λ m setup a b e. ap (λ (x : End × World). result x.0 x.1) (same_end (plain_fiber (setting_of m setup) m) a b setup.steps (plain_threads_start m setup) e)

pub returns-clause-shadow_same : goal.returns-clause-shadow_same
returns-clause-shadow_same c = λ m setup a b e. ap (λ (x : End × World). result x.0 x.1) (same_end (shadow_fiber by_completions (setting_of m setup) m) a b setup.steps (shadow_threads_start m setup) e)
