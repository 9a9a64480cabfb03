use Rattle.std.proofs.Common.{◌∙◌, [], sym, ap}
use Rattle.std.specs.Prelude.{map, slice_get, unwrap_or}
use Rattle.ms_runs_threads.specs.PlainFibers.{plain_threads}
use Rattle.ms_threads_schedules_laws.specs.Exploration.{padded}
use Rattle.ms_threads_schedules_laws.specs.Picks.{plain_picks}
use Rattle.ms_threads_explore.specs.Beginnings.{told_of}
use Rattle.ms_threads_explore.specs.declared.beginnings.Beginning.{Beginning}
use Rattle.ms_threads_explore.proofs.Cut.{told_there, trial_so}
use Rattle.ms_threads_explore.proofs.trials.TrialRunsWork.make.Goals as goal

pub returns : goal.returns
returns c =
    let m = c.args.self.now.module.now in
    let setup = c.args.self.now.setup.now in
    let queue = c.args.self.now.queue.now in
    trial_so (plain_picks m setup) (plain_threads m setup) (padded (unwrap_or (slice_get (map told_of queue) c.args.index) [])) c.schedule-schedule.result c.in_ok-run.run'.result c.in_ok-run.run'.recorder c.from_vec.result
    (c.schedule-schedule.ensures ∙ ap (λ (b : Beginning). padded (told_of b)) (sym c.index-self-index.is) ∙ ap padded (told_there queue c.args.index c.index-self-index.result c.requires.0 c.index-self-index.is))
    c.in_ok-run.ensures.result c.in_ok-run.ensures.picks c.from_vec.ensures
