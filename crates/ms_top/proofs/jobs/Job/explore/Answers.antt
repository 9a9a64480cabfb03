use Rattle.std.proofs.Common.{ℕ, Bool, List, sym, ap, ◌∙◌, subst}
use Rattle.ms_ir.specs.declared.syntax.Module.{Module}
use Rattle.ms_ir.specs.ThreadCalls.{is_threaded}
use Rattle.ms_threads.specs.Faithful.{IsSchedule}
use Rattle.ms_threads_explore.specs.Explorations.{IsExplored}
use Rattle.ms_top.specs.Parts.{beside_of}
use Rattle.ms_top.specs.Runs.{plain_under, plain_picks_under, plain_told_under}
use Rattle.ms_top.proofs.jobs.Job.explore.Goals as goal

pub explore_under-requires-clause-threads : goal.explore_under-requires-clause-threads
explore_under-requires-clause-threads g c κs within = c.has_threads-threads.ensures ∙ sym (ap is_threaded c.get-module.ensures ∙ c.in_ok-instrumented.ensures.threads)

pub told_beside-requires-clause-threads : goal.told_beside-requires-clause-threads
told_beside-requires-clause-threads g c = c.has_threads-threads.ensures ∙ sym (ap is_threaded c.get-module.ensures ∙ c.in_ok-instrumented.ensures.threads)

pub told_beside-requires-clause-scheduled : goal.told_beside-requires-clause-scheduled
told_beside-requires-clause-scheduled g c = subst IsSchedule (sym c.as_slice-schedule.ensures) c.in_ok-explored.ensures.scheduled

pub returns : goal.returns
returns g c =
    let m = c.args.m.now in
    let j = c.get-module.result.now in
    let s = c.args.setup.now in
    let wanted = c.args.wanted in
    let e = c.in_ok-explored.explored in (
      j,
      subst (λ (k : Module). g.P.Pass.gives m k) (sym c.get-module.ensures) c.in_ok-instrumented.ensures.gives,
      subst (λ (t : Bool). IsExplored (plain_picks_under t j s) (plain_under t j s) c.args.runs e) c.has_threads-threads.ensures c.in_ok-explored.ensures.explored,
      c.in_ok-beside.ensures
          ∙ ap (λ (t : Bool). beside_of (plain_told_under wanted t j s c.as_slice-schedule.result.now)) c.has_threads-threads.ensures
          ∙ ap (λ (schedule : List ℕ). beside_of (plain_told_under wanted (is_threaded m) j s schedule)) c.as_slice-schedule.ensures,
    )
