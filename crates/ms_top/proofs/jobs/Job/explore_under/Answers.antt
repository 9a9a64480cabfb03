use Rattle.std.proofs.Common.{Bool, false, sym, ap, subst, arith}
use Rattle.ms_threads.specs.Faithful.{IsSchedule}
use Rattle.ms_threads_explore.specs.declared.explorer.Explored.{Explored}
use Rattle.ms_threads_explore.specs.Explorations.{IsExplored}
use Rattle.ms_threads_explore.proofs.Holding.{told_some}
use Rattle.ms_top.specs.Runs.{plain_under, plain_picks_under}
use Rattle.ms_top.proofs.Exploring.{only_explored}
use Rattle.ms_top.proofs.jobs.Job.explore_under.Goals as goal
use Rattle.ms_runtime.proofs.Fitting.{if_ok}

pub returns-then-threads-clause-explored : goal.returns-then-threads-clause-explored
returns-then-threads-clause-explored g c =
    let m = c.args.m.now in
    let s = c.args.setup.now in
    if_ok c.explore.result
    (λ e is. subst (λ (t : Bool). IsExplored (plain_picks_under t m s) (plain_under t m s) c.args.runs e) (sym c.if-threads.true) is)
    c.explore.ensures.explored

pub returns-then-threads-clause-scheduled : goal.returns-then-threads-clause-scheduled
returns-then-threads-clause-scheduled g c = if_ok c.explore.result (λ e is. told_some _ _ c.args.runs e c.requires.some is) c.explore.ensures.explored

pub returns-else-threads-clause-explored : goal.returns-else-threads-clause-explored
returns-else-threads-clause-explored g c =
    let m = c.args.m.now in
    let s = c.args.setup.now in
    if_ok c.only_run.result
    (λ e is. subst (λ (t : Bool). IsExplored (plain_picks_under t m s) (plain_under t m s) c.args.runs e) (sym c.if-threads.false)
    (subst (IsExplored (plain_picks_under false m s) (plain_under false m s) c.args.runs) (sym is) (only_explored m s c.args.runs c.requires.some)))
    c.only_run.ensures

pub returns-else-threads-clause-scheduled : goal.returns-else-threads-clause-scheduled
returns-else-threads-clause-scheduled g c = if_ok c.only_run.result (λ e is. subst IsSchedule (sym (ap (λ (x : Explored). x.schedule) is)) (omega arith)) c.only_run.ensures
