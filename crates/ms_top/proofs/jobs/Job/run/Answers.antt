use Rattle.std.proofs.Common.{sym, ap, ◌∙◌, subst}
use Rattle.ms_ir.specs.declared.syntax.Module.{Module}
use Rattle.ms_ir.specs.ThreadCalls.{is_threaded}
use Rattle.ms_top.specs.Runs.{plain_told_under}
use Rattle.ms_top.proofs.jobs.Job.run.Goals as goal
use Rattle.ms_runtime.proofs.Fitting.{if_ok}

pub run_under-requires-clause-threads : goal.run_under-requires-clause-threads
run_under-requires-clause-threads g c = c.has_threads.ensures ∙ sym (ap is_threaded c.get.ensures ∙ c.in_ok-instrumented.ensures.threads)

pub returns : goal.returns
returns g c =
    if_ok c.run_under.result
    (λ r is. (
      c.get.result.now,
      subst (λ (j : Module). g.P.Pass.gives c.args.m.now j) (sym c.get.ensures) c.in_ok-instrumented.ensures.gives,
      is ∙ ap (λ t. plain_told_under c.args.wanted t c.get.result.now c.args.setup.now c.args.schedule.now) c.has_threads.ensures,
    ))
    c.run_under.ensures
