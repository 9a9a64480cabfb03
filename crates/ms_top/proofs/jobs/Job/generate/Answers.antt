use Rattle.std.proofs.Common.{sym, subst}
use Rattle.ms_top.specs.Said.{IsAnswerOfGen}
use Rattle.ms_top.proofs.jobs.Job.generate.Goals as goal
use Rattle.ms_runtime.proofs.Fitting.{if_ok}

pub returns-then-run : goal.returns-then-run
returns-then-run g c =
    if_ok c.summarise.result
    (λ a is. subst (λ m. IsAnswerOfGen g.P.Pass.gives c.args.run m a) c.in_ok-module.ensures.generated (subst (λ run. IsAnswerOfGen g.P.Pass.gives run c.in_ok-module.module a) (sym c.if-run.true) is))
    c.summarise.ensures
