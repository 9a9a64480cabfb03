use Rattle.std.proofs.Common.{true, ◌∙◌, subst}
use Rattle.ms_top.specs.Said.{IsAnswerOfGen}
use Rattle.ms_top.proofs.jobs.Job.summarise.Goals as goal
use Rattle.ms_runtime.proofs.Fitting.{if_ok}

pub returns : goal.returns
returns g c = if_ok c.summarise_checked.result (λ a is. subst (λ m. IsAnswerOfGen g.P.Pass.gives true m a) (c.get.ensures ∙ c.in_ok-checked.ensures) is) c.summarise_checked.ensures
