use Rattle.std.proofs.Common.{subst}
use Rattle.ms_corpus.specs.declared.wanted.Wanted.{Wanted}
use Rattle.ms_top.specs.Parts.{IsRunOfGiven}
use Rattle.ms_top.proofs.Answering.{summary_answer}
use Rattle.ms_top.proofs.jobs.Job.summarise_checked.Goals as goal
use Rattle.ms_runtime.proofs.Fitting.{if_ok}

pub returns : goal.returns
returns g c = if_ok c.output_of_summary.result (λ a is. summary_answer g.P.Pass.gives c.args.m.now c.module.result.now c.in_ok-setup.setup c.default_schedule.result.now c.in_ok-told.told a c.module.ensures c.in_ok-setup.ensures c.default_schedule.ensures
    (subst (λ (w : Wanted). IsRunOfGiven g.P.Pass.gives c.args.m.now c.in_ok-setup.setup c.default_schedule.result.now w c.in_ok-told.told) c.nothing_wanted.ensures c.in_ok-told.ensures) is) c.output_of_summary.ensures
