use Rattle.std.proofs.Common.{ap, ◌∙◌, subst}
use Rattle.ms_corpus.specs.declared.wanted.Wanted.{Wanted}
use Rattle.ms_top.specs.Command.{setup_of, wanted_of}
use Rattle.ms_top.specs.Parts.{IsRunOfGiven}
use Rattle.ms_top.proofs.Answering.{check_answer}
use Rattle.ms_top.proofs.modules.ModuleJob.check.Goals as goal
use Rattle.ms_runtime.proofs.Fitting.{if_ok}

pub returns : goal.returns
returns g c =
    let job = c.args.self.now in
    if_ok c.output_of_run.result
    (λ a is. check_answer g.P.Pass.gives (g.L.SiteLines.lines job.lines.now) job.m.now c.module.result.now (wanted_of c.args.options.now) c.in_ok-setup.setup _ c.as_slice-schedule.result.now _ c.in_ok-told.told a c.module.ensures
    (c.in_ok-setup.ensures ∙ ap (setup_of c.args.options.now) c.input.ensures) c.as_slice-schedule.ensures
    (subst (λ (w : Wanted). IsRunOfGiven g.P.Pass.gives job.m.now c.in_ok-setup.setup c.as_slice-schedule.result.now w c.in_ok-told.told) c.wanted_of.ensures c.in_ok-told.ensures) is)
    c.output_of_run.ensures
