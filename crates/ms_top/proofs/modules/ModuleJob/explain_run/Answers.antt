use Rattle.std.proofs.Common.{ap, ◌∙◌, subst}
use Rattle.ms_corpus.specs.declared.wanted.Wanted.{Wanted}
use Rattle.ms_top.specs.Command.{setup_of, wanted_of}
use Rattle.ms_top.specs.Parts.{IsRunOfGiven}
use Rattle.ms_top.proofs.Explaining.{explain_answer}
use Rattle.ms_top.proofs.modules.ModuleJob.explain_run.Goals as goal
use Rattle.ms_runtime.proofs.Fitting.{if_ok}

pub returns : goal.returns
returns g c =
    let job = c.args.self.now in
    if_ok c.explanation.result
    (λ a is. explain_answer g.P.Pass.gives (g.L.SiteLines.lines job.lines.now) job.m.now (wanted_of c.args.options.now) c.in_ok-setup.setup _ c.as_slice-schedule.result.now c.in_ok-told.told a c.requires.alone
    (c.in_ok-setup.ensures ∙ ap (setup_of c.args.options.now) c.input.ensures)
    (subst (λ (w : Wanted). IsRunOfGiven g.P.Pass.gives job.m.now c.in_ok-setup.setup c.as_slice-schedule.result.now w c.in_ok-told.told) c.wanted_of.ensures c.in_ok-told.ensures) is)
    c.explanation.ensures
