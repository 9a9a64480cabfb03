use Rattle.std.proofs.Common.{ap, ◌∙◌, subst}
use Rattle.ms_corpus.specs.declared.wanted.Wanted.{Wanted}
use Rattle.ms_top.specs.Command.{only_input, setup_of, wanted_of}
use Rattle.ms_top.specs.Parts.{IsExploredOfGiven}
use Rattle.ms_top.proofs.Answering.{schedules_answer, within}
use Rattle.ms_top.proofs.modules.ModuleJob.check_schedules.Goals as goal
use Rattle.ms_runtime.proofs.Fitting.{if_ok}

pub explore-requires-clause-limits : goal.explore-requires-clause-limits
explore-requires-clause-limits g c κs here =
    within c.args.options.now (only_input c.args.self.now.inputs.now) c.in_ok-setup.setup c.requires.limits.options c.requires.input
    (c.in_ok-setup.ensures ∙ ap (setup_of c.args.options.now) c.input.ensures)

pub returns : goal.returns
returns g c =
    let job = c.args.self.now in
    if_ok c.output_of_schedules.result
    (λ a is. schedules_answer g.P.Pass.gives (g.L.SiteLines.lines job.lines.now) job.m.now c.module.result.now (wanted_of c.args.options.now) c.in_ok-setup.setup (setup_of c.args.options.now (only_input job.inputs.now)) c.args.runs
    c.in_ok-explored.explored c.in_ok-explored.beside a c.module.ensures (c.in_ok-setup.ensures ∙ ap (setup_of c.args.options.now) c.input.ensures)
    (subst (λ (w : Wanted). IsExploredOfGiven g.P.Pass.gives job.m.now c.in_ok-setup.setup c.args.runs w c.in_ok-explored.explored c.in_ok-explored.beside) c.wanted_of-wanted.ensures c.in_ok-explored.ensures) is)
    c.output_of_schedules.ensures
