use Rattle.std.proofs.Common.{ap, ◌∙◌}
use Rattle.ms_corpus.specs.declared.wanted.Wanted.{Wanted}
use Rattle.ms_top.specs.Command.{setup_of, wanted_of}
use Rattle.ms_top.specs.Runs.{plain_told_under}
use Rattle.ms_top.proofs.Answering.{run_answer}
use Rattle.ms_top.proofs.modules.ModuleJob.run.Goals as goal
use Rattle.ms_runtime.proofs.Fitting.{if_ok}

pub returns : goal.returns
returns g c =
    let job = c.args.self.now in
    if_ok c.output_of_run.result
    (λ a is. run_answer (g.L.SiteLines.lines job.lines.now) job.m.now c.module.result.now (wanted_of c.args.options.now) c.has_threads-threads.result c.in_ok-setup.setup _ c.as_slice-schedule.result.now _ c.in_ok-told.told a c.module.ensures
    c.has_threads-threads.ensures (c.in_ok-setup.ensures ∙ ap (setup_of c.args.options.now) c.input.ensures) c.as_slice-schedule.ensures
    (c.in_ok-told.ensures ∙ ap (λ (w : Wanted). plain_told_under w c.has_threads-threads.result job.m.now c.in_ok-setup.setup c.as_slice-schedule.result.now) c.wanted_of.ensures) is)
    c.output_of_run.ensures
