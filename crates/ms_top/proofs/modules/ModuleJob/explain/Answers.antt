use Rattle.std.proofs.Common.{sym}
use Rattle.ms_top.specs.declared.output.Output.{Output}
use Rattle.ms_top.specs.Command.{only_input, setup_of, wanted_of}
use Rattle.ms_top.specs.Said.{IsExplanation}
use Rattle.ms_top.proofs.Answering.{threads_refused, alone_answered}
use Rattle.ms_top.proofs.modules.ModuleJob.explain.Goals as goal
use Rattle.ms_runtime.proofs.Fitting.{if_ok}

pub returns-then-has_threads : goal.returns-then-has_threads
returns-then-has_threads g c =
    let job = c.args.self.now in
    let Is : Output → Type 0 = λ a. IsExplanation g.P.Pass.gives (g.L.SiteLines.lines job.lines.now) (wanted_of c.args.options.now) (setup_of c.args.options.now (only_input job.inputs.now)) job.m.now a in
    if_ok c.refused_threads.result (λ a is. threads_refused job.m.now a (Is a) (sym c.if-has_threads.ensures) is) c.refused_threads.ensures

pub returns-else-has_threads : goal.returns-else-has_threads
returns-else-has_threads g c =
    let job = c.args.self.now in
    let Is : Output → Type 0 = λ a. IsExplanation g.P.Pass.gives (g.L.SiteLines.lines job.lines.now) (wanted_of c.args.options.now) (setup_of c.args.options.now (only_input job.inputs.now)) job.m.now a in
    if_ok c.explain_run.result (λ a is. alone_answered job.m.now a (Is a) (sym c.if-has_threads.ensures) is) c.explain_run.ensures
