use Rattle.ms_top.specs.OnFile.{command_of}
use Rattle.ms_top.proofs.Answering.{invalid_answer}
use Rattle.ms_top.proofs.jobs.Job.check_module.Goals as goal
use Rattle.ms_runtime.proofs.Fitting.{if_ok_both}

pub returns-in-Err : goal.returns-in-Err
returns-in-Err g c = if_ok_both c.refused.result (λ a h is. invalid_answer g.P.Pass.gives (g.L.SiteLines.lines c.args.lines.now) (command_of c.args.command.now) c.args.inputs.now c.args.m c.in-Err.cause a c.in-Err.ensures.refused h is) c.refused.ensures.reason c.refused.ensures.line
