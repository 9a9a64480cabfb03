use Rattle.ms_top.proofs.Explaining.{can_lead, run_lines}
use Rattle.ms_top.proofs.modules.ModuleJob.lines_of_run.Goals as goal
use Rattle.ms_runtime.proofs.Fitting.{if_ok}

pub lines_of_trace-requires-clause-leads : goal.lines_of_trace-requires-clause-leads
lines_of_trace-requires-clause-leads g c = can_lead c.args.self.now.m.now c.requires.alone c.args.setup.now c.in_ok-found.found c.in_ok-found.ensures

pub returns : goal.returns
returns g c =
    let job = c.args.self.now in
    if_ok c.lines_of_trace.result
    (λ text is. run_lines (g.L.SiteLines.lines job.lines.now) c.args.calls job.m.now c.args.setup.now c.in_ok-found.found text.items c.in_ok-found.ensures is)
    c.lines_of_trace.ensures
