use Rattle.std.proofs.Common.{ap}
use Rattle.ms_top.specs.OnFile.{command_of, command_with}
use Rattle.ms_top.proofs.Answering.{same_valid}
use Rattle.ms_top.proofs.modules.ModuleJob.act.Goals as goal
use Rattle.ms_runtime.proofs.Fitting.{if_ok}

pub returns-in-Instrument : goal.returns-in-Instrument
returns-in-Instrument g c =
    let job = c.args.self.now in
    let command = c.args.command.now in
    if_ok c.instrument.result
    (λ a is. same_valid g.P.Pass.gives (g.L.SiteLines.lines job.lines.now) (command_of command) _ job.inputs.now job.m.now a (ap (command_with command.file.now) c.in-Instrument.is) is)
    c.instrument.ensures

pub returns-in-Run : goal.returns-in-Run
returns-in-Run g c =
    let job = c.args.self.now in
    let command = c.args.command.now in
    if_ok c.run.result
    (λ a is. same_valid g.P.Pass.gives (g.L.SiteLines.lines job.lines.now) (command_of command) _ job.inputs.now job.m.now a (ap (command_with command.file.now) c.in-Run.is) is)
    c.run.ensures

pub returns-in-Check : goal.returns-in-Check
returns-in-Check g c =
    let job = c.args.self.now in
    let command = c.args.command.now in
    if_ok c.check.result
    (λ a is. same_valid g.P.Pass.gives (g.L.SiteLines.lines job.lines.now) (command_of command) _ job.inputs.now job.m.now a (ap (command_with command.file.now) c.in-Check.is) is)
    c.check.ensures

pub returns-in-CheckSchedules : goal.returns-in-CheckSchedules
returns-in-CheckSchedules g c =
    let job = c.args.self.now in
    let command = c.args.command.now in
    if_ok c.check_schedules.result
    (λ a is. same_valid g.P.Pass.gives (g.L.SiteLines.lines job.lines.now) (command_of command) _ job.inputs.now job.m.now a (ap (command_with command.file.now) c.in-CheckSchedules.is) is)
    c.check_schedules.ensures

pub returns-in-Explain : goal.returns-in-Explain
returns-in-Explain g c =
    let job = c.args.self.now in
    let command = c.args.command.now in
    if_ok c.explain.result
    (λ a is. same_valid g.P.Pass.gives (g.L.SiteLines.lines job.lines.now) (command_of command) _ job.inputs.now job.m.now a (ap (command_with command.file.now) c.in-Explain.is) is)
    c.explain.ensures

pub returns-in-Corpus : goal.returns-in-Corpus
returns-in-Corpus g c =
    let job = c.args.self.now in
    let command = c.args.command.now in
    if_ok c.corpus.result
    (λ a is. same_valid g.P.Pass.gives (g.L.SiteLines.lines job.lines.now) (command_of command) _ job.inputs.now job.m.now a (ap (command_with command.file.now) c.in-Corpus.is) (rw c.as_slice.ensures at is))
    c.corpus.ensures
