use Rattle.ms_top.specs.Files.{counted}
use Rattle.ms_top.specs.Said.{IsAnswerToCommand, between}
use Rattle.ms_top.proofs.Saying.{told, partly_told}
use Rattle.ms_top.proofs.Statuses.{command-not_seven}
use Rattle.ms_top.proofs.top.job.Goals as goal
use Rattle.ms_runtime.proofs.Fitting.{if_ok}

pub put_output-requires : goal.put_output-requires
put_output-requires g c =
    if_ok c.run_command.result (λ a is. command-not_seven g.P.Pass.gives
    (counted (g.F.Files.held c.args.files.now) (g.F.Files.faults c.args.files.now) (g.F.Files.faults c.run_command.new.files) (g.F.Files.taken c.args.files.now) (g.F.Files.taken c.run_command.new.files))
    c.args.command.now a is) c.run_command.ensures.said

pub returns-clause-said : goal.returns-clause-said
returns-clause-said g c = λ done.
    told (IsAnswerToCommand g.P.Pass.gives (counted (g.F.Files.held c.args.files.now) (g.F.Files.faults c.args.files.now) (g.F.Files.faults c.run_command.new.files) (g.F.Files.taken c.args.files.now) (g.F.Files.taken c.run_command.new.files)) c.args.command.now)
    (between (g.O.Sink.written c.args.out.now) (g.E.Sink.written c.args.err.now) (g.O.Sink.written c.put_output.new.out) (g.E.Sink.written c.put_output.new.err))
    c.run_command.result c.put_output.result c.run_command.ensures.said (c.put_output.ensures.told done)

pub returns-clause-partly_said : goal.returns-clause-partly_said
returns-clause-partly_said g c = λ failed.
    partly_told (IsAnswerToCommand g.P.Pass.gives (counted (g.F.Files.held c.args.files.now) (g.F.Files.faults c.args.files.now) (g.F.Files.faults c.run_command.new.files) (g.F.Files.taken c.args.files.now) (g.F.Files.taken c.run_command.new.files)) c.args.command.now)
    (between (g.O.Sink.written c.args.out.now) (g.E.Sink.written c.args.err.now) (g.O.Sink.written c.put_output.new.out) (g.E.Sink.written c.put_output.new.err))
    c.run_command.result c.run_command.ensures.said (c.put_output.ensures.partly_told failed)
