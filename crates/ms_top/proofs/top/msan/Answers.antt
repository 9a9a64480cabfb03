use Rattle.std.proofs.Common.{◌≢◌, Ok, ap, sym, ◌∙◌, subst, arith}
use Rattle.ms_top.specs.declared.output.Output.{Output}
use Rattle.ms_top.specs.Files.{Counted, counted}
use Rattle.ms_top.specs.Instrumented.{IsInstrumented}
use Rattle.ms_top.specs.Said.{Written, IsAnswer, IsAnswerToCommand, between}
use Rattle.ms_top.proofs.Reading.{command_answer, fault_answer, no_command}
use Rattle.ms_top.proofs.Saying.{told, partly_told, written_more, partly_more}
use Rattle.ms_top.proofs.top.msan.Goals as goal
use Rattle.ms_runtime.proofs.Fitting.{if_ok, if_ok_both}

pub put_output-requires : goal.put_output-requires
put_output-requires g c = if_ok c.no_command.result (λ a is. subst (λ (x : Output). x.status ≢ 7) (sym is) (λ h. omega arith)) c.no_command.ensures.line

pub returns-in-Ok-clause-said : goal.returns-in-Ok-clause-said
returns-in-Ok-clause-said g c = λ done.
    let counts : Counted = counted (g.F.Files.held c.args.files.now) (g.F.Files.faults c.args.files.now) (g.F.Files.faults c.job.new.files) (g.F.Files.taken c.args.files.now) (g.F.Files.taken c.job.new.files) in
    let w : Written = between (g.O.Sink.written c.args.out.now) (g.E.Sink.written c.args.err.now) (g.O.Sink.written c.job.new.out) (g.E.Sink.written c.job.new.err) in
    written_more (IsAnswerToCommand IsInstrumented counts c.get.result.now) (IsAnswer IsInstrumented counts c.args.words.now)
    (λ a is. command_answer counts c.args.words.now c.read_command.result c.get.result.now a c.read_command.ensures.answer (c.in-Ok.is ∙ ap Ok (sym c.get.ensures)) is) w c.job.result (c.job.ensures.said done)

pub returns-in-Ok-clause-partly_said : goal.returns-in-Ok-clause-partly_said
returns-in-Ok-clause-partly_said g c = λ failed.
    let counts : Counted = counted (g.F.Files.held c.args.files.now) (g.F.Files.faults c.args.files.now) (g.F.Files.faults c.job.new.files) (g.F.Files.taken c.args.files.now) (g.F.Files.taken c.job.new.files) in
    let w : Written = between (g.O.Sink.written c.args.out.now) (g.E.Sink.written c.args.err.now) (g.O.Sink.written c.job.new.out) (g.E.Sink.written c.job.new.err) in
    partly_more (IsAnswerToCommand IsInstrumented counts c.get.result.now) (IsAnswer IsInstrumented counts c.args.words.now)
    (λ a is. command_answer counts c.args.words.now c.read_command.result c.get.result.now a c.read_command.ensures.answer (c.in-Ok.is ∙ ap Ok (sym c.get.ensures)) is) w (c.job.ensures.partly_said failed)

pub returns-in-Ok-clause-unread : goal.returns-in-Ok-clause-unread
returns-in-Ok-clause-unread g c = λ fault wrong. absurd (no_command c.args.words.now c.read_command.result c.in-Ok.command fault c.read_command.ensures.answer c.in-Ok.is wrong)

pub returns-in-Err-clause-said : goal.returns-in-Err-clause-said
returns-in-Err-clause-said g c = λ done.
    let counts : Counted = counted (g.F.Files.held c.args.files.now) (g.F.Files.faults c.args.files.now) (g.F.Files.faults c.args.files.now) (g.F.Files.taken c.args.files.now) (g.F.Files.taken c.args.files.now) in
    let w : Written = between (g.O.Sink.written c.args.out.now) (g.E.Sink.written c.args.err.now) (g.O.Sink.written c.put_output.new.out) (g.E.Sink.written c.put_output.new.err) in
    told (IsAnswer IsInstrumented counts c.args.words.now) w c.no_command.result c.put_output.result
    (if_ok_both c.no_command.result (λ a some is. fault_answer counts c.args.words.now c.read_command.result c.in-Err.fault a c.read_command.ensures.answer c.in-Err.is some is) c.no_command.ensures.reason c.no_command.ensures.line)
    (c.put_output.ensures.told done)

pub returns-in-Err-clause-partly_said : goal.returns-in-Err-clause-partly_said
returns-in-Err-clause-partly_said g c = λ failed.
    let counts : Counted = counted (g.F.Files.held c.args.files.now) (g.F.Files.faults c.args.files.now) (g.F.Files.faults c.args.files.now) (g.F.Files.taken c.args.files.now) (g.F.Files.taken c.args.files.now) in
    let w : Written = between (g.O.Sink.written c.args.out.now) (g.E.Sink.written c.args.err.now) (g.O.Sink.written c.put_output.new.out) (g.E.Sink.written c.put_output.new.err) in
    partly_told (IsAnswer IsInstrumented counts c.args.words.now) w c.no_command.result
    (if_ok_both c.no_command.result (λ a some is. fault_answer counts c.args.words.now c.read_command.result c.in-Err.fault a c.read_command.ensures.answer c.in-Err.is some is) c.no_command.ensures.reason c.no_command.ensures.line)
    (c.put_output.ensures.partly_told failed)
