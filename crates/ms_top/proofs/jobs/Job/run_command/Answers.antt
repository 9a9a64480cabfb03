use Rattle.ms_words.specs.declared.commands.Command.TheVariants.{Instrument, Run, Check, CheckSchedules, Explain, Corpus}
use Rattle.ms_top.specs.Files.{Counted, counted}
use Rattle.ms_top.specs.Said.{IsAnswerToCommand}
use Rattle.ms_top.proofs.Reading.{same_command, generated_answer, help_answer, version_answer}
use Rattle.ms_top.proofs.jobs.Job.run_command.Goals as goal
use Rattle.ms_runtime.proofs.Fitting.{if_ok}

pub returns-in-Gen-clause-said : goal.returns-in-Gen-clause-said
returns-in-Gen-clause-said g c = if_ok c.generate.result (λ a is. generated_answer g.P.Pass.gives _ c.args.command.now _ _ _ a c.in-Gen.is is) c.generate.ensures

pub returns-in-Help-clause-said : goal.returns-in-Help-clause-said
returns-in-Help-clause-said g c = if_ok c.help.result (λ a is. help_answer g.P.Pass.gives _ c.args.command.now a c.in-Help.is is) c.help.ensures

pub returns-in-Version-clause-said : goal.returns-in-Version-clause-said
returns-in-Version-clause-said g c = if_ok c.version.result (λ a is. version_answer g.P.Pass.gives _ c.args.command.now a c.in-Version.is is) c.version.ensures

pub returns-in-Instrument-clause-said : goal.returns-in-Instrument-clause-said
returns-in-Instrument-clause-said g c =
    let before = c.args.files.now in
    let after = c.run_file.new.files in
    let counts : Counted = counted (g.F.Files.held before) (g.F.Files.faults before) (g.F.Files.faults after) (g.F.Files.taken before) (g.F.Files.taken after) in
    if_ok c.run_file.result
    (λ a (is : IsAnswerToCommand g.P.Pass.gives counts (Instrument c.in-Instrument.file) a). same_command g.P.Pass.gives counts c.args.command.now _ a c.in-Instrument.is is)
    c.run_file.ensures.said

pub returns-in-Run-clause-said : goal.returns-in-Run-clause-said
returns-in-Run-clause-said g c =
    let before = c.args.files.now in
    let after = c.run_file-in-Run.new.files in
    let counts : Counted = counted (g.F.Files.held before) (g.F.Files.faults before) (g.F.Files.faults after) (g.F.Files.taken before) (g.F.Files.taken after) in
    if_ok c.run_file-in-Run.result
    (λ a (is : IsAnswerToCommand g.P.Pass.gives counts (Run c.in-Run.file c.in-Run.options) a). same_command g.P.Pass.gives counts c.args.command.now _ a c.in-Run.is is)
    c.run_file-in-Run.ensures.said

pub returns-in-Check-clause-said : goal.returns-in-Check-clause-said
returns-in-Check-clause-said g c =
    let before = c.args.files.now in
    let after = c.run_file-in-Check.new.files in
    let counts : Counted = counted (g.F.Files.held before) (g.F.Files.faults before) (g.F.Files.faults after) (g.F.Files.taken before) (g.F.Files.taken after) in
    if_ok c.run_file-in-Check.result
    (λ a (is : IsAnswerToCommand g.P.Pass.gives counts (Check c.in-Check.file c.in-Check.options) a). same_command g.P.Pass.gives counts c.args.command.now _ a c.in-Check.is is)
    c.run_file-in-Check.ensures.said

pub returns-in-CheckSchedules-clause-said : goal.returns-in-CheckSchedules-clause-said
returns-in-CheckSchedules-clause-said g c =
    let before = c.args.files.now in
    let after = c.run_file-in-CheckSchedules.new.files in
    let counts : Counted = counted (g.F.Files.held before) (g.F.Files.faults before) (g.F.Files.faults after) (g.F.Files.taken before) (g.F.Files.taken after) in
    if_ok c.run_file-in-CheckSchedules.result
    (λ a (is : IsAnswerToCommand g.P.Pass.gives counts (CheckSchedules c.in-CheckSchedules.file c.in-CheckSchedules.options c.in-CheckSchedules.runs c.in-CheckSchedules.workers) a). same_command g.P.Pass.gives counts c.args.command.now _ a c.in-CheckSchedules.is is)
    c.run_file-in-CheckSchedules.ensures.said

pub returns-in-Explain-clause-said : goal.returns-in-Explain-clause-said
returns-in-Explain-clause-said g c =
    let before = c.args.files.now in
    let after = c.run_file-in-Explain.new.files in
    let counts : Counted = counted (g.F.Files.held before) (g.F.Files.faults before) (g.F.Files.faults after) (g.F.Files.taken before) (g.F.Files.taken after) in
    if_ok c.run_file-in-Explain.result
    (λ a (is : IsAnswerToCommand g.P.Pass.gives counts (Explain c.in-Explain.file c.in-Explain.options) a). same_command g.P.Pass.gives counts c.args.command.now _ a c.in-Explain.is is)
    c.run_file-in-Explain.ensures.said

pub returns-in-Corpus-clause-said : goal.returns-in-Corpus-clause-said
returns-in-Corpus-clause-said g c =
    let before = c.args.files.now in
    let after = c.run_file-in-Corpus.new.files in
    let counts : Counted = counted (g.F.Files.held before) (g.F.Files.faults before) (g.F.Files.faults after) (g.F.Files.taken before) (g.F.Files.taken after) in
    if_ok c.run_file-in-Corpus.result
    (λ a (is : IsAnswerToCommand g.P.Pass.gives counts (Corpus c.in-Corpus.file c.in-Corpus.inputs c.in-Corpus.options c.in-Corpus.workers) a). same_command g.P.Pass.gives counts c.args.command.now _ a c.in-Corpus.is is)
    c.run_file-in-Corpus.ensures.said
