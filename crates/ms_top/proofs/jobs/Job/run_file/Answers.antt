use Rattle.std.proofs.Common.{◌^◌, ◌<◌, refl, sym, subst}
use Rattle.ms_io.specs.Reading.{IsWholeFile}
use Rattle.ms_top.specs.Files.{Counted, counted}
use Rattle.ms_top.specs.OnFile.{command_with}
use Rattle.ms_top.specs.Parts.{IsAnswerToFault}
use Rattle.ms_top.proofs.Reading.{Unread, after_first, limit_fits, named, unread, unread_first}
use Rattle.ms_top.proofs.jobs.Job.run_file.Goals as goal
use Rattle.ms_runtime.proofs.Fitting.{if_ok}

pub read_whole-requires : goal.read_whole-requires
read_whole-requires g c = subst (λ n. n < 2 ^ 32) (sym c.limit.ensures) (limit_fits (command_with c.args.file.now c.args.action.now))

pub returns-in-Ok-clause-said : goal.returns-in-Ok-clause-said
returns-in-Ok-clause-said g c =
    let file = c.args.file.now in
    let action = c.args.action.now in
    let command = command_with file action in
    let before : Counted = counted (g.F.Files.held c.args.files.now) (g.F.Files.faults c.args.files.now) (g.F.Files.faults c.run_text.new.files) (g.F.Files.taken c.args.files.now) (g.F.Files.taken c.run_text.new.files) in
    let between : Counted = counted (g.F.Files.held c.read_whole.new.self) (g.F.Files.faults c.read_whole.new.self) (g.F.Files.faults c.run_text.new.files) (g.F.Files.taken c.read_whole.new.self) (g.F.Files.taken c.run_text.new.files) in
    let held = g.F.Files.held c.args.files.now in
    let bytes = c.in-Ok.text.items in
    let read = subst (λ n. IsWholeFile held n c.limit.result bytes) c.as_str.ensures c.in-Ok.ensures.whole in
    let whole = subst (λ l. IsWholeFile held file l bytes) c.limit.ensures read in
    let e = c.read_whole.ensures in
    if_ok c.run_text.result
    (λ a is. after_first before between
    (record { told = sym e.holdings_stay; faults = e.faults_never_fall; faults_after = refl; taken = e.taken_never_falls; taken_after = refl })
    g.P.Pass.gives command file bytes c.deref.result.now a (named file action) whole c.deref.ensures.value is)
    c.run_text.ensures.said

pub returns-in-Err-clause-said : goal.returns-in-Err-clause-said
returns-in-Err-clause-said g c =
    let file = c.args.file.now in
    let action = c.args.action.now in
    let command = command_with file action in
    let counts : Counted = counted (g.F.Files.held c.args.files.now) (g.F.Files.faults c.args.files.now) (g.F.Files.faults c.read_whole.new.self) (g.F.Files.taken c.args.files.now) (g.F.Files.taken c.read_whole.new.self) in
    let name = c.as_str.result.now in
    let limit = c.limit.result in
    let e = c.read_whole.ensures in
    if_ok c.unread.result
    (λ a is.
    let is_here = subst (λ n. IsAnswerToFault c.in-Err.cause n a) (sym c.as_str.ensures) is in
    let why = unread counts name limit c.read_whole.result c.in-Err.cause a (record { failed = e.failed; absent = e.absent; too_long = e.too_long }) c.in-Err.is is_here in
    let of_module = subst (λ n. Unread counts n limit a) c.as_str.ensures why in
    unread_first g.P.Pass.gives counts command file a (named file action) (subst (λ l. Unread counts file l a) c.limit.ensures of_module))
    c.unread.ensures
