use Rattle.std.proofs.Common.{◌≡◌, ℕ, List, [], get_or, sym, subst}
use Rattle.std.proofs.lemmas.List.{get_or_read}
use Rattle.ms_ir.specs.declared.syntax.Module.{Module}
use Rattle.ms_words.specs.declared.commands.Command.{Command}
use Rattle.ms_top.specs.declared.output.Output.{Output}
use Rattle.ms_top.specs.declared.files.InputFault.{InputFault}
use Rattle.ms_top.specs.Command.{input_names}
use Rattle.ms_top.specs.Files.{Counted, counted}
use Rattle.ms_top.specs.OnFile.{command_of}
use Rattle.ms_top.specs.Parts.{AreShort, IsAnswerAfter, IsAnswerToFault}
use Rattle.ms_top.specs.Said.{IsAnswerToText}
use Rattle.ms_top.specs.Unread.{CauseShows, IsUnread}
use Rattle.ms_top.proofs.Reading.{inputs_read, input_unread}
use Rattle.ms_top.proofs.jobs.Job.run_text.Goals as goal
use Rattle.ms_runtime.proofs.Fitting.{if_ok}

-- the answer for the first file of an input that isn't read
fault_after : (Gives : Module → Module → Type 0) (c : Counted) (command : Command) (names : List (List ℕ)) (u : InputFault) (name text : List ℕ) (a : Output) → names ≡ input_names command
    → IsUnread c names u → name ≡ get_or names u.index name → IsAnswerToFault u.cause name a → IsAnswerAfter Gives c command text a
fault_after Gives c command names u name text a same unread here is =
    input_unread Gives c command names name text u.cause a same (subst (λ n. CauseShows c names n u.cause) (sym (get_or_read names u.index name unread.within here [])) unread.shows) is

pub read_module-requires-clause-inputs : goal.read_module-requires-clause-inputs
read_module-requires-clause-inputs g c κs within = subst AreShort (sym c.as_slice.ensures) c.in-Ok.ensures.short

pub returns-in-Ok-clause-said : goal.returns-in-Ok-clause-said
returns-in-Ok-clause-said g c =
    if_ok c.read_module.result
    (λ a is. inputs_read g.P.Pass.gives _ (command_of c.args.command.now) c.inputs-names.result.now c.args.text.now c.in-Ok.inputs a c.inputs-names.ensures c.in-Ok.ensures.read
    (subst (λ inputs. IsAnswerToText g.P.Pass.gives (command_of c.args.command.now) inputs c.args.text.now a) c.as_slice.ensures is))
    c.read_module.ensures

pub returns-in-Err-clause-said : goal.returns-in-Err-clause-said
returns-in-Err-clause-said g c =
    let counts : Counted = counted (g.F.Files.held c.args.files.now) (g.F.Files.faults c.args.files.now) (g.F.Files.faults c.read_inputs.new.files) (g.F.Files.taken c.args.files.now) (g.F.Files.taken c.read_inputs.new.files) in
    if_ok c.unread.result
    (λ a is. fault_after g.P.Pass.gives counts (command_of c.args.command.now) c.inputs-names.result.now c.in-Err.at c.index-names-at.result c.args.text.now a c.inputs-names.ensures c.in-Err.ensures.unread c.index-names-at.is is)
    c.unread.ensures
