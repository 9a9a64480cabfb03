-- What `run` says of a text that `instrument` wrote.
use Rattle.std.specs.Prelude.{◌≡◌, ◌⊎◌, ℕ, true, false, List}
use Rattle.ms_lex.specs.declared.errors.LexError.TheVariants.{TooManyTokens}
use Rattle.ms_ir.specs.declared.syntax.Module.{Module}
use Rattle.ms_runtime.specs.declared.runs.ToldRun.{ToldRun}
use Rattle.ms_read_body.specs.declared.errors.ReadError.{ReadError}
use Rattle.ms_read_body.specs.declared.errors.ReadError.TheVariants.{Lex, Refused, NoMemory}
use Rattle.ms_report.specs.declared.refusals.Refusal.TheVariants.{Read}
use Rattle.ms_report.specs.RefusalTexts.{refusal_text}
use Rattle.ms_report.specs.WithLines.{Lines}
use Rattle.ms_words.specs.declared.commands.Command.TheVariants.{Run}
use Rattle.ms_words.specs.declared.commands.Options.{Options}
use Rattle.ms_top.specs.declared.output.Output.{Output}
use Rattle.ms_top.specs.Instrumented.{IsInstrumented}
use Rattle.ms_top.specs.Lines.{AreLines}
use Rattle.ms_top.specs.Said.{answer_of_result, says}
use Rattle.ms_top.specs.Statuses as statuses

-- a text is refused for a limit or for numbering: it has too many tokens, or the refusal is 6 or 7
abbrev pub IsBeyondLimit : ReadError → Type 0
IsBeyondLimit (Lex cause) = cause ≡ TooManyTokens
IsBeyondLimit (Refused number what token place) = (number ≡ 6) ⊎ (number ≡ 7)
IsBeyondLimit NoMemory = ⊥

-- the answer to a text that is refused for one of these
abbrev pub IsLimitRefusal : Output → Type 0
IsLimitRefusal b = (cause : ReadError) × IsBeyondLimit cause × (b ≡ says statuses.refused (refusal_text (Read cause)))

-- b is what `run` says of a text, and c is what `check` says of m: both of one run, b without the verdict. The text is read as a
-- module that the pass makes of m; each answer has lines of its own under the sites
pub record RunsAlike (m : Module) (name : List ℕ) (o : Options) (text : List ℕ) (under : Lines) (b c : Output) : Type 0 where
  pub made : Module
  pub instrumented : IsInstrumented m made
  pub below : Lines
  pub lines : AreLines (Run name o) text made below
  pub told : ToldRun
  pub run : b ≡ answer_of_result below false m told
  pub check : c ≡ answer_of_result under true m told
