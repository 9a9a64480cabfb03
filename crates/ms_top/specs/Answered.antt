-- What a command says of a valid module, and of the same module by two commands.
use Rattle.std.specs.Prelude.{◌≡◌, ◌⊎◌, ℕ, true, false, List, [], ◌∷◌, Some}
use Rattle.ms_io.specs.Reading.{Holdings, IsWholeFile}
use Rattle.ms_ir.specs.declared.syntax.Module.{Module}
use Rattle.ms_runtime.specs.declared.runs.ToldRun.{ToldRun}
use Rattle.ms_runs.specs.Faithful.{Prefix, Undisturbed}
use Rattle.ms_ir.specs.ThreadCalls.{is_threaded}
use Rattle.ms_report.specs.WithLines.{Lines}
use Rattle.ms_words.specs.declared.commands.Command.{Command}
use Rattle.ms_words.specs.declared.commands.Command.TheVariants.{Explain, Corpus}
use Rattle.ms_top.specs.declared.output.Output.{Output}
use Rattle.ms_top.specs.Said.{answer_of_result}
use Rattle.ms_top.specs.Statuses as statuses

-- files with these names are held, and these are their bytes, no more than their limits
abbrev pub AreHeld : Holdings → List (List ℕ × ℕ) → List (List ℕ) → Type 0
AreHeld files [] [] = Unit {0}
AreHeld files ((name, limit) ∷ rest) (text ∷ texts) = IsWholeFile (Some files) name limit text × AreHeld files rest texts
AreHeld files _ _ = ⊥

-- a command takes a module: without a schedule none with threads
abbrev pub IsTaken : Command → Module → Type 0
IsTaken (Explain file options) m = is_threaded m ≡ false
IsTaken (Corpus file inputs options workers) m = is_threaded m ≡ false
IsTaken command m = Unit {0}

-- the status of an answer for a valid module that is taken: done, a trap, no step left, a report
abbrev pub IsDoneStatus : ℕ → Type 0
IsDoneStatus n = (n ≡ statuses.done) ⊎ ((n ≡ statuses.trapped) ⊎ ((n ≡ statuses.spent) ⊎ (n ≡ statuses.reported)))

-- a is what `check` says of a module and b is what `run` says of it, each with some lines under its sites: the output of a is a
-- beginning of that of b, and unless the checked run ends as reported, output and end are the same
pub record Begins (m : Module) (a b : Output) : Type 0 where
  pub checked : ToldRun
  pub plainly : ToldRun
  pub under : Lines
  pub below : Lines
  pub check : a ≡ answer_of_result under true m checked
  pub run : b ≡ answer_of_result below false m plainly
  pub undisturbed : Undisturbed checked.result plainly.result
  pub output : Prefix a.out b.out
