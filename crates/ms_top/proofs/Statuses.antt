-- The status of an answer is never that of a failed put.
use Rattle.std.proofs.Common.{◌≡◌, ◌≢◌, ℕ, Bool, true, false, List, [], ◌∷◌, if◌then◌else◌, Result, Ok, Err, ap, sym, ◌∙◌, inl, inr, arith}
use Rattle.ms_runs.specs.declared.runs.End.{End}
use Rattle.ms_runs.specs.declared.runs.End.TheVariants.{Exit, Trap, Reported, Spent}
use Rattle.ms_ir.specs.declared.syntax.Module.{Module}
use Rattle.ms_ir.specs.ThreadCalls.{is_threaded}
use Rattle.ms_read_body.specs.declared.errors.ReadError.{ReadError}
use Rattle.ms_read_body.specs.declared.errors.ReadError.TheVariants as e
use Rattle.ms_top.specs.declared.output.Output.{Output}
use Rattle.ms_words.specs.declared.commands.Command.{Command}
use Rattle.ms_words.specs.declared.commands.Command.TheVariants.{Instrument, Run, Check, CheckSchedules, Explain, Corpus, Gen, Help, Version}
use Rattle.ms_words.specs.declared.commands.WordsError.{WordsError}
use Rattle.ms_words.specs.Words.{command_of}
use Rattle.ms_report.specs.WithLines.{Lines}
use Rattle.ms_gen.specs.Generator.{generated}
use Rattle.ms_top.specs.Command.{only_input, setup_of, wanted_of}
use Rattle.ms_top.specs.Files.{Counted, FilesRead, Whole, Fault, Long}
use Rattle.ms_top.specs.Said.{answer_of, end_status, UnlessThreaded, IsExplanation, AreSections, IsAnswerOfGen, IsAnswerWithoutFile, IsAnswerToValid, IsAnswerToModule, IsAnswerToReading, IsAnswerToText, IsAnswerToTexts, IsAnswerToFiles, IsAnswerToCommand, IsAnswerFor, IsAnswer}

with-status : (a : Output) (s : ℕ) (out err : List ℕ) → a ≡ answer_of s out err → s ≢ 7 → a.status ≢ 7
with-status a s out err is other seven = other (sym (ap (λ x. x.status) is) ∙ seven)

end_status-not_seven : (e : End) → end_status e ≢ 7
end_status-not_seven (Exit n) = λ h. omega arith
end_status-not_seven (Trap k s) = λ h. omega arith
end_status-not_seven Reported = λ h. omega arith
end_status-not_seven Spent = λ h. omega arith

chosen-not_seven : (b : Bool) (e : End) → (if b then end_status e else 77) ≢ 7
chosen-not_seven true e = end_status-not_seven e
chosen-not_seven false e = λ h. omega arith

all-not_seven : (report trap spent : Bool) → ◌≢◌ {A = ℕ} (if report then 77 else if trap then 3 else if spent then 4 else 0) 7
all-not_seven true trap spent = λ h. omega arith
all-not_seven false true spent = λ h. omega arith
all-not_seven false false true = λ h. omega arith
all-not_seven false false false = λ h. omega arith

by_threads-not_seven : (t : Bool) (a : Output) (Is : Type 0) → (Is → a.status ≢ 7) → UnlessThreaded t a Is → a.status ≢ 7
by_threads-not_seven true a Is h is = with-status a 5 _ _ is (λ e. omega arith)
by_threads-not_seven false a Is h is = h is

module _ (Gives : Module → Module → Type 0) where
  of_gen-not_seven : (run : Bool) (m : Module) (a : Output) → IsAnswerOfGen Gives run m a → a.status ≢ 7
  of_gen-not_seven true m a (j, gives, is) = with-status a _ _ _ is (chosen-not_seven _ _)
  of_gen-not_seven false m a is = with-status a 0 _ _ is (λ h. omega arith)

  to_valid-not_seven : (under : Lines) (command : Command) (inputs : List (List ℕ)) (m : Module) (a : Output) → IsAnswerToValid Gives under command inputs m a → a.status ≢ 7
  to_valid-not_seven under (Instrument file) inputs m a (j, gives, is) = with-status a 0 _ _ is (λ h. omega arith)
  to_valid-not_seven under (Run file o) inputs m a is = with-status a _ _ _ is (chosen-not_seven _ _)
  to_valid-not_seven under (Check file o) inputs m a (j, gives, is) = with-status a _ _ _ is (chosen-not_seven _ _)
  to_valid-not_seven under (CheckSchedules file o runs workers) inputs m a (j, gives, e, explored, is) = with-status a _ _ _ is (chosen-not_seven _ _)
  to_valid-not_seven under (Explain file o) inputs m a is =
      by_threads-not_seven (is_threaded m) a (IsExplanation Gives under (wanted_of o) (setup_of o (only_input inputs)) m a) (λ h. with-status a _ _ _ h.2 (chosen-not_seven _ _)) is
  to_valid-not_seven under (Corpus file names o workers) inputs m a is =
      by_threads-not_seven (is_threaded m) a (AreSections Gives under names o inputs m a) (λ h. with-status a _ _ _ h.2 (all-not_seven _ _ _)) is
  to_valid-not_seven under (Gen seed functions run) inputs m a is = of_gen-not_seven run m a is
  to_valid-not_seven under Help inputs m a is = with-status a 0 _ _ is (λ h. omega arith)
  to_valid-not_seven under Version inputs m a is = with-status a 0 _ _ is (λ h. omega arith)

  to_module-not_seven : (under : Lines) (command : Command) (inputs : List (List ℕ)) (m : Module) (a : Output) → IsAnswerToModule Gives under command inputs m a → a.status ≢ 7
  to_module-not_seven under command inputs m a (inl (fault, refused, is)) = with-status a 5 _ _ is (λ h. omega arith)
  to_module-not_seven under command inputs m a (inr (valid, is)) = to_valid-not_seven under command inputs m a is

  to_reading-not_seven : (command : Command) (inputs : List (List ℕ)) (text : List ℕ) (r : Result Module ReadError) (a : Output) → IsAnswerToReading Gives command inputs text r a → a.status ≢ 7
  to_reading-not_seven command inputs text (Ok m) a (under, are, is) = to_module-not_seven under command inputs m a is
  to_reading-not_seven command inputs text (Err (e.Lex cause)) a is = with-status a 5 _ _ is (λ h. omega arith)
  to_reading-not_seven command inputs text (Err (e.Refused number w token place)) a is = with-status a 5 _ _ is (λ h. omega arith)
  to_reading-not_seven command inputs text (Err e.NoMemory) a is = absurd is

  to_text-not_seven : (command : Command) (inputs : List (List ℕ)) (text : List ℕ) (a : Output) → IsAnswerToText Gives command inputs text a → a.status ≢ 7
  to_text-not_seven command inputs text a (r, reading, is) = to_reading-not_seven command inputs text r a is

  without_file-not_seven : (command : Command) (a : Output) → IsAnswerWithoutFile Gives command a → a.status ≢ 7
  without_file-not_seven (Instrument file) a is = absurd is
  without_file-not_seven (Run file o) a is = absurd is
  without_file-not_seven (Check file o) a is = absurd is
  without_file-not_seven (CheckSchedules file o runs workers) a is = absurd is
  without_file-not_seven (Explain file o) a is = absurd is
  without_file-not_seven (Corpus file names o workers) a is = absurd is
  without_file-not_seven (Gen seed functions run) a is = of_gen-not_seven run (generated seed functions) a is
  without_file-not_seven Help a is = with-status a 0 _ _ is (λ h. omega arith)
  without_file-not_seven Version a is = with-status a 0 _ _ is (λ h. omega arith)

  to_texts-not_seven : (command : Command) (texts : List (List ℕ)) (a : Output) → IsAnswerToTexts Gives command texts a → a.status ≢ 7
  to_texts-not_seven command [] a is = without_file-not_seven command a is
  to_texts-not_seven command (text ∷ inputs) a is = to_text-not_seven command inputs text a is

  to_files-not_seven : (command : Command) (r : FilesRead) (a : Output) → IsAnswerToFiles Gives command r a → a.status ≢ 7
  to_files-not_seven command (Whole texts) a is = to_texts-not_seven command texts a is
  to_files-not_seven command (Fault name) a is = with-status a 6 _ _ is (λ h. omega arith)
  to_files-not_seven command (Long name) a is = with-status a 9 _ _ is (λ h. omega arith)

  for-not_seven : (c : Counted) (r : Result Command WordsError) (a : Output) → IsAnswerFor Gives c r a → a.status ≢ 7
  for-not_seven c (Ok command) a (r, can, is) = to_files-not_seven command r a is
  for-not_seven c (Err fault) a is = with-status a 2 _ _ is (λ h. omega arith)

  pub command-not_seven : (c : Counted) (command : Command) (a : Output) → IsAnswerToCommand Gives c command a → a.status ≢ 7
  command-not_seven c command a is = for-not_seven c (Ok command) a is

  pub not_seven : (c : Counted) (words : List (List ℕ)) (a : Output) → IsAnswer Gives c words a → a.status ≢ 7
  not_seven c words a is = for-not_seven c (command_of words) a is
