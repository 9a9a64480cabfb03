-- Valid modules are never refused, and the output of `check` is a beginning of that of `run`.
use Rattle.std.proofs.Common.{◌≡◌, ◌≢◌, ℕ, Bool, true, false, List, [], ◌∷◌, if◌then◌else◌, Some, Result, Ok, Err, refl, sym, subst, inl, inr, true≢false}
use Rattle.ms_io.specs.Counts.{Rose}
use Rattle.ms_io.specs.Reading.{Holdings, IsWholeFile}
use Rattle.ms_ir.specs.declared.syntax.Module.{Module}
use Rattle.ms_ir.specs.declared.forms.Form.TheVariants.{Plain}
use Rattle.ms_runs.specs.declared.runs.End.{End}
use Rattle.ms_runs.specs.declared.runs.End.TheVariants.{Exit, Trap, Reported, Spent}
use Rattle.ms_runs.specs.Faithful.{Fair, Prefix}
use Rattle.ms_ir.specs.ThreadCalls.{is_threaded}
use Rattle.ms_read_body.specs.declared.errors.ReadError.{ReadError}
use Rattle.ms_read_body.specs.declared.errors.ReadError.TheVariants as e
use Rattle.ms_read_top.specs.Reading.{IsReading}
use Rattle.ms_report.specs.WithLines.{Lines}
use Rattle.ms_text_grammar.specs.Texts.{Reads}
use Rattle.ms_text_grammar.proofs.WiderBodies.{plain_is_instrumented}
use Rattle.ms_gen.specs.Generator.{generated}
use Rattle.ms_check_valid.specs.Valid.{Valid}
use Rattle.ms_check_valid.proofs.Refused.{invalid}
use Rattle.ms_words.specs.declared.commands.Command.{Command}
use Rattle.ms_words.specs.declared.commands.Command.TheVariants.{Instrument, Run, Check, CheckSchedules, Explain, Corpus, Gen, Help, Version}
use Rattle.ms_words.specs.declared.commands.Options.{Options}
use Rattle.ms_words.specs.Words.{command_of}
use Rattle.ms_top.specs.declared.output.Output.{Output}
use Rattle.ms_top.specs.Answered.{AreHeld, IsTaken, IsDoneStatus, Begins}
use Rattle.ms_top.specs.Command.{form_of, files_of, only_input, setup_of, wanted_of}
use Rattle.ms_top.specs.Files.{Counted, Whole, CanRead}
use Rattle.ms_top.specs.Instrumented.{IsInstrumented}
use Rattle.ms_top.specs.Lines.{AreLines}
use Rattle.ms_report.specs.RefusalTexts.{threads_text}
use Rattle.ms_threads.specs.Faithful.{IsSchedule}
use Rattle.ms_top.specs.Runs.{plain_under, plain_told_under}
use Rattle.ms_top.specs.Said.{answer_of, says, end_status, UnlessThreaded, IsExplanation, AreSections, IsAnswerOfGen, IsAnswerToValid, IsAnswerToModule, IsAnswerToReading, IsAnswerToText, IsAnswerToFiles, IsAnswerToCommand, IsAnswerFor, IsAnswer}
use Rattle.ms_top.proofs.OneAnswer.{one_reading, one_read, memory_is_there}

-- ---- a valid module is answered

-- the answer to a command for a valid module
for_valid : (under : Lines) (command : Command) (inputs : List (List ℕ)) (m : Module) (a : Output) → Valid m → IsAnswerToModule IsInstrumented under command inputs m a
    → IsAnswerToValid IsInstrumented under command inputs m a
for_valid under command inputs m a valid (inl (fault, refused, is)) = absurd (invalid m fault refused valid)
for_valid under command inputs m a valid (inr (checked, is)) = is

-- a text that reads as a module comes to nothing else, unless memory runs out
pub text_read : (command : Command) (inputs : List (List ℕ)) (text : List ℕ) (m : Module) (r : Result Module ReadError) (a : Output) → Reads (form_of command) text m
    → IsReading (form_of command) text r → IsAnswerToReading IsInstrumented command inputs text r a → r ≡ Ok m
text_read command inputs text m r a reads reading answers =
    let some : Ok m ≢ Err e.NoMemory = λ h. absurd cc in
    one_reading (form_of command) text (Ok m) r reads reading some (memory_is_there command inputs text r a answers)

-- the answer for a text that reads as a valid module, with the lines of that text
pub text_answered : (command : Command) (inputs : List (List ℕ)) (text : List ℕ) (m : Module) (a : Output) → Reads (form_of command) text m → Valid m
    → IsAnswerToText IsInstrumented command inputs text a
    → (under : Lines) × AreLines command text m under × IsAnswerToValid IsInstrumented under command inputs m a
text_answered command inputs text m a reads valid (r, reading, answers) =
    let shown = subst (λ s. IsAnswerToReading IsInstrumented command inputs text s a) (text_read command inputs text m r a reads reading answers) answers in
    (shown.0, shown.1, for_valid shown.0 command inputs m a valid shown.2)

held_read : (c : Counted) (files : Holdings) → c.told ≡ Some files → (fs : List (List ℕ × ℕ)) (texts : List (List ℕ)) → AreHeld files fs texts → CanRead c fs (Whole texts)
held_read c files told [] [] h = refl
held_read c files told ((name, limit) ∷ rest) (text ∷ texts) h =
    inr (inr (text, subst (λ t. IsWholeFile t name limit text) (sym told) h.0, Whole texts, held_read c files told rest texts h.1, refl))
held_read c files told [] (text ∷ texts) h = absurd h
held_read c files told ((name, limit) ∷ rest) [] h = absurd h

pub words_answered : (c : Counted) (files : Holdings) (words : List (List ℕ)) (command : Command) (text : List ℕ) (inputs : List (List ℕ)) (m : Module) (a : Output)
    → c.told ≡ Some files → (Rose c.faults c.faults_after → ⊥) → command_of words ≡ Ok command → AreHeld files (files_of command) (text ∷ inputs)
    → Reads (form_of command) text m → Valid m → IsAnswer IsInstrumented c words a
    → (under : Lines) × AreLines command text m under × IsAnswerToValid IsInstrumented under command inputs m a
words_answered c files words command text inputs m a told steady is held reads valid answer =
    by_files (subst (λ r. IsAnswerFor IsInstrumented c r a) is answer)
  where
    by_files : IsAnswerToCommand IsInstrumented c command a → (under : Lines) × AreLines command text m under × IsAnswerToValid IsInstrumented under command inputs m a
    by_files (r, can, answers) =
        text_answered command inputs text m a reads valid
        (subst (λ s. IsAnswerToFiles IsInstrumented command s a)
        (one_read c files told steady (files_of command) r (Whole (text ∷ inputs)) can (held_read c files told (files_of command) (text ∷ inputs) held)) answers)

pub generated_answered : (c : Counted) (words : List (List ℕ)) (seed functions : ℕ) (run : Bool) (a : Output) → command_of words ≡ Ok (Gen seed functions run) → IsAnswer IsInstrumented c words a
    → IsAnswerOfGen IsInstrumented run (generated seed functions) a
generated_answered c words seed functions run a is answer = by_files (subst (λ r. IsAnswerFor IsInstrumented c r a) is answer)
  where
    by_files : IsAnswerToCommand IsInstrumented c (Gen seed functions run) a → IsAnswerOfGen IsInstrumented run (generated seed functions) a
    by_files (r, can, answers) = subst (λ s. IsAnswerToFiles IsInstrumented (Gen seed functions run) s a) can answers

-- ---- its status

done : (a : Output) (s : ℕ) (out err : List ℕ) → a ≡ answer_of s out err → IsDoneStatus s → IsDoneStatus a.status
done a s out err is h = subst (λ x. IsDoneStatus x.status) (sym is) h

end_done : (e : End) → IsDoneStatus (end_status e)
end_done (Exit n) = inl refl
end_done (Trap k s) = inr (inl refl)
end_done Reported = inl refl
end_done Spent = inr (inr (inl refl))

run_done : (b : Bool) (e : End) → IsDoneStatus (if b then end_status e else 77)
run_done true e = end_done e
run_done false e = inr (inr (inr refl))

all_done : (report trap spent : Bool) → IsDoneStatus (if report then 77 else if trap then 3 else if spent then 4 else 0)
all_done true trap spent = inr (inr (inr refl))
all_done false true spent = inr (inl refl)
all_done false false true = inr (inr (inl refl))
all_done false false false = inl refl

-- the answer of a command that takes no schedule, for a module without threads
taken_done : (t : Bool) (a : Output) (Is : Type 0) → t ≡ false → (Is → IsDoneStatus a.status) → UnlessThreaded t a Is → IsDoneStatus a.status
taken_done false a Is alone h is = h is
taken_done true a Is alone h is = absurd (true≢false alone)

gen_done : (run : Bool) (m : Module) (a : Output) → IsAnswerOfGen IsInstrumented run m a → IsDoneStatus a.status
gen_done true m a (j, gives, is) = done a _ _ _ is (run_done _ _)
gen_done false m a is = done a 0 _ _ is (inl refl)

pub valid_done : (under : Lines) (command : Command) (inputs : List (List ℕ)) (m : Module) (a : Output) → IsTaken command m → IsAnswerToValid IsInstrumented under command inputs m a → IsDoneStatus a.status
valid_done under (Instrument file) inputs m a taken (j, gives, is) = done a 0 _ _ is (inl refl)
valid_done under (Run file o) inputs m a taken is = done a _ _ _ is (run_done _ _)
valid_done under (Check file o) inputs m a taken (j, gives, is) = done a _ _ _ is (run_done _ _)
valid_done under (CheckSchedules file o runs workers) inputs m a taken (j, gives, e, explored, is) = done a _ _ _ is (run_done _ _)
valid_done under (Explain file o) inputs m a alone is =
    taken_done (is_threaded m) a (IsExplanation IsInstrumented under (wanted_of o) (setup_of o (only_input inputs)) m a) alone (λ h. done a _ _ _ h.2 (run_done _ _)) is
valid_done under (Corpus file names o workers) inputs m a alone is =
    taken_done (is_threaded m) a (AreSections IsInstrumented under names o inputs m a) alone (λ h. done a _ _ _ h.2 (all_done _ _ _)) is
valid_done under (Gen seed functions run) inputs m a taken is = gen_done run m a is
valid_done under Help inputs m a taken is = done a 0 _ _ is (inl refl)
valid_done under Version inputs m a taken is = done a 0 _ _ is (inl refl)

-- a module with threads is refused by the others
pub explain_refused : (under : Lines) (file : List ℕ) (o : Options) (inputs : List (List ℕ)) (m : Module) (a : Output) → is_threaded m ≡ true
    → IsAnswerToValid IsInstrumented under (Explain file o) inputs m a → a ≡ says 5 threads_text
explain_refused under file o inputs m a threads is = subst (λ t. UnlessThreaded t a (IsExplanation IsInstrumented under (wanted_of o) (setup_of o (only_input inputs)) m a)) threads is

pub corpus_refused : (under : Lines) (file : List ℕ) (names : List (List ℕ)) (o : Options) (workers : ℕ) (inputs : List (List ℕ)) (m : Module) (a : Output) → is_threaded m ≡ true
    → IsAnswerToValid IsInstrumented under (Corpus file names o workers) inputs m a → a ≡ says 5 threads_text
corpus_refused under file names o workers inputs m a threads is = subst (λ t. UnlessThreaded t a (AreSections IsInstrumented under names o inputs m a)) threads is

-- ---- `check` and `run`

pub valid_begins : (under below : Lines) (file name : List ℕ) (inputs : List (List ℕ)) (o : Options) (m : Module) (a b : Output) → Fair (setup_of o (only_input inputs)) → IsSchedule o.schedule
    → IsAnswerToValid IsInstrumented under (Check file o) inputs m a → IsAnswerToValid IsInstrumented below (Run name o) inputs m b → Begins m a b
valid_begins under below file name inputs o m a b fair some (j, made, is) same =
    let s = setup_of o (only_input inputs) in
    let undisturbed = made.undisturbed s fair o.schedule some in
    record {
      checked = plain_told_under (wanted_of o) (is_threaded m) j s o.schedule;
      plainly = plain_told_under (wanted_of o) (is_threaded m) m s o.schedule;
      under = under;
      below = below;
      check = is;
      run = same;
      undisturbed = undisturbed;
      output = subst (λ x. Prefix x.out b.out) (sym is) (subst (λ x. Prefix (plain_under (is_threaded m) j s o.schedule).output x.out) (sym same) undisturbed.output);
    }

pub text_begins : (file name : List ℕ) (inputs : List (List ℕ)) (o : Options) (text : List ℕ) (m : Module) (a b : Output) → Fair (setup_of o (only_input inputs)) → IsSchedule o.schedule
    → Reads Plain text m → Valid m → IsAnswerToText IsInstrumented (Check file o) inputs text a → IsAnswerToText IsInstrumented (Run name o) inputs text b → Begins m a b
text_begins file name inputs o text m a b fair some reads valid p q =
    let checked = text_answered (Check file o) inputs text m a reads valid p in
    let ran = text_answered (Run name o) inputs text m b (plain_is_instrumented text m reads) valid q in
    valid_begins checked.0 ran.0 file name inputs o m a b fair some checked.2 ran.2
