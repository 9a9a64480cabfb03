-- What is read is bytes, so what `check` and `explain` say holds without a premise on their files.
use Rattle.std.proofs.Common.{◌≡◌, ℕ, ◌^◌, ◌<◌, ◌≤◌, Bool, true, false, List, [], ◌∷◌, length, Option, Some, None, Result, Ok, Err, refl, sym, ap, ◌∙◌, subst, arith, ◌⊎◌, inl, inr}
use Rattle.std.specs.Prelude.{All, nat_lt}
use Rattle.std.proofs.lemmas.Bool.{and_from, lt-ltb}
use Rattle.std.proofs.lemmas.List.Elements.{All-cons, All-nil, All-head, All-tail}
use Rattle.ms_io.specs.Reading.{Holdings, IsWholeFile}
use Rattle.ms_ir.specs.declared.syntax.Module.{Module}
use Rattle.ms_runs.specs.Faithful.{Fair}
use Rattle.ms_ir.specs.ThreadCalls.{is_threaded}
use Rattle.ms_runs_laws.proofs.Numbering.{no_marks}
use Rattle.ms_read_body.specs.declared.errors.ReadError.{ReadError}
use Rattle.ms_read_body.specs.declared.errors.ReadError.TheVariants as e
use Rattle.ms_read_top.specs.Reading.{IsReading}
use Rattle.ms_words.specs.Limits.{RunsWithinLimits, SchedulesWithinLimits}
use Rattle.ms_words.specs.declared.commands.Command.TheVariants.{Check, CheckSchedules, Corpus, Explain}
use Rattle.ms_words.specs.declared.commands.Command.{Command}
use Rattle.ms_words.specs.declared.commands.Options.{Options}
use Rattle.ms_top.specs.declared.output.Output.{Output}
use Rattle.ms_top.specs.Command.{files_of, form_of, input_files, input_limit, only_input, setup_of, wanted_of}
use Rattle.ms_top.specs.Files.{Counted, FilesRead, Whole, Fault, Long, CanRead}
use Rattle.ms_top.specs.Instrumented.{IsInstrumented}
use Rattle.ms_top.specs.Promised.{CorpusShown, HoldsUnderChanges, InputHolds, NothingRan, SchedulesShown, ShadowShown, ThreadsRefused, WayShown}
use Rattle.ms_corpus.specs.Wanted.{told_as}
use Rattle.ms_top.specs.Lines.{AreLines}
use Rattle.ms_top.specs.Runs.{plain_told_under, shadow_under, shadow_picks_under, HoldsUnder}
use Rattle.ms_top.specs.Said.{answer_of_explored, answer_of_result, says, IsExplanation, IsAnswerToValid, IsAnswerWithoutFile, IsAnswerToModule, IsAnswerToReading, IsAnswerToFiles, IsAnswerToCommand, IsAnswerFor, IsAnswer, AreSections}
use Rattle.ms_report.specs.WithLines.{Lines}
use Rattle.ms_check_valid.specs.Valid.{Valid}
use Rattle.ms_check_valid.proofs.Refused.{invalid}
use Rattle.ms_words.specs.Words.{command_of}
use Rattle.ms_words.proofs.WithinLimits.{command_within}
use Rattle.ms_text_grammar.specs.Texts.{Reads, max_bytes}
use Rattle.ms_ir.specs.declared.forms.Form.TheVariants.{Plain}
use Rattle.ms_text_laws.proofs.FormedModules.{read_formed}
use Rattle.ms_runs.specs.Calls.{places_of}
use Rattle.ms_runs.specs.declared.runs.Setup.{Setup}
use Rattle.ms_ir.specs.Instructions.{NoMarks}
use Rattle.ms_check_valid.specs.Formed.{Formed}
use Rattle.ms_runs_fills_laws.specs.Chosen.{HoldsUnderChoices}
use Rattle.ms_runs_fills_laws.proofs.ChangingMemory.{clean_changing}
use Rattle.ms_check_valid.specs.FormedNames.{are_bytes}
use Rattle.ms_top.proofs.Answered.{text_read, corpus_refused, explain_refused}
use Rattle.ms_top.proofs.Answering.{scheduled}
use Rattle.ms_top.proofs.Explaining.{WaysStay, explained_shadow, explained_way, explained_none}
use Rattle.ms_top.proofs.Faithful.{corpus_shown, fair_options, alone_says, calls_alone, holds_alone, runs_alone, told_same}
use Rattle.ms_text_grammar.proofs.Readings.{one_reading}
use Rattle.ms_text_laws.proofs.SmallLimits.{can_instrument}
use Rattle.ms_threads_explore.specs.Explorations.{IsExplored}
use Rattle.ms_threads_explore.proofs.Holding.{all_hold as all_schedules_hold, told_some}
use Rattle.ms_top.proofs.Exploring.{shadow_explored, repeats_under}

abbrev IsByte : ℕ → Type 0
IsByte b = b < 2 ^ 8

-- ---- files

whole_bytes : (held : Option Holdings) (name : List ℕ) (limit : ℕ) (text : List ℕ) → IsWholeFile held name limit text → All IsByte text
whole_bytes None name limit text h = h.1
whole_bytes (Some files) name limit text h = h.2

whole_short : (held : Option Holdings) (name : List ℕ) (limit : ℕ) (text : List ℕ) → IsWholeFile held name limit text → length text ≤ limit
whole_short None name limit text h = h.0
whole_short (Some files) name limit text h = h.1

texts_in : FilesRead → List (List ℕ)
texts_in (Whole texts) = texts
texts_in (Fault name) = []
texts_in (Long name) = []

-- the first of files that are read whole, and the others
pub record FirstRead (c : Counted) (name : List ℕ) (limit : ℕ) (rest : List (List ℕ × ℕ)) (texts : List (List ℕ)) : Type 0 where
  pub text : List ℕ
  pub more : List (List ℕ)
  pub is : texts ≡ text ∷ more
  pub whole : IsWholeFile c.told name limit text
  pub others : CanRead c rest (Whole more)

first_read : (c : Counted) (name : List ℕ) (limit : ℕ) (rest : List (List ℕ × ℕ)) (texts : List (List ℕ)) → CanRead c ((name, limit) ∷ rest) (Whole texts) → FirstRead c name limit rest texts
unfolding texts_in
first_read c name limit rest texts (inl (fault, is)) = absurd cc
first_read c name limit rest texts (inr (inl (long, is))) = absurd cc
first_read c name limit rest texts (inr (inr (text, whole, Whole more, read, is))) = record { text = text; more = more; is = ap texts_in is; whole = whole; others = read }
first_read c name limit rest texts (inr (inr (text, whole, Fault other, read, is))) = absurd cc
first_read c name limit rest texts (inr (inr (text, whole, Long other, read, is))) = absurd cc

none_read : (c : Counted) (texts : List (List ℕ)) → CanRead c [] (Whole texts) → texts ≡ []
unfolding texts_in
none_read c texts is = ap texts_in is

pub texts_are_bytes : (c : Counted) (fs : List (List ℕ × ℕ)) (texts : List (List ℕ)) → CanRead c fs (Whole texts) → All (λ text. All IsByte text) texts
texts_are_bytes c [] texts can = subst (λ ts. All (λ text. All IsByte text) ts) (sym (none_read c texts can)) (All-nil (λ text. All IsByte text))
texts_are_bytes c ((name, limit) ∷ rest) texts can =
    let f = first_read c name limit rest texts can in
    subst (λ ts. All (λ text. All IsByte text) ts) (sym f.is)
    (All-cons (λ text. All IsByte text) f.text f.more (whole_bytes c.told name limit f.text f.whole) (texts_are_bytes c rest f.more f.others))

-- they pass the test of bytes
tested : (text : List ℕ) → All IsByte text → are_bytes text ≡ true
tested [] h = refl
tested (b ∷ text) h = and_from (nat_lt b 256) (are_bytes text) (lt-ltb b 256 (All-head IsByte b text h)) (tested text (All-tail IsByte b text h))

-- ---- setups

inputs_fair : (c : Counted) (o : Options) → RunsWithinLimits o → (names : List (List ℕ)) (inputs : List (List ℕ)) → CanRead c (input_files names) (Whole inputs) → Fair (setup_of o (only_input inputs))
inputs_fair c o fit [] inputs can =
    subst (λ ts. Fair (setup_of o (only_input ts))) (sym (none_read c inputs can)) (fair_options o [] fit (omega arith) (All-nil IsByte))
inputs_fair c o fit (name ∷ names) inputs can =
    let f = first_read c name input_limit (input_files names) inputs can in
    subst (λ ts. Fair (setup_of o (only_input ts))) (sym f.is)
    (fair_options o f.text fit (whole_short c.told name input_limit f.text f.whole) (whole_bytes c.told name input_limit f.text f.whole))

tail_same : (text other : List ℕ) (inputs more : List (List ℕ)) → text ∷ inputs ≡ other ∷ more → inputs ≡ more
tail_same text other inputs more h = ap tail h
  where
    tail : List (List ℕ) → List (List ℕ)
    tail [] = []
    tail (x ∷ xs) = xs

pub check_is_fair : (c : Counted) (file : List ℕ) (o : Options) (text : List ℕ) (inputs : List (List ℕ)) → RunsWithinLimits o → CanRead c (files_of (Check file o)) (Whole (text ∷ inputs))
    → Fair (setup_of o (only_input inputs))
check_is_fair c file o text inputs fit can =
    let f = first_read c file (max_bytes Plain) (input_files (names o.input)) (text ∷ inputs) (by_input o.input can) in
    subst (λ ts. Fair (setup_of o (only_input ts))) (sym (tail_same text f.text inputs f.more f.is)) (inputs_fair c o fit (names o.input) f.more f.others)
  where
    names : Option (List ℕ) → List (List ℕ)
    names None = []
    names (Some name) = name ∷ []

    by_input : (input : Option (List ℕ)) → CanRead c (files_of (Check file (record o { input = input }))) (Whole (text ∷ inputs)) → CanRead c ((file, max_bytes Plain) ∷ input_files (names input)) (Whole (text ∷ inputs))
    by_input None h = h
    by_input (Some name) h = h

-- ---- what is said

says_status : (a : Output) (s : ℕ) (err : List ℕ) → a ≡ says s err → a.status ≡ s
says_status a s err is = ap (λ x. x.status) is

says_nothing : (a : Output) (s : ℕ) (err : List ℕ) → a ≡ says s err → a.out ≡ []
says_nothing a s err is = ap (λ x. x.out) is

-- a text was read as a valid module, and this is the answer to the command for it
pub record Answered (c : Counted) (command : Command) (a : Output) : Type 0 where
  pub text : List ℕ
  pub inputs : List (List ℕ)
  pub read : CanRead c (files_of command) (Whole (text ∷ inputs))
  pub module_read : Module
  pub reads : Reads (form_of command) text module_read
  pub valid : Valid module_read
  pub under : Lines
  pub lines : AreLines command text module_read under
  pub answer : IsAnswerToValid IsInstrumented under command inputs module_read a

-- of a command that reads the plain form from a file
module _ (c : Counted) (command : Command) (a : Output) (is_plain : form_of command ≡ Plain) (has_file : IsAnswerWithoutFile IsInstrumented command a → ⊥) where
  abbrev Promise : Type 0
  Promise = NothingRan c (files_of command) a ⊎ Answered c command a

  module _ (text : List ℕ) (inputs : List (List ℕ)) (can : CanRead c (files_of command) (Whole (text ∷ inputs))) where
    text_refused : (err : List ℕ) → a ≡ says 5 err → ((m : Module) → Reads (form_of command) text m → Valid m → ⊥) → Promise
    text_refused err is none =
        let none_plain = λ (m : Module) (reads : Reads Plain text m) (valid : Valid m). none m (subst (λ f. Reads f text m) (sym is_plain) reads) valid in
        inl (record { out = says_nothing a 5 err is; why = inr (inr (says_status a 5 err is, (text, inputs, can, none_plain))) })

    by_module : (m : Module) (under : Lines) → Reads (form_of command) text m → AreLines command text m under → IsAnswerToModule IsInstrumented under command inputs m a → Promise
    by_module m under reads lines (inl (fault, refused, is)) =
        text_refused _ is (λ n other valid. invalid m fault refused (subst Valid (one_reading (form_of command) text n m other reads) valid))
    by_module m under reads lines (inr (valid, is)) =
        inr (record { text = text; inputs = inputs; read = can; module_read = m; reads = reads; valid = valid; under = under; lines = lines; answer = is })

    by_reading : (r : Result Module ReadError) → IsReading (form_of command) text r → IsAnswerToReading IsInstrumented command inputs text r a → Promise
    by_reading (Ok m) reads (under, lines, is) = by_module m under reads lines is
    by_reading (Err (e.Lex cause)) reading is = text_refused _ is (λ m reads valid. let same : Err (e.Lex cause) ≡ Ok m = text_read command inputs text m (Err (e.Lex cause)) a reads reading is in absurd cc)
    by_reading (Err (e.Refused number w token place)) reading is =
        text_refused _ is (λ m reads valid. let same : Err (e.Refused number w token place) ≡ Ok m = text_read command inputs text m (Err (e.Refused number w token place)) a reads reading is in absurd cc)
    by_reading (Err e.NoMemory) reading is = absurd is

  by_files : (r : FilesRead) → CanRead c (files_of command) r → IsAnswerToFiles IsInstrumented command r a → Promise
  by_files (Whole []) can is = absurd (has_file is)
  by_files (Whole (text ∷ inputs)) can (r, reading, is) = by_reading text inputs can r reading is
  by_files (Fault name) can is = inl (record { out = says_nothing a 6 _ is; why = inl (name, can, is) })
  by_files (Long name) can is = inl (record { out = says_nothing a 9 _ is; why = inr (inl (name, can, is)) })

  pub promises : IsAnswerToCommand IsInstrumented c command a → Promise
  promises (r, can, answers) = by_files r can answers

-- ---- checks

-- what a clean verdict says holds where uninitialised bits change
under_changes : (m : Module) → Formed m → Valid m → is_threaded m ≡ false → NoMarks m → (s : Setup) → Fair s → HoldsUnderChanges m s
under_changes m formed valid alone unmarked s fair = clean_changing m formed valid alone unmarked s (record { input = fair.bytes; fill = fair.fill })

-- what `check` says of a text that is read as a valid module
shadow_is_shown : (c : Counted) (file : List ℕ) (o : Options) (a : Output) → RunsWithinLimits o → Answered c (Check file o) a → ShadowShown c file o a
shadow_is_shown c file o a fit h =
    let s = setup_of o (only_input h.inputs) in
    let j = h.answer.0 in
    let made = h.answer.1 in
    let fair = check_is_fair c file o h.text h.inputs fit h.read in
    let some = scheduled o o.schedule fit refl in
    let bytes = texts_are_bytes c (files_of (Check file o)) (h.text ∷ h.inputs) h.read in
    let formed = read_formed Plain h.text h.module_read (tested h.text (All-head (λ text. All IsByte text) h.text h.inputs bytes)) h.reads in
    let unmarked = no_marks j h.module_read made.strips in
    record {
      text = h.text;
      inputs = h.inputs;
      read = h.read;
      module_read = h.module_read;
      reads = h.reads;
      formed = formed;
      valid = h.valid;
      unmarked = unmarked;
      under = h.under;
      lines = h.lines;
      fair = fair;
      shown = h.answer.2 ∙ ap (answer_of_result h.under true h.module_read) (told_same h.module_read j made (wanted_of o) s fair o.schedule some);
      fills = subst (HoldsUnder (is_threaded h.module_read) h.module_read s o.schedule) (made.runs s fair o.schedule some) (made.holds s fair o.schedule some);
      calls_hold = made.calls_hold s fair o.schedule some;
      choices = λ alone. subst (HoldsUnderChoices h.module_read s) (runs_alone h.module_read j made alone s fair) (made.choices alone s fair);
      changes = λ alone. under_changes h.module_read formed h.valid alone unmarked s fair;
    }

pub check_promises : (c : Counted) (file : List ℕ) (o : Options) (a : Output) → RunsWithinLimits o → IsAnswerToCommand IsInstrumented c (Check file o) a
    → NothingRan c (files_of (Check file o)) a ⊎ ShadowShown c file o a
check_promises c file o a fit answer = elim (promises c (Check file o) a refl (λ h. h) answer) [ inl nothing ↦ inl nothing | inr answered ↦ inr (shadow_is_shown c file o a fit answered) ]

pub words_promise : (c : Counted) (words : List (List ℕ)) (file : List ℕ) (o : Options) (a : Output) → command_of words ≡ Ok (Check file o) → IsAnswer IsInstrumented c words a
    → NothingRan c (files_of (Check file o)) a ⊎ ShadowShown c file o a
words_promise c words file o a is answer = check_promises c file o a (command_within words (Check file o) is) (subst (λ r. IsAnswerFor IsInstrumented c r a) is answer)

-- ---- several schedules

-- what `check` says of a text that is read as a valid module
schedules_are_shown : (c : Counted) (file : List ℕ) (o : Options) (runs workers : ℕ) (a : Output) → SchedulesWithinLimits o runs workers → Answered c (CheckSchedules file o runs workers) a
    → SchedulesShown c file o runs workers a
schedules_are_shown c file o runs workers a fit h =
    let m = h.module_read in
    let t = is_threaded m in
    let s = setup_of o (only_input h.inputs) in
    let j = h.answer.0 in
    let made = h.answer.1 in
    let e = h.answer.2 in
    let explored = h.answer.3 in
    let fair = check_is_fair c file o h.text h.inputs fit.options h.read in
    let some = told_some _ _ runs e fit.some_runs explored in
    let again = repeats_under t j s runs e fit.some_runs explored in
    let bytes = texts_are_bytes c (files_of (CheckSchedules file o runs workers)) (h.text ∷ h.inputs) h.read in
    let formed = read_formed Plain h.text m (tested h.text (All-head (λ text. All IsByte text) h.text h.inputs bytes)) h.reads in
    let of_shadow = shadow_explored m j made s fair runs e fit.some_runs explored in
    record {
      text = h.text;
      inputs = h.inputs;
      read = h.read;
      module_read = m;
      reads = h.reads;
      formed = formed;
      valid = h.valid;
      unmarked = no_marks j m made.strips;
      under = h.under;
      lines = h.lines;
      fair = fair;
      explored = e;
      explores = of_shadow;
      shown = h.answer.4
          ∙ (λ i. answer_of_explored h.under m e (told_as (wanted_of o) e.result (made.calls s fair e.schedule some i) (made.ends s fair e.schedule some i) (places_of (made.blind s fair e.schedule some i))));
      repeats = sym (made.runs s fair e.schedule some) ∙ again;
      fills = subst (HoldsUnder t m s e.schedule) again (made.holds s fair e.schedule some);
      calls_hold = made.calls_hold s fair e.schedule some;
      all = λ threads all clean.
          all_schedules_hold m formed h.valid (can_instrument h.text m h.reads) s (record { input = fair.bytes; fill = fair.fill }) runs e
          (subst (λ (t : Bool). IsExplored (shadow_picks_under t m s) (shadow_under t m s) runs e) threads of_shadow) all clean;
    }

pub schedules_promise : (c : Counted) (file : List ℕ) (o : Options) (runs workers : ℕ) (a : Output) → SchedulesWithinLimits o runs workers
    → IsAnswerToCommand IsInstrumented c (CheckSchedules file o runs workers) a
    → NothingRan c (files_of (CheckSchedules file o runs workers)) a ⊎ SchedulesShown c file o runs workers a
schedules_promise c file o runs workers a fit answer =
    elim (promises c (CheckSchedules file o runs workers) a refl (λ h. h) answer) [ inl nothing ↦ inl nothing | inr answered ↦ inr (schedules_are_shown c file o runs workers a fit answered) ]

pub schedules_words_promise : (c : Counted) (words : List (List ℕ)) (file : List ℕ) (o : Options) (runs workers : ℕ) (a : Output) → command_of words ≡ Ok (CheckSchedules file o runs workers)
    → IsAnswer IsInstrumented c words a → NothingRan c (files_of (CheckSchedules file o runs workers)) a ⊎ SchedulesShown c file o runs workers a
schedules_words_promise c words file o runs workers a is answer =
    schedules_promise c file o runs workers a (command_within words (CheckSchedules file o runs workers) is) (subst (λ r. IsAnswerFor IsInstrumented c r a) is answer)

-- ---- explanations

-- what `check` says of the text of which this is what `explain` says
abbrev check_of : (o : Options) (m j : Module) (under : Lines) (inputs : List (List ℕ)) → Output
check_of o m j under inputs = answer_of_result under true m (plain_told_under (wanted_of o) (is_threaded m) j (setup_of o (only_input inputs)) o.schedule)

abbrev explanation_of : (c : Counted) (file : List ℕ) (o : Options) (a : Output) → Answered c (Explain file o) a → Type 0
explanation_of c file o a h = IsExplanation IsInstrumented h.under (wanted_of o) (setup_of o (only_input h.inputs)) h.module_read a

abbrev checked_too : (c : Counted) (file : List ℕ) (o : Options) (a : Output) → (h : Answered c (Explain file o) a) (x : explanation_of c file o a h)
    → Answered c (Check file o) (check_of o h.module_read x.0 h.under h.inputs)
checked_too c file o a h x = record {
  text = h.text;
  inputs = h.inputs;
  read = h.read;
  module_read = h.module_read;
  reads = h.reads;
  valid = h.valid;
  under = h.under;
  lines = h.lines;
  answer = (x.0, x.1, refl);
}

way_shown : WaysStay → (c : Counted) (file : List ℕ) (o : Options) (a : Output) → RunsWithinLimits o → (h : Answered c (Explain file o) a) → is_threaded h.module_read ≡ false → WayShown c file o a
unfolding shadow_is_shown
way_shown stay c file o a fit h alone =
    let fair = check_is_fair c file o h.text h.inputs fit h.read in
    let x = alone_says h.module_read a (explanation_of c file o a h) alone h.answer in
    record {
      checked = check_of o h.module_read x.0 h.under h.inputs;
      shadow_shown = shadow_is_shown c file o (check_of o h.module_read x.0 h.under h.inputs) fit (checked_too c file o a h x);
      alone = alone;
      explained = explained_shadow h.under file h.inputs o h.module_read a alone fair h.answer;
      way = explained_way stay h.under file h.inputs o h.module_read a alone fair h.answer;
      none = explained_none h.under file h.inputs o h.module_read a alone fair h.answer;
    }

-- a module with threads is refused
refused_or_shown : WaysStay → (c : Counted) (file : List ℕ) (o : Options) (a : Output) → RunsWithinLimits o → (h : Answered c (Explain file o) a) (t : Bool) → is_threaded h.module_read ≡ t
    → ThreadsRefused c (Explain file o) a ⊎ WayShown c file o a
refused_or_shown stay c file o a fit h true threads = inl (record {
  text = h.text;
  inputs = h.inputs;
  read = h.read;
  module_read = h.module_read;
  reads = h.reads;
  valid = h.valid;
  threads = threads;
  refused = explain_refused h.under file o h.inputs h.module_read a threads h.answer;
})
refused_or_shown stay c file o a fit h false alone = inr (way_shown stay c file o a fit h alone)

pub explain_promises : WaysStay → (c : Counted) (file : List ℕ) (o : Options) (a : Output) → RunsWithinLimits o → IsAnswerToCommand IsInstrumented c (Explain file o) a
    → NothingRan c (files_of (Explain file o)) a ⊎ (ThreadsRefused c (Explain file o) a ⊎ WayShown c file o a)
explain_promises stay c file o a fit answer =
    elim (promises c (Explain file o) a refl (λ h. h) answer) [
      | inl nothing ↦ inl nothing
      | inr answered ↦ inr (refused_or_shown stay c file o a fit answered (is_threaded answered.module_read) refl)
    ]

pub explaining_words_promise : WaysStay → (c : Counted) (words : List (List ℕ)) (file : List ℕ) (o : Options) (a : Output) → command_of words ≡ Ok (Explain file o) → IsAnswer IsInstrumented c words a
    → NothingRan c (files_of (Explain file o)) a ⊎ (ThreadsRefused c (Explain file o) a ⊎ WayShown c file o a)
explaining_words_promise stay c words file o a is answer =
    explain_promises stay c file o a (command_within words (Explain file o) is).runs (subst (λ r. IsAnswerFor IsInstrumented c r a) is answer)

-- ---- many inputs

-- inputs that are read from files are bytes within their limit
inputs_are_fair : (c : Counted) (o : Options) → RunsWithinLimits o → (names : List (List ℕ)) (inputs : List (List ℕ)) → CanRead c (input_files names) (Whole inputs) → All (λ input. Fair (setup_of o input)) inputs
inputs_are_fair c o fit [] inputs can = subst (All (λ input. Fair (setup_of o input))) (sym (none_read c inputs can)) (All-nil (λ input. Fair (setup_of o input)))
inputs_are_fair c o fit (name ∷ names) inputs can =
    let f = first_read c name input_limit (input_files names) inputs can in
    subst (All (λ input. Fair (setup_of o input))) (sym f.is)
    (All-cons (λ input. Fair (setup_of o input)) f.text f.more
    (fair_options o f.text fit (whole_short c.told name input_limit f.text f.whole) (whole_bytes c.told name input_limit f.text f.whole))
    (inputs_are_fair c o fit names f.more f.others))

corpus_is_fair : (c : Counted) (file : List ℕ) (names : List (List ℕ)) (o : Options) (workers : ℕ) (text : List ℕ) (inputs : List (List ℕ)) → RunsWithinLimits o
    → CanRead c (files_of (Corpus file names o workers)) (Whole (text ∷ inputs)) → All (λ input. Fair (setup_of o input)) inputs
corpus_is_fair c file names o workers text inputs fit can =
    let f = first_read c file (max_bytes Plain) (input_files names) (text ∷ inputs) can in
    subst (All (λ input. Fair (setup_of o input))) (sym (tail_same text f.text inputs f.more f.is)) (inputs_are_fair c o fit names f.more f.others)

all_hold : (m j : Module) → IsInstrumented m j → Formed m → Valid m → is_threaded m ≡ false → NoMarks m → (o : Options) (inputs : List (List ℕ)) → All (λ input. Fair (setup_of o input)) inputs
    → All (λ input. InputHolds m (setup_of o input)) inputs
all_hold m j made formed valid alone unmarked o [] fair = All-nil (λ input. InputHolds m (setup_of o input))
all_hold m j made formed valid alone unmarked o (input ∷ rest) fair =
    let s = setup_of o input in
    let here : Fair s = All-head (λ input. Fair (setup_of o input)) input rest fair in
    All-cons (λ input. InputHolds m (setup_of o input)) input rest
    (record {
      fair = here;
      fills = holds_alone m j made alone s here;
      calls_hold = calls_alone m j made alone s here;
      choices = subst (HoldsUnderChoices m s) (runs_alone m j made alone s here) (made.choices alone s here);
      changes = under_changes m formed valid alone unmarked s here;
    })
    (all_hold m j made formed valid alone unmarked o rest (All-tail (λ input. Fair (setup_of o input)) input rest fair))

module _ (c : Counted) (file : List ℕ) (names : List (List ℕ)) (o : Options) (workers : ℕ) (a : Output) (fit : RunsWithinLimits o) (h : Answered c (Corpus file names o workers) a) where
  corpus_is_shown : is_threaded h.module_read ≡ false → CorpusShown c file names o workers a
  corpus_is_shown alone =
      let x = alone_says h.module_read a (AreSections IsInstrumented h.under names o h.inputs h.module_read a) alone h.answer in
      let fair = corpus_is_fair c file names o workers h.text h.inputs fit h.read in
      let bytes = texts_are_bytes c (files_of (Corpus file names o workers)) (h.text ∷ h.inputs) h.read in
      let formed = read_formed Plain h.text h.module_read (tested h.text (All-head (λ text. All IsByte text) h.text h.inputs bytes)) h.reads in
      let unmarked = no_marks x.0 h.module_read x.1.strips in
      record {
        text = h.text;
        inputs = h.inputs;
        read = h.read;
        module_read = h.module_read;
        reads = h.reads;
        formed = formed;
        valid = h.valid;
        unmarked = unmarked;
        alone = alone;
        under = h.under;
        lines = h.lines;
        shown = corpus_shown h.under file names h.inputs o workers h.module_read a alone fair h.answer;
        holds = all_hold h.module_read x.0 x.1 formed h.valid alone unmarked o h.inputs fair;
      }

  refused_or_sections : (t : Bool) → is_threaded h.module_read ≡ t → ThreadsRefused c (Corpus file names o workers) a ⊎ CorpusShown c file names o workers a
  refused_or_sections true threads = inl (record {
    text = h.text;
    inputs = h.inputs;
    read = h.read;
    module_read = h.module_read;
    reads = h.reads;
    valid = h.valid;
    threads = threads;
    refused = corpus_refused h.under file names o workers h.inputs h.module_read a threads h.answer;
  })
  refused_or_sections false alone = inr (corpus_is_shown alone)

pub corpus_promises : (c : Counted) (file : List ℕ) (names : List (List ℕ)) (o : Options) (workers : ℕ) (a : Output) → RunsWithinLimits o → IsAnswerToCommand IsInstrumented c (Corpus file names o workers) a
    → NothingRan c (files_of (Corpus file names o workers)) a ⊎ (ThreadsRefused c (Corpus file names o workers) a ⊎ CorpusShown c file names o workers a)
corpus_promises c file names o workers a fit answer =
    elim (promises c (Corpus file names o workers) a refl (λ h. h) answer) [
      | inl nothing ↦ inl nothing
      | inr answered ↦ inr (refused_or_sections c file names o workers a fit answered (is_threaded answered.module_read) refl)
    ]

pub corpus_words_promise : (c : Counted) (words : List (List ℕ)) (file : List ℕ) (names : List (List ℕ)) (o : Options) (workers : ℕ) (a : Output) → command_of words ≡ Ok (Corpus file names o workers) → IsAnswer IsInstrumented c words a
    → NothingRan c (files_of (Corpus file names o workers)) a ⊎ (ThreadsRefused c (Corpus file names o workers) a ⊎ CorpusShown c file names o workers a)
corpus_words_promise c words file names o workers a is answer =
    corpus_promises c file names o workers a (command_within words (Corpus file names o workers) is).runs (subst (λ r. IsAnswerFor IsInstrumented c r a) is answer)
