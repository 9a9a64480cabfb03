-- What is to be said is one answer, but for the path of a use.
use Rattle.std.proofs.Common.{◌≡◌, ◌≢◌, ◌<◌, ◌≤◌, Bool, true, false, List, ℕ, [], ◌∷◌, length, map, Option, Some, None, Result, Ok, Err, refl, sym, ◌∙◌, ap, subst, ◌⊎◌, inl, inr, arith}
use Rattle.std.proofs.lemmas.Option.{same_Some, none-some}
use Rattle.ms_io.specs.Counts.{Rose}
use Rattle.ms_io.specs.Reading.{Holdings, IsWholeFile, IsAbsent, IsTooLong}
use Rattle.ms_ir.specs.declared.syntax.Module.{Module}
use Rattle.ms_ir.specs.ThreadCalls.{is_threaded}
use Rattle.ms_runs.specs.declared.runs.Setup.{Setup}
use Rattle.ms_corpus.specs.declared.wanted.Wanted.{Wanted}
use Rattle.ms_corpus.specs.Wanted.{plain_wanted}
use Rattle.ms_threads_explore.specs.declared.explorer.Explored.{Explored}
use Rattle.ms_ir.specs.declared.forms.Form.{Form}
use Rattle.ms_read_body.specs.declared.errors.ReadError.{ReadError}
use Rattle.ms_read_body.specs.declared.errors.ReadError.TheVariants as e
use Rattle.ms_read_top.specs.Reading.{IsReading}
use Rattle.ms_read_top.proofs.Exactly.{module_exactly, lex_exactly, refused_exactly}
use Rattle.ms_check_valid.specs.Refusals.{Fault as ModuleFault, Undefined}
use Rattle.ms_check_valid.proofs.Refused.{invalid}
use Rattle.ms_check.specs.Faults.{without_path}
use Rattle.ms_check.proofs.OneAnswer.{one_answer as one_fault}
use Rattle.ms_pass_form_laws.proofs.ElidedOnce.{elided_once}
use Rattle.ms_text_grammar.specs.LayoutModules.{written}
use Rattle.ms_text_grammar.proofs.Readings.{same_tokens}
use Rattle.ms_where_places.specs.Marks.{AreMarks}
use Rattle.ms_where_places.proofs.One.{one_list_of_marks}
use Rattle.ms_where.specs.Lines.{lines_of_site}
use Rattle.ms_report.specs.WithLines.{Lines}
use Rattle.ms_top.specs.declared.output.Output.{Output}
use Rattle.ms_words.specs.declared.commands.Command.{Command}
use Rattle.ms_words.specs.declared.commands.Command.TheVariants.{Instrument, Run, Check, CheckSchedules, Explain, Corpus, Gen, Help, Version}
use Rattle.ms_words.specs.declared.commands.WordsError.{WordsError}
use Rattle.ms_words.specs.declared.commands.Options.{Options}
use Rattle.ms_words.specs.Words.{command_of, defaults}
use Rattle.ms_gen.specs.Generator.{generated}
use Rattle.ms_top.specs.Command.{form_of, files_of, located_file, only_input, setup_of, wanted_of}
use Rattle.ms_top.specs.Files.{Counted, FilesRead, Whole, Fault, Long, after, IsAtFault, IsLong, CanRead}
use Rattle.ms_top.specs.Instrumented.{IsInstrumented}
use Rattle.ms_top.specs.Lines.{AreLinesIn, AreLines, fault_text_with}
use Rattle.ms_threads_explore.specs.Explorations.{IsExplored}
use Rattle.ms_top.specs.Runs.{plain_under, plain_picks_under, plain_told_under}
use Rattle.ms_report.specs.SummaryTexts.{summary_of}
use Rattle.ms_top.specs.Said.{answer_of, answer_of_result, answer_of_explained, answer_of_explored, answer_of_results, explored_told, status_of, says, DifferInPath, UnlessThreaded, IsExplanation, AreSections, IsAnswerOfGen, IsAnswerOfSchedules, IsAnswerWithoutFile, IsAnswerToValid, IsAnswerToModule, IsAnswerToReading, IsAnswerToText, IsAnswerToTexts, IsAnswerToFiles, IsAnswerToCommand, IsAnswerFor, IsAnswer}
use Rattle.ms_top.proofs.Exploring.{explored_once}

-- ---- texts

-- a text comes to one thing when it is read, where memory isn't wanting
pub one_reading : (form : Form) (text : List ℕ) (r s : Result Module ReadError) → IsReading form text r → IsReading form text s
    → r ≢ Err e.NoMemory → s ≢ Err e.NoMemory → s ≡ r
one_reading form text (Ok m) s is same some other = elim ((module_exactly form text s same m).1 is) [ inl p ↦ p | inr none ↦ absurd (other none) ]
one_reading form text (Err (e.Lex cause)) s is same some other = elim ((lex_exactly form text s same cause).1 is.0) [ inl p ↦ p | inr none ↦ absurd (other none) ]
one_reading form text (Err (e.Refused number w token place)) s is same some other =
    elim ((refused_exactly form text s same number w token place).1 is) [ inl p ↦ p | inr none ↦ absurd (other none) ]
one_reading form text (Err e.NoMemory) s is same some other = absurd (some refl)

-- a text has its tokens once, and so what stands in them and the lines under each site are one
one_lines_in : (file : Option (List ℕ)) (form : Form) (text : List ℕ) (m : Module) (under other : Lines) → AreLinesIn file form text m under → AreLinesIn file form text m other → under ≡ other
one_lines_in None form text m under other p q = p ∙ sym q
one_lines_in (Some file) form text m under other (tokens, has, marks, are, is) (again, have, found, stand, same) =
    let e : again ≡ tokens = same_tokens form text tokens again has have in
    let f : marks ≡ found = one_list_of_marks form text tokens marks found are (subst (λ ts. AreMarks form text ts found) e stand) in
    is ∙ ap (λ ms. lines_of_site file (record { text = text; tokens = tokens; marks = ms }) m) f ∙ ap (λ ts. lines_of_site file (record { text = text; tokens = ts; marks = found }) m) (sym e) ∙ sym same

pub one_lines : (command : Command) (text : List ℕ) (m : Module) (under other : Lines) → AreLines command text m under → AreLines command text m other → under ≡ other
one_lines command text m under other p q = one_lines_in (located_file command) (form_of command) text m under other p q

-- two faults that differ in no more than the path
of_faults : (under : Lines) (f g : ModuleFault) (a b : Output) → without_path f ≡ without_path g → a ≡ says 5 (fault_text_with under f) → b ≡ says 5 (fault_text_with under g) → (a ≡ b) ⊎ DifferInPath a b
of_faults under (Undefined s path) (Undefined t other) a b e p q =
    let same : s ≡ t = cc in
    inr (under, t, path, other, p ∙ ap (λ site. says 5 (fault_text_with under (Undefined site path))) same, q)
of_faults under (Undefined s path) g a b e p q = absurd cc
of_faults under f (Undefined t other) a b e p q = absurd cc
of_faults under f g a b e p q = inl (p ∙ ap (λ x. says 5 (fault_text_with under x)) e ∙ sym q)

-- the pass makes one module
pub made_once : (m j k : Module) → IsInstrumented m j → IsInstrumented m k → j ≡ k
made_once m j k p q = elided_once m j k p.elided q.elided

of_gen : (run : Bool) (m : Module) (a b : Output) → IsAnswerOfGen IsInstrumented run m a → IsAnswerOfGen IsInstrumented run m b → a ≡ b
of_gen true m a b (j, p, is) (k, q, same) =
    is ∙ ap (λ n. let r = plain_under (is_threaded m) n (setup_of defaults []) defaults.schedule in answer_of (status_of r) (summary_of m r) []) (made_once m j k p q) ∙ sym same
of_gen false m a b p q = p ∙ sym q

-- two answers of a command that takes no schedule
by_threads : (t : Bool) (a b : Output) (P Q : Type 0) → (P → Q → a ≡ b) → UnlessThreaded t a P → UnlessThreaded t b Q → a ≡ b
by_threads true a b P Q h p q = p ∙ sym q
by_threads false a b P Q h p q = h p q

of_sections : (under : Lines) (names : List (List ℕ)) (o : Options) (inputs : List (List ℕ)) (m : Module) (a b : Output) → AreSections IsInstrumented under names o inputs m a
    → AreSections IsInstrumented under names o inputs m b → a ≡ b
of_sections under names o inputs m a b (j, p, is) (k, q, same) =
    is ∙ ap (λ n. answer_of_results under m names (map (λ input. plain_wanted (wanted_of o) n (setup_of o input)) inputs)) (made_once m j k p q) ∙ sym same

of_explanation : (under : Lines) (wanted : Wanted) (s : Setup) (m : Module) (a b : Output) → IsExplanation IsInstrumented under wanted s m a → IsExplanation IsInstrumented under wanted s m b → a ≡ b
of_explanation under wanted s m a b (j, p, is) (k, q, same) = is ∙ ap (λ n. answer_of_explained under wanted.calls m s (plain_wanted wanted n s)) (made_once m j k p q) ∙ sym same

of_schedules : (under : Lines) (wanted : Wanted) (s : Setup) (runs : ℕ) (m : Module) (a b : Output) → IsAnswerOfSchedules IsInstrumented under wanted s runs m a
    → IsAnswerOfSchedules IsInstrumented under wanted s runs m b → a ≡ b
of_schedules under wanted s runs m a b (j, p, e, explored, is) (k, q, f, again, same) =
    let t = is_threaded m in
    let back = subst (λ (n : Module). IsExplored (plain_picks_under t n s) (plain_under t n s) runs f) (made_once m k j q p) again in
    is
    ∙ ap (λ (x : Explored). answer_of_explored under m x (explored_told wanted t j s x)) (explored_once (plain_picks_under t j s) (plain_under t j s) runs e f explored back)
    ∙ ap (λ (n : Module). answer_of_explored under m f (explored_told wanted t n s f)) (made_once m j k p q)
    ∙ sym same

of_valid : (under : Lines) (command : Command) (inputs : List (List ℕ)) (m : Module) (a b : Output) → IsAnswerToValid IsInstrumented under command inputs m a
    → IsAnswerToValid IsInstrumented under command inputs m b → a ≡ b
of_valid under (Instrument file) inputs m a b (j, p, is) (k, q, same) = is ∙ ap (λ n. answer_of 0 (written n) []) (made_once m j k p q) ∙ sym same
of_valid under (Run file o) inputs m a b p q = p ∙ sym q
of_valid under (CheckSchedules file o runs workers) inputs m a b p q = of_schedules under (wanted_of o) (setup_of o (only_input inputs)) runs m a b p q
of_valid under (Corpus file names o workers) inputs m a b p q = by_threads (is_threaded m) a b _ _ (of_sections under names o inputs m a b) p q
of_valid under (Explain file o) inputs m a b p q = by_threads (is_threaded m) a b _ _ (of_explanation under (wanted_of o) (setup_of o (only_input inputs)) m a b) p q
of_valid under (Gen seed functions run) inputs m a b p q = of_gen run m a b p q
of_valid under Help inputs m a b p q = p ∙ sym q
of_valid under Version inputs m a b p q = p ∙ sym q
of_valid under (Check file o) inputs m a b (j, p, is) (k, q, same) =
    is ∙ ap (λ n. answer_of_result under true m (plain_told_under (wanted_of o) (is_threaded m) n (setup_of o (only_input inputs)) o.schedule)) (made_once m j k p q) ∙ sym same

module _ (command : Command) (inputs : List (List ℕ)) where
  of_module : (under : Lines) (m : Module) (a b : Output) → IsAnswerToModule IsInstrumented under command inputs m a → IsAnswerToModule IsInstrumented under command inputs m b → (a ≡ b) ⊎ DifferInPath a b
  of_module under m a b (inl (f, p, is)) (inl (g, q, same)) = of_faults under f g a b (one_fault m f g p q) is same
  of_module under m a b (inl (f, p, is)) (inr (valid, q)) = absurd (invalid m f p valid)
  of_module under m a b (inr (valid, p)) (inl (g, q, same)) = absurd (invalid m g q valid)
  of_module under m a b (inr (valid, p)) (inr (other, q)) = inl (of_valid under command inputs m a b p q)

  module _ (text : List ℕ) where
    pub memory_is_there : (r : Result Module ReadError) (a : Output) → IsAnswerToReading IsInstrumented command inputs text r a → r ≢ Err e.NoMemory
    memory_is_there r a is none = subst (λ s. IsAnswerToReading IsInstrumented command inputs text s a) none is

    of_reading : (r : Result Module ReadError) (a b : Output) → IsAnswerToReading IsInstrumented command inputs text r a → IsAnswerToReading IsInstrumented command inputs text r b
        → (a ≡ b) ⊎ DifferInPath a b
    of_reading (Ok m) a b (under, are, p) (other, show, q) =
        of_module under m a b p (subst (λ l. IsAnswerToModule IsInstrumented l command inputs m b) (one_lines command text m other under show are) q)
    of_reading (Err (e.Lex cause)) a b p q = inl (p ∙ sym q)
    of_reading (Err (e.Refused number w token place)) a b p q = inl (p ∙ sym q)
    of_reading (Err e.NoMemory) a b p q = absurd p

    pub of_text : (a b : Output) → IsAnswerToText IsInstrumented command inputs text a → IsAnswerToText IsInstrumented command inputs text b → (a ≡ b) ⊎ DifferInPath a b
    of_text a b (r, is, p) (s, same, q) =
        let e = one_reading (form_of command) text r s is same (memory_is_there r a p) (memory_is_there s b q) in
        of_reading r a b p (subst (λ t. IsAnswerToReading IsInstrumented command inputs text t b) e q)

pub one_answer : (command : Command) (inputs : List (List ℕ)) (text : List ℕ) (a b : Output)
    → IsAnswerToText IsInstrumented command inputs text a → IsAnswerToText IsInstrumented command inputs text b → (a ≡ b) ⊎ DifferInPath a b
one_answer command inputs text a b p q = of_text command inputs text a b p q

-- ---- files

module _ (c : Counted) (files : Holdings) (told : c.told ≡ Some files) (steady : Rose c.faults c.faults_after → ⊥) where
  is_whole : (name : List ℕ) (limit : ℕ) (text : List ℕ) → IsWholeFile c.told name limit text → (files name ≡ Some text) × (length text ≤ limit)
  is_whole name limit text h = let whole = subst (λ t. IsWholeFile t name limit text) told h in (whole.0, whole.1)

  is_absent : (name : List ℕ) → IsAtFault c name → files name ≡ None
  is_absent name (inl h) = subst (λ t. IsAbsent t name c.faults c.faults_after) told h
  is_absent name (inr rose) = absurd (steady rose)

  is_long : (name : List ℕ) (limit : ℕ) → IsLong c name limit → (bytes : List ℕ) × (files name ≡ Some bytes) × (limit < length bytes)
  is_long name limit (n, h) = (subst (λ t. IsTooLong t name limit n c.taken c.taken_after) told h).1

  both : (name : List ℕ) (limit : ℕ) (text : List ℕ) → IsWholeFile c.told name limit text → IsLong c name limit → ⊥
  both name limit text whole long =
      let w = is_whole name limit text whole in
      let l = is_long name limit long in
      let e : length text ≡ length l.0 = ap length (same_Some text l.0 (sym w.0 ∙ l.1)) in
      omega (arith, e, w.1, l.2)

  pub one_read : (fs : List (List ℕ × ℕ)) (r s : FilesRead) → CanRead c fs r → CanRead c fs s → r ≡ s
  one_read [] r s p q = p ∙ sym q
  one_read ((name, limit) ∷ rest) r s (inl (f, p)) (inl (g, q)) = p ∙ sym q
  one_read ((name, limit) ∷ rest) r s (inl (f, p)) (inr (inl (long, q))) = let l = is_long name limit long in absurd (none-some l.0 (sym (is_absent name f) ∙ l.1))
  one_read ((name, limit) ∷ rest) r s (inl (f, p)) (inr (inr (text, whole, later, read, q))) =
      absurd (none-some text (sym (is_absent name f) ∙ (is_whole name limit text whole).0))
  one_read ((name, limit) ∷ rest) r s (inr (inl (long, p))) (inl (g, q)) = let l = is_long name limit long in absurd (none-some l.0 (sym (is_absent name g) ∙ l.1))
  one_read ((name, limit) ∷ rest) r s (inr (inl (long, p))) (inr (inl (other, q))) = p ∙ sym q
  one_read ((name, limit) ∷ rest) r s (inr (inl (long, p))) (inr (inr (text, whole, later, read, q))) = absurd (both name limit text whole long)
  one_read ((name, limit) ∷ rest) r s (inr (inr (text, whole, later, read, p))) (inl (g, q)) =
      absurd (none-some text (sym (is_absent name g) ∙ (is_whole name limit text whole).0))
  one_read ((name, limit) ∷ rest) r s (inr (inr (text, whole, later, read, p))) (inr (inl (long, q))) = absurd (both name limit text whole long)
  one_read ((name, limit) ∷ rest) r s (inr (inr (text, whole, later, read, p))) (inr (inr (other, all, last, again, q))) =
      let e : text ≡ other = same_Some text other (sym (is_whole name limit text whole).0 ∙ (is_whole name limit other all).0) in
      let f : later ≡ last = one_read rest later last read again in
      p ∙ ap (λ t. after t later) e ∙ ap (after other) f ∙ sym q

  without_file : (command : Command) (a b : Output) → IsAnswerWithoutFile IsInstrumented command a → IsAnswerWithoutFile IsInstrumented command b → a ≡ b
  without_file (Instrument file) a b p q = absurd p
  without_file (Run file o) a b p q = absurd p
  without_file (Check file o) a b p q = absurd p
  without_file (CheckSchedules file o runs workers) a b p q = absurd p
  without_file (Explain file o) a b p q = absurd p
  without_file (Corpus file names o workers) a b p q = absurd p
  without_file (Gen seed functions run) a b p q = of_gen run (generated seed functions) a b p q
  without_file Help a b p q = p ∙ sym q
  without_file Version a b p q = p ∙ sym q

  of_texts : (command : Command) (texts : List (List ℕ)) (a b : Output) → IsAnswerToTexts IsInstrumented command texts a → IsAnswerToTexts IsInstrumented command texts b
      → (a ≡ b) ⊎ DifferInPath a b
  of_texts command [] a b p q = inl (without_file command a b p q)
  of_texts command (text ∷ inputs) a b p q = of_text command inputs text a b p q

  of_files : (command : Command) (r : FilesRead) (a b : Output) → IsAnswerToFiles IsInstrumented command r a → IsAnswerToFiles IsInstrumented command r b
      → (a ≡ b) ⊎ DifferInPath a b
  of_files command (Fault name) a b p q = inl (p ∙ sym q)
  of_files command (Long name) a b p q = inl (p ∙ sym q)
  of_files command (Whole texts) a b p q = of_texts command texts a b p q

  of_command : (command : Command) (a b : Output) → IsAnswerToCommand IsInstrumented c command a → IsAnswerToCommand IsInstrumented c command b → (a ≡ b) ⊎ DifferInPath a b
  of_command command a b (r, can, p) (s, again, q) =
      of_files command r a b p (subst (λ x. IsAnswerToFiles IsInstrumented command x b) (one_read (files_of command) s r again can) q)

  of_words : (r : Result Command WordsError) (a b : Output) → IsAnswerFor IsInstrumented c r a → IsAnswerFor IsInstrumented c r b → (a ≡ b) ⊎ DifferInPath a b
  of_words (Ok command) a b p q = of_command command a b p q
  of_words (Err fault) a b p q = inl (p ∙ sym q)

pub one_answer_to_commands : (c : Counted) (files : Holdings) (command : Command) (a b : Output) → c.told ≡ Some files → (Rose c.faults c.faults_after → ⊥)
    → IsAnswerToCommand IsInstrumented c command a → IsAnswerToCommand IsInstrumented c command b → (a ≡ b) ⊎ DifferInPath a b
one_answer_to_commands c files command a b told steady p q = of_command c files told steady command a b p q

pub one_answer_to_words : (c : Counted) (files : Holdings) (words : List (List ℕ)) (a b : Output) → c.told ≡ Some files → (Rose c.faults c.faults_after → ⊥)
    → IsAnswer IsInstrumented c words a → IsAnswer IsInstrumented c words b → (a ≡ b) ⊎ DifferInPath a b
one_answer_to_words c files words a b told steady p q = of_words c files told steady (command_of words) a b p q
