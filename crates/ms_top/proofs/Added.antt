-- What is said with the lines under each site is what is said without them, once these lines are taken out.
use Rattle.std.proofs.Common.{◌≡◌, inl, inr, ℕ, Bool, true, false, List, [], ◌∷◌, ◌++◌, length, map, eqb, if◌then◌else◌, Option, Some, None, Result, Ok, Err, refl, sym, ap, ◌∙◌, append-nil, append_assoc, subst}
use Rattle.std.specs.Prelude.{not}
use Rattle.std.proofs.Math.Path.{ap₂}
use Rattle.ms_ir.specs.declared.syntax.Module.{Module}
use Rattle.ms_ir.specs.ThreadCalls.{is_threaded}
use Rattle.ms_ir.specs.declared.forms.Form.{Form}
use Rattle.ms_ir.specs.declared.forms.Form.TheVariants.{Plain}
use Rattle.ms_runs.specs.declared.runs.Calls.{Calls}
use Rattle.ms_runs.specs.declared.runs.RunResult.{RunResult}
use Rattle.ms_runtime.specs.declared.runs.ToldRun.{ToldRun}
use Rattle.ms_corpus.specs.Wanted.{silent, plain_wanted}
use Rattle.ms_runs.specs.declared.runs.Report.{Report}
use Rattle.ms_runs.specs.declared.runs.Setup.{Setup}
use Rattle.ms_runs.specs.Verdict.{verdict_of}
use Rattle.ms_trail_moves.specs.declared.moves.Source.{Source}
use Rattle.ms_trail_moves.specs.declared.moves.Move.{Move}
use Rattle.ms_trail_moves.specs.declared.moves.Hop.{Hop}
use Rattle.ms_trail_moves.specs.Scanned.{trail_of}
use Rattle.ms_trail.specs.declared.found.Trace.{Trace}
use Rattle.ms_trail.specs.declared.found.Trace.TheVariants.{NoReport, TooLong, Found}
use Rattle.ms_read_body.specs.declared.errors.ReadError.{ReadError}
use Rattle.ms_read_body.specs.declared.errors.ReadError.TheVariants as e
use Rattle.ms_read_top.specs.Reading.{IsReading}
use Rattle.ms_check_valid.specs.Refusals.{Fault}
use Rattle.ms_where_places.specs.Indented.{IsIndented, unindented}
use Rattle.ms_where.proofs.Indents.{of_site, none as none_indented}
use Rattle.ms_report.specs.declared.refusals.Refusal.TheVariants.{Read}
use Rattle.ms_report.specs.FaultTexts.{fault_text}
use Rattle.ms_report.specs.RefusalTexts.{refusal_text}
use Rattle.ms_report.specs.ReportTexts.{report_text_of}
use Rattle.ms_report.specs.RunTexts.{closing_of}
use Rattle.ms_report.specs.WithLines.{Lines, no_lines, fault_site, reports_with, closing_text_with}
use Rattle.ms_report.proofs.WithoutLines.{none_under, reports_alone, closing_alone}
use Rattle.ms_report.proofs.Unindented.{fault_left, refusal_left, threads_left}
use Rattle.ms_report.specs.CallTexts.{reports_calling, closing_calling}
use Rattle.ms_report.proofs.BlindLines.{ending_left, ending_before}
use Rattle.ms_report.proofs.CallLines.{none_called, none_called_last, calling_before}
use Rattle.ms_report.proofs.TrailLines.{trail_calling_left}
use Rattle.ms_words.specs.declared.commands.Command.{Command}
use Rattle.ms_words.specs.declared.commands.Command.TheVariants.{Run, Check, CheckSchedules, Explain, Corpus}
use Rattle.ms_words.specs.declared.commands.Options.{Options}
use Rattle.ms_threads_schedules_laws.specs.Promise.{is_clean}
use Rattle.ms_threads_explore.specs.declared.explorer.Explored.{Explored}
use Rattle.ms_top.specs.declared.output.Output.{Output}
use Rattle.ms_top.specs.Added.{with_locations, without_places, without_lines, without_any_lines, CorpusAdds}
use Rattle.ms_top.specs.Command.{form_of, located_file, only_input, setup_of, wanted_of}
use Rattle.ms_top.specs.Explained.{root_calls, way_with, trace_with, followed, no_report, explained_with}
use Rattle.ms_top.specs.Lines.{AreLinesIn, AreLines, fault_text_with}
use Rattle.ms_top.specs.Runs.{plain_told_under}
use Rattle.ms_top.specs.Said.{answer_of, answer_of_result, explored_told, answer_of_explored, answer_of_results, closing_text, run_text, says, status_of, tried_text, UnlessThreaded, IsExplanation, AreSections, IsAnswerToModule, IsAnswerToReading, IsAnswerToText}

-- ---- lines

-- no line under any site is indented
none_are_indented : (under : Lines) → under ≡ no_lines → (site : ℕ) → IsIndented (under site)
none_are_indented under none site = subst (λ (lines : Lines). IsIndented (lines site)) (sym none) none_indented

all_indented : (file : Option (List ℕ)) (form : Form) (text : List ℕ) (m : Module) (under : Lines) → AreLinesIn file form text m under → (site : ℕ) → IsIndented (under site)
all_indented None form text m under are site = none_are_indented under are site
all_indented (Some file) form text m under (tokens, has, marks, stand, is) site =
    subst (λ (lines : Lines). IsIndented (lines site)) (sym is) (of_site file (record { text = text; tokens = tokens; marks = marks }) m site)

-- ---- pieces

-- where no calls are told there are no lines of theirs
pub run_silent : (under : Lines) (verdict : Bool) (m : Module) (r : RunResult) → run_text under verdict m (silent r) ≡ reports_with under m 1 r.reports ++ closing_text_with under m r verdict
run_silent under verdict m r =
    ap₂ (λ (reports closing : List ℕ). reports ++ closing) (none_called under m 0 r.reports) (append-nil (closing_calling under m r None verdict) ∙ none_called_last under m r verdict)

pub run_alone : (verdict : Bool) (m : Module) (r : RunResult) → run_text no_lines verdict m (silent r) ≡ report_text_of m r ++ closing_of m r verdict
run_alone verdict m r = run_silent no_lines verdict m r ∙ ap₂ (λ (reports closing : List ℕ). reports ++ closing) (reports_alone m 1 r.reports) (closing_alone m r verdict)

pub fault_alone : (f : Fault) → fault_text_with no_lines f ≡ fault_text f
fault_alone f = ap (λ (lines : List ℕ). fault_text f ++ lines) (none_under (fault_site (Some f))) ∙ append-nil (fault_text f)

ends_left : (under : Lines) → ((site : ℕ) → IsIndented (under site)) → (verdict : Bool) (m : Module) (t : ToldRun) → unindented (closing_text under verdict m t) ≡ closing_text no_lines verdict m (without_places t)
ends_left under all verdict m t = ending_left under all m t.result t.end_calls verdict t.places

run_left : (under : Lines) → ((site : ℕ) → IsIndented (under site)) → (verdict : Bool) (m : Module) (t : ToldRun) → unindented (run_text under verdict m t) ≡ run_text no_lines verdict m (without_places t)
run_left under all verdict m t =
    let r = t.result in
    calling_before under all m t.calls r.reports (closing_text under verdict m t)
    ∙ ap (λ (closing : List ℕ). reports_calling no_lines m t.calls 0 r.reports ++ closing) (ends_left under all verdict m t)

module _ (under : Lines) (all : (site : ℕ) → IsIndented (under site)) (m : Module) where
  way_left : (wanted : Bool) (s : Setup) (moves : List Move) (at : Source) (hops : Option (List Hop)) → unindented (way_with under wanted m s moves at hops) ≡ way_with no_lines wanted m s moves at hops
  way_left wanted s moves at None = refl
  way_left wanted s moves at (Some hops) = trail_calling_left under all m moves at hops (root_calls wanted m s moves hops)

  trace_left : (wanted : Bool) (s : Setup) (t : Trace) → unindented (trace_with under wanted m s t) ≡ trace_with no_lines wanted m s t
  trace_left wanted s NoReport = refl
  trace_left wanted s (TooLong n) = refl
  trace_left wanted s (Found moves at) = way_left wanted s moves at (trail_of moves at)

  report_left : (wanted : Bool) (s : Setup) (rs : List Report) (calls : List Calls) (t : Trace) (none : Bool)
      → unindented (if none then no_report else reports_calling under m calls 0 rs ++ trace_with under wanted m s t)
      ≡ (if none then no_report else reports_calling no_lines m calls 0 rs ++ trace_with no_lines wanted m s t)
  report_left wanted s rs calls t true = refl
  report_left wanted s rs calls t false =
      calling_before under all m calls rs (trace_with under wanted m s t) ∙ ap (λ (way : List ℕ). reports_calling no_lines m calls 0 rs ++ way) (trace_left wanted s t)

  explained_left : (wanted : Bool) (s : Setup) (t : ToldRun) → unindented (explained_with under wanted m s t) ≡ explained_with no_lines wanted m s t
  explained_left wanted s t = report_left wanted s t.result.reports t.calls (followed m s) (eqb (length t.result.reports) 0)

tried_left : (under : Lines) → ((site : ℕ) → IsIndented (under site)) → (m : Module) (e : Explored) (t : ToldRun)
    → unindented (run_text under true m t ++ tried_text e) ≡ run_text no_lines true m (without_places t) ++ tried_text e
tried_left under all m e t =
    let r = t.result in
    let lines = tried_text e in
    let kept = without_places t in
    ap unindented (append_assoc (reports_calling under m t.calls 0 r.reports) (closing_text under true m t) lines)
    ∙ calling_before under all m t.calls r.reports (closing_text under true m t ++ lines)
    ∙ ap (λ (rest : List ℕ). reports_calling no_lines m t.calls 0 r.reports ++ rest)
    (ending_before under all m r t.end_calls true t.places e.tried e.all e.outcomes (not (is_clean (verdict_of e.result))) e.schedule)
    ∙ sym (append_assoc (reports_calling no_lines m t.calls 0 r.reports) (closing_text no_lines true m kept) lines)

pub run_taken_out : (command : Command) (text : List ℕ) (m : Module) (under : Lines) (verdict : Bool) (t : ToldRun) → AreLines command text m under
    → unindented (run_text under verdict m t) ≡ run_text no_lines verdict m (without_places t)
run_taken_out command text m under verdict t are = run_left under (all_indented (located_file command) (form_of command) text m under are) verdict m t

pub fault_taken_out : (command : Command) (text : List ℕ) (m : Module) (under : Lines) (f : Fault) → AreLines command text m under → unindented (fault_text_with under f) ≡ fault_text f
fault_taken_out command text m under f are = fault_left under (all_indented (located_file command) (form_of command) text m under are) f (fault_site (Some f))

reading_left : (cause : ReadError) → unindented (refusal_text (Read cause)) ≡ refusal_text (Read cause)
reading_left cause = ap unindented (sym (append-nil (refusal_text (Read cause)))) ∙ refusal_left no_lines (λ site. none_indented) (Read cause)

-- ---- answers

-- of a command that takes no schedule
by_threads : (t : Bool) (P Q : Type 0) (a : Output) → (P → Q) → UnlessThreaded t a P → UnlessThreaded t (without_any_lines a) Q
by_threads true P Q a h is = ap without_any_lines is ∙ ap (says 5) (threads_left no_lines (λ site. none_indented))
by_threads false P Q a h is = h is

-- what is told of many runs, without their places
unplaced_each : (j : Module) (o : Options) (inputs : List (List ℕ))
    → map (λ input. plain_wanted (wanted_of (with_locations false o)) j (setup_of o input)) inputs ≡ map without_places (map (λ input. plain_wanted (wanted_of (with_locations true o)) j (setup_of o input)) inputs)
unplaced_each j o [] = refl
unplaced_each j o (input ∷ rest) = ap (λ (ts : List ToldRun). plain_wanted (wanted_of (with_locations false o)) j (setup_of o input) ∷ ts) (unplaced_each j o rest)

module _ (Gives : Module → Module → Type 0) where
  fault_said : (command : Command) (text : List ℕ) (m : Module) (under : Lines) (f : Fault) (a : Output) → AreLines command text m under → a ≡ says 5 (fault_text_with under f)
      → without_lines a ≡ says 5 (fault_text_with no_lines f)
  fault_said command text m under f a are is = ap without_lines is ∙ ap (says 5) (fault_taken_out command text m under f are ∙ sym (fault_alone f))

  run_said : (command : Command) (text : List ℕ) (m : Module) (under : Lines) (verdict : Bool) (t : ToldRun) (a : Output) → AreLines command text m under
      → a ≡ answer_of_result under verdict m t → without_lines a ≡ answer_of_result no_lines verdict m (without_places t)
  run_said command text m under verdict t a are is = ap without_lines is ∙ ap (answer_of (status_of t.result) t.result.output) (run_taken_out command text m under verdict t are)

  explored_said : (command : Command) (text : List ℕ) (m : Module) (under : Lines) (e : Explored) (t : ToldRun) (a : Output) → AreLines command text m under
      → a ≡ answer_of_explored under m e t → without_lines a ≡ answer_of_explored no_lines m e (without_places t)
  explored_said command text m under e t a are is =
      ap without_lines is ∙ ap (answer_of (status_of e.result) e.result.output) (tried_left under (all_indented (located_file command) (form_of command) text m under are) m e t)

  reading_said : (cause : ReadError) (a : Output) → a ≡ says 5 (refusal_text (Read cause)) → without_lines a ≡ says 5 (refusal_text (Read cause))
  reading_said cause a is = ap without_lines is ∙ ap (says 5) (reading_left cause)

  module _ (file : List ℕ) (o : Options) (inputs : List (List ℕ)) (text : List ℕ) where
    run_module : (m : Module) (under : Lines) (a : Output) → AreLines (Run file (with_locations true o)) text m under → IsAnswerToModule Gives under (Run file (with_locations true o)) inputs m a
        → IsAnswerToModule Gives no_lines (Run file (with_locations false o)) inputs m (without_lines a)
    run_module m under a are (inl (f, refused, is)) = inl (f, refused, fault_said (Run file (with_locations true o)) text m under f a are is)
    run_module m under a are (inr (valid, is)) = inr (valid, run_said (Run file (with_locations true o)) text m under false (plain_told_under (wanted_of (with_locations true o)) (is_threaded m) m (setup_of o (only_input inputs)) o.schedule) a are is)

    run_reading : (r : Result Module ReadError) (a : Output) → IsAnswerToReading Gives (Run file (with_locations true o)) inputs text r a
        → IsAnswerToReading Gives (Run file (with_locations false o)) inputs text r (without_lines a)
    run_reading (Ok m) a (under, are, is) = (no_lines, refl, run_module m under a are is)
    run_reading (Err (e.Lex cause)) a is = reading_said (e.Lex cause) a is
    run_reading (Err (e.Refused number w token place)) a is = reading_said (e.Refused number w token place) a is
    run_reading (Err e.NoMemory) a is = is

    check_module : (m : Module) (under : Lines) (a : Output) → AreLines (Check file (with_locations true o)) text m under → IsAnswerToModule Gives under (Check file (with_locations true o)) inputs m a
        → IsAnswerToModule Gives no_lines (Check file (with_locations false o)) inputs m (without_lines a)
    check_module m under a are (inl (f, refused, is)) = inl (f, refused, fault_said (Check file (with_locations true o)) text m under f a are is)
    check_module m under a are (inr (valid, (j, gives, is))) =
        inr (valid, (j, gives, run_said (Check file (with_locations true o)) text m under true (plain_told_under (wanted_of (with_locations true o)) (is_threaded m) j (setup_of o (only_input inputs)) o.schedule) a are is))

    check_reading : (r : Result Module ReadError) (a : Output) → IsAnswerToReading Gives (Check file (with_locations true o)) inputs text r a
        → IsAnswerToReading Gives (Check file (with_locations false o)) inputs text r (without_lines a)
    check_reading (Ok m) a (under, are, is) = (no_lines, refl, check_module m under a are is)
    check_reading (Err (e.Lex cause)) a is = reading_said (e.Lex cause) a is
    check_reading (Err (e.Refused number w token place)) a is = reading_said (e.Refused number w token place) a is
    check_reading (Err e.NoMemory) a is = is

    explain_alone : (m : Module) (under : Lines) (a : Output) → AreLines (Explain file (with_locations true o)) text m under → IsExplanation Gives under (wanted_of (with_locations true o)) (setup_of o (only_input inputs)) m a
        → IsExplanation Gives no_lines (wanted_of (with_locations false o)) (setup_of o (only_input inputs)) m (without_any_lines a)
    explain_alone m under a are (j, gives, is) =
        let s = setup_of o (only_input inputs) in
        let t = plain_wanted (wanted_of (with_locations true o)) j s in
        let r = t.result in
        let all = all_indented (located_file (Explain file (with_locations true o))) Plain text m under are in (
          j,
          gives,
          ap without_any_lines is
              ∙ ap₂ (λ (out err : List ℕ). answer_of (status_of r) out err) (explained_left under all m o.calls s t) (ends_left under all true m t),
        )

    explain_module : (m : Module) (under : Lines) (a : Output) → AreLines (Explain file (with_locations true o)) text m under → IsAnswerToModule Gives under (Explain file (with_locations true o)) inputs m a
        → IsAnswerToModule Gives no_lines (Explain file (with_locations false o)) inputs m (without_any_lines a)
    explain_module m under a are (inl (f, refused, is)) =
        inl (f, refused, ap (λ (x : Output). record x { out = unindented x.out }) (fault_said (Explain file (with_locations true o)) text m under f a are is))
    explain_module m under a are (inr (valid, is)) =
        let s = setup_of o (only_input inputs) in
        inr (valid, by_threads (is_threaded m) (IsExplanation Gives under (wanted_of (with_locations true o)) s m a) (IsExplanation Gives no_lines (wanted_of (with_locations false o)) s m (without_any_lines a)) a (explain_alone m under a are) is)

    explain_reading : (r : Result Module ReadError) (a : Output) → IsAnswerToReading Gives (Explain file (with_locations true o)) inputs text r a
        → IsAnswerToReading Gives (Explain file (with_locations false o)) inputs text r (without_any_lines a)
    explain_reading (Ok m) a (under, are, is) = (no_lines, refl, explain_module m under a are is)
    explain_reading (Err (e.Lex cause)) a is = ap (λ (x : Output). record x { out = unindented x.out }) (reading_said (e.Lex cause) a is)
    explain_reading (Err (e.Refused number w token place)) a is = ap (λ (x : Output). record x { out = unindented x.out }) (reading_said (e.Refused number w token place) a is)
    explain_reading (Err e.NoMemory) a is = is

  module _ (file : List ℕ) (o : Options) (runs workers : ℕ) (inputs : List (List ℕ)) (text : List ℕ) where
    abbrev asking : Bool → Command
    asking asked = CheckSchedules file (with_locations asked o) runs workers

    schedules_module : (m : Module) (under : Lines) (a : Output) → AreLines (asking true) text m under → IsAnswerToModule Gives under (asking true) inputs m a
        → IsAnswerToModule Gives no_lines (asking false) inputs m (without_lines a)
    schedules_module m under a are (inl (f, refused, is)) = inl (f, refused, fault_said (asking true) text m under f a are is)
    schedules_module m under a are (inr (valid, (j, gives, e, explored, is))) = inr (
      valid,
      (
        j,
        gives,
        e,
        explored,
        explored_said (asking true) text m under e (explored_told (wanted_of (with_locations true o)) (is_threaded m) j (setup_of o (only_input inputs)) e) a are is,
      ),
    )

    schedules_reading : (r : Result Module ReadError) (a : Output) → IsAnswerToReading Gives (asking true) inputs text r a
        → IsAnswerToReading Gives (asking false) inputs text r (without_lines a)
    schedules_reading (Ok m) a (under, are, is) = (no_lines, refl, schedules_module m under a are is)
    schedules_reading (Err (e.Lex cause)) a is = reading_said (e.Lex cause) a is
    schedules_reading (Err (e.Refused number w token place)) a is = reading_said (e.Refused number w token place) a is
    schedules_reading (Err e.NoMemory) a is = is

  module _ (file : List ℕ) (names : List (List ℕ)) (o : Options) (workers : ℕ) (inputs : List (List ℕ)) (text : List ℕ) where
    corpus_module : (m : Module) (under : Lines) (a : Output) → IsReading Plain text (Ok m) → AreLines (Corpus file names (with_locations true o) workers) text m under
        → IsAnswerToModule Gives under (Corpus file names (with_locations true o) workers) inputs m a → CorpusAdds Gives file names o workers inputs text a
    corpus_module m under a reads are (inl (f, refused, is)) =
        inl (ap (λ x. x.out) is, (Ok m, reads, (no_lines, refl, inl (f, refused, fault_said (Corpus file names (with_locations true o) workers) text m under f a are is))))
    corpus_module m under a reads are (inr (valid, is)) = by_each (is_threaded m) refl is
      where
        by_each : (t : Bool) → is_threaded m ≡ t → UnlessThreaded t a (AreSections Gives under names (with_locations true o) inputs m a) → CorpusAdds Gives file names o workers inputs text a
        by_each true threads is =
            inl (
              ap (λ x. x.out) is,
              (
                Ok m,
                reads,
                (
                  no_lines,
                  refl,
                  inr (
                    valid,
                    subst (λ t. UnlessThreaded t (without_lines a) (AreSections Gives no_lines names (with_locations false o) inputs m (without_lines a))) (sym threads)
                        (ap without_lines is ∙ ap (says 5) (threads_left no_lines (λ site. none_indented))),
                  ),
                ),
              ),
            )
        by_each false alone (j, gives, is) =
            let rs = map (λ input. plain_wanted (wanted_of (with_locations true o)) j (setup_of o input)) inputs in
            let same = answer_of_results no_lines m names (map without_places rs) in
            inr (
              m,
              under,
              are,
              rs,
              is,
              (
                Ok m,
                reads,
                (
                  no_lines,
                  refl,
                  inr (
                    valid,
                    subst (λ t. UnlessThreaded t same (AreSections Gives no_lines names (with_locations false o) inputs m same)) (sym alone)
                        (j, gives, ap (answer_of_results no_lines m names) (sym (unplaced_each j o inputs))),
                  ),
                ),
              ),
            )

    corpus_reading : (r : Result Module ReadError) (a : Output) → IsReading Plain text r → IsAnswerToReading Gives (Corpus file names (with_locations true o) workers) inputs text r a
        → CorpusAdds Gives file names o workers inputs text a
    corpus_reading (Ok m) a reads (under, are, is) = corpus_module m under a reads are is
    corpus_reading (Err (e.Lex cause)) a reads is = inl (ap (λ x. x.out) is, (Err (e.Lex cause), reads, reading_said (e.Lex cause) a is))
    corpus_reading (Err (e.Refused number w token place)) a reads is =
        inl (ap (λ x. x.out) is, (Err (e.Refused number w token place), reads, reading_said (e.Refused number w token place) a is))
    corpus_reading (Err e.NoMemory) a reads is = absurd is

pub run_added : (Gives : Module → Module → Type 0) (file : List ℕ) (o : Options) (inputs : List (List ℕ)) (text : List ℕ) (a : Output)
    → IsAnswerToText Gives (Run file (with_locations true o)) inputs text a → IsAnswerToText Gives (Run file (with_locations false o)) inputs text (without_lines a)
run_added Gives file o inputs text a (r, reading, answers) = (r, reading, run_reading Gives file o inputs text r a answers)

pub check_added : (Gives : Module → Module → Type 0) (file : List ℕ) (o : Options) (inputs : List (List ℕ)) (text : List ℕ) (a : Output)
    → IsAnswerToText Gives (Check file (with_locations true o)) inputs text a → IsAnswerToText Gives (Check file (with_locations false o)) inputs text (without_lines a)
check_added Gives file o inputs text a (r, reading, answers) = (r, reading, check_reading Gives file o inputs text r a answers)

pub schedules_added : (Gives : Module → Module → Type 0) (file : List ℕ) (o : Options) (runs workers : ℕ) (inputs : List (List ℕ)) (text : List ℕ) (a : Output)
    → IsAnswerToText Gives (CheckSchedules file (with_locations true o) runs workers) inputs text a
    → IsAnswerToText Gives (CheckSchedules file (with_locations false o) runs workers) inputs text (without_lines a)
schedules_added Gives file o runs workers inputs text a (r, reading, answers) = (r, reading, schedules_reading Gives file o runs workers inputs text r a answers)

pub explain_added : (Gives : Module → Module → Type 0) (file : List ℕ) (o : Options) (inputs : List (List ℕ)) (text : List ℕ) (a : Output)
    → IsAnswerToText Gives (Explain file (with_locations true o)) inputs text a → IsAnswerToText Gives (Explain file (with_locations false o)) inputs text (without_any_lines a)
explain_added Gives file o inputs text a (r, reading, answers) = (r, reading, explain_reading Gives file o inputs text r a answers)

pub corpus_added : (Gives : Module → Module → Type 0) (file : List ℕ) (names inputs : List (List ℕ)) (o : Options) (workers : ℕ) (text : List ℕ) (a : Output)
    → IsAnswerToText Gives (Corpus file names (with_locations true o) workers) inputs text a → CorpusAdds Gives file names o workers inputs text a
corpus_added Gives file names inputs o workers text a (r, reading, answers) = corpus_reading Gives file names o workers inputs text r a reading answers
