-- What is said with calls is what is said without them, once the lines that tell of calls are taken out.
use Rattle.std.proofs.Common.{◌≡◌, ◌⊎◌, inl, inr, ℕ, Bool, true, false, List, [], ◌∷◌, ◌++◌, length, map, eqb, if◌then◌else◌, Option, Some, None, Result, Ok, Err, refl, sym, ap, ◌∙◌, append_assoc, subst}
use Rattle.std.specs.Prelude.{not}
use Rattle.std.proofs.Math.Path.{ap₂}
use Rattle.ms_ir.specs.declared.syntax.Module.{Module}
use Rattle.ms_ir.specs.ThreadCalls.{is_threaded}
use Rattle.ms_runs.specs.declared.runs.Calls.{Calls}
use Rattle.ms_runs.specs.declared.runs.Report.{Report}
use Rattle.ms_runs.specs.declared.runs.Setup.{Setup}
use Rattle.ms_runs.specs.Plain.{plain}
use Rattle.ms_runs.specs.Verdict.{verdict_of}
use Rattle.ms_runtime.specs.declared.runs.ToldRun.{ToldRun}
use Rattle.ms_corpus.specs.Wanted.{silent, plain_wanted}
use Rattle.ms_trail_moves.specs.declared.moves.Source.{Source}
use Rattle.ms_trail_moves.specs.declared.moves.Move.{Move}
use Rattle.ms_trail_moves.specs.declared.moves.Hop.{Hop}
use Rattle.ms_trail_moves.specs.Scanned.{trail_of}
use Rattle.ms_trail.specs.declared.found.Trace.{Trace}
use Rattle.ms_trail.specs.declared.found.Trace.TheVariants.{NoReport, TooLong, Found}
use Rattle.ms_read_body.specs.declared.errors.ReadError.{ReadError}
use Rattle.ms_read_body.specs.declared.errors.ReadError.TheVariants as e
use Rattle.ms_read_top.specs.Reading.{IsReading}
use Rattle.ms_ir.specs.declared.forms.Form.TheVariants.{Plain}
use Rattle.ms_report.specs.WithLines.{Lines, no_lines}
use Rattle.ms_report.specs.CallTexts.{reports_calling}
use Rattle.ms_report.specs.BlindTexts.{places_with}
use Rattle.ms_report.specs.Uncalled.{uncalled}
use Rattle.ms_report.proofs.CallLines.{none_called_last}
use Rattle.ms_report.proofs.TrailLines.{none_called_first}
use Rattle.ms_report.proofs.BlindLines.{ending_uncalled, ending_uncalled_before}
use Rattle.ms_report.proofs.Uncalled.{calling_before, trail_left}
use Rattle.ms_words.specs.declared.commands.Command.TheVariants.{Run, Check, CheckSchedules, Explain, Corpus}
use Rattle.ms_words.specs.declared.commands.Options.{Options}
use Rattle.ms_threads_schedules_laws.specs.Promise.{is_clean}
use Rattle.ms_threads_explore.specs.declared.explorer.Explored.{Explored}
use Rattle.ms_top.specs.declared.output.Output.{Output}
use Rattle.ms_top.specs.Added.{telling, without_told_calls, without_calls, without_any_calls, CorpusTells}
use Rattle.ms_top.specs.Command.{only_input, setup_of, wanted_of}
use Rattle.ms_top.specs.Explained.{root_calls, way_with, trace_with, followed, no_report}
use Rattle.ms_top.specs.Runs.{plain_told_under}
use Rattle.ms_top.specs.Said.{answer_of, answer_of_result, answer_of_explained, explored_told, answer_of_explored, answer_of_results, closing_text, run_text, status_of, tried_text, UnlessThreaded, IsExplanation, AreSections, IsAnswerToModule, IsAnswerToReading, IsAnswerToText}

-- ---- texts

ends_left : (verdict : Bool) (m : Module) (t : ToldRun) → uncalled (closing_text no_lines verdict m t) ≡ closing_text no_lines verdict m (without_told_calls t)
ends_left verdict m t =
    ending_uncalled m t.result t.end_calls verdict t.places ∙ ap (λ (closing : List ℕ). closing ++ places_with no_lines m t.places) (sym (none_called_last no_lines m t.result verdict))

pub run_left : (verdict : Bool) (m : Module) (t : ToldRun) → uncalled (run_text no_lines verdict m t) ≡ run_text no_lines verdict m (without_told_calls t)
run_left verdict m t =
    let r = t.result in
    calling_before m t.calls r.reports (closing_text no_lines verdict m t) ∙ ap (λ (closing : List ℕ). reports_calling no_lines m [] 0 r.reports ++ closing) (ends_left verdict m t)

way_left : (m : Module) (s : Setup) (moves : List Move) (at : Source) (hops : Option (List Hop)) → uncalled (way_with no_lines true m s moves at hops) ≡ way_with no_lines false m s moves at hops
way_left m s moves at None = refl
way_left m s moves at (Some hops) = trail_left m moves at hops (root_calls true m s moves hops) ∙ sym (none_called_first no_lines m moves at hops)

trace_left : (m : Module) (s : Setup) (t : Trace) → uncalled (trace_with no_lines true m s t) ≡ trace_with no_lines false m s t
trace_left m s NoReport = refl
trace_left m s (TooLong n) = refl
trace_left m s (Found moves at) = way_left m s moves at (trail_of moves at)

report_left : (m : Module) (s : Setup) (rs : List Report) (calls : List Calls) (t : Trace) (none : Bool) → uncalled (if none then no_report else reports_calling no_lines m calls 0 rs ++ trace_with no_lines true m s t)
    ≡ (if none then no_report else reports_calling no_lines m [] 0 rs ++ trace_with no_lines false m s t)
report_left m s rs calls t true = refl
report_left m s rs calls t false = calling_before m calls rs (trace_with no_lines true m s t) ∙ ap (λ (way : List ℕ). reports_calling no_lines m [] 0 rs ++ way) (trace_left m s t)

tried_left : (m : Module) (e : Explored) (t : ToldRun) → uncalled (run_text no_lines true m t ++ tried_text e) ≡ run_text no_lines true m (without_told_calls t) ++ tried_text e
tried_left m e t =
    let r = t.result in
    let lines = tried_text e in
    let kept = without_told_calls t in
    ap uncalled (append_assoc (reports_calling no_lines m t.calls 0 r.reports) (closing_text no_lines true m t) lines)
    ∙ calling_before m t.calls r.reports (closing_text no_lines true m t ++ lines)
    ∙ ap (λ (rest : List ℕ). reports_calling no_lines m [] 0 r.reports ++ rest)
    (ending_uncalled_before m r t.end_calls true t.places e.tried e.all e.outcomes (not (is_clean (verdict_of e.result))) e.schedule
    ∙ ap (λ (closing : List ℕ). (closing ++ places_with no_lines m t.places) ++ lines) (sym (none_called_last no_lines m r true)))
    ∙ sym (append_assoc (reports_calling no_lines m [] 0 r.reports) (closing_text no_lines true m kept) lines)

-- ---- answers

module _ (under : Lines) (none : under ≡ no_lines) (m : Module) where
  run_said : (verdict : Bool) (t : ToldRun) (a : Output) → a ≡ answer_of_result under verdict m t → without_calls a ≡ answer_of_result under verdict m (without_told_calls t)
  run_said verdict t a is =
      ap without_calls is
      ∙ subst (λ (l : Lines). without_calls (answer_of_result l verdict m t) ≡ answer_of_result l verdict m (without_told_calls t)) (sym none)
      (ap (answer_of (status_of t.result) t.result.output) (run_left verdict m t))

  explored_said : (e : Explored) (t : ToldRun) (a : Output) → a ≡ answer_of_explored under m e t → without_calls a ≡ answer_of_explored under m e (without_told_calls t)
  explored_said e t a is =
      ap without_calls is
      ∙ subst (λ (l : Lines). without_calls (answer_of_explored l m e t) ≡ answer_of_explored l m e (without_told_calls t)) (sym none) (ap (answer_of (status_of e.result) e.result.output) (tried_left m e t))

  explained_said : (s : Setup) (t : ToldRun) (a : Output) → a ≡ answer_of_explained under true m s t → without_any_calls a ≡ answer_of_explained under false m s (without_told_calls t)
  explained_said s t a is =
      let r = t.result in
      ap without_any_calls is
      ∙ subst (λ (l : Lines). without_any_calls (answer_of_explained l true m s t) ≡ answer_of_explained l false m s (without_told_calls t)) (sym none)
      (ap₂ (λ (out err : List ℕ). answer_of (status_of r) out err) (report_left m s r.reports t.calls (followed m s) (eqb (length r.reports) 0)) (ends_left true m t))

-- what is told of many runs, without their calls
silent_each : (j : Module) (o : Options) (inputs : List (List ℕ)) → map (λ input. plain_wanted (wanted_of (telling false o)) j (setup_of o input)) inputs
    ≡ map (λ (t : ToldRun). silent t.result) (map (λ input. plain_wanted (wanted_of (telling true o)) j (setup_of o input)) inputs)
silent_each j o [] = refl
silent_each j o (input ∷ rest) = ap (λ (ts : List ToldRun). silent (plain j (setup_of o input)) ∷ ts) (silent_each j o rest)

module _ (Gives : Module → Module → Type 0) where
  module _ (file : List ℕ) (o : Options) (inputs : List (List ℕ)) (text : List ℕ) where
    run_module : (m : Module) (under : Lines) (a : Output) → under ≡ no_lines → IsAnswerToModule Gives under (Run file (telling true o)) inputs m a
        → IsAnswerToModule Gives under (Run file (telling false o)) inputs m a ⊎ IsAnswerToModule Gives under (Run file (telling false o)) inputs m (without_calls a)
    run_module m under a none (inl refused) = inl (inl refused)
    run_module m under a none (inr (valid, is)) =
        let t = is_threaded m in
        let s = setup_of o (only_input inputs) in
        inr (inr (valid, run_said under none m false (plain_told_under (wanted_of (telling true o)) t m s o.schedule) a is))

    run_reading : (r : Result Module ReadError) (a : Output) → IsAnswerToReading Gives (Run file (telling true o)) inputs text r a
        → IsAnswerToReading Gives (Run file (telling false o)) inputs text r a ⊎ IsAnswerToReading Gives (Run file (telling false o)) inputs text r (without_calls a)
    run_reading (Ok m) a (under, are, is) = elim (run_module m under a are is) [ inl same ↦ inl (under, are, same) | inr out ↦ inr (under, are, out) ]
    run_reading (Err (e.Lex cause)) a is = inl is
    run_reading (Err (e.Refused number w token place)) a is = inl is
    run_reading (Err e.NoMemory) a is = inl is

    check_module : (m : Module) (under : Lines) (a : Output) → under ≡ no_lines → IsAnswerToModule Gives under (Check file (telling true o)) inputs m a
        → IsAnswerToModule Gives under (Check file (telling false o)) inputs m a ⊎ IsAnswerToModule Gives under (Check file (telling false o)) inputs m (without_calls a)
    check_module m under a none (inl refused) = inl (inl refused)
    check_module m under a none (inr (valid, (j, gives, is))) =
        let t = is_threaded m in
        let s = setup_of o (only_input inputs) in
        inr (inr (valid, (j, gives, run_said under none m true (plain_told_under (wanted_of (telling true o)) t j s o.schedule) a is)))

    check_reading : (r : Result Module ReadError) (a : Output) → IsAnswerToReading Gives (Check file (telling true o)) inputs text r a
        → IsAnswerToReading Gives (Check file (telling false o)) inputs text r a ⊎ IsAnswerToReading Gives (Check file (telling false o)) inputs text r (without_calls a)
    check_reading (Ok m) a (under, are, is) = elim (check_module m under a are is) [ inl same ↦ inl (under, are, same) | inr out ↦ inr (under, are, out) ]
    check_reading (Err (e.Lex cause)) a is = inl is
    check_reading (Err (e.Refused number w token place)) a is = inl is
    check_reading (Err e.NoMemory) a is = inl is

    explain_alone : (m : Module) (under : Lines) (a : Output) → under ≡ no_lines → IsExplanation Gives under (wanted_of (telling true o)) (setup_of o (only_input inputs)) m a
        → IsExplanation Gives under (wanted_of (telling false o)) (setup_of o (only_input inputs)) m (without_any_calls a)
    explain_alone m under a none (j, gives, is) = let s = setup_of o (only_input inputs) in (j, gives, explained_said under none m s (plain_wanted (wanted_of (telling true o)) j s) a is)

    explain_module : (m : Module) (under : Lines) (a : Output) → under ≡ no_lines → IsAnswerToModule Gives under (Explain file (telling true o)) inputs m a
        → IsAnswerToModule Gives under (Explain file (telling false o)) inputs m a ⊎ IsAnswerToModule Gives under (Explain file (telling false o)) inputs m (without_any_calls a)
    explain_module m under a none (inl refused) = inl (inl refused)
    explain_module m under a none (inr (valid, is)) =
        elim (by_each (is_threaded m) is) [ inl same ↦ inl (inr (valid, same)) | inr out ↦ inr (inr (valid, out)) ]
      where
        by_each : (t : Bool) → UnlessThreaded t a (IsExplanation Gives under (wanted_of (telling true o)) (setup_of o (only_input inputs)) m a)
            → UnlessThreaded t a (IsExplanation Gives under (wanted_of (telling false o)) (setup_of o (only_input inputs)) m a)
            ⊎ UnlessThreaded t (without_any_calls a) (IsExplanation Gives under (wanted_of (telling false o)) (setup_of o (only_input inputs)) m (without_any_calls a))
        by_each true refused = inl refused
        by_each false is = inr (explain_alone m under a none is)

    explain_reading : (r : Result Module ReadError) (a : Output) → IsAnswerToReading Gives (Explain file (telling true o)) inputs text r a
        → IsAnswerToReading Gives (Explain file (telling false o)) inputs text r a ⊎ IsAnswerToReading Gives (Explain file (telling false o)) inputs text r (without_any_calls a)
    explain_reading (Ok m) a (under, are, is) = elim (explain_module m under a are is) [ inl same ↦ inl (under, are, same) | inr out ↦ inr (under, are, out) ]
    explain_reading (Err (e.Lex cause)) a is = inl is
    explain_reading (Err (e.Refused number w token place)) a is = inl is
    explain_reading (Err e.NoMemory) a is = inl is

  module _ (file : List ℕ) (o : Options) (runs workers : ℕ) (inputs : List (List ℕ)) (text : List ℕ) where
    schedules_module : (m : Module) (under : Lines) (a : Output) → under ≡ no_lines → IsAnswerToModule Gives under (CheckSchedules file (telling true o) runs workers) inputs m a
        → IsAnswerToModule Gives under (CheckSchedules file (telling false o) runs workers) inputs m a ⊎ IsAnswerToModule Gives under (CheckSchedules file (telling false o) runs workers) inputs m (without_calls a)
    schedules_module m under a none (inl refused) = inl (inl refused)
    schedules_module m under a none (inr (valid, (j, gives, e, explored, is))) =
        inr (inr (
          valid,
          (
            j,
            gives,
            e,
            explored,
            explored_said under none m e (explored_told (wanted_of (telling true o)) (is_threaded m) j (setup_of o (only_input inputs)) e) a is,
          ),
        ))

    schedules_reading : (r : Result Module ReadError) (a : Output) → IsAnswerToReading Gives (CheckSchedules file (telling true o) runs workers) inputs text r a
        → IsAnswerToReading Gives (CheckSchedules file (telling false o) runs workers) inputs text r a ⊎ IsAnswerToReading Gives (CheckSchedules file (telling false o) runs workers) inputs text r (without_calls a)
    schedules_reading (Ok m) a (under, are, is) = elim (schedules_module m under a are is) [ inl same ↦ inl (under, are, same) | inr out ↦ inr (under, are, out) ]
    schedules_reading (Err (e.Lex cause)) a is = inl is
    schedules_reading (Err (e.Refused number w token place)) a is = inl is
    schedules_reading (Err e.NoMemory) a is = inl is

  module _ (file : List ℕ) (names : List (List ℕ)) (o : Options) (workers : ℕ) (inputs : List (List ℕ)) (text : List ℕ) where
    corpus_module : (m : Module) (under : Lines) (a : Output) → IsReading Plain text (Ok m) → under ≡ no_lines → IsAnswerToModule Gives under (Corpus file names (telling true o) workers) inputs m a
        → CorpusTells Gives file names o workers inputs text a
    corpus_module m under a reads none (inl refused) = inl (Ok m, reads, (under, none, inl refused))
    corpus_module m under a reads none (inr (valid, is)) = by_each (is_threaded m) refl is
      where
        by_each : (t : Bool) → is_threaded m ≡ t → UnlessThreaded t a (AreSections Gives under names (telling true o) inputs m a) → CorpusTells Gives file names o workers inputs text a
        by_each true threads is =
            inl (Ok m, reads, (under, none, inr (valid, subst (λ t. UnlessThreaded t a (AreSections Gives under names (telling false o) inputs m a)) (sym threads) is)))
        by_each false alone (j, gives, is) =
            let rs = map (λ input. plain_wanted (wanted_of (telling true o)) j (setup_of o input)) inputs in
            let same = answer_of_results no_lines m names (map (λ (t : ToldRun). silent t.result) rs) in
            inr (
              m,
              rs,
              is ∙ ap (λ (l : Lines). answer_of_results l m names rs) none,
              (
                Ok m,
                reads,
                (
                  no_lines,
                  refl,
                  inr (
                    valid,
                    subst (λ t. UnlessThreaded t same (AreSections Gives no_lines names (telling false o) inputs m same)) (sym alone)
                        (j, gives, ap (answer_of_results no_lines m names) (sym (silent_each j o inputs))),
                  ),
                ),
              ),
            )

    corpus_reading : (r : Result Module ReadError) (a : Output) → IsReading Plain text r → IsAnswerToReading Gives (Corpus file names (telling true o) workers) inputs text r a
        → CorpusTells Gives file names o workers inputs text a
    corpus_reading (Ok m) a reads (under, are, is) = corpus_module m under a reads are is
    corpus_reading (Err (e.Lex cause)) a reads is = inl (Err (e.Lex cause), reads, is)
    corpus_reading (Err (e.Refused number w token place)) a reads is = inl (Err (e.Refused number w token place), reads, is)
    corpus_reading (Err e.NoMemory) a reads is = absurd is

  pub run_told : (file : List ℕ) (o : Options) (inputs : List (List ℕ)) (text : List ℕ) (a : Output) → IsAnswerToText Gives (Run file (telling true o)) inputs text a
      → IsAnswerToText Gives (Run file (telling false o)) inputs text a ⊎ IsAnswerToText Gives (Run file (telling false o)) inputs text (without_calls a)
  run_told file o inputs text a (r, reading, answers) = elim (run_reading file o inputs text r a answers) [ inl same ↦ inl (r, reading, same) | inr out ↦ inr (r, reading, out) ]

  pub check_told : (file : List ℕ) (o : Options) (inputs : List (List ℕ)) (text : List ℕ) (a : Output) → IsAnswerToText Gives (Check file (telling true o)) inputs text a
      → IsAnswerToText Gives (Check file (telling false o)) inputs text a ⊎ IsAnswerToText Gives (Check file (telling false o)) inputs text (without_calls a)
  check_told file o inputs text a (r, reading, answers) = elim (check_reading file o inputs text r a answers) [ inl same ↦ inl (r, reading, same) | inr out ↦ inr (r, reading, out) ]

  pub explain_told : (file : List ℕ) (o : Options) (inputs : List (List ℕ)) (text : List ℕ) (a : Output) → IsAnswerToText Gives (Explain file (telling true o)) inputs text a
      → IsAnswerToText Gives (Explain file (telling false o)) inputs text a ⊎ IsAnswerToText Gives (Explain file (telling false o)) inputs text (without_any_calls a)
  explain_told file o inputs text a (r, reading, answers) = elim (explain_reading file o inputs text r a answers) [ inl same ↦ inl (r, reading, same) | inr out ↦ inr (r, reading, out) ]

  pub schedules_told : (file : List ℕ) (o : Options) (runs workers : ℕ) (inputs : List (List ℕ)) (text : List ℕ) (a : Output)
      → IsAnswerToText Gives (CheckSchedules file (telling true o) runs workers) inputs text a
      → IsAnswerToText Gives (CheckSchedules file (telling false o) runs workers) inputs text a ⊎ IsAnswerToText Gives (CheckSchedules file (telling false o) runs workers) inputs text (without_calls a)
  schedules_told file o runs workers inputs text a (r, reading, answers) =
      elim (schedules_reading file o runs workers inputs text r a answers) [ inl same ↦ inl (r, reading, same) | inr out ↦ inr (r, reading, out) ]

  pub corpus_told : (file : List ℕ) (names : List (List ℕ)) (o : Options) (workers : ℕ) (inputs : List (List ℕ)) (text : List ℕ) (a : Output)
      → IsAnswerToText Gives (Corpus file names (telling true o) workers) inputs text a → CorpusTells Gives file names o workers inputs text a
  corpus_told file names o workers inputs text a (r, reading, answers) = corpus_reading file names o workers inputs text r a reading answers
