-- Where the pass gives faithful modules, what `check` runs is the shadow run of the module.
use Rattle.std.proofs.Common.{◌≡◌, ℕ, Bool, true, false, ◌^◌, ◌<◌, ◌≤◌, List, [], length, take, refl, ap, ◌∙◌, subst, arith}
use Rattle.std.specs.Prelude.{All, map, suc, ◌∷◌}
use Rattle.std.proofs.Math.Path.{ap₂}
use Rattle.std.proofs.lemmas.List.Elements.{All-cons, All-nil}
use Rattle.ms_ir.specs.declared.syntax.Module.{Module}
use Rattle.ms_ir.specs.ThreadCalls.{is_threaded}
use Rattle.ms_runs.specs.declared.runs.Setup.{Setup}
use Rattle.ms_runs.specs.Plain.{plain}
use Rattle.ms_runs.specs.Shadow.{shadow}
use Rattle.ms_runs.specs.Calls.{shadow_calls, shadow_blind, places_of}
use Rattle.ms_runs.specs.Faithful.{Fair}
use Rattle.ms_runs.specs.Once.{firsts}
use Rattle.ms_runs_laws.specs.Places.{uses_at}
use Rattle.ms_runs_laws.proofs.BlindPlaces.{all_counted}
use Rattle.ms_runs_fills_laws.specs.CallsAlike.{CallsUnderFills}
use Rattle.ms_runs_fills_laws.specs.Checked.{HoldsUnderFills}
use Rattle.ms_runs_fills_laws.specs.Once.{each_time}
use Rattle.ms_runs_fills_laws.proofs.OneEach.{blind_each}
use Rattle.ms_runs_fills_laws.proofs.FirstOfEach.{first_of_each}
use Rattle.ms_top.specs.declared.output.Output.{Output}
use Rattle.ms_words.specs.declared.commands.Command.TheVariants.{Check, Corpus}
use Rattle.ms_words.specs.declared.commands.Options.{Options}
use Rattle.ms_words.specs.Limits.{RunsWithinLimits}
use Rattle.ms_words.specs.Words.{defaults}
use Rattle.ms_report.specs.WithLines.{Lines}
use Rattle.ms_top.specs.Command.{input_limit, only_input, setup_of, wanted_of}
use Rattle.ms_top.specs.Instrumented.{IsInstrumented}
use Rattle.ms_threads_runs_laws.proofs.BlindEach.{shadow_places}
use Rattle.ms_threads.specs.Faithful.{IsSchedule}
use Rattle.ms_corpus.specs.declared.wanted.Wanted.{Wanted}
use Rattle.ms_corpus.specs.Wanted.{told_as, plain_wanted, shadow_wanted}
use Rattle.ms_top.specs.Runs.{plain_under, shadow_under, shadow_places_under, plain_told_under, shadow_told_under, HoldsUnder, CallsHoldUnder}
use Rattle.ms_report.specs.SummaryTexts.{summary_of}
use Rattle.ms_top.specs.Said.{answer_of, answer_of_result, answer_of_results, status_of, UnlessThreaded, AreSections, IsAnswerOfGen, IsAnswerToValid}

abbrev IsByte : ℕ → Type 0
IsByte b = b < 2 ^ 8

pub fair_default : Fair (setup_of defaults [])
fair_default = record {
  filled = omega arith;
  fill = All-cons IsByte 0xa5 [] (omega arith) (All-nil IsByte);
  input = omega arith;
  bytes = All-nil IsByte;
  steps = omega arith;
  some_reports = omega arith;
  reports = omega arith;
}

pub fair_options : (o : Options) (input : List ℕ) → RunsWithinLimits o → length input ≤ input_limit → All IsByte input → Fair (setup_of o input)
fair_options o input fit short bytes = record {
  filled = fit.filled;
  fill = fit.bytes;
  input = omega (arith, short);
  bytes = bytes;
  steps = fit.steps;
  some_reports = fit.some_reports;
  reports = fit.reports;
}

-- ---- modules without threads

-- the answer of a command that takes no schedule
pub alone_says : (m : Module) (a : Output) (Is : Type 0) → is_threaded m ≡ false → UnlessThreaded (is_threaded m) a Is → Is
alone_says m a Is alone is = subst (λ t. UnlessThreaded t a Is) alone is

pub runs_alone : (m j : Module) → IsInstrumented m j → is_threaded m ≡ false → (s : Setup) → Fair s → plain j s ≡ shadow m s
runs_alone m j made alone s fair = subst (λ t. plain_under t j s (0 ∷ []) ≡ shadow_under t m s (0 ∷ [])) alone (made.runs s fair (0 ∷ []) (omega arith))

pub holds_alone : (m j : Module) → IsInstrumented m j → is_threaded m ≡ false → (s : Setup) → Fair s → HoldsUnderFills m s (shadow m s)
holds_alone m j made alone s fair =
    subst (HoldsUnderFills m s) (runs_alone m j made alone s fair) (subst (λ t. HoldsUnder t m s (0 ∷ []) (plain_under t j s (0 ∷ []))) alone (made.holds s fair (0 ∷ []) (omega arith)))

pub calls_alone : (m j : Module) → IsInstrumented m j → is_threaded m ≡ false → (s : Setup) → Fair s → CallsUnderFills m s (shadow m s).blind (shadow_calls m s)
calls_alone m j made alone s fair = subst (λ t. CallsHoldUnder t m s (0 ∷ [])) alone (made.calls_hold s fair (0 ∷ []) (omega arith))

-- what is told of such a run
pub told_same : (m j : Module) → IsInstrumented m j → (wanted : Wanted) (s : Setup) → Fair s → (schedule : List ℕ) → IsSchedule schedule
    → plain_told_under wanted (is_threaded m) j s schedule ≡ shadow_told_under wanted (is_threaded m) m s schedule
told_same m j made wanted s fair schedule some =
    λ i. told_as wanted (made.runs s fair schedule some i) (made.calls s fair schedule some i) (made.ends s fair schedule some i) (places_of (made.blind s fair schedule some i))

pub told_alone : (m j : Module) → IsInstrumented m j → is_threaded m ≡ false → (wanted : Wanted) (s : Setup) → Fair s → plain_wanted wanted j s ≡ shadow_wanted wanted m s
told_alone m j made alone wanted s fair =
    subst (λ t. plain_told_under wanted t j s (0 ∷ []) ≡ shadow_told_under wanted t m s (0 ∷ [])) alone (told_same m j made wanted s fair (0 ∷ []) (omega arith))

-- the places of its blind uses count them all
pub places_count : (m : Module) (s : Setup) (schedule : List ℕ) → uses_at (shadow_places_under (is_threaded m) m s schedule) ≡ (shadow_under (is_threaded m) m s schedule).blind
places_count m s schedule = by_threads (is_threaded m)
  where
    by_threads : (t : Bool) → uses_at (shadow_places_under t m s schedule) ≡ (shadow_under t m s schedule).blind
    by_threads false = all_counted (shadow_blind m s) ∙ blind_each m s
    by_threads true = shadow_places m s schedule

-- and a run that reports each use once has the first report of each
pub once_each : (o : Options) (input : List ℕ) (m : Module) → is_threaded m ≡ false → o.once ≡ true → 1 ≤ o.reports → let s = setup_of o input in (n : ℕ) → length (shadow m (each_time s n)).reports < n
    → (shadow m s).reports ≡ take o.reports (firsts (shadow m (each_time s n)).reports)
once_each o input m alone once some n beyond = first_of_each m (setup_of o input) n once some beyond

-- ---- checks

pub shadow_answer : (under : Lines) (file : List ℕ) (inputs : List (List ℕ)) (o : Options) (m : Module) (a : Output) → let s = setup_of o (only_input inputs) in Fair s → IsSchedule o.schedule
    → IsAnswerToValid IsInstrumented under (Check file o) inputs m a → a ≡ answer_of_result under true m (shadow_told_under (wanted_of o) (is_threaded m) m s o.schedule)
shadow_answer under file inputs o m a fair some (j, made, is) = is ∙ ap (answer_of_result under true m) (told_same m j made (wanted_of o) (setup_of o (only_input inputs)) fair o.schedule some)

pub under_fills : (under : Lines) (file : List ℕ) (inputs : List (List ℕ)) (o : Options) (m : Module) (a : Output) → let s = setup_of o (only_input inputs) in Fair s → IsSchedule o.schedule
    → IsAnswerToValid IsInstrumented under (Check file o) inputs m a → HoldsUnder (is_threaded m) m s o.schedule (shadow_under (is_threaded m) m s o.schedule)
under_fills under file inputs o m a fair some (j, made, is) =
    let s = setup_of o (only_input inputs) in subst (HoldsUnder (is_threaded m) m s o.schedule) (made.runs s fair o.schedule some) (made.holds s fair o.schedule some)

pub calls_under_fills : (under : Lines) (file : List ℕ) (inputs : List (List ℕ)) (o : Options) (m : Module) (a : Output) → let s = setup_of o (only_input inputs) in Fair s → IsSchedule o.schedule
    → IsAnswerToValid IsInstrumented under (Check file o) inputs m a → CallsHoldUnder (is_threaded m) m s o.schedule
calls_under_fills under file inputs o m a fair some (j, made, is) = made.calls_hold (setup_of o (only_input inputs)) fair o.schedule some

-- each section of a corpus is that of the shadow run on its input, and holds under every fill as that of a check does
all_shadow : (m j : Module) (o : Options) (inputs : List (List ℕ)) → IsInstrumented m j → is_threaded m ≡ false → All (λ input. Fair (setup_of o input)) inputs
    → map (λ input. plain_wanted (wanted_of o) j (setup_of o input)) inputs ≡ map (λ input. shadow_wanted (wanted_of o) m (setup_of o input)) inputs
all_shadow m j o [] made alone fair = refl
all_shadow m j o (input ∷ rest) made alone fair =
    ap₂ (λ r rs. r ∷ rs) (told_alone m j made alone (wanted_of o) (setup_of o input) (fair 0 [] (omega arith))) (all_shadow m j o rest made alone (λ n d below. fair (suc n) d (omega (arith, below))))

pub corpus_shown : (under : Lines) (file : List ℕ) (names inputs : List (List ℕ)) (o : Options) (workers : ℕ) (m : Module) (a : Output) → is_threaded m ≡ false → All (λ input. Fair (setup_of o input)) inputs
    → IsAnswerToValid IsInstrumented under (Corpus file names o workers) inputs m a → a ≡ answer_of_results under m names (map (λ input. shadow_wanted (wanted_of o) m (setup_of o input)) inputs)
corpus_shown under file names inputs o workers m a alone fair is =
    let h = alone_says m a (AreSections IsInstrumented under names o inputs m a) alone is in h.2 ∙ ap (answer_of_results under m names) (all_shadow m h.0 o inputs h.1 alone fair)

pub corpus_holds : (under : Lines) (file : List ℕ) (names inputs : List (List ℕ)) (o : Options) (workers : ℕ) (m : Module) (a : Output) → is_threaded m ≡ false
    → IsAnswerToValid IsInstrumented under (Corpus file names o workers) inputs m a → (input : List ℕ) → Fair (setup_of o input) → HoldsUnderFills m (setup_of o input) (shadow m (setup_of o input))
corpus_holds under file names inputs o workers m a alone is input fair =
    let h = alone_says m a (AreSections IsInstrumented under names o inputs m a) alone is in holds_alone m h.0 h.1 alone (setup_of o input) fair

pub summary_shown : (m : Module) (a : Output) → IsAnswerOfGen IsInstrumented true m a
    → let r = shadow_under (is_threaded m) m (setup_of defaults []) defaults.schedule in a ≡ answer_of (status_of r) (summary_of m r) []
summary_shown m a (j, made, is) = is ∙ ap (λ r. answer_of (status_of r) (summary_of m r) []) (made.runs (setup_of defaults []) fair_default defaults.schedule (omega arith))
