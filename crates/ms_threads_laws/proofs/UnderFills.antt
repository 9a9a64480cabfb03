-- Runs with threads of a module that can be instrumented, under two fills and up to the first report.
use Rattle.std.proofs.Common.{◌≡◌, ◌⊎◌, inl, inr, ℕ, List, [], ◌∷◌, length, None, refl, sym, ap, ◌∙◌, subst, arith}
use Rattle.ms_ir.specs.declared.syntax.Module.{Module}
use Rattle.ms_ir.specs.Instructions.{NoMarks}
use Rattle.ms_runs.specs.declared.runs.End.TheVariants as «end»
use Rattle.ms_runs.specs.declared.runs.RunResult.{RunResult}
use Rattle.ms_runs.specs.declared.runs.Setup.{Setup}
use Rattle.ms_runs.specs.World.{World}
use Rattle.ms_runs.specs.Control.{Frame}
use Rattle.ms_runs.specs.Plain.{setting_of, start_world, start_frame}
use Rattle.ms_runs.specs.Poisoned.{Poisoned}
use Rattle.ms_runs.specs.Masks.{by_formulas}
use Rattle.ms_runs.specs.Shadow.{shadow_reading}
use Rattle.ms_check_valid.specs.Formed.{Formed}
use Rattle.ms_check_valid.specs.Uninstrumented.{CanInstrument}
use Rattle.ms_check_valid.specs.Valid.{Valid}
use Rattle.ms_runs_good_laws.specs.Fills.{IsFill, refilled, to_first_report, SameShown}
use Rattle.ms_runs_good_laws.specs.GoodWorlds.{GivesBytes}
use Rattle.ms_runs_fills_laws.specs.First.{FirstOf}
use Rattle.ms_runs_threads.specs.Fibers.{Fibers, Goes as GoesOn}
use Rattle.ms_runs_threads.specs.PlainFibers.{plain_threads}
use Rattle.ms_runs_threads.specs.ShadowFibers.{shadow_threads, shadow_threads_by}
use Rattle.ms_runs_threads.specs.Calls.{shadow_threads_calls}
use Rattle.ms_threads_laws.proofs.FollowedRuns.{computed_threads, computed_calls}
use Rattle.ms_threads_laws.proofs.SameShown.{threads_undisturbed}
use Rattle.ms_threads_laws.proofs.LowFibers.{same_fills, same_calls}
use Rattle.ms_threads_laws.proofs.FirstFibers.{first_of}
use Rattle.ms_threads_laws.proofs.ToldFibers.{ends_told}

-- the run up to the first report is the beginning of each run
pub first_threads : (m : Module) (setup : Setup) (schedule : List ℕ) → FirstOf (shadow_threads m (to_first_report setup) schedule) (shadow_threads m setup schedule)
first_threads m setup schedule =
    subst (λ r. FirstOf r (shadow_threads m setup schedule)) (sym (computed_threads m (to_first_report setup) schedule))
    (subst (λ q. FirstOf (shadow_threads_by by_formulas m (to_first_report setup) schedule) q) (sym (computed_threads m setup schedule)) (first_of m setup schedule))

-- a run without a report is what the program itself shows
shown_alone : (m : Module) → NoMarks m → (setup : Setup) (schedule : List ℕ) → (shadow_threads_by by_formulas m setup schedule).reports ≡ []
    → SameShown (plain_threads m setup schedule) (shadow_threads_by by_formulas m setup schedule)
shown_alone m bare setup schedule none = by_end (threads_undisturbed by_formulas m bare setup schedule).same
  where
    c : Fibers (List (Frame Poisoned)) World
    c = GoesOn (start_frame shadow_reading m ∷ []) (start_world m setup) (record { stands = λ n. None; picks = 0 })

    by_end : ((shadow_threads_by by_formulas m setup schedule).«end» ≡ «end».Reported)
        ⊎ (((plain_threads m setup schedule).«end» ≡ (shadow_threads_by by_formulas m setup schedule).«end») × ((plain_threads m setup schedule).output ≡ (shadow_threads_by by_formulas m setup schedule).output))
        → SameShown (plain_threads m setup schedule) (shadow_threads_by by_formulas m setup schedule)
    by_end (inl e) =
        absurd (ends_told by_formulas (setting_of m setup) m schedule setup.steps
        (GoesOn (start_frame shadow_reading m ∷ []) (start_world m setup) (record { stands = λ n. None; picks = 0 })) e none)
    by_end (inr h) = record { output = h.1; ends = h.0 }

pub alone_threads : (m : Module) → CanInstrument m → (setup : Setup) (schedule : List ℕ) → (shadow_threads m setup schedule).reports ≡ [] → SameShown (plain_threads m setup schedule) (shadow_threads m setup schedule)
alone_threads m can setup schedule none =
    let same = computed_threads m setup schedule in
    subst (SameShown (plain_threads m setup schedule)) (sym same) (shown_alone m can.plain.unmarked setup schedule (ap (λ (r : RunResult). r.reports) (sym same) ∙ none))

-- where the first run has no report, it is the other one
pub first_same : (r q : RunResult) → FirstOf r q → r.reports ≡ [] → r ≡ q
first_same r q (inl h) none = h.0
first_same r q (inr h) none = absurd (omega (arith, ap length (sym none ∙ h.one)))

module _ (m : Module) (formed : Formed m) (valid : Valid m) (can : CanInstrument m) (setup : Setup) (bytes : GivesBytes setup) (schedule : List ℕ)
    (quiet : (shadow_threads m (to_first_report setup) schedule).blind ≡ 0) where
  pub same_threads : (fill : List ℕ) → IsFill fill → shadow_threads m (refilled (to_first_report setup) fill) schedule ≡ shadow_threads m (to_first_report setup) schedule
  same_threads fill is =
      let one : Setup = to_first_report setup in
      computed_threads m (refilled (to_first_report setup) fill) schedule
      ∙ sym (same_fills m formed valid can.plain.unmarked (to_first_report setup) refl (record { input = bytes.input; fill = bytes.fill }) fill (record { input = bytes.input; fill = is.bytes }) schedule
      (ap (λ (r : RunResult). r.blind) (sym (computed_threads m (to_first_report setup) schedule)) ∙ quiet))
      ∙ sym (computed_threads m (to_first_report setup) schedule)

  pub same_threads_calls : (fill : List ℕ) → IsFill fill → shadow_threads_calls m (refilled (to_first_report setup) fill) schedule ≡ shadow_threads_calls m (to_first_report setup) schedule
  same_threads_calls fill is =
      computed_calls m (refilled (to_first_report setup) fill) schedule
      ∙ sym (same_calls m formed valid can.plain.unmarked (to_first_report setup) refl (record { input = bytes.input; fill = bytes.fill }) fill (record { input = bytes.input; fill = is.bytes }) schedule
      (ap (λ (r : RunResult). r.blind) (sym (computed_threads m (to_first_report setup) schedule)) ∙ quiet))
      ∙ sym (computed_calls m (to_first_report setup) schedule)

  pub shown_threads : (shadow_threads m (to_first_report setup) schedule).reports ≡ [] → (fill : List ℕ) → IsFill fill
      → SameShown (plain_threads m (refilled setup fill) schedule) (shadow_threads m setup schedule)
  shown_threads none fill is =
      let r = shadow_threads m (to_first_report setup) schedule in
      let q = shadow_threads m setup schedule in
      let r' = shadow_threads m (refilled (to_first_report setup) fill) schedule in
      let q' = shadow_threads m (refilled setup fill) schedule in
      let same : r' ≡ r = same_threads fill is in
      let here : r ≡ q = first_same r q (first_threads m setup schedule) none in
      let there : r' ≡ q' = first_same r' q' (first_threads m (refilled setup fill) schedule) (ap (λ (k : RunResult). k.reports) same ∙ none) in
      let all : q' ≡ q = sym there ∙ same ∙ here in
      subst (SameShown (plain_threads m (refilled setup fill) schedule)) all
      (alone_threads m can (refilled setup fill) schedule (ap (λ (k : RunResult). k.reports) (sym there ∙ same) ∙ none))
