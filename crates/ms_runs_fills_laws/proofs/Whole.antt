-- Runs of formed and valid modules under two fills.
use Rattle.std.proofs.Common.{◌≡◌, ◌<◌, ◌≤◌, ◌^◌, ℕ, zero, suc, List, [], length, All, refl, sym, ap, ◌∙◌, subst, arith, ◌⊎◌, inl, inr, ◌∷◌, false}
use Rattle.ms_ir.specs.ThreadCalls.{is_threaded}
use Rattle.ms_ir.specs.declared.syntax.Module.{Module}
use Rattle.ms_runs.specs.declared.runs.Setup.{Setup}
use Rattle.ms_runs.specs.declared.runs.End.TheVariants as «end»
use Rattle.ms_runs.specs.Plain.{Stepped, More, Stop, setting_of, plain}
use Rattle.ms_runs.specs.Masks.{by_formulas, by_completions}
use Rattle.ms_runs.specs.Shadow.{ShadowState, shadow_step, shadow, shadow_by}
use Rattle.ms_runs.specs.Faithful.{Fair, Faithful}
use Rattle.ms_ir.specs.Instructions.{NoMarks}
use Rattle.ms_check_valid.specs.Formed.{Formed}
use Rattle.ms_check_valid.specs.Valid.{Valid}
use Rattle.ms_runs_good_laws.specs.Fills.{IsFill, refilled, to_first_report, NoBlindUse, SameShown, SameUnderFills, InsertedUnderFills}
use Rattle.ms_runs_good_laws.specs.GoodWorlds.{GivesBytes}
use Rattle.ms_runs_good_laws.specs.GoodRuns.{LeadsTo}
use Rattle.ms_runs.specs.Shadow.{shadow_start}
use Rattle.ms_runs_laws.proofs.ExactRules.{formulas_exact, computed}
use Rattle.ms_runs_laws.proofs.SameRuns.{same_step}
use Rattle.ms_runs_laws.proofs.SameOutput.{shadow_undisturbed}
use Rattle.ms_runs.specs.LowEqual.{LowEqual}
use Rattle.ms_runs_fills_laws.specs.Alike.{StepsAlike, CountsNone}
use Rattle.ms_runs_fills_laws.proofs.Steps.{step_alike}
use Rattle.ms_runs_fills_laws.proofs.Runs.{step_quiet, runs_alike}
use Rattle.ms_runs_fills_laws.specs.Placed.{SoundPlaced}
use Rattle.ms_runs_fills_laws.proofs.Sure.{good_sure, good_kept, good_start}
use Rattle.ms_runs_fills_laws.proofs.Reported.{run_told}
use Rattle.ms_runs_fills_laws.specs.First.{FirstOf}
use Rattle.ms_runs_fills_laws.proofs.Kept.{globals_kept}
use Rattle.ms_runs_fills_laws.proofs.LimitFree.{plain_free}
use Rattle.ms_runs_fills_laws.proofs.FirstReport.{runs_first}
use Rattle.ms_runs.specs.declared.runs.Report.{Report}
use Rattle.ms_runs.specs.declared.runs.RunResult.{RunResult}
use Rattle.ms_runs.specs.Globals.{address_of}
use Rattle.ms_runs.specs.Verdict.{Clean, verdict_by}
use Rattle.ms_runs_fills_laws.specs.Checked.{HoldsUnderFills}
use Rattle.std.specs.Prelude.{take}

pub start_alike : (m : Module) (setup : Setup) (fill : List ℕ) → LowEqual (shadow_start m setup) (shadow_start m (refilled setup fill))
start_alike m setup fill = record {
  frames = (record { func = refl; block = refl; place = refl; mark = refl; heap = refl; values = λ x. record { mask = refl; origin = refl; value = λ i z. refl } }, tt);
  world = record { allocs = refl; shadow = refl; origins = refl; pairs = refl; made = refl; input = refl; output = refl; reports = refl; blind = refl; turn = refl; threads = refl; answer_masks = refl; answer_origins = refl; bytes = λ a i l z. refl; answers = λ k i z. refl };
}

module _ (m : Module) (formed : Formed m) (valid : Valid m) (calm : is_threaded m ≡ false) where
  -- a step from low equal states that counts no blind use
  pub steps_alike : (setup : Setup) (fill : List ℕ) → setup.reports ≡ 1 → (c d : ShadowState) → SoundPlaced m c → SoundPlaced m d → LowEqual c d → CountsNone c (shadow_step by_completions (setting_of m setup) m c)
      → StepsAlike (shadow_step by_completions (setting_of m setup) m c) (shadow_step by_completions (setting_of m (refilled setup fill)) m d)
  steps_alike setup fill one c d g k h quiet =
      let s = setting_of m setup in
      let sure = good_sure m formed valid calm s refl refl in
      let left = same_step formulas_exact s m c in
      let right = same_step formulas_exact (setting_of m (refilled setup fill)) m d in
      subst (λ x. StepsAlike x (shadow_step by_completions (setting_of m (refilled setup fill)) m d)) (sym left)
      (subst (λ x. StepsAlike (shadow_step by_formulas (setting_of m setup) m c) x) (sym right)
      (step_alike s fill one m c d h (sure.stands c g) (sure.fit c g) (sure.fit d k).bytes (step_quiet s m c (subst (CountsNone c) left quiet))))

  -- where a step leads, states are good again
  pub steps_sound : (setup : Setup) → GivesBytes setup → (c : ShadowState) → SoundPlaced m c → LeadsTo (SoundPlaced m) (λ w. Unit {0}) (shadow_step by_completions (setting_of m setup) m c)
  steps_sound setup bytes c g =
      subst (LeadsTo (SoundPlaced m) (λ w. Unit {0})) (sym (same_step formulas_exact (setting_of m setup) m c))
      (by_step (shadow_step by_formulas (setting_of m setup) m c) refl)
    where
      by_step : (x : Stepped ShadowState) → shadow_step by_formulas (setting_of m setup) m c ≡ x → LeadsTo (SoundPlaced m) (λ w. Unit {0}) x
      by_step (More d) e = (good_kept m formed valid calm setup bytes).more c d g e
      by_step (Stop x w) e = tt

  -- where one report ends the run and no blind use occurs, every other fill gives the same run
  pub same_shadows : (setup : Setup) (fill : List ℕ) → setup.reports ≡ 1 → GivesBytes setup → All (λ b. b < 2 ^ 8) fill → (shadow m setup).blind ≡ 0 → shadow m (refilled setup fill) ≡ shadow m setup
  same_shadows setup fill one bytes others quiet =
      let bytes_too : GivesBytes (refilled setup fill) = record { input = bytes.input; fill = others } in
      computed m (refilled setup fill)
      ∙ sym (runs_alike (SoundPlaced m) (setting_of m setup) fill one m (good_sure m formed valid calm (setting_of m setup) refl refl) (good_kept m formed valid calm setup bytes) (good_kept m formed valid calm (refilled setup fill) bytes_too)
      setup.steps (shadow_start m setup) (shadow_start m (refilled setup fill)) (good_start m formed valid calm setup bytes) (good_start m formed valid calm (refilled setup fill) bytes_too)
      (start_alike m setup fill) (ap (λ r. r.blind) (sym (computed m setup)) ∙ quiet))
      ∙ sym (computed m setup)

  -- without a report the plain run shows what the shadow run shows
  shown_as : (setup : Setup) → NoMarks m → (shadow m setup).reports ≡ [] → SameShown (plain m setup) (shadow m setup)
  shown_as setup bare none = by_end (shadow_undisturbed by_completions m bare setup).same
    where
      by_end : ((shadow m setup).«end» ≡ «end».Reported) ⊎ (((plain m setup).«end» ≡ (shadow m setup).«end») × ((plain m setup).output ≡ (shadow m setup).output)) → SameShown (plain m setup) (shadow m setup)
      by_end (inl e) = absurd (run_told by_completions (setting_of m setup) m setup.steps (shadow_start m setup) e none)
      by_end (inr h) = record { output = h.1; ends = h.0 }

  pub same_fills : NoMarks m → (setup : Setup) → GivesBytes setup → NoBlindUse m setup → SameUnderFills m setup
  same_fills bare setup bytes quiet = record {
    reported = λ fill is. same_shadows (to_first_report setup) fill refl bytes_one is.bytes quiet;
    shown = λ none fill is.
        let same = same_shadows (to_first_report setup) fill refl bytes_one is.bytes quiet in
        let one = shown_as (to_first_report setup) bare none in
        let two = shown_as (refilled (to_first_report setup) fill) bare (ap (λ r. r.reports) same ∙ none) in
        record {
          output = ap (λ r. r.output) (sym (plain_free m bare (refilled setup fill) 1)) ∙ two.output ∙ ap (λ r. r.output) same ∙ sym one.output ∙ ap (λ r. r.output) (plain_free m bare setup 1);
          ends = ap (λ r. r.«end») (sym (plain_free m bare (refilled setup fill) 1)) ∙ two.ends ∙ ap (λ r. r.«end») same ∙ sym one.ends ∙ ap (λ r. r.«end») (plain_free m bare setup 1);
        };
  }
    where
      bytes_one : GivesBytes (to_first_report setup)
      bytes_one = record { input = bytes.input; fill = bytes.fill }

  -- the same of a faithful module
  pub inserted_fills : (j : Module) → Faithful m j → (setup : Setup) → Fair setup → InsertedUnderFills j setup
  inserted_fills j faithful setup fair = record {
    reported = λ quiet fill is.
        faithful.runs (refilled (to_first_report setup) fill) (fair_one fill is.some is.bytes)
        ∙ same_shadows (to_first_report setup) fill refl (record { input = fair.bytes; fill = fair.fill }) is.bytes (ap (λ r. r.blind) (sym (faithful.runs (to_first_report setup) (fair_one setup.fill fair.filled fair.fill))) ∙ quiet)
        ∙ sym (faithful.runs (to_first_report setup) (fair_one setup.fill fair.filled fair.fill));
  }
    where
      fair_one : (fill : List ℕ) → 1 ≤ length fill → All (λ b. b < 2 ^ 8) fill → Fair (refilled (to_first_report setup) fill)
      fair_one fill some bytes = record { filled = some; fill = bytes; input = fair.input; bytes = fair.bytes; steps = fair.steps; some_reports = omega arith; reports = omega arith }

-- ---- runs that go on after a report

-- the run up to the first report is the beginning of each run
pub first_of : (m : Module) (setup : Setup) → FirstOf (shadow m (to_first_report setup)) (shadow m setup)
first_of m setup =
    subst (λ r. FirstOf r (shadow m setup)) (sym (computed m (to_first_report setup)))
    (subst (λ r. FirstOf (shadow_by by_formulas m (to_first_report setup)) r) (sym (computed m setup))
    (runs_first (setting_of m setup) m setup.steps (shadow_start m setup) (globals_kept m.types (address_of m) m.globals _).reports))

pub quiet_first : (r q : RunResult) → FirstOf r q → q.blind ≡ 0 → r.blind ≡ 0
quiet_first r q (inl h) z = ap (λ k. k.blind) h.0 ∙ z
quiet_first r q (inr h) z = omega (arith, h.blind, z)

module _ (m : Module) (formed : Formed m) (valid : Valid m) (calm : is_threaded m ≡ false) (bare : NoMarks m) (setup : Setup) (bytes : GivesBytes setup) (quiet : (shadow m setup).blind ≡ 0) where
  pub quiet_one : NoBlindUse m setup
  quiet_one = quiet_first (shadow m (to_first_report setup)) (shadow m setup) (first_of m setup) quiet

  -- a run without report and without blind use shows what the program shows under every fill
  pub clean_shown : (shadow m setup).reports ≡ [] → (fill : List ℕ) → IsFill fill → SameShown (plain m (refilled setup fill)) (shadow m setup)
  clean_shown none fill is =
      let one = same_fills m formed valid calm bare setup bytes quiet_one in
      let first : (shadow m (to_first_report setup)).reports ≡ [] = by_first (first_of m setup) in
      let shown = one.shown first fill is in
      let here = shown_as m formed valid calm setup bare none in
      record { output = shown.output ∙ here.output; ends = shown.ends ∙ here.ends }
    where
      by_first : FirstOf (shadow m (to_first_report setup)) (shadow m setup) → (shadow m (to_first_report setup)).reports ≡ []
      by_first (inl h) = ap (λ r. r.reports) h.0 ∙ none
      by_first (inr h) = absurd (omega (arith, ap length (sym none ∙ h.more)))

  -- it is the report of the run that ends there
  first_alone : (report : Report) (rest : List Report) → (shadow m setup).reports ≡ report ∷ rest → (shadow m (to_first_report setup)).reports ≡ report ∷ []
  first_alone report rest some = by_first (first_of m setup)
    where
      by_first : FirstOf (shadow m (to_first_report setup)) (shadow m setup) → (shadow m (to_first_report setup)).reports ≡ report ∷ []
      by_first (inl h) = absurd (omega (arith, ap length (sym h.1 ∙ some)))
      by_first (inr h) = h.one ∙ ap (λ l. take 1 l) (sym h.more ∙ some)

  -- the first report of a run without blind use is the report under every fill
  pub first_reported : (report : Report) (rest : List Report) → (shadow m setup).reports ≡ report ∷ rest → (fill : List ℕ) → IsFill fill → (shadow m (refilled (to_first_report setup) fill)).reports ≡ report ∷ []
  first_reported report rest some fill is = ap (λ r. r.reports) ((same_fills m formed valid calm bare setup bytes quiet_one).reported fill is) ∙ first_alone report rest some

-- ---- what a checked run says

-- a clean verdict has neither a report nor a blind use
pub nothing_told : (reports : List Report) (blind : ℕ) → verdict_by reports blind ≡ Clean → (reports ≡ []) × (blind ≡ 0)
nothing_told [] zero h = (refl, refl)
nothing_told [] (suc n) h = absurd cc
nothing_told (r ∷ rest) blind h = absurd cc

module _ (m : Module) (formed : Formed m) (valid : Valid m) (calm : is_threaded m ≡ false) (bare : NoMarks m) where
  shadow_holds : (setup : Setup) → GivesBytes setup → HoldsUnderFills m setup (shadow m setup)
  shadow_holds setup bytes = record {
    clean = λ is fill h. let none = nothing_told (shadow m setup).reports (shadow m setup).blind is in clean_shown m formed valid calm bare setup bytes none.1 none.0 fill h;
    first = λ quiet report rest some. first_alone m formed valid calm bare setup bytes quiet report rest some;
    same = λ quiet fill h. (same_fills m formed valid calm bare setup bytes (quiet_one m formed valid calm bare setup bytes quiet)).reported fill h;
  }

  -- the same of the plain run of a faithful form
  pub checked_holds : (j : Module) → Faithful m j → (setup : Setup) → Fair setup → HoldsUnderFills m setup (plain j setup)
  checked_holds j faithful setup fair =
      subst (HoldsUnderFills m setup) (sym (faithful.runs setup fair)) (shadow_holds setup (record { input = fair.bytes; fill = fair.fill }))
