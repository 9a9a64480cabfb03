-- A clean verdict holds whatever fill each step has.
use Rattle.std.proofs.Common.{◌≡◌, ◌≤◌, arith, ℕ, zero, suc, List, [], refl, sym, ap, ◌∙◌, subst, false}
use Rattle.ms_ir.specs.ThreadCalls.{is_threaded}
use Rattle.ms_ir.specs.declared.syntax.Module.{Module}
use Rattle.ms_ir.specs.Instructions.{NoMarks}
use Rattle.ms_runs.specs.declared.runs.End.TheVariants as «end»
use Rattle.ms_runs.specs.declared.runs.RunResult.{RunResult}
use Rattle.ms_runs.specs.declared.runs.Setup.{Setup}
use Rattle.ms_runs.specs.World.{World, Setting, result}
use Rattle.ms_runs.specs.Plain.{PlainState, Stepped, More, Stop, and_then, go_on, run, steps, plain, setting_of, plain_start}
use Rattle.ms_runs.specs.Masks.{by_completions, by_formulas}
use Rattle.ms_runs.specs.Shadow.{ShadowState, shadow_step, shadow_start, shadow}
use Rattle.ms_runs.specs.Faithful.{Fair, Faithful}
use Rattle.ms_runs.specs.Verdict.{Clean, verdict_of}
use Rattle.ms_runs_good_laws.specs.Fills.{IsFill, refilled, to_first_report, SameShown}
use Rattle.ms_runs_good_laws.specs.GoodWorlds.{GivesBytes}
use Rattle.ms_check_valid.specs.Formed.{Formed}
use Rattle.ms_check_valid.specs.Valid.{Valid}
use Rattle.ms_runs_fills_laws.specs.Certain.{CertainSteps, UntoldSteps}
use Rattle.ms_runs_fills_laws.specs.Chosen.{run_by, steps_by, shadow_chosen, chosen_step, plain_chosen, HoldsUnderChoices}
use Rattle.ms_runs.specs.LowEqual.{LowEqual}
use Rattle.ms_runs_laws.proofs.ExactRules.{formulas_exact, computed}
use Rattle.ms_runs_laws.proofs.SameRuns.{same_step}
use Rattle.ms_runs_fills_laws.specs.Alike.{StepsAlike, CountsNone}
use Rattle.ms_runs_fills_laws.specs.Placed.{SoundPlaced}
use Rattle.ms_runs_fills_laws.proofs.Reading.{refill}
use Rattle.ms_runs_fills_laws.proofs.Runs.{result_same, step_blind, stepped_blind, run_blind, step_quiet, Kept, Sure}
use Rattle.ms_runs_fills_laws.proofs.Steps.{step_alike}
use Rattle.ms_runs_fills_laws.proofs.Sure.{good_sure, good_kept, good_start}
use Rattle.ms_runs_fills_laws.proofs.Certain.{certain}
use Rattle.ms_runs_fills_laws.proofs.Whole.{start_alike, first_of, quiet_first, nothing_told}

-- what a run answers that has no step left
abbrev pub spent : {S : Type 0} → (S → World) → Stepped S → RunResult
spent world x = go_on (λ s. result «end».Spent (world s)) x

pub run_steps : {S : Type 0} (world : S → World) (step : S → Stepped S) (n : ℕ) (s : S) → run world step n s ≡ spent world (steps step n s)
run_steps world step zero s = refl
run_steps {S} world step (suc n) s = after (step s) (λ k. run_steps world step n k)
  where
    after : (x : Stepped S) → ((k : S) → run world step n k ≡ spent world (steps step n k)) → go_on (run world step n) x ≡ spent world (and_then x (steps step n))
    after (More k) rest = rest k
    after (Stop e w) rest = refl

run_steps_by : {S : Type 0} (world : S → World) (step : ℕ → S → Stepped S) (n k : ℕ) (s : S) → run_by world step n k s ≡ spent world (steps_by step n k s)
run_steps_by world step zero k s = refl
run_steps_by {S} world step (suc n) k s = after (step k s) (λ c. run_steps_by world step n (suc k) c)
  where
    after : (x : Stepped S) → ((c : S) → run_by world step n (suc k) c ≡ spent world (steps_by step n (suc k) c)) → go_on (run_by world step n (suc k)) x ≡ spent world (and_then x (steps_by step n (suc k)))
    after (More c) rest = rest c
    after (Stop e w) rest = refl

pub untold : (x : Stepped ShadowState) → (spent (λ c. c.world) x).reports ≡ [] → (spent (λ c. c.world) x).blind ≡ 0 → UntoldSteps x
untold (More c) r b = record { reports = r; blind = b }
untold (Stop e w) r b = record { reports = r; blind = b }

pub same_shown : (x : Stepped ShadowState) (z : Stepped PlainState) → CertainSteps x z → SameShown (spent (λ p. p.world) z) (spent (λ c. c.world) x)
same_shown (More c) (More p) h = record { output = sym h.1.output; ends = refl }
same_shown (Stop e w) (Stop x v) h = record { output = sym h.1.output; ends = sym h.0 }
same_shown (More c) (Stop x v) h = absurd h
same_shown (Stop e w) (More p) h = absurd h

-- ---- up to the first report

module _ (Good : ShadowState → Type 0) (s : Setting) (fills : ℕ → List ℕ) (one : s.limit ≡ 1) (m : Module) (sure : Sure Good s m) (kept : Kept Good s m) (kept_too : (k : ℕ) → Kept Good (refill s (fills k)) m) where
  runs_alike_by : (n k : ℕ) (c d : ShadowState) → Good c → Good d → LowEqual c d → (run (λ c. c.world) (shadow_step by_formulas s m) n c).blind ≡ 0
      → run (λ c. c.world) (shadow_step by_formulas s m) n c ≡ run_by (λ c. c.world) (λ k. shadow_step by_formulas (refill s (fills k)) m) n k d
  runs_alike_by zero k c d g o h z = result_same «end».Spent c.world d.world h.world
  runs_alike_by (suc n) k c d g o h z =
      after (shadow_step by_formulas s m c) (shadow_step by_formulas (refill s (fills k)) m d) refl refl
      (step_alike s (fills k) one m c d h (sure.stands c g) (sure.fit c g) (sure.fit d o).bytes
      (step_quiet s m c (none (shadow_step by_formulas s m c) (step_blind s m c) (run_blind s m n (shadow_step by_formulas s m c)) z)))
      (λ x y i j l e. runs_alike_by n (suc k) x y i j l e) z
    where
      none : (r : Stepped ShadowState) → c.world.blind ≤ stepped_blind s m r → stepped_blind s m r ≤ (go_on (run (λ c. c.world) (shadow_step by_formulas s m) n) r).blind
          → (go_on (run (λ c. c.world) (shadow_step by_formulas s m) n) r).blind ≡ 0 → CountsNone c r
      none (More x) g l e = omega (arith, g, l, e)
      none (Stop x w) g l e = omega (arith, g, l, e)

      after : (x y : Stepped ShadowState) → shadow_step by_formulas s m c ≡ x → shadow_step by_formulas (refill s (fills k)) m d ≡ y → StepsAlike x y
          → ((c' d' : ShadowState) → Good c' → Good d' → LowEqual c' d' → (run (λ c. c.world) (shadow_step by_formulas s m) n c').blind ≡ 0
          → run (λ c. c.world) (shadow_step by_formulas s m) n c' ≡ run_by (λ c. c.world) (λ k. shadow_step by_formulas (refill s (fills k)) m) n (suc k) d')
          → (go_on (run (λ c. c.world) (shadow_step by_formulas s m) n) x).blind ≡ 0
          → go_on (run (λ c. c.world) (shadow_step by_formulas s m) n) x ≡ go_on (run_by (λ c. c.world) (λ k. shadow_step by_formulas (refill s (fills k)) m) n (suc k)) y
      after (More c') (More d') e f a rest q = rest c' d' (kept.more c c' g e) ((kept_too k).more d d' o f) a q
      after (Stop x w) (Stop y v) e f a rest q = ap (λ t. result t w) a.0 ∙ result_same y w v a.1
      after (More c') (Stop y v) e f a rest q = absurd a
      after (Stop x w) (More d') e f a rest q = absurd a

module _ (m : Module) (formed : Formed m) (valid : Valid m) (calm : is_threaded m ≡ false) where
  same_chosen : (setup : Setup) (fills : ℕ → List ℕ) → setup.reports ≡ 1 → GivesBytes setup → ((k : ℕ) → IsFill (fills k)) → (shadow m setup).blind ≡ 0 → shadow_chosen m setup fills ≡ shadow m setup
  same_chosen setup fills one bytes are quiet =
      ap (λ step. run_by (λ c. c.world) step setup.steps 0 (shadow_start m setup)) (λ i k c. same_step formulas_exact (setting_of m (refilled setup (fills k))) m c i)
      ∙ sym (runs_alike_by (SoundPlaced m) (setting_of m setup) fills one m (good_sure m formed valid calm (setting_of m setup) refl refl) (good_kept m formed valid calm setup bytes)
      (λ k. good_kept m formed valid calm (refilled setup (fills k)) (record { input = bytes.input; fill = (are k).bytes }))
      setup.steps 0 (shadow_start m setup) (shadow_start m setup) (good_start m formed valid calm setup bytes) (good_start m formed valid calm setup bytes)
      (start_alike m setup setup.fill) (ap (λ r. r.blind) (sym (computed m setup)) ∙ quiet))
      ∙ sym (computed m setup)

module _ (m : Module) (formed : Formed m) (valid : Valid m) (calm : is_threaded m ≡ false) (unmarked : NoMarks m) where
  pub shadow_holds_chosen : (setup : Setup) → GivesBytes setup → HoldsUnderChoices m setup (shadow m setup)
  shadow_holds_chosen setup bytes = record {
    clean = λ is fills are. holds is fills are;
    same = λ quiet fills are.
        same_chosen m formed valid calm (to_first_report setup) fills refl (record { input = bytes.input; fill = bytes.fill }) are
        (quiet_first (shadow m (to_first_report setup)) (shadow m setup) (first_of m setup) quiet);
  }
    where
      holds : verdict_of (shadow m setup) ≡ Clean → (fills : ℕ → List ℕ) → ((k : ℕ) → IsFill (fills k)) → SameShown (plain_chosen m setup fills) (shadow m setup)
      holds is fills are =
          let none = nothing_told (shadow m setup).reports (shadow m setup).blind is in
          let shown = run_steps (λ c. c.world) (shadow_step by_completions (setting_of m setup) m) setup.steps (shadow_start m setup) in
          let told = untold (steps (shadow_step by_completions (setting_of m setup) m) setup.steps (shadow_start m setup))
          (ap (λ r. r.reports) (sym shown) ∙ none.0) (ap (λ r. r.blind) (sym shown) ∙ none.1) in
          subst (λ r. SameShown r (shadow m setup)) (sym (run_steps_by (λ p. p.world) (chosen_step m setup fills) setup.steps 0 (plain_start m setup)))
          (subst (λ r. SameShown (spent (λ p. p.world) (steps_by (chosen_step m setup fills) setup.steps 0 (plain_start m setup))) r) (sym shown)
          (same_shown _ _ (certain m formed valid calm unmarked setup bytes setup.steps told fills are)))

  pub checked_holds_chosen : (j : Module) → Faithful m j → (setup : Setup) → Fair setup → HoldsUnderChoices m setup (plain j setup)
  checked_holds_chosen j faithful setup fair =
      subst (HoldsUnderChoices m setup) (sym (faithful.runs setup fair)) (shadow_holds_chosen setup (record { input = fair.bytes; fill = fair.fill }))
