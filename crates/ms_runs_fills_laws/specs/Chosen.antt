-- Runs whose fill is chosen anew at every step (own).
use Rattle.std.specs.Prelude.{◌≡◌, ℕ, zero, suc, List}
use Rattle.ms_ir.specs.declared.syntax.Module.{Module}
use Rattle.ms_runs.specs.declared.runs.End.TheVariants as «end»
use Rattle.ms_runs.specs.declared.runs.Setup.{Setup}
use Rattle.ms_runs.specs.declared.runs.RunResult.{RunResult}
use Rattle.ms_runs.specs.World.{World, result}
use Rattle.ms_runs.specs.Plain.{PlainState, Stepped, More, and_then, go_on, plain_step, plain_start, setting_of}
use Rattle.ms_runs.specs.Verdict.{Clean, verdict_of}
use Rattle.ms_runs.specs.Masks.{by_completions}
use Rattle.ms_runs.specs.Shadow.{ShadowState, shadow_step, shadow_start, shadow}
use Rattle.ms_runs_good_laws.specs.Fills.{IsFill, refilled, to_first_report, SameShown}

-- what steps k, k + 1, .. come to, n of them: `steps`, of which each has its own number
abbrev pub steps_by : {S : Type 0} → (ℕ → S → Stepped S) → (n k : ℕ) → S → Stepped S
steps_by step zero k s = More s
steps_by step (suc n) k s = and_then (step k s) (steps_by step n (suc k))

-- a run of at most n steps from step k on: `run`, of which each step has its own number
abbrev pub run_by : {S : Type 0} → (S → World) → (ℕ → S → Stepped S) → (n k : ℕ) → S → RunResult
run_by world step zero k s = result «end».Spent (world s)
run_by world step (suc n) k s = go_on (run_by world step n (suc k)) (step k s)

-- step k of a plain run, with the fill that is chosen for it
abbrev pub chosen_step : Module → Setup → (ℕ → List ℕ) → ℕ → PlainState → Stepped PlainState
chosen_step m setup fills k = plain_step (setting_of m (refilled setup (fills k))) m

-- the plain run, with the fill of each step
abbrev pub plain_chosen : Module → Setup → (ℕ → List ℕ) → RunResult
plain_chosen m setup fills = run_by (λ state. state.world) (chosen_step m setup fills) setup.steps 0 (plain_start m setup)

-- step k of a shadow run, and the shadow run, with the fill of each step
abbrev pub chosen_shadow_step : Module → Setup → (ℕ → List ℕ) → ℕ → ShadowState → Stepped ShadowState
chosen_shadow_step m setup fills k = shadow_step by_completions (setting_of m (refilled setup (fills k))) m

abbrev pub shadow_chosen : Module → Setup → (ℕ → List ℕ) → RunResult
shadow_chosen m setup fills = run_by (λ c. c.world) (chosen_shadow_step m setup fills) setup.steps 0 (shadow_start m setup)

-- where the verdict is clean, the program itself prints the same and ends in the same way, whatever fill each step
-- has; where no blind use was counted, the run up to the first report is the same whatever fill each step has
pub record HoldsUnderChoices (m : Module) (setup : Setup) (r : RunResult) : Type 0 where
  pub clean : verdict_of r ≡ Clean → (fills : ℕ → List ℕ) → ((k : ℕ) → IsFill (fills k)) → SameShown (plain_chosen m setup fills) r
  pub same : r.blind ≡ 0 → (fills : ℕ → List ℕ) → ((k : ℕ) → IsFill (fills k)) → shadow_chosen m (to_first_report setup) fills ≡ shadow m (to_first_report setup)
