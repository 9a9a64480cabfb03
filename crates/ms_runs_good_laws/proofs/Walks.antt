-- A walk through a run: what the run answers from there on, and what each of its states has.
use Rattle.std.proofs.Common.{◌≡◌, ℕ, zero, suc, ◌+◌, ◌∷◌, Option, Some, None, refl, ap, ◌∙◌, subst, arith}
use Rattle.std.specs.Prelude.{option_and_then}
use Rattle.std.proofs.lemmas.Option.{same_Some, none-some}
use Rattle.ms_ir.specs.declared.syntax.Module.{Module}
use Rattle.ms_runs.specs.declared.runs.Setup.{Setup}
use Rattle.ms_runs.specs.declared.runs.RunResult.{RunResult}
use Rattle.ms_runs.specs.Masks.{Rules}
use Rattle.ms_runs.specs.Plain.{Stepped, More, Stop, go_on, run, setting_of}
use Rattle.ms_runs.specs.Shadow.{ShadowState, shadow_step, shadow_by}
use Rattle.ms_check_valid.specs.Formed.{Formed}
use Rattle.ms_check_valid.specs.Valid.{Valid}
use Rattle.ms_runs_good_laws.specs.Reached.{Walk, walk_start, walked_on, walked}
use Rattle.ms_runs_good_laws.specs.GoodRules.{KeepWidths}
use Rattle.ms_runs_good_laws.specs.GoodRuns.{SoundShadow, LeadsTo}
use Rattle.ms_runs_good_laws.specs.GoodWorlds.{GoodWorld, GivesBytes, AnyOrigin}
use Rattle.ms_runs_good_laws.proofs.Sound.{shadow_sound, shadow_keeps}

abbrev answer : Rules → Module → Setup → ℕ → ShadowState → RunResult
answer d m setup n state = run (λ c. c.world) (shadow_step d (setting_of m setup) m) n state

-- from one step on
one_step : (d : Rules) (m : Module) (setup : Setup) (left : ℕ) (before walk : Walk) (r : Stepped ShadowState)
    → walked_on before r ≡ Some walk → go_on (answer d m setup left) r ≡ answer d m setup left walk.state
one_step d m setup left before walk (More next) e = ap (λ w. answer d m setup left w.state) (same_Some (record { state = next; passed = before.state ∷ before.passed }) walk e)
one_step d m setup left before walk (Stop e w) h = absurd (none-some walk h)

from_start : (d : Rules) (m : Module) (setup : Setup) (n left : ℕ) (walk : Walk) → walked d m setup n ≡ Some walk
    → answer d m setup (n + left) (walk_start m setup).state ≡ answer d m setup left walk.state
from_start d m setup zero left walk e =
    ap (λ k. answer d m setup k (walk_start m setup).state) (omega arith) ∙ ap (λ w. answer d m setup left w.state) (same_Some (walk_start m setup) walk e)
from_start d m setup (suc n) left walk e = by_walk (walked d m setup n) (λ before h. from_start d m setup n (suc left) before h) e
  where
    by_walk : (o : Option Walk)
        → ((before : Walk) → o ≡ Some before → answer d m setup (n + suc left) (walk_start m setup).state ≡ answer d m setup (suc left) before.state)
        → option_and_then (λ w. walked_on w (shadow_step d (setting_of m setup) m w.state)) o ≡ Some walk
        → answer d m setup (suc n + left) (walk_start m setup).state ≡ answer d m setup left walk.state
    by_walk None h k = absurd (none-some walk k)
    by_walk (Some before) h k =
        ap (λ j. answer d m setup j (walk_start m setup).state) (omega arith) ∙ h before refl
        ∙ one_step d m setup left before walk (shadow_step d (setting_of m setup) m before.state) k

pub from_walk : (d : Rules) (m : Module) (setup : Setup) (n left : ℕ) (walk : Walk) → walked d m setup n ≡ Some walk → setup.steps ≡ n + left
    → shadow_by d m setup ≡ answer d m setup left walk.state
from_walk d m setup n left walk e k = ap (λ j. answer d m setup j (walk_start m setup).state) k ∙ from_start d m setup n left walk e

-- ---- states

-- what holds at the start of a run and after each of its steps holds in each of its states
pub walks_keep : (d : Rules) (m : Module) (setup : Setup) (holds : Walk → Type 0) → holds (walk_start m setup)
    → ((n : ℕ) (walk : Walk) (next : ShadowState) → walked d m setup n ≡ Some walk → holds walk → shadow_step d (setting_of m setup) m walk.state ≡ More next → holds (record { state = next; passed = walk.state ∷ walk.passed }))
    → (n : ℕ) (walk : Walk) → walked d m setup n ≡ Some walk → holds walk
walks_keep d m setup holds start step zero walk e = subst holds (same_Some (walk_start m setup) walk e) start
walks_keep d m setup holds start step (suc n) walk e = by_walk (walked d m setup n) refl (λ before h. walks_keep d m setup holds start step n before h) e
  where
    by_step : (before : Walk) → walked d m setup n ≡ Some before → holds before → (r : Stepped ShadowState) → shadow_step d (setting_of m setup) m before.state ≡ r → walked_on before r ≡ Some walk → holds walk
    by_step before at h (More next) is k = subst holds (same_Some (record { state = next; passed = before.state ∷ before.passed }) walk k) (step n before next at h is)
    by_step before at h (Stop x w) is k = absurd (none-some walk k)

    by_walk : (o : Option Walk) → walked d m setup n ≡ o → ((before : Walk) → o ≡ Some before → holds before) → option_and_then (λ w. walked_on w (shadow_step d (setting_of m setup) m w.state)) o ≡ Some walk → holds walk
    by_walk None at h k = absurd (none-some walk k)
    by_walk (Some before) at h k = by_step before at (h before refl) (shadow_step d (setting_of m setup) m before.state) refl k

-- each state of a shadow run of a formed and valid module is good
pub walks_sound : (d : Rules) → KeepWidths d → (m : Module) → Formed m → Valid m → (setup : Setup) → GivesBytes setup → (n : ℕ) (walk : Walk) → walked d m setup n ≡ Some walk → SoundShadow m walk.state
walks_sound d widths m formed valid setup bytes = walks_keep d m setup (λ walk. SoundShadow m walk.state) (shadow_sound m formed valid setup bytes)
    (λ n walk next at h is. subst (LeadsTo (SoundShadow m) (GoodWorld AnyOrigin)) is (shadow_keeps d widths m formed valid setup bytes walk.state h))
