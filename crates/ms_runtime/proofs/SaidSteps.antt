-- What a run says of what its worlds count, by the steps that it has done.
use Rattle.std.proofs.Common.{◌≡◌, ◌<◌, ◌≤◌, ◌+◌, ◌-◌, ℕ, zero, suc, List, length, ap, ◌∙◌, arith}
use Rattle.ms_ir.specs.declared.syntax.Module.{Module}
use Rattle.ms_runs.specs.declared.runs.End.{End}
use Rattle.ms_runs.specs.declared.runs.Setup.{Setup}
use Rattle.ms_runs.specs.World.{World}
use Rattle.ms_runs.specs.Plain.{PlainState, Stepped, More, Stop, and_then, steps}
use Rattle.ms_runs.specs.Calls.{tell_to, said_after, said_in}
use Rattle.ms_runs.proofs.Telling.{told_enough, told_twice}
use Rattle.ms_runs_good_laws.proofs.ReportsGrow.{stepped_world}
use Rattle.ms_machine_steps.specs.Advances.{step_of, Within}

module _ (count : World → ℕ) (m : Module) (u : Setup) (grows : (s : PlainState) → count s.world ≤ count (stepped_world (step_of m u s))) where
  -- steps make no less of what is counted
  pub steps_grow : (n : ℕ) (s t : PlainState) → steps (step_of m u) n s ≡ More t → count s.world ≤ count t.world
  steps_grow zero s t e = omega (arith, ap (λ (x : Stepped PlainState). count (stepped_world x)) e)
  steps_grow (suc n) s t e = by_step (λ c f. steps_grow n c t f) (step_of m u s) (grows s) e
    where
      by_step : ((c : PlainState) → steps (step_of m u) n c ≡ More t → count c.world ≤ count t.world) → (x : Stepped PlainState) → count s.world ≤ count (stepped_world x)
          → and_then x (steps (step_of m u) n) ≡ More t → count s.world ≤ count t.world
      by_step rest (More c) le f = omega (arith, le, rest c f)
      by_step rest (Stop x w) le f = absurd (cc)

module _ {B : Type 0} (count : World → ℕ) (says : PlainState → B) (m : Module) (u : Setup) where
  -- what a run of so many steps from a state says
  abbrev pub tells : ℕ → PlainState → List B → List B
  tells n s told = said_in count (λ (p : PlainState). p.world) says (step_of m u) n s told

  -- what is said from a step on, in which this state stands
  abbrev pub rest_told : PlainState → ℕ → List B → Stepped PlainState → List B
  rest_told s n told x = said_after count (λ (p : PlainState). p.world) (says s) (said_in count (λ (p : PlainState). p.world) says (step_of m u) n) told x

  -- within a step the same is said
  pub told_within : (a b : PlainState) → Within m u a b → says a ≡ says b → (rest : ℕ) (told : List B) → rest_told a rest told (step_of m u a) ≡ rest_told b rest told (step_of m u b)
  told_within a b same alike rest told = λ i.
      said_after count (λ (p : PlainState). p.world) (alike i) (said_in count (λ (p : PlainState). p.world) says (step_of m u) rest) told (same.step i)

  -- also of what was said within it before
  pub told_early : (s : PlainState) (rest n : ℕ) (told : List B) (x : Stepped PlainState) → n ≤ count (stepped_world x) → rest_told s rest (tell_to (says s) n told) x ≡ rest_told s rest told x
  told_early s rest n told (More c) le = ap (tells rest c) (told_twice (says s) n (count c.world) told le)
  told_early s rest n told (Stop e w) le = told_twice (says s) n (count w) told le

  module _ (grows : (s : PlainState) → count s.world ≤ count (stepped_world (step_of m u s))) where
    -- steps that make none say nothing
    pub told_on : (n k : ℕ) (s t : PlainState) (told : List B) → steps (step_of m u) n s ≡ More t → count t.world ≤ length told → tells (n + k) s told ≡ tells k t told
    told_on zero k s t told e le = ap (λ (j : ℕ). tells j s told) (let z : 0 + k ≡ k = omega arith in z) ∙ ap (λ (x : PlainState). tells k x told) (same e)
      where
        same : {a b : PlainState} → More a ≡ More b → a ≡ b
        same e = cc
    told_on (suc n) k s t told e le =
        ap (λ (j : ℕ). tells j s told) (let z : suc n + k ≡ suc (n + k) = omega arith in z) ∙ by_step (λ c f. told_on n k c t told f le) (λ c f. steps_grow count m u grows n c t f) (step_of m u s) e
      where
        by_step : ((c : PlainState) → steps (step_of m u) n c ≡ More t → tells (n + k) c told ≡ tells k t told) → ((c : PlainState) → steps (step_of m u) n c ≡ More t → count c.world ≤ count t.world)
            → (x : Stepped PlainState) → and_then x (steps (step_of m u) n) ≡ More t → rest_told s (n + k) told x ≡ tells k t told
        by_step rest up (More c) f =
            let few : count c.world ≤ length told = omega (arith, up c f, le) in
            ap (tells (n + k) c) (told_enough (says s) (count c.world) told few) ∙ rest c f
        by_step rest up (Stop x w) f = absurd (cc)

    -- where all steps are done, nothing more is said
    pub told_spent : (n : ℕ) (s t : PlainState) (told : List B) → steps (step_of m u) n s ≡ More t → count t.world ≤ length told → tells n s told ≡ told
    told_spent n s t told e le = ap (λ (k : ℕ). tells k s told) (let z : n ≡ n + 0 = omega arith in z) ∙ told_on n 0 s t told e le

    -- where a step ends a run without another one, too
    pub told_ends : (left n : ℕ) (s t : PlainState) (x : End) (w : World) (told : List B) → n < left → steps (step_of m u) n s ≡ More t → step_of m u t ≡ Stop x w → count w ≤ length told → tells left s told ≡ told
    told_ends left n s t x w told lt e stops le =
        let up : count t.world ≤ count w = omega (arith, grows t, ap (λ (y : Stepped PlainState). count (stepped_world y)) stops) in
        ap (λ (k : ℕ). tells k s told) (let z : left ≡ n + suc (left - n - 1) = omega (arith, lt) in z)
        ∙ told_on n (suc (left - n - 1)) s t told e (omega (arith, up, le))
        ∙ ap (rest_told t (left - n - 1) told) stops
        ∙ told_enough (says t) (count w) told le

    -- after such steps the rest is said
    pub told_due : (left rest n : ℕ) (s t : PlainState) (told : List B) → rest + n + 1 ≡ left → steps (step_of m u) n s ≡ More t → count t.world ≤ length told → tells left s told ≡ rest_told t rest told (step_of m u t)
    told_due left rest n s t told e came le = ap (λ (k : ℕ). tells k s told) (let z : left ≡ n + suc rest = omega (arith, e) in z) ∙ told_on n (suc rest) s t told came le
