-- What a run says of where it ends, by the steps that it has done.
use Rattle.std.proofs.Common.{◌≡◌, ◌<◌, ◌+◌, ◌-◌, ℕ, zero, suc, List, refl, ap, ◌∙◌, arith, Option, Some}
use Rattle.ms_ir.specs.declared.syntax.Module.{Module}
use Rattle.ms_runs.specs.declared.runs.Calls.{Calls}
use Rattle.ms_runs.specs.declared.runs.End.{End}
use Rattle.ms_runs.specs.declared.runs.Setup.{Setup}
use Rattle.ms_runs.specs.World.{World}
use Rattle.ms_runs.specs.Plain.{PlainState, Stepped, More, Stop, and_then, steps}
use Rattle.ms_runs.specs.Calls.{main_calls, ends_after, ends_in}
use Rattle.ms_machine_steps.specs.Advances.{step_of, Within}

module _ (m : Module) (u : Setup) where
  -- what a run of so many steps from a state says of its end
  abbrev pub ends_from : ℕ → PlainState → Option Calls
  ends_from n s = ends_in (λ (p : PlainState). main_calls m p.frames) (step_of m u) n s

  -- what is said from a step on, in which this state stands
  abbrev pub rest_ends : PlainState → ℕ → Stepped PlainState → Option Calls
  rest_ends s n x = ends_after (main_calls m s.frames) (ends_in (λ (p : PlainState). main_calls m p.frames) (step_of m u) n) x

  -- steps that go on end nothing
  pub ends_on : (n k : ℕ) (s t : PlainState) → steps (step_of m u) n s ≡ More t → ends_from (n + k) s ≡ ends_from k t
  ends_on zero k s t e = ap (λ (j : ℕ). ends_from j s) (let z : 0 + k ≡ k = omega arith in z) ∙ ap (λ (x : PlainState). ends_from k x) (same e)
    where
      same : {a b : PlainState} → More a ≡ More b → a ≡ b
      same e = cc
  ends_on (suc n) k s t e = ap (λ (j : ℕ). ends_from j s) (let z : suc n + k ≡ suc (n + k) = omega arith in z) ∙ by_step (λ c f. ends_on n k c t f) (step_of m u s) e
    where
      by_step : ((c : PlainState) → steps (step_of m u) n c ≡ More t → ends_from (n + k) c ≡ ends_from k t) → (x : Stepped PlainState) → and_then x (steps (step_of m u) n) ≡ More t → rest_ends s (n + k) x ≡ ends_from k t
      by_step rest (More c) f = rest c f
      by_step rest (Stop x w) f = absurd (cc)

  -- where all steps are done, the last state is meant
  pub ends_spent : (n : ℕ) (s t : PlainState) → steps (step_of m u) n s ≡ More t → ends_from n s ≡ Some (main_calls m t.frames)
  ends_spent n s t e = ap (λ (k : ℕ). ends_from k s) (let z : n ≡ n + 0 = omega arith in z) ∙ ends_on n 0 s t e

  -- it ends in the step after so many
  pub ends_there : (left n : ℕ) (s t : PlainState) (x : End) (w : World) → n < left → steps (step_of m u) n s ≡ More t → step_of m u t ≡ Stop x w → ends_from left s ≡ Some (main_calls m t.frames)
  ends_there left n s t x w lt e stops =
      ap (λ (k : ℕ). ends_from k s) (let z : left ≡ n + suc (left - n - 1) = omega (arith, lt) in z)
      ∙ ends_on n (suc (left - n - 1)) s t e
      ∙ ap (rest_ends t (left - n - 1)) stops

  -- after such steps the rest is said
  pub ends_due : (left rest n : ℕ) (s t : PlainState) → rest + n + 1 ≡ left → steps (step_of m u) n s ≡ More t → ends_from left s ≡ rest_ends t rest (step_of m u t)
  ends_due left rest n s t e came = ap (λ (k : ℕ). ends_from k s) (let z : left ≡ n + suc rest = omega (arith, e) in z) ∙ ends_on n (suc rest) s t came

  -- within a step the same is said
  pub ends_within : (a b : PlainState) → Within m u a b → (rest : ℕ) → rest_ends a rest (step_of m u a) ≡ rest_ends b rest (step_of m u b)
  ends_within a b same rest = λ i.
      ends_after (let c : Calls = record { sites = same.calls i; started = 0 } in c) (ends_in (λ (p : PlainState). main_calls m p.frames) (step_of m u) rest) (same.step i)
