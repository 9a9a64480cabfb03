-- What exploring schedules tells is one thing; of a module without threads it is the only run; and of the instrumented form of a module it
-- is what it is of the shadow runs of the module.
use Rattle.std.proofs.Common.{◌≡◌, ◌∙◌, ◌≤◌, ◌&&◌, ◌||◌, ℕ, zero, suc, Bool, true, false, List, [], ◌∷◌, if◌then◌else◌, length, map, take, refl, sym, ap, arith, true≢false, Option, None}
use Rattle.std.specs.List.{list_all}
use Rattle.ms_ir.specs.declared.syntax.Module.{Module}
use Rattle.ms_ir.specs.ThreadCalls.{is_threaded}
use Rattle.ms_runs.specs.declared.runs.BlindPlace.{BlindPlace}
use Rattle.ms_runs.specs.declared.runs.Calls.{Calls}
use Rattle.ms_runs.specs.declared.runs.RunResult.{RunResult}
use Rattle.ms_runs.specs.declared.runs.Setup.{Setup}
use Rattle.ms_runs.specs.Faithful.{Fair}
use Rattle.ms_runs.specs.Plain.{plain}
use Rattle.ms_runs.specs.Verdict.{verdict_of}
use Rattle.ms_threads_schedules_laws.specs.Picks.{Pick}
use Rattle.ms_threads_schedules_laws.specs.Exploration.{padded, next_runs, schedules_run, beginnings_left}
use Rattle.ms_threads_schedules_laws.specs.Promise.{is_clean, up_to_first, last_or}
use Rattle.ms_threads_explore.specs.declared.explorer.Explored.{Explored}
use Rattle.ms_threads_explore.specs.Explorations.{IsExplored, is_empty, is_short, tried_by}
use Rattle.ms_threads_explore.specs.Outcomes.{outcomes_of}
use Rattle.ms_threads_explore.proofs.Alike.{explored_alike}
use Rattle.ms_threads_explore.proofs.Holding.{told_repeats}
use Rattle.ms_corpus.specs.declared.wanted.Wanted.{Wanted}
use Rattle.ms_corpus.specs.Wanted.{is_any, told_as}
use Rattle.ms_top.specs.Instrumented.{IsInstrumented}
use Rattle.ms_top.specs.Parts.{beside_of, only_run}
use Rattle.ms_top.specs.Runs.{plain_under, plain_picks_under, shadow_under, shadow_picks_under}

-- ---- one thing

abbrev made : RunResult → List ℕ → (tried outcomes : ℕ) → Bool → Explored
made result schedule tried outcomes all = record { result = result; schedule = schedule; tried = tried; outcomes = outcomes; all = all }

pub explored_once : (picks : List ℕ → List Pick) (run : List ℕ → RunResult) (runs : ℕ) (e f : Explored) → IsExplored picks run runs e → IsExplored picks run runs f → e ≡ f
explored_once picks run runs e f p q =
    ap (λ (x : RunResult). made x e.schedule e.tried e.outcomes e.all) (p.result ∙ sym q.result)
    ∙ ap (λ (x : List ℕ). made f.result x e.tried e.outcomes e.all) (p.schedule ∙ sym q.schedule)
    ∙ ap (λ (x : ℕ). made f.result f.schedule x e.outcomes e.all) (p.tried ∙ sym q.tried)
    ∙ ap (λ (x : ℕ). made f.result f.schedule f.tried x e.all) (p.outcomes ∙ sym q.outcomes)
    ∙ ap (λ (x : Bool). made f.result f.schedule f.tried f.outcomes x) (p.all ∙ sym q.all)

-- ---- without threads

abbrev no_picks : List ℕ → List Pick
no_picks schedule = []

no_more : (n : ℕ) → next_runs no_picks n [] ≡ []
no_more zero = refl
no_more (suc n) = refl

one_schedule : (n : ℕ) → schedules_run no_picks (suc n) ≡ padded [] ∷ []
one_schedule n = ap (λ (more : List (List ℕ)). map padded ([] ∷ more)) (no_more n)

either : (b : Bool) (xs : List (List ℕ)) → (if b then xs else xs) ≡ xs
either true xs = refl
either false xs = refl

module _ (r : RunResult) where
  abbrev always : List ℕ → RunResult
  always schedule = r

  tried_one : (n : ℕ) → tried_by no_picks always (suc n) ≡ padded [] ∷ []
  tried_one n = ap (up_to_first (λ (schedule : List ℕ). is_clean (verdict_of r))) (one_schedule n) ∙ either (is_clean (verdict_of r)) (padded [] ∷ [])

  only : (n : ℕ) → IsExplored no_picks always (suc n) (made r (0 ∷ []) 1 1 true)
  only n = record {
    result = refl;
    schedule = sym (ap (λ (tried : List (List ℕ)). take 1 (last_or tried [])) (tried_one n));
    tried = sym (ap (λ (tried : List (List ℕ)). length tried) (tried_one n));
    outcomes = sym (ap (λ (tried : List (List ℕ)). outcomes_of (map always tried)) (tried_one n));
    all = sym (ap (λ (tried : List (List ℕ)). is_empty (beginnings_left no_picks (length tried)) && list_all (is_short no_picks) tried) (tried_one n));
  }

pub only_explored : (m : Module) (s : Setup) (runs : ℕ) → 1 ≤ runs → IsExplored (plain_picks_under false m s) (plain_under false m s) runs (only_run m s)
only_explored m s zero some = absurd (omega (arith, some))
only_explored m s (suc n) some = only (plain m s) n

-- ---- of shadow runs

module _ (m j : Module) (is : IsInstrumented m j) (s : Setup) (fair : Fair s) (runs : ℕ) (e : Explored) (some : 1 ≤ runs)
    (explored : IsExplored (plain_picks_under (is_threaded m) j s) (plain_under (is_threaded m) j s) runs e) where
  pub shadow_explored : IsExplored (shadow_picks_under (is_threaded m) m s) (shadow_under (is_threaded m) m s) runs e
  shadow_explored =
      explored_alike (plain_picks_under (is_threaded m) j s) (shadow_picks_under (is_threaded m) m s) (plain_under (is_threaded m) j s) (shadow_under (is_threaded m) m s)
      (λ schedule long. is.picks s fair schedule long) (λ schedule long. is.runs s fair schedule long) runs e some explored

-- the schedule that is told repeats the run
pub repeats_under : (t : Bool) (j : Module) (s : Setup) (runs : ℕ) (e : Explored) → 1 ≤ runs → IsExplored (plain_picks_under t j s) (plain_under t j s) runs e
    → plain_under t j s e.schedule ≡ e.result
repeats_under true j s runs e some explored = told_repeats j s runs e some explored
repeats_under false j s runs e some explored = sym explored.result

-- ---- beside a result

-- where nothing is wanted nothing is told
module _ (r : RunResult) (calls : List Calls) (last : Option Calls) (places : List BlindPlace) where
  none_by_flags : (c p : Bool) → (c || p) ≡ false → record { calls = []; end_calls = None; places = [] } ≡ beside_of (told_as (record { calls = c; places = p }) r calls last places)
  none_by_flags true p any = absurd (true≢false any)
  none_by_flags false true any = absurd (true≢false any)
  none_by_flags false false any = refl

  pub none_beside : (w : Wanted) → is_any w ≡ false → record { calls = []; end_calls = None; places = [] } ≡ beside_of (told_as w r calls last places)
  none_beside w any = none_by_flags w.calls w.places any
