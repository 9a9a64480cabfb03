-- What a program does under every schedule (own).
use Rattle.std.specs.Prelude.{◌≡◌, ℕ, Bool, true, false, List, [], ◌∷◌, if◌then◌else◌}
use Rattle.ms_ir.specs.declared.syntax.Module.{Module}
use Rattle.ms_runs.specs.declared.runs.Setup.{Setup}
use Rattle.ms_runs.specs.declared.runs.RunResult.{RunResult}
use Rattle.ms_runs.specs.Verdict.{Verdict, Clean, verdict_of}
use Rattle.ms_runs_good_laws.specs.Fills.{IsFill, refilled, SameShown}
use Rattle.ms_runs_threads.specs.PlainFibers.{plain_threads}
use Rattle.ms_runs_threads.specs.ShadowFibers.{shadow_threads}
use Rattle.ms_threads_schedules_laws.specs.Picks.{shadow_picks}
use Rattle.ms_threads_schedules_laws.specs.Trees.{Somewhere, Everywhere}
use Rattle.ms_threads_schedules_laws.specs.Exploration.{schedules_run}

-- the shadow runs under some schedules are clean
abbrev pub AllClean : Module → Setup → (schedules : List (List ℕ)) → Type 0
AllClean m setup schedules = Everywhere (λ schedule. verdict_of (shadow_threads m setup schedule) ≡ Clean) schedules

-- under a schedule the shadow run has a result, which is clean, and the program itself prints the same and ends in the same way
pub record ShowsCleanly (m : Module) (setup : Setup) (schedule : List ℕ) (r : RunResult) : Type 0 where
  pub shadow : shadow_threads m setup schedule ≡ r
  pub clean : verdict_of r ≡ Clean
  pub shown : SameShown (plain_threads m setup schedule) r

-- under each schedule and with each fill a module runs as under one of some schedules
abbrev pub RunsAsOne : Module → Setup → (schedules : List (List ℕ)) → Type 0
RunsAsOne m setup schedules =
    (schedule fill : List ℕ) → IsFill fill → Somewhere (λ one. ShowsCleanly m (refilled setup fill) schedule (shadow_threads m setup one)) schedules

-- ---- up to the first run that isn't clean

abbrev pub is_clean : Verdict → Bool
is_clean Clean = true
is_clean _ = false

-- the items up to the first that doesn't pass a test, with that one
abbrev pub up_to_first : {X : Type 0} → (X → Bool) → List X → List X
up_to_first test [] = []
up_to_first test (x ∷ xs) = if test x then x ∷ up_to_first test xs else x ∷ []

abbrev pub last_or : {X : Type 0} → List X → X → X
last_or [] d = d
last_or (x ∷ xs) d = last_or xs x

-- the schedules of at most so many runs, up to the first whose shadow run isn't clean
abbrev pub schedules_tried : Module → Setup → (count : ℕ) → List (List ℕ)
schedules_tried m setup count = up_to_first (λ schedule. is_clean (verdict_of (shadow_threads m setup schedule))) (schedules_run (shadow_picks m setup) count)
