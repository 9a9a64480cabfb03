-- What exploring the schedules of a run tells, by the picks and the result of the run under each of them (own).
use Rattle.std.specs.Prelude.{◌≡◌, ℕ, zero, suc, Bool, true, false, ◌&&◌, List, [], ◌∷◌, length, take, map, leb}
use Rattle.std.specs.List.{list_all}
use Rattle.ms_runs.specs.declared.runs.RunResult.{RunResult}
use Rattle.ms_runs.specs.Verdict.{verdict_of}
use Rattle.ms_threads_schedules_laws.specs.Picks.{Pick}
use Rattle.ms_threads_schedules_laws.specs.Exploration.{schedule_limit, schedules_run, beginnings_left}
use Rattle.ms_threads_schedules_laws.specs.Promise.{is_clean, up_to_first, last_or}
use Rattle.ms_threads_explore.specs.Outcomes.{outcomes_of}
use Rattle.ms_threads_explore.specs.declared.explorer.Explored.{Explored}

abbrev pub is_empty : {X : Type 0} → List X → Bool
is_empty [] = true
is_empty (x ∷ xs) = false

-- how long a schedule is for so many picks: it isn't empty
abbrev pub told_length : ℕ → ℕ
told_length zero = 1
told_length (suc n) = suc n

-- no pick of a run comes after the last one that is varied
abbrev pub is_short : (picks : List ℕ → List Pick) → (schedule : List ℕ) → Bool
is_short picks schedule = leb (length (picks schedule)) schedule_limit

-- a run has no report and no blind use
abbrev pub runs_clean : (run : List ℕ → RunResult) → (schedule : List ℕ) → Bool
runs_clean run schedule = is_clean (verdict_of (run schedule))

-- the schedules of the runs that are made: at most so many, up to the first that isn't clean
abbrev pub tried_by : (picks : List ℕ → List Pick) → (run : List ℕ → RunResult) → (count : ℕ) → List (List ℕ)
tried_by picks run count = up_to_first (λ schedule. is_clean (verdict_of (run schedule))) (schedules_run picks count)

-- that of the run that is told: the one that isn't clean, else the last
abbrev pub last_tried : (picks : List ℕ → List Pick) → (run : List ℕ → RunResult) → (count : ℕ) → List ℕ
last_tried picks run count = last_or (tried_by picks run count) []

-- no beginning is left after these runs, and none of them made more picks than are varied
abbrev pub tried_all : (picks : List ℕ → List Pick) → (run : List ℕ → RunResult) → (count : ℕ) → Bool
tried_all picks run count = is_empty (beginnings_left picks (length (tried_by picks run count))) && list_all (is_short picks) (tried_by picks run count)

-- the schedule of the run that is told, as long as its picks; of more picks than a schedule may have numbers it is the whole schedule
abbrev pub told_schedule : (picks : List ℕ → List Pick) → (run : List ℕ → RunResult) → (count : ℕ) → List ℕ
told_schedule picks run count = take (told_length (length (picks (last_tried picks run count)))) (last_tried picks run count)

-- what is told of at most so many runs
pub record IsExplored (picks : List ℕ → List Pick) (run : List ℕ → RunResult) (count : ℕ) (e : Explored) : Type 0 where
  pub result : e.result ≡ run (last_tried picks run count)
  pub schedule : e.schedule ≡ told_schedule picks run count
  pub tried : e.tried ≡ length (tried_by picks run count)
  pub outcomes : e.outcomes ≡ outcomes_of (map run (tried_by picks run count))
  pub all : e.all ≡ tried_all picks run count
