-- Exploring from a queue of beginnings, run by run (own).
use Rattle.std.specs.Prelude.{◌≤◌, ◌-◌, ℕ, zero, suc, List, [], ◌∷◌, ◌++◌, length, take, map}
use Rattle.ms_threads_schedules_laws.specs.Picks.{Pick}
use Rattle.ms_threads_schedules_laws.specs.Trees.{Everywhere, branches}

-- so many numbers a schedule may have, and so many picks are varied
abbrev pub schedule_limit : ℕ
schedule_limit = 2048

abbrev pub zeros : ℕ → List ℕ
zeros zero = []
zeros (suc n) = 0 ∷ zeros n

-- a beginning as a schedule: zeros come after it
abbrev pub padded : (told : List ℕ) → List ℕ
padded told = told ++ zeros (schedule_limit - length told)

module _ (picks : List ℕ → List Pick) where
  -- what a run of a beginning leaves
  abbrev pub leaves : (told : List ℕ) → List (List ℕ)
  leaves told = branches told (take schedule_limit (picks (padded told)))

  -- the beginnings of the next runs from a queue on, in order, and the queue after so many
  abbrev pub next_runs : (count : ℕ) → (queue : List (List ℕ)) → List (List ℕ)
  next_runs zero queue = []
  next_runs (suc n) [] = []
  next_runs (suc n) (told ∷ queue) = told ∷ next_runs n (queue ++ leaves told)

  abbrev pub queue_after : (count : ℕ) → (queue : List (List ℕ)) → List (List ℕ)
  queue_after zero queue = queue
  queue_after (suc n) [] = []
  queue_after (suc n) (told ∷ queue) = queue_after n (queue ++ leaves told)

  -- the schedules of the first runs, what is left after them
  abbrev pub schedules_run : (count : ℕ) → List (List ℕ)
  schedules_run count = map padded (next_runs count ([] ∷ []))

  abbrev pub beginnings_left : (count : ℕ) → List (List ℕ)
  beginnings_left count = queue_after count ([] ∷ [])

  -- no pick of these runs comes after the last one that is varied
  abbrev pub AreShort : (schedules : List (List ℕ)) → Type 0
  AreShort schedules = Everywhere (λ schedule. length (picks schedule) ≤ schedule_limit) schedules
