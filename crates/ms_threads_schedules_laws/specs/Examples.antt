-- Fibers that follow scripts, explored.
use Rattle.std.specs.Prelude.{ℕ, true, List, [], ◌∷◌, None}
use Rattle.ms_runs.specs.World.{first_world}
use Rattle.ms_runs_threads.specs.Fibers.{Goes}
use Rattle.ms_runs_threads.specs.Scripts.{Act, Makes, Joins, follows}
use Rattle.ms_threads_schedules_laws.specs.Picks.{Pick, picks_in}
use Rattle.ms_threads_schedules_laws.specs.Exploration.{next_runs}

-- what a run of at most 20 steps picks in which `main` follows a script
abbrev pub script_picks : (scripts : ℕ → List Act) → List Act → (schedule : List ℕ) → List Pick
script_picks scripts acts schedule =
    picks_in (follows scripts) schedule 20 (Goes (record { main = true; acts = acts }) (first_world []) (record { stands = λ k. None; picks = 0 }))

-- the beginnings of at most so many runs
abbrev pub first_runs : (scripts : ℕ → List Act) → List Act → (count : ℕ) → List (List ℕ)
first_runs scripts acts count = next_runs (script_picks scripts acts) count ([] ∷ [])

-- `main` makes a fiber and joins it
abbrev pub makes_and_joins : List Act
makes_and_joins = Makes 0 ∷ Joins 1 ∷ []

-- `main` makes two fibers and joins both
abbrev pub makes_two : List Act
makes_two = Makes 0 ∷ Makes 0 ∷ Joins 1 ∷ Joins 2 ∷ []

-- `main` makes two fibers that join each other, and joins the first
abbrev pub makes_a_round : List Act
makes_a_round = Makes 0 ∷ Makes 1 ∷ Joins 1 ∷ []
