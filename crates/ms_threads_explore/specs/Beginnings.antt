-- What a beginning in the code stands for.
use Rattle.std.specs.Prelude.{◌≡◌, ◌<◌, ◌≤◌, ◌+◌, ◌-◌, ℕ, List, [], ◌∷◌, ◌++◌, length, map}
use Rattle.ms_threads_schedules_laws.specs.Picks.{Pick}
use Rattle.ms_threads_schedules_laws.specs.Trees.{above}
use Rattle.ms_threads_schedules_laws.specs.Exploration.{schedule_limit, zeros}
use Rattle.ms_threads_explore.specs.declared.beginnings.NumberAt.{NumberAt}
use Rattle.ms_threads_explore.specs.declared.beginnings.Beginning.{Beginning}

-- the numbers from a place on
abbrev pub told_from : ℕ → List NumberAt → List ℕ
told_from from [] = []
told_from from (m ∷ ms) = zeros (m.place - from) ++ m.number ∷ told_from (m.place + 1) ms

-- marks stand one after the other from a place on, within a schedule
abbrev pub InOrder : ℕ → List NumberAt → Type 0
InOrder from [] = Unit {0}
InOrder from (m ∷ ms) = (from ≤ m.place) × (m.place < schedule_limit) × InOrder (m.place + 1) ms

abbrev pub told_of : Beginning → List ℕ
told_of b = told_from 0 b.marks.items

abbrev pub IsBeginning : Beginning → Type 0
IsBeginning b = InOrder 0 b.marks.items

-- a beginning goes on with zeros up to a place, where it has a number
abbrev pub longer_by : (told : List ℕ) → (place number : ℕ) → List ℕ
longer_by told place number = told ++ (zeros (place - length told) ++ number ∷ [])

-- each pick chose 0
abbrev pub AllZero : List Pick → Type 0
AllZero [] = Unit {0}
AllZero (p ∷ ps) = (p.chosen ≡ 0) × AllZero ps

-- what picks of 0 from a place on leave beside them, pick by pick
abbrev pub rows : (told : List ℕ) → (place : ℕ) → List Pick → List (List ℕ)
rows told place [] = []
rows told place (p ∷ ps) = map (longer_by told place) (above 0 (p.among - 1)) ++ rows told (place + 1) ps
