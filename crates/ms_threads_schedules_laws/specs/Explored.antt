-- What it means to have explored the schedules of a run (own).
use Rattle.std.specs.Prelude.{◌≡◌, ◌⊎◌, ℕ, ◌+◌, List, [], ◌∷◌}
use Rattle.ms_threads_schedules_laws.specs.Picks.{Pick, number_at, Chooses}
use Rattle.ms_threads_schedules_laws.specs.Trees.{OneTree, Begins, Somewhere, Everywhere, Pairwise}

-- what the schedules of a run pick: one tree, in which each chooses by its numbers
pub record IsTree (picks : List ℕ → List Pick) : Type 0 where
  pub one : (a b : List ℕ) → OneTree (picks a) (picks b)
  pub chooses : (schedule : List ℕ) → Chooses schedule 0 (picks schedule)

-- the picks of a schedule are those of a run that was seen, or begin as one that is left
abbrev pub SeenOrLeft : List Pick → (seen : List (List Pick)) → (left : List (List ℕ)) → Type 0
SeenOrLeft ps seen left = Somewhere (λ qs. ps ≡ qs) seen ⊎ Somewhere (λ told. Begins told ps) left

-- so do those of each schedule
abbrev pub Explored : (picks : List ℕ → List Pick) → (seen : List (List Pick)) → (left : List (List ℕ)) → Type 0
Explored picks seen left = (schedule : List ℕ) → SeenOrLeft (picks schedule) seen left

-- each schedule picks as one that was seen
abbrev pub Covers : (picks : List ℕ → List Pick) → (seen : List (List Pick)) → Type 0
Covers picks seen = (schedule : List ℕ) → Somewhere (λ qs. picks schedule ≡ qs) seen

-- no picks begin as both
abbrev pub Disjoint : List ℕ → List ℕ → Type 0
Disjoint a b = (ps : List Pick) → Begins a ps → Begins b ps → ⊥

-- no run is seen twice, and none that is left was seen
pub record EachOnce (seen : List (List Pick)) (left : List (List ℕ)) : Type 0 where
  pub runs : Pairwise (λ ps qs. ps ≡ qs → ⊥) seen
  pub beginnings : Pairwise Disjoint left
  pub apart : Everywhere (λ ps. Everywhere (λ told. Begins told ps → ⊥) left) seen

-- a schedule has, from a pick on, the numbers of a beginning
abbrev pub Reads : (schedule : List ℕ) → (from : ℕ) → (told : List ℕ) → Type 0
Reads schedule k [] = Unit {0}
Reads schedule k (n ∷ ns) = (number_at schedule k ≡ n) × Reads schedule (k + 1) ns

-- each schedule with the numbers of a beginning has picks that begin so
abbrev pub Leads : (picks : List ℕ → List Pick) → (told : List ℕ) → Type 0
Leads picks told = (schedule : List ℕ) → Reads schedule 0 told → Begins told (picks schedule)

-- how far schedules are explored: each was seen, or begins as one that is left, and not both; each that is left can be run
pub record Exploring (picks : List ℕ → List Pick) (seen : List (List Pick)) (left : List (List ℕ)) : Type 0 where
  pub explored : Explored picks seen left
  pub once : EachOnce seen left
  pub leads : Everywhere (Leads picks) left
