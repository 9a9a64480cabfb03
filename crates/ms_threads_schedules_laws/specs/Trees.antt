-- The tree of picks: which lists of picks can be those of two schedules, and what is left of it beside one of them (own).
use Rattle.std.specs.Prelude.{◌≡◌, ◌<◌, ◌⊎◌, ℕ, zero, suc, ◌+◌, ◌-◌, List, [], ◌∷◌, ◌++◌, map}
use Rattle.ms_threads_schedules_laws.specs.Picks.{Pick}

-- each pick chose one that could go on
abbrev pub Chosen : List Pick → Type 0
Chosen [] = Unit {0}
Chosen (p ∷ ps) = (p.chosen < p.among) × Chosen ps

-- two lists of picks of one tree: they choose among as many, as long as they choose alike, and end together
abbrev pub OneTree : List Pick → List Pick → Type 0
OneTree [] [] = Unit {0}
OneTree [] (q ∷ qs) = ⊥
OneTree (p ∷ ps) [] = ⊥
OneTree (p ∷ ps) (q ∷ qs) = (p.among ≡ q.among) × (p.chosen < p.among) × (q.chosen < q.among) × (p.chosen ≡ q.chosen → OneTree ps qs)

-- picks begin as told
abbrev pub Begins : (told : List ℕ) → List Pick → Type 0
Begins [] ps = Unit {0}
Begins (n ∷ ns) [] = ⊥
Begins (n ∷ ns) (p ∷ ps) = (p.chosen ≡ n) × Begins ns ps

-- the numbers below one; and so many that come after one
abbrev pub below : ℕ → List ℕ
below zero = []
below (suc n) = n ∷ below n

abbrev pub above : ℕ → (count : ℕ) → List ℕ
above n zero = []
above n (suc k) = (n + suc k) ∷ above n k

-- the places that a pick could have chosen besides its own
abbrev pub others : Pick → List ℕ
others p = above p.chosen (p.among - (p.chosen + 1)) ++ below p.chosen

-- what else could be picked after a beginning: beginnings, each with another last pick
abbrev pub branches : (told : List ℕ) → List Pick → List (List ℕ)
branches ns [] = []
branches (n ∷ ns) (p ∷ ps) = map (λ l. n ∷ l) (branches ns ps)
branches [] (p ∷ ps) = map (λ n. n ∷ []) (others p) ++ map (λ l. p.chosen ∷ l) (branches [] ps)

-- ---- lists

-- one of a list has a property
abbrev pub Somewhere : {X : Type 0} → (X → Type 0) → List X → Type 0
Somewhere P [] = ⊥
Somewhere P (x ∷ xs) = P x ⊎ Somewhere P xs

-- each one has it
abbrev pub Everywhere : {X : Type 0} → (X → Type 0) → List X → Type 0
Everywhere P [] = Unit {0}
Everywhere P (x ∷ xs) = P x × Everywhere P xs

-- each one is related to each that comes later
abbrev pub Pairwise : {X : Type 0} → (X → X → Type 0) → List X → Type 0
Pairwise R [] = Unit {0}
Pairwise R (x ∷ xs) = Everywhere (R x) xs × Pairwise R xs

-- each one of a list is one of another
abbrev pub Within : {X : Type 0} → List X → List X → Type 0
Within xs ys = Everywhere (λ x. Somewhere (λ y. x ≡ y) ys) xs
