-- What places of blind uses say of the sites that they were made of (own).
use Rattle.std.specs.Prelude.{◌≡◌, ℕ, ◌+◌, Bool, false, List, [], ◌∷◌, eqb, if◌then◌else◌}
use Rattle.std.specs.List.{list_any}
use Rattle.ms_runs.specs.declared.runs.BlindPlace.{BlindPlace}

-- how many uses some places count
abbrev pub uses_at : List BlindPlace → ℕ
uses_at [] = 0
uses_at (p ∷ ps) = p.count + uses_at ps

-- how many of them at a site
abbrev pub uses_of : ℕ → List BlindPlace → ℕ
uses_of site [] = 0
uses_of site (p ∷ ps) = (if eqb p.site site then p.count else 0) + uses_of site ps

-- how often a site stands in a list
abbrev pub times : ℕ → List ℕ → ℕ
times site [] = 0
times site (k ∷ ks) = (if eqb k site then 1 else 0) + times site ks

-- one of some places has a site
abbrev pub has_place : ℕ → List BlindPlace → Bool
has_place site ps = list_any (λ p. eqb p.site site) ps

-- no two places have the same site
abbrev pub EachOnce : List BlindPlace → Type 0
EachOnce [] = Unit {0}
EachOnce (p ∷ ps) = (has_place p.site ps ≡ false) × EachOnce ps
