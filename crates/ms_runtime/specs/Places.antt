-- What is kept of blind uses by their places (own).
use Rattle.std.specs.Prelude.{◌≡◌, ◌<◌, ℕ, List, [], ◌∷◌, map}
use Rattle.ms_runs.specs.declared.runs.BlindPlace.{BlindPlace}
use Rattle.ms_runtime.specs.declared.places.BlindPlaces.{BlindPlaces}

abbrev pub site_in : BlindPlace → ℕ
site_in p = p.site

-- these places are kept
pub record Placed (places : List BlindPlace) (b : BlindPlaces) : Type 0 where
  pub counted : b.counted.items ≡ places
  pub sites : b.sites.keys ≡ map site_in places

-- each counts fewer uses than that
abbrev pub CountsBelow : ℕ → List BlindPlace → Type 0
CountsBelow n [] = Unit {0}
CountsBelow n (p ∷ ps) = (p.count < n) × CountsBelow n ps
