-- A list in which one place alone passes a test.
use Rattle.std.specs.Prelude.{◌≡◌, ◌≢◌, ◌<◌, ℕ, Bool, true, false, List, length, get_or}

pub record IsOnly {X : Type 0} (p : X → Bool) (xs : List X) (i : ℕ) : Type 0 where
  pub within : i < length xs
  pub passes : (d : X) → p (get_or xs i d) ≡ true
  pub others : (j : ℕ) (d : X) → j < length xs → j ≢ i → p (get_or xs j d) ≡ false
