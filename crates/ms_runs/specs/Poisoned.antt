-- A word with the shadow that says which of its bits are uninitialised, and where these come from
-- (Stepanov and Serebryany, CGO 2015).
use Rattle.std.specs.Prelude.{ℕ}
use Rattle.ms_bits.specs.Completion as completion

-- a number, a mask with a 1 at each poisoned bit, and an origin
pub record Poisoned : Type 0 where
  pub value : ℕ
  pub mask : ℕ
  pub origin : ℕ

-- a word without a poisoned bit
abbrev pub clean : Poisoned
clean = record { value = 0; mask = 0; origin = 0 }

-- a word of so many bits
abbrev pub InRange : ℕ → Poisoned → Type 0
InRange w p = completion.InRange w p.value p.mask
