-- A word as contracts see it.
use Rattle.std.specs.Prelude.{ℕ}

-- a word's width in bits, from 1 to 64, and its number, which is below 2 to that power
pub record Numeral : Type 0 where
  pub width : ℕ
  pub value : ℕ
