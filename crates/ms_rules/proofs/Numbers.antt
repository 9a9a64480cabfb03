-- The numbers of values, and words with all bits.
use Rattle.std.proofs.Common.{◌≡◌, ℕ, ◌-◌, ◌<◌, ◌≤◌, ◌^◌, List, Some, length, sym, arith}
use Rattle.std.proofs.Math.Pow.{pow_mono}
use Rattle.ms_ir.specs.declared.syntax.Name.{Name}
use Rattle.ms_check_tables.specs.FirstPlace.{first_place}
use Rattle.ms_check_tables.proofs.Places.{place_below}

-- a number has 32 bits
pub number_low : (names : List Name) (x : Name) (k : ℕ) → Some k ≡ first_place names x → length names ≤ 2 ^ 30 → k < 2 ^ 32
number_low names x k e few = let below = place_below names x k (sym e) in omega arith

-- a word with all bits of a width has 64 bits
pub ones_low : (w n : ℕ) → w ≤ 64 → n ≡ 2 ^ w → n - 1 < 2 ^ 64
ones_low w n few is = let below : 2 ^ w ≤ 2 ^ 64 = pow_mono few in omega (arith, is, below)
