-- Powers of 2, and a number made bit by bit.
use Rattle.std.proofs.Common.{◌≡◌, ◌≤◌, ◌<◌, ◌+◌, ◌*◌, ◌/◌, ◌%◌, ◌^◌, ℕ, suc, arith, refl, bit_and, add-one}
use Rattle.std.specs.Int.{bit_at}
use Rattle.std.proofs.Math.Pow.{pow_mono}
use Rattle.std.proofs.Math.Nat.{pow-suc}
use Rattle.std.proofs.lemmas.Nat.{one_shl}
use Rattle.std.proofs.lemmas.Nat.Bits.{shr_and_one, bit_at-lt}
use Rattle.ms_bits.specs.Fill.{number_of_bits}

-- what fits a width fits a greater one
pub wider : (v a t : ℕ) → v < 2 ^ a → a ≤ t → v < 2 ^ t
wider v a t p l = omega (arith, pow_mono l)

pub no_bits : (bit : ℕ → ℕ) → 0 ≡ number_of_bits bit 0
unfolding number_of_bits
no_bits bit = refl

-- one bit more, as the loop adds it
pub one_more : (bit : ℕ → ℕ) (n v x j : ℕ) → n < 64 → v ≡ number_of_bits bit n → bit_at x j ≡ bit n
    → v + bit_and (x / 2 ^ j) 1 * (1 * 2 ^ n % 2 ^ 64) ≡ number_of_bits bit (n + 1)
unfolding number_of_bits
one_more bit n v x j l e b = rw (add-one, one_shl n 64 l, shr_and_one x j, b, e) refl

pub one_more_fits : (n v x j : ℕ) → n < 64 → v < 2 ^ n → v + bit_and (x / 2 ^ j) 1 * (1 * 2 ^ n % 2 ^ 64) < 2 ^ (n + 1)
one_more_fits n v x j l p = rw (add-one, one_shl n 64 l, shr_and_one x j) (below (bit_at x j) (bit_at-lt x j))
  where
    below : (d : ℕ) → d < 2 → v + d * 2 ^ n < 2 ^ suc n
    below d q = grind (arith, pow-suc 2 n)
