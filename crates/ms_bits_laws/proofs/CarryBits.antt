-- The mask of a sum, bit by bit: a bit is set where it or a lower one of the union is.
use Rattle.std.proofs.Common.{◌≡◌, ◌≢◌, ℕ, suc, ◌%◌, ◌^◌, ◌<◌, ◌≤◌, Bool, true, false, not, eqb, refl, sym, ap, ◌∙◌, arith}
use Rattle.std.specs.Int.{bit_at, from_bool}
use Rattle.std.proofs.lemmas.Bool.{eqb-true, eqb-false}
use Rattle.std.proofs.lemmas.Nat.{pow_pos, mod_below}
use Rattle.std.proofs.lemmas.Nat.Bits.{bit_at-lt, bit_at-zero, same_from_bits_below}
use Rattle.ms_bits.specs.Fill.{number_of_bits}
use Rattle.ms_bits.specs.Formulas.{carry_mask, HasBitUpTo}
use Rattle.ms_bits_laws.proofs.BitLemmas.{some_bit, bit_at_mod}
use Rattle.ms_bits_laws.proofs.CarryMasks.{carry_bit, carry_mask-lt}
use Rattle.ms_bits_laws.proofs.MaskFunctions.{number_fits, number_bit, from_bool-lt}

none_up_to : (s i j : ℕ) → j ≤ i → s % 2 ^ suc i ≡ 0 → bit_at s j ≡ 0
none_up_to s i j l z = sym (bit_at_mod s (suc i) j (omega arith)) ∙ ap (λ n. bit_at n j) z ∙ bit_at-zero j

one_up_to : (s i : ℕ) → s % 2 ^ suc i ≢ 0 → HasBitUpTo s i
one_up_to s i some =
    let (j, l, one) = some_bit (suc i) (s % 2 ^ suc i) (mod_below s (2 ^ suc i) (pow_pos (suc i))) some in
    (j, omega arith, sym (bit_at_mod s (suc i) j l) ∙ one)

bit_told : (w s i : ℕ) → s < 2 ^ w → i < w → from_bool (not (eqb (s % 2 ^ suc i) 0)) ≡ bit_at (carry_mask w s) i
bit_told w s i p l = by_test (eqb (s % 2 ^ suc i) 0) refl
  where
    clash : s % 2 ^ suc i ≡ 0 → bit_at (carry_mask w s) i ≡ 1 → ⊥
    clash z one = let (j, lj, set) = (carry_bit w s i p l).0 one in absurd (omega (arith, set, none_up_to s i j lj z))

    none : (x : ℕ) → x < 2 → (x ≡ 1 → ⊥) → 0 ≡ x
    none x q never = omega (arith, q, never)

    by_test : (t : Bool) → eqb (s % 2 ^ suc i) 0 ≡ t → from_bool (not t) ≡ bit_at (carry_mask w s) i
    by_test true e = none (bit_at (carry_mask w s) i) (bit_at-lt (carry_mask w s) i) (clash (eqb-true (s % 2 ^ suc i) 0 e))
    by_test false e = sym ((carry_bit w s i p l).1 (one_up_to s i (eqb-false (s % 2 ^ suc i) 0 e)))

-- the bits of the formula are those from the lowest one on
pub carry_told : (w s : ℕ) → s < 2 ^ w → number_of_bits (λ i. from_bool (not (eqb (s % 2 ^ suc i) 0))) w ≡ carry_mask w s
carry_told w s p =
    let bit : ℕ → ℕ = λ i. from_bool (not (eqb (s % 2 ^ suc i) 0)) in
    let small : (i : ℕ) → bit i < 2 = λ i. from_bool-lt (not (eqb (s % 2 ^ suc i) 0)) in
    same_from_bits_below w _ _ (number_fits bit small w) (carry_mask-lt w s p) (λ i l. number_bit bit small w i l ∙ bit_told w s i p l)
