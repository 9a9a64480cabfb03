-- Undefined words of two fills: all ones, and all zeros.
use Rattle.std.proofs.Common.{◌≡◌, ◌<◌, ◌≤◌, ◌+◌, ◌-◌, ◌*◌, ◌/◌, ◌%◌, ◌^◌, ℕ, zero, suc, [], ◌∷◌, refl, ap, ◌∙◌, arith}
use Rattle.std.proofs.Math.Pow.{pow_mono}
use Rattle.std.specs.Int.{bit_at}
use Rattle.std.specs.Prelude.{slice_index}
use Rattle.ms_bits.specs.Fill.{number_of_bits, made_byte, undef_bit, undef_word_of}

one-mod : (n : ℕ) → n % 1 ≡ 0
one-mod n = omega arith

-- each bit of a byte of ones
bit_of_ones : (k : ℕ) → k < 8 → bit_at 255 k ≡ 1
bit_of_ones zero lt = refl
bit_of_ones (suc zero) lt = refl
bit_of_ones (suc (suc zero)) lt = refl
bit_of_ones (suc (suc (suc zero))) lt = refl
bit_of_ones (suc (suc (suc (suc zero)))) lt = refl
bit_of_ones (suc (suc (suc (suc (suc zero))))) lt = refl
bit_of_ones (suc (suc (suc (suc (suc (suc zero)))))) lt = refl
bit_of_ones (suc (suc (suc (suc (suc (suc (suc zero))))))) lt = refl
bit_of_ones (suc (suc (suc (suc (suc (suc (suc (suc k)))))))) lt = absurd (omega (arith, lt))

bit_of_zeros : (k : ℕ) → k < 8 → bit_at 0 k ≡ 0
bit_of_zeros zero lt = refl
bit_of_zeros (suc zero) lt = refl
bit_of_zeros (suc (suc zero)) lt = refl
bit_of_zeros (suc (suc (suc zero))) lt = refl
bit_of_zeros (suc (suc (suc (suc zero)))) lt = refl
bit_of_zeros (suc (suc (suc (suc (suc zero))))) lt = refl
bit_of_zeros (suc (suc (suc (suc (suc (suc zero)))))) lt = refl
bit_of_zeros (suc (suc (suc (suc (suc (suc (suc zero))))))) lt = refl
bit_of_zeros (suc (suc (suc (suc (suc (suc (suc (suc k)))))))) lt = absurd (omega (arith, lt))

one_bit : (i : ℕ) → undef_bit (255 ∷ []) i ≡ 1
unfolding undef_bit made_byte
one_bit i = ap (λ b. bit_at (slice_index (255 ∷ []) b) (i % 8)) (one-mod (i / 8)) ∙ bit_of_ones (i % 8) (omega arith)

zero_bit : (i : ℕ) → undef_bit (0 ∷ []) i ≡ 0
unfolding undef_bit made_byte
zero_bit i = ap (λ b. bit_at (slice_index (0 ∷ []) b) (i % 8)) (one-mod (i / 8)) ∙ bit_of_zeros (i % 8) (omega arith)

power_some : (w : ℕ) → 1 + (2 ^ w - 1) ≡ 2 ^ w
power_some zero = refl
power_some (suc w) = let h : 1 + (2 ^ w - 1) ≡ 2 ^ w = power_some w in omega (arith, h)

ones_bits : (n : ℕ) → number_of_bits (undef_bit (255 ∷ [])) n ≡ 2 ^ n - 1
unfolding number_of_bits
ones_bits zero = refl
ones_bits (suc n) =
    let before : number_of_bits (undef_bit (255 ∷ [])) n ≡ 2 ^ n - 1 = ones_bits n in
    let bit : undef_bit (255 ∷ []) n * 2 ^ n ≡ 1 * 2 ^ n = ap (λ b. b * 2 ^ n) (one_bit n) in
    let some : 1 + (2 ^ n - 1) ≡ 2 ^ n = power_some n in
    omega (arith, before, bit, some)

zeros_bits : (n : ℕ) → number_of_bits (undef_bit (0 ∷ [])) n ≡ 0
unfolding number_of_bits
zeros_bits zero = refl
zeros_bits (suc n) =
    let before : number_of_bits (undef_bit (0 ∷ [])) n ≡ 0 = zeros_bits n in
    let bit : undef_bit (0 ∷ []) n * 2 ^ n ≡ 0 * 2 ^ n = ap (λ b. b * 2 ^ n) (zero_bit n) in
    omega (arith, before, bit)

pub ones_word : (w : ℕ) → undef_word_of (255 ∷ []) w ≡ 2 ^ w - 1
unfolding undef_word_of
ones_word w = ones_bits w

pub zeros_word : (w : ℕ) → undef_word_of (0 ∷ []) w ≡ 0
unfolding undef_word_of
zeros_word w = zeros_bits w

-- words of fewer bits
pub below_wider : (v bits width : ℕ) → v < 2 ^ bits → bits ≤ width → v < 2 ^ width
below_wider v bits width h l = let p : 2 ^ bits ≤ 2 ^ width = pow_mono l in omega (arith, h, p)

pub ones_below : (v bits width : ℕ) → v ≡ 2 ^ bits - 1 → bits ≤ width → v < 2 ^ width
ones_below v bits width h l = let p : 2 ^ bits ≤ 2 ^ width = pow_mono l in let some : 1 + (2 ^ bits - 1) ≡ 2 ^ bits = power_some bits in omega (arith, h, p, some)
