-- The number that digits spell, digit by digit from the left.
use Rattle.std.proofs.Common.{◌≡◌, ℕ, zero, suc, ◌+◌, ◌*◌, ◌-◌, ◌<◌, ◌≤◌, ◌^◌, [], length, get_or, drop, sym, ap, ◌∙◌, arith, add-one, drop-cons, add_assoc}
use native.Mathlib.Nat.{mul_comm, mul-add, mul-one, mul_left_comm, mul-le-mul_left, pow-suc, zero-mul}
use Rattle.ms_lex.specs.Tokens.{Text}
use Rattle.ms_lex.specs.Numbers.{decimal}

-- n, and then these digits
abbrev pub continued : ℕ → Text → ℕ
continued n digits = n * 10 ^ length digits + decimal digits

power_positive : (k : ℕ) → 0 < 10 ^ k
power_positive zero = omega arith
power_positive (suc k) = let less = power_positive k in rw (pow-suc 10 k) (omega arith)

one_more : (n d p q rest : ℕ) → q ≡ p * 10 → n * q + (d * p + rest) ≡ (10 * n + d) * p + rest
one_more n d p q rest ten =
    let first : n * q ≡ p * (10 * n) = ap (λ x. n * x) ten ∙ mul_left_comm n p 10 ∙ ap (λ x. p * x) (mul_comm n 10) in
    let split : (10 * n + d) * p ≡ p * (10 * n) + p * d = mul_comm (10 * n + d) p ∙ mul-add p (10 * n) d in
    let digit : d * p ≡ p * d = mul_comm d p in
    rw (first, split, digit) (sym (add_assoc (p * (10 * n)) (p * d) rest))

pub one_digit : (digits : Text) (i n : ℕ) → i < length digits → continued n (drop i digits) ≡ continued (10 * n + (get_or digits i 0 - 48)) (drop (i + 1) digits)
one_digit digits i n lt = rw (add-one, drop-cons digits i 0) (one_more n (get_or digits i 0 - 48) (10 ^ length (drop (suc i) digits)) (10 ^ suc (length (drop (suc i) digits))) (decimal (drop (suc i) digits)) (pow-suc 10 (length (drop (suc i) digits))))

-- more digits make no number less
grows : (n : ℕ) (digits : Text) → n ≤ continued n digits
grows n digits =
    let scale : 0 < 10 ^ length digits = power_positive (length digits) in
    let more : n * 1 ≤ n * 10 ^ length digits = mul-le-mul_left n scale in
    omega (arith, mul-one n)

pub too_large : (digits : Text) (i n : ℕ) → i < length digits → 2 ^ 64 ≤ 10 * n + (get_or digits i 0 - 48) → 2 ^ 64 ≤ continued n (drop i digits)
too_large digits i n lt large =
    let step = one_digit digits i n lt in
    let more = grows (10 * n + (get_or digits i 0 - 48)) (drop (i + 1) digits) in
    omega arith

pub began : (digits : Text) → continued 0 digits ≡ decimal digits
began digits = omega (arith, zero-mul (10 ^ length digits))

pub ended : (n : ℕ) → continued n [] ≡ n
ended n = omega (arith, mul-one n)
