-- What the bytes of a string stand for, byte by byte from the left.
use Rattle.std.proofs.Common.{◌≡◌, ◌≢◌, ℕ, ◌+◌, ◌*◌, true, false, [], ◌∷◌, refl, ap}
use Rattle.std.specs.Char.{digit_value, is_digit}
use Rattle.std.proofs.lemmas.Bool.{ne_eqb}
use Rattle.ms_lex.specs.Tokens.{Text}
use Rattle.ms_lex.specs.Names.{unescaped}

pub plain : (a : ℕ) (z : Text) → a ≢ 92 → unescaped (a ∷ z) ≡ a ∷ unescaped z
plain a [] other = refl
plain a (b ∷ []) other = rw (ne_eqb a 92 other) refl
plain a (b ∷ c ∷ z) other = rw (ne_eqb a 92 other) refl

pub double : (z : Text) → unescaped (92 ∷ 92 ∷ z) ≡ 92 ∷ unescaped z
double [] = refl
double (c ∷ z) = refl

no_digit : (b : ℕ) → is_digit b 16 ≡ true → b ≢ 92
no_digit b digit same = let e = ap (λ k. is_digit k 16) same in absurd cc

pub pair : (b c : ℕ) (z : Text) → is_digit b 16 ≡ true → is_digit c 16 ≡ true → unescaped (92 ∷ b ∷ c ∷ z) ≡ (16 * digit_value b + digit_value c) ∷ unescaped z
pair b c z high low = rw (ne_eqb b 92 (no_digit b high), high, low) refl

pub at_end : unescaped (92 ∷ []) ≡ 92 ∷ unescaped []
at_end = refl

pub before_one : (b : ℕ) → b ≢ 92 → unescaped (92 ∷ b ∷ []) ≡ 92 ∷ unescaped (b ∷ [])
before_one b other = rw (ne_eqb b 92 other) refl

pub no_high : (b c : ℕ) (z : Text) → b ≢ 92 → is_digit b 16 ≡ false → unescaped (92 ∷ b ∷ c ∷ z) ≡ 92 ∷ unescaped (b ∷ c ∷ z)
no_high b c z other high = rw (ne_eqb b 92 other, high) refl

pub no_low : (b c : ℕ) (z : Text) → is_digit b 16 ≡ true → is_digit c 16 ≡ false → unescaped (92 ∷ b ∷ c ∷ z) ≡ 92 ∷ unescaped (b ∷ c ∷ z)
no_low b c z high low = rw (ne_eqb b 92 (no_digit b high), high, low) refl
