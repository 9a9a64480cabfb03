-- A small grammar that the tests use the laws with: sums of digits, as `1+2;`. A token is a byte, and so is a reason to stop: what stood there.
use Rattle.std.specs.Prelude.{ℕ, ◌+◌, ◌-◌, ◌==◌, Bool, if◌then◌else◌, Result, Ok, Err}
use Rattle.std.specs.Char.{is_ascii_digit}
use Rattle.ms_lex.specs.Grammar.{Grammar, give, one, loop, ◌>>=◌, ◌>>◌}
use Rattle.ms_lex.specs.Lists.{expect}

abbrev pub digit : Grammar ℕ ℕ ℕ
digit = one (λ b. if is_ascii_digit b then Ok (b - 48) else Err b)

abbrev pub is_plus : ℕ → ℕ → Result Bool ℕ
is_plus total b = Ok (b == 43)

-- the digit after a plus sign
abbrev pub add_digit : ℕ → ℕ → Grammar ℕ ℕ ℕ
add_digit total plus = digit >>= λ n. give (total + n)

unfoldable pub sum : Grammar ℕ ℕ ℕ
sum = do
  first ← digit
  total ← loop is_plus add_digit first
  expect (λ b. b == 59) (λ b. b)
  give total
