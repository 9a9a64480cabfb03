-- The number that a token spells.
use Rattle.std.specs.Prelude.{ℕ, ◌+◌, ◌-◌, ◌*◌, ◌^◌, ◌==◌, if◌then◌else◌, [], ◌∷◌, length, ℤ, pos, neg_ℤ, ◌<ℤ◌, ◌⊎◌}
use Rattle.ms_lex.specs.declared.kinds.Token.{Token}
use Rattle.ms_lex.specs.Tokens.{Text}
use Rattle.ms_lex.specs.Names.{spelling_of}

-- the number that decimal digits spell: a digit counts ten times for each digit after it
abbrev pub decimal : Text → ℕ
decimal [] = 0
decimal (digit ∷ rest) = (digit - 48) * 10 ^ length rest + decimal rest

-- the same with a minus sign in front, where there is one
abbrev pub signed_decimal : Text → ℤ
signed_decimal [] = pos 0
signed_decimal (b ∷ rest) = if b == 45 then neg_ℤ (pos (decimal rest)) else pos (decimal (b ∷ rest))

unfoldable pub number_of : Text → Token → ℤ
number_of text token = signed_decimal (spelling_of text token)

-- below -2^63 or above 2^64 - 1
abbrev pub IsOutside : ℤ → Type 0
IsOutside n = (n <ℤ neg_ℤ (pos (2 ^ 63))) ⊎ (pos (2 ^ 64 - 1) <ℤ n)
