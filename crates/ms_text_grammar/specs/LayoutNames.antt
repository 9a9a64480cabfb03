-- How names, strings and numbers are spelled (LLVM Language Reference, "Identifiers" and "Simple Constants").
use Rattle.std.specs.Prelude.{ℕ, ◌+◌, ◌/◌, ◌%◌, Bool, false, not, ◌&&◌, ◌==◌, nat_lt, if◌then◌else◌, [], ◌∷◌, ◌++◌, codes, decimal, flat_map, ℤ, pos, negsuc}
use Rattle.std.specs.List.{list_all}
use Rattle.std.specs.Char.{is_ascii_digit}
use Rattle.ms_bits.specs.Signed.{signed}
use Rattle.ms_lex.specs.declared.kinds.Kind.TheVariants as k
use Rattle.ms_lex.specs.Tokens.{Text, is_name_byte}
use Rattle.ms_ir.specs.declared.syntax.Name.{Name}
use Rattle.ms_ir.specs.declared.syntax.Name.TheVariants.{Number, Text as Called}
use Rattle.ms_text_grammar.specs.Lexemes.{Lexeme, lexeme}

-- ---- strings

-- a byte that stands for itself in a string: a printed one, but neither the quote nor the backslash
abbrev pub is_printed : ℕ → Bool
is_printed b = nat_lt 31 b && nat_lt b 127 && not (b == 34) && not (b == 92)

-- a hexadecimal digit, in upper case
abbrev pub hexadecimal_digit : ℕ → ℕ
hexadecimal_digit n = if nat_lt n 10 then 48 + n else 55 + n

-- a byte of a string: itself, or a backslash and two hexadecimal digits
unfoldable pub string_byte : ℕ → Text
string_byte b = if is_printed b then b ∷ [] else 92 ∷ hexadecimal_digit (b / 16) ∷ hexadecimal_digit (b % 16) ∷ []

-- bytes between quotes
unfoldable pub quoted : Text → Text
quoted bytes = 34 ∷ (flat_map string_byte bytes ++ 34 ∷ [])

-- the token of a string that is the value of an array of bytes
abbrev pub bytes_token : Text → Lexeme
bytes_token bytes = lexeme k.CText (99 ∷ quoted bytes)

-- numbers below 256
abbrev pub are_bytes : Text → Bool
are_bytes text = list_all (λ b. nat_lt b 256) text

-- ---- names

-- a run that doesn't begin with a digit
abbrev pub is_plain : Text → Bool
is_plain [] = false
is_plain (b ∷ rest) = not (is_ascii_digit b) && list_all is_name_byte (b ∷ rest)

-- a name without its sign: a number, a run, or a string
unfoldable pub name_text : Name → Text
name_text (Number n) = decimal n
name_text (Called bytes) = if is_plain bytes then bytes else quoted bytes

-- the name of a value, a block or a type
abbrev pub local_token : Name → Lexeme
local_token n = lexeme k.Local (37 ∷ name_text n)

-- the name of a global or a function
abbrev pub global_token : Name → Lexeme
global_token n = lexeme k.Global (64 ∷ name_text n)

-- the label in front of a block
abbrev pub label_token : Name → Lexeme
label_token n = lexeme k.Label (name_text n ++ codes ":")

-- ---- numbers

-- digits, after a minus sign where the number is negative
abbrev pub signed_text : ℤ → Text
signed_text (pos n) = decimal n
signed_text (negsuc n) = 45 ∷ decimal (n + 1)

-- a number of an integer type of so many bits is written as a signed number
unfoldable pub number_token : ℕ → ℕ → Lexeme
number_token width n = lexeme k.Number (signed_text (signed width n))

-- a number without a type
abbrev pub count_token : ℕ → Lexeme
count_token n = lexeme k.Number (decimal n)
