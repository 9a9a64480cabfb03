-- The values of options (own).
use Rattle.std.specs.Prelude.{ℕ, ◌+◌, ◌*◌, ◌/◌, ◌%◌, ◌==◌, ◌&&◌, ◌||◌, Bool, not, List, [], ◌∷◌, length, Option, Some, None, nat_lt, nat_le, if◌then◌else◌, slice_index}
use Rattle.std.specs.List.{list_all}
use Rattle.std.specs.Char.{digit_value, is_ascii_digit, is_ascii_hexdigit}
use Rattle.std.specs.Str.Parse.{digits_value}
use Rattle.ms_words.specs.declared.commands.WordsError.{WordsError}
use Rattle.ms_words.specs.declared.commands.WordsError.TheVariants.{BadNumber, BadHex, OutOfRange}
use Rattle.ms_words.specs.declared.names.Takes.{Takes}
use Rattle.ms_words.specs.declared.names.Takes.TheVariants.{Nothing, Anything, Hex, Number}
use Rattle.ms_words.specs.Table.{Word}

-- decimal digits alone, and no zero, 48, before another digit
abbrev pub is_number : Word → Bool
is_number word = nat_lt 0 (length word) && list_all is_ascii_digit word && (length word == 1 || not (slice_index word 0 == 48))

-- the number that digits spell
abbrev pub number : Word → ℕ
number = digits_value 10

-- hexadecimal digits of either case, two for each byte, and at least one byte
abbrev pub is_hex : Word → Bool
is_hex word = nat_lt 0 (length word) && length word % 2 == 0 && list_all is_ascii_hexdigit word

-- the bytes that hexadecimal digits spell
abbrev pub hex_bytes : Word → List ℕ
hex_bytes [] = []
hex_bytes (high ∷ []) = []
hex_bytes (high ∷ low ∷ rest) = (digit_value high * 16 + digit_value low) ∷ hex_bytes rest

-- what is wrong with a value at a place
abbrev pub value_fault : Takes → ℕ → Word → Option WordsError
value_fault Nothing place value = None
value_fault Anything place value = None
value_fault (Hex most) place value =
    if not (is_hex value) then Some (BadHex place) else if nat_lt most (length value / 2) then Some (OutOfRange place) else None
value_fault (Number least most) place value =
    if not (is_number value) then Some (BadNumber place)
    else if nat_le least (number value) && nat_le (number value) most then None else Some (OutOfRange place)
