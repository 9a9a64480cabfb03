-- Words of digits.
use Rattle.std.proofs.Common.{◌≡◌, ◌<◌, ◌≤◌, ◌&&◌, ◌||◌, ◌^◌, ℕ, true, false, not, [], ◌∷◌, length, refl, arith, sym, true≢false}
use Rattle.std.specs.Prelude.{slice_index, nat_lt, ◌==◌}
use Rattle.std.specs.Char.{is_ascii_digit, digit_value}
use Rattle.std.specs.List.{list_all}
use Rattle.std.specs.Str.Parse.{AllDigits, IsNumeral, digits_value, without_leading_plus}
use Rattle.std.proofs.lemmas.Bool.{and_parts}
use Rattle.ms_words.specs.Table.{Word}
use Rattle.ms_words.specs.Values.{is_number, number}

digit_below : (b : ℕ) → is_ascii_digit b ≡ true → digit_value b < 10
digit_below b is = grind (arith, is)

all_digits : (ds : Word) → list_all is_ascii_digit ds ≡ true → AllDigits 10 ds
all_digits [] all = tt
all_digits (b ∷ ds) all = let parts = and_parts (is_ascii_digit b) (list_all is_ascii_digit ds) all in (digit_below b parts.0, all_digits ds parts.1)

no_plus : (b : ℕ) → is_ascii_digit b ≡ true → (b == 43) ≡ false
no_plus b is = grind (arith, is)

-- a word of digits is a numeral, and begins with no plus
numeral : (word : Word) → nat_lt 0 (length word) ≡ true → list_all is_ascii_digit word ≡ true → (without_leading_plus word ≡ word) × IsNumeral 10 word
numeral [] some all = absurd (true≢false (sym some))
numeral (b ∷ ds) some all =
    let parts = and_parts (is_ascii_digit b) (list_all is_ascii_digit ds) all in
    (rw (no_plus b parts.0) refl, (omega arith, all_digits (b ∷ ds) all))

pub too_large : (word : Word) → is_number word ≡ true → (IsNumeral 10 (without_leading_plus word) × (digits_value 10 (without_leading_plus word) < 2 ^ 64) → ⊥) → 2 ^ 64 ≤ number word
too_large word is not_small =
    let both = and_parts (nat_lt 0 (length word) && list_all is_ascii_digit word) (length word == 1 || not (slice_index word 0 == 48)) is in
    let parts = and_parts (nat_lt 0 (length word)) (list_all is_ascii_digit word) both.0 in
    let spelled = numeral word parts.0 parts.1 in
    let no : digits_value 10 word < 2 ^ 64 → ⊥ = λ small. not_small (rw spelled.0 (spelled.1, small)) in
    omega (arith, no)
