-- Names are whole: numbers, runs and strings.
use Rattle.std.proofs.Common.{◌≡◌, ℕ, zero, suc, ◌+◌, ◌<◌, ◌≤◌, Bool, true, false, ◌&&◌, cond, eqb, ltb, [], ◌∷◌, ◌++◌, length, Some, refl, sym, ap, ◌∙◌, arith, append_assoc, length-append}
use Rattle.std.specs.Prelude.{◌/◌, ◌%◌, not, decimal, flat_map}
use Rattle.std.specs.Fmt.{digits, digits_onto, digit_glyph}
use Rattle.std.specs.List.{list_all, position_or_len}
use Rattle.std.specs.Char.{is_ascii_digit}
use Rattle.std.proofs.lemmas.Bool.{lt-ltb, ne_eqb, and_parts}
use Rattle.ms_lex.specs.declared.kinds.Kind.TheVariants as k
use Rattle.ms_lex.specs.Tokens.{Text, is_name_byte, is_quote, one_of, followed_by, or_else, run, up_to_quote, string, name}
use Rattle.ms_lex.proofs.Forms.{run_is, fits_local, fits_global}
use Rattle.ms_ir.specs.declared.syntax.Name.{Name}
use Rattle.ms_ir.specs.declared.syntax.Name.TheVariants.{Number, Text as Called}
use Rattle.ms_text_grammar.specs.LayoutNames.{is_printed, hexadecimal_digit, string_byte, quoted, is_plain, name_text, local_token, global_token}
use Rattle.ms_text_grammar.specs.LayoutApart.{ends_token, IsWhole}
use Rattle.ms_text_grammar.proofs.WholeTokens.{run_length}

-- ---- digits

glyph_named : (d : ℕ) → d < 10 → is_name_byte (digit_glyph false d) ≡ true
glyph_named zero h = refl
glyph_named (suc zero) h = refl
glyph_named (suc (suc zero)) h = refl
glyph_named (suc (suc (suc zero))) h = refl
glyph_named (suc (suc (suc (suc zero)))) h = refl
glyph_named (suc (suc (suc (suc (suc zero))))) h = refl
glyph_named (suc (suc (suc (suc (suc (suc zero)))))) h = refl
glyph_named (suc (suc (suc (suc (suc (suc (suc zero))))))) h = refl
glyph_named (suc (suc (suc (suc (suc (suc (suc (suc zero)))))))) h = refl
glyph_named (suc (suc (suc (suc (suc (suc (suc (suc (suc zero))))))))) h = refl
glyph_named (suc (suc (suc (suc (suc (suc (suc (suc (suc (suc d)))))))))) h = absurd (omega arith)

glyph_digit : (d : ℕ) → d < 10 → is_ascii_digit (digit_glyph false d) ≡ true
glyph_digit zero h = refl
glyph_digit (suc zero) h = refl
glyph_digit (suc (suc zero)) h = refl
glyph_digit (suc (suc (suc zero))) h = refl
glyph_digit (suc (suc (suc (suc zero)))) h = refl
glyph_digit (suc (suc (suc (suc (suc zero))))) h = refl
glyph_digit (suc (suc (suc (suc (suc (suc zero)))))) h = refl
glyph_digit (suc (suc (suc (suc (suc (suc (suc zero))))))) h = refl
glyph_digit (suc (suc (suc (suc (suc (suc (suc (suc zero)))))))) h = refl
glyph_digit (suc (suc (suc (suc (suc (suc (suc (suc (suc zero))))))))) h = refl
glyph_digit (suc (suc (suc (suc (suc (suc (suc (suc (suc (suc d)))))))))) h = absurd (omega arith)

-- what each digit passes all digits of a number pass
module _ (test : ℕ → Bool) (passes : (d : ℕ) → d < 10 → test (digit_glyph false d) ≡ true) where
  digits_pass : (k n : ℕ) (acc : Text) → list_all test acc ≡ true → list_all test (digits_onto k 10 false n acc) ≡ true
  digits_pass zero n acc h = h
  digits_pass (suc k) n acc h =
      let glyph : test (digit_glyph false (n % 10)) ≡ true = passes (n % 10) (omega arith) in
      let longer : list_all test (digit_glyph false (n % 10) ∷ acc) ≡ true = rw (glyph, h) refl in
      elim (eqb (n / 10) 0) as (λ t. list_all test (cond t (digit_glyph false (n % 10) ∷ acc) (digits_onto k 10 false (n / 10) (digit_glyph false (n % 10) ∷ acc))) ≡ true) [
        | true ↦ longer
        | false ↦ digits_pass k (n / 10) (digit_glyph false (n % 10) ∷ acc) longer
      ]

digits_grow : (k n : ℕ) (acc : Text) → length acc ≤ length (digits_onto k 10 false n acc)
digits_grow zero n acc = omega arith
digits_grow (suc k) n acc =
    let more = digits_grow k (n / 10) (digit_glyph false (n % 10) ∷ acc) in
    elim (eqb (n / 10) 0) as (λ t. length acc ≤ length (cond t (digit_glyph false (n % 10) ∷ acc) (digits_onto k 10 false (n / 10) (digit_glyph false (n % 10) ∷ acc)))) [
      | true ↦ omega arith
      | false ↦ omega arith
    ]

digits_some : (k n : ℕ) (acc : Text) → length acc < length (digits_onto (suc k) 10 false n acc)
digits_some k n acc =
    let more = digits_grow k (n / 10) (digit_glyph false (n % 10) ∷ acc) in
    elim (eqb (n / 10) 0) as (λ t. length acc < length (cond t (digit_glyph false (n % 10) ∷ acc) (digits_onto k 10 false (n / 10) (digit_glyph false (n % 10) ∷ acc)))) [
      | true ↦ omega arith
      | false ↦ omega arith
    ]

pub decimal_named : (n : ℕ) → list_all is_name_byte (decimal n) ≡ true
unfolding digits
decimal_named n = digits_pass is_name_byte glyph_named 64 n [] refl

pub decimal_digits : (n : ℕ) → list_all is_ascii_digit (decimal n) ≡ true
unfolding digits
decimal_digits n = digits_pass is_ascii_digit glyph_digit 64 n [] refl

pub decimal_some : (n : ℕ) → 0 < length (decimal n)
unfolding digits
decimal_some n = digits_some 63 n []

-- ---- runs as names

run_name : (w rest : Text) → 0 < length w → list_all is_name_byte w ≡ true → ends_token rest ≡ true → name (w ++ rest) ≡ Some (length w)
unfolding name or_else
run_name w rest some named e = rw (run_is (w ++ rest) (length w) (sym (run_length w rest named e)) some) refl

-- ---- strings as names. The hexadecimal digits of any number are no quote

digit_no_quote : (n : ℕ) → is_quote (hexadecimal_digit n) ≡ false
digit_no_quote n = elim (ltb n 10) as (λ t. is_quote (cond t (48 + n) (55 + n)) ≡ false) [
  | true ↦ ne_eqb (48 + n) 34 (λ e. absurd (omega (arith, e)))
  | false ↦ ne_eqb (55 + n) 34 (λ e. absurd (omega (arith, e)))
]

printed_is_no_quote : (a b c d : Bool) → (a && b && not c && not d) ≡ true → c ≡ false
printed_is_no_quote a b false d h = refl
printed_is_no_quote true true true d h = sym h
printed_is_no_quote true false true d h = sym h
printed_is_no_quote false b true d h = sym h

byte_length : (b : ℕ) (z : Text) → position_or_len is_quote (string_byte b ++ z) ≡ length (string_byte b) + position_or_len is_quote z
unfolding string_byte
byte_length b z = elim (is_printed b) as (λ t. is_printed b ≡ t → position_or_len is_quote (cond t (b ∷ []) (92 ∷ hexadecimal_digit (b / 16) ∷ hexadecimal_digit (b % 16) ∷ []) ++ z) ≡ length (cond t (b ∷ []) (92 ∷ hexadecimal_digit (b / 16) ∷ hexadecimal_digit (b % 16) ∷ [])) + position_or_len is_quote z) [
  | true ↦ λ h. rw (printed_is_no_quote (ltb 31 b) (ltb b 127) (eqb b 34) (eqb b 92) h) (omega arith)
  | false ↦ λ h. rw (digit_no_quote (b / 16), digit_no_quote (b % 16)) (omega arith)
] refl

pub quote_place : (x rest : Text) → position_or_len is_quote (flat_map string_byte x ++ 34 ∷ rest) ≡ length (flat_map string_byte x)
quote_place [] rest = refl
quote_place (b ∷ x) rest =
    ap (position_or_len is_quote) (append_assoc (string_byte b) (flat_map string_byte x) (34 ∷ rest))
    ∙ byte_length b (flat_map string_byte x ++ 34 ∷ rest)
    ∙ ap (λ n. length (string_byte b) + n) (quote_place x rest)
    ∙ sym (length-append (string_byte b) (flat_map string_byte x))

pub closed : (x rest : Text) → up_to_quote (flat_map string_byte x ++ 34 ∷ rest) ≡ Some (length (flat_map string_byte x) + 1)
unfolding up_to_quote
closed x rest =
    let less : length (flat_map string_byte x) < length (flat_map string_byte x ++ 34 ∷ rest) = omega (arith, length-append (flat_map string_byte x) (34 ∷ rest)) in
    rw (quote_place x rest, lt-ltb (length (flat_map string_byte x)) (length (flat_map string_byte x ++ 34 ∷ rest)) less) refl

string_name : (x rest : Text) → name (quoted x ++ rest) ≡ Some (length (quoted x))
unfolding quoted name or_else string run followed_by one_of
string_name x rest =
    let text : flat_map string_byte x ++ 34 ∷ [] ++ rest ≡ flat_map string_byte x ++ 34 ∷ rest = append_assoc (flat_map string_byte x) (34 ∷ []) rest in
    rw (text, closed x rest) (ap Some (omega (arith, length-append (flat_map string_byte x) (34 ∷ []))))

-- ---- names

pub plain_named : (x : Text) → is_plain x ≡ true → (0 < length x) × (list_all is_name_byte x ≡ true)
plain_named [] h = absurd cc
plain_named (b ∷ x) h = (omega arith, (and_parts (not (is_ascii_digit b)) (list_all is_name_byte (b ∷ x)) h).1)

name_is : (n : Name) (rest : Text) → ends_token rest ≡ true → name (name_text n ++ rest) ≡ Some (length (name_text n))
unfolding name_text
name_is (Number n) rest e = run_name (decimal n) rest (decimal_some n) (decimal_named n) e
name_is (Called x) rest e = elim (is_plain x) as (λ t. is_plain x ≡ t → name (cond t x (quoted x) ++ rest) ≡ Some (length (cond t x (quoted x)))) [
  | true ↦ λ p. let w = plain_named x p in run_name x rest w.0 w.1 e
  | false ↦ λ p. string_name x rest
] refl

pub local_whole : (n : Name) → IsWhole (local_token n)
local_whole n = record {
  spelled = refl;
  fronts = λ rest e. (refl, refl, rw (fits_local (name_text n ++ rest), name_is n rest e) (ap (λ m. Some (k.Local, m)) (omega arith)), omega arith);
}

pub global_whole : (n : Name) → IsWhole (global_token n)
global_whole n = record {
  spelled = refl;
  fronts = λ rest e. (refl, refl, rw (fits_global (name_text n ++ rest), name_is n rest e) (ap (λ m. Some (k.Global, m)) (omega arith)), omega arith);
}
