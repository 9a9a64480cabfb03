-- Names and strings are read as what they were written of.
use Rattle.std.proofs.Common.{◌≡◌, ℕ, zero, suc, ◌+◌, ◌*◌, ◌<◌, Bool, true, false, ◌&&◌, cond, eqb, [], ◌∷◌, ◌++◌, refl, sym, ap, ◌∙◌, arith}
use Rattle.std.specs.Prelude.{◌/◌, ◌%◌, not, flat_map, nat_lt}
use Rattle.std.specs.List.{list_all, position_or_len}
use Rattle.std.specs.Char.{is_digit, digit_value, is_ascii_digit}
use Rattle.std.proofs.lemmas.List.{take_at}
use Rattle.std.proofs.lemmas.Bool.{ltb-true, and_parts}
use Rattle.ms_lex.specs.Tokens.{Text, is_name_byte, is_quote}
use Rattle.ms_lex.specs.Names.{decoded, unescaped, is_backslash}
use Rattle.ms_lex.proofs.Forms.{differs}
use Rattle.ms_ir.specs.declared.syntax.Name.TheVariants.{Text as Called}
use Rattle.ms_text_grammar.specs.LayoutNames.{is_printed, hexadecimal_digit, string_byte, quoted, is_plain, name_text, are_bytes}
use Rattle.ms_text_grammar.proofs.WholeNames.{quote_place}

-- ---- hexadecimal digits

abbrev IsHexadecimal : ℕ → Type 0
IsHexadecimal n = (is_backslash (hexadecimal_digit n) ≡ false) × (is_digit (hexadecimal_digit n) 16 ≡ true) × (digit_value (hexadecimal_digit n) ≡ n)

hexadecimal : (n : ℕ) → n < 16 → IsHexadecimal n
hexadecimal zero h = (refl, refl, refl)
hexadecimal (suc zero) h = (refl, refl, refl)
hexadecimal (suc (suc zero)) h = (refl, refl, refl)
hexadecimal (suc (suc (suc zero))) h = (refl, refl, refl)
hexadecimal (suc (suc (suc (suc zero)))) h = (refl, refl, refl)
hexadecimal (suc (suc (suc (suc (suc zero))))) h = (refl, refl, refl)
hexadecimal (suc (suc (suc (suc (suc (suc zero)))))) h = (refl, refl, refl)
hexadecimal (suc (suc (suc (suc (suc (suc (suc zero))))))) h = (refl, refl, refl)
hexadecimal (suc (suc (suc (suc (suc (suc (suc (suc zero)))))))) h = (refl, refl, refl)
hexadecimal (suc (suc (suc (suc (suc (suc (suc (suc (suc zero))))))))) h = (refl, refl, refl)
hexadecimal (suc (suc (suc (suc (suc (suc (suc (suc (suc (suc zero)))))))))) h = (refl, refl, refl)
hexadecimal (suc (suc (suc (suc (suc (suc (suc (suc (suc (suc (suc zero))))))))))) h = (refl, refl, refl)
hexadecimal (suc (suc (suc (suc (suc (suc (suc (suc (suc (suc (suc (suc zero)))))))))))) h = (refl, refl, refl)
hexadecimal (suc (suc (suc (suc (suc (suc (suc (suc (suc (suc (suc (suc (suc zero))))))))))))) h = (refl, refl, refl)
hexadecimal (suc (suc (suc (suc (suc (suc (suc (suc (suc (suc (suc (suc (suc (suc zero)))))))))))))) h = (refl, refl, refl)
hexadecimal (suc (suc (suc (suc (suc (suc (suc (suc (suc (suc (suc (suc (suc (suc (suc zero))))))))))))))) h = (refl, refl, refl)
hexadecimal (suc (suc (suc (suc (suc (suc (suc (suc (suc (suc (suc (suc (suc (suc (suc (suc n)))))))))))))))) h = absurd (omega arith)

-- ---- escapes

itself : (a : ℕ) (z : Text) → is_backslash a ≡ false → unescaped (a ∷ z) ≡ a ∷ unescaped z
itself a [] h = refl
itself a (b ∷ []) h = rw h refl
itself a (b ∷ c ∷ z) h = rw h refl

escaped : (m n : ℕ) (z : Text) → IsHexadecimal m → IsHexadecimal n → unescaped (92 ∷ hexadecimal_digit m ∷ hexadecimal_digit n ∷ z) ≡ (16 * m + n) ∷ unescaped z
escaped m n z p q = rw (p.0, p.1, q.1, p.2, q.2) refl

printed_is_no_backslash : (a b c : Bool) (d : Bool) → (a && b && not c && not d) ≡ true → d ≡ false
printed_is_no_backslash a b c false h = refl
printed_is_no_backslash true true false true h = sym h
printed_is_no_backslash true true true true h = sym h
printed_is_no_backslash true false c true h = sym h
printed_is_no_backslash false b c true h = sym h

byte_back : (b : ℕ) (z : Text) → nat_lt b 256 ≡ true → unescaped (string_byte b ++ z) ≡ b ∷ unescaped z
unfolding string_byte
byte_back b z small = elim (is_printed b) as (λ t. is_printed b ≡ t → unescaped (cond t (b ∷ []) (92 ∷ hexadecimal_digit (b / 16) ∷ hexadecimal_digit (b % 16) ∷ []) ++ z) ≡ b ∷ unescaped z) [
  | true ↦ λ h. itself b z (printed_is_no_backslash (nat_lt 31 b) (nat_lt b 127) (eqb b 34) (eqb b 92) h)
  | false ↦ λ h.
      let less = ltb-true b 256 small in
      escaped (b / 16) (b % 16) z (hexadecimal (b / 16) (omega arith)) (hexadecimal (b % 16) (omega arith)) ∙ ap (λ n. n ∷ unescaped z) (omega arith)
] refl

bytes_back : (x : Text) → are_bytes x ≡ true → unescaped (flat_map string_byte x) ≡ x
bytes_back [] h = refl
bytes_back (b ∷ x) h =
    let parts = and_parts (nat_lt b 256) (are_bytes x) h in
    byte_back b (flat_map string_byte x) parts.0 ∙ ap (λ z. b ∷ z) (bytes_back x parts.1)

-- ---- strings and names

pub string_back : (x : Text) → are_bytes x ≡ true → decoded (quoted x) ≡ x
unfolding quoted
string_back x h =
    ap unescaped (take_at (flat_map string_byte x) (34 ∷ []) (position_or_len is_quote (flat_map string_byte x ++ 34 ∷ [])) (sym (quote_place x [])))
    ∙ bytes_back x h

plain_back : (x : Text) → is_plain x ≡ true → decoded x ≡ x
plain_back [] h = refl
plain_back (b ∷ x) h =
    let named = (and_parts (is_name_byte b) (list_all is_name_byte x) (and_parts (not (is_ascii_digit b)) (list_all is_name_byte (b ∷ x)) h).1).0 in
    rw (differs b 34 named refl) refl

pub name_back : (x : Text) → are_bytes x ≡ true → decoded (name_text (Called x)) ≡ x
unfolding name_text
name_back x h = elim (is_plain x) as (λ t. is_plain x ≡ t → decoded (cond t x (quoted x)) ≡ x) [
  | true ↦ λ p. plain_back x p
  | false ↦ λ p. string_back x h
] refl
