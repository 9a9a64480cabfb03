-- Tokens of the other kinds are whole: words, numbers, labels, strings of bytes, metadata and signs.
use Rattle.std.proofs.Common.{◌≡◌, ℕ, suc, ◌+◌, ◌<◌, Bool, true, false, ◌&&◌, cond, eqb, [], ◌∷◌, ◌++◌, length, Some, refl, sym, ap, ◌∙◌, subst, inl, inr, arith, append_assoc, length-append}
use Rattle.std.specs.Prelude.{not, codes, decimal, flat_map, slice_index, ℤ, pos, negsuc}
use Rattle.std.specs.List.{list_all, prefix_len}
use Rattle.std.specs.Char.{is_ascii_digit}
use Rattle.std.proofs.lemmas.Bool.{lt-ltb, and_parts}
use Rattle.std.proofs.lemmas.Bool.Decides.{eqb_tells}
use Rattle.ms_bits.specs.Signed.{signed}
use Rattle.ms_lex.specs.declared.kinds.Kind.TheVariants as k
use Rattle.ms_lex.specs.Tokens.{Text, is_name_byte, is_digits, is_number, begins_word, is_c, one_of, followed_by, or_else, run, run_that, string, name, label, c_text, first_fit, token_at}
use Rattle.ms_lex.proofs.Forms.{run_is, fits_label, fits_string_label, fits_c_text, c_with_string, fits_meta, differs}
use Rattle.ms_ir.specs.declared.syntax.Name.{Name}
use Rattle.ms_ir.specs.declared.syntax.Name.TheVariants.{Number, Text as Called}
use Rattle.ms_text_grammar.specs.Lexemes.{lexeme}
use Rattle.ms_text_grammar.specs.LayoutPieces.{word, sign, meta}
use Rattle.ms_text_grammar.specs.LayoutNames.{string_byte, quoted, is_plain, name_text, label_token, bytes_token, number_token, count_token, signed_text}
use Rattle.ms_text_grammar.specs.LayoutApart.{Fronts, IsWhole}
use Rattle.ms_text_grammar.proofs.WholeTokens.{name_is_no_blank, run_length, run_whole}
use Rattle.ms_text_grammar.proofs.WholeNames.{decimal_named, decimal_digits, decimal_some, closed, plain_named}

-- ---- signs

signs_fit : (rest : Text) → (token_at (40 ∷ rest) ≡ Some (k.Punct, 1)) × (token_at (41 ∷ rest) ≡ Some (k.Punct, 1)) × (token_at (91 ∷ rest) ≡ Some (k.Punct, 1)) × (token_at (93 ∷ rest) ≡ Some (k.Punct, 1)) × (token_at (123 ∷ rest) ≡ Some (k.Punct, 1)) × (token_at (125 ∷ rest) ≡ Some (k.Punct, 1)) × (token_at (60 ∷ rest) ≡ Some (k.Punct, 1)) × (token_at (62 ∷ rest) ≡ Some (k.Punct, 1)) × (token_at (44 ∷ rest) ≡ Some (k.Punct, 1)) × (token_at (61 ∷ rest) ≡ Some (k.Punct, 1))
unfolding token_at first_fit label c_text string run_that run followed_by name or_else one_of
signs_fit rest = (refl, refl, refl, refl, refl, refl, refl, refl, refl, refl)

pub open_paren : IsWhole (sign (codes "("))
open_paren = record { spelled = refl; fronts = λ rest e. (refl, refl, (signs_fit rest).0, omega arith) }

pub close_paren : IsWhole (sign (codes ")"))
close_paren = record { spelled = refl; fronts = λ rest e. (refl, refl, (signs_fit rest).1, omega arith) }

pub open_bracket : IsWhole (sign (codes "["))
open_bracket = record { spelled = refl; fronts = λ rest e. (refl, refl, (signs_fit rest).2, omega arith) }

pub close_bracket : IsWhole (sign (codes "]"))
close_bracket = record { spelled = refl; fronts = λ rest e. (refl, refl, (signs_fit rest).3, omega arith) }

pub open_brace : IsWhole (sign (codes "{"))
open_brace = record { spelled = refl; fronts = λ rest e. (refl, refl, (signs_fit rest).4, omega arith) }

pub close_brace : IsWhole (sign (codes "}"))
close_brace = record { spelled = refl; fronts = λ rest e. (refl, refl, (signs_fit rest).5, omega arith) }

pub less : IsWhole (sign (codes "<"))
less = record { spelled = refl; fronts = λ rest e. (refl, refl, (signs_fit rest).6, omega arith) }

pub greater : IsWhole (sign (codes ">"))
greater = record { spelled = refl; fronts = λ rest e. (refl, refl, (signs_fit rest).7, omega arith) }

pub comma_sign : IsWhole (sign (codes ","))
comma_sign = record { spelled = refl; fronts = λ rest e. (refl, refl, (signs_fit rest).8, omega arith) }

pub equals : IsWhole (sign (codes "="))
equals = record { spelled = refl; fronts = λ rest e. (refl, refl, (signs_fit rest).9, omega arith) }

-- ---- metadata

pub meta_whole : (w : Text) → 0 < length w → list_all is_name_byte w ≡ true → IsWhole (meta (33 ∷ w))
meta_whole w some named = record {
  spelled = refl;
  fronts = λ rest e. (refl, refl, fits_meta (w ++ rest) (length w) (run_is (w ++ rest) (length w) (sym (run_length w rest named e)) some) ∙ ap (λ m. Some (k.Meta, m)) (omega arith), omega arith);
}

-- ---- words

-- a run that begins as a word, and isn't `c`
abbrev pub is_word_text : Text → Bool
is_word_text w = list_all is_name_byte w && begins_word w && not (is_c w) && not (is_number w)

pub not_true : (a : Bool) → not a ≡ true → a ≡ false
not_true false h = refl
not_true true h = sym h

kind_is_word : (a b : Bool) → a ≡ false → b ≡ true → cond a k.Number (cond b k.Word k.Other) ≡ k.Word
kind_is_word a b p q = rw (p, q) refl

pub word_whole : (w : Text) → is_word_text w ≡ true → IsWhole (word w)
word_whole [] h = absurd cc
word_whole (b ∷ w) h =
    let first = and_parts (list_all is_name_byte (b ∷ w) && begins_word (b ∷ w) && not (is_c (b ∷ w))) (not (is_number (b ∷ w))) h in
    let second = and_parts (list_all is_name_byte (b ∷ w) && begins_word (b ∷ w)) (not (is_c (b ∷ w))) first.0 in
    let third = and_parts (list_all is_name_byte (b ∷ w)) (begins_word (b ∷ w)) second.0 in
    subst (λ kind. IsWhole (lexeme kind (b ∷ w))) (kind_is_word (is_number (b ∷ w)) (begins_word (b ∷ w)) (not_true _ first.1) third.1)
    (run_whole b w third.0 (not_true _ second.1))

-- ---- labels

label_length : (w rest : Text) → list_all is_name_byte w ≡ true → prefix_len is_name_byte (w ++ 58 ∷ rest) ≡ length w
label_length [] rest h = refl
label_length (b ∷ w) rest h =
    let parts = and_parts (is_name_byte b) (list_all is_name_byte w) h in
    let more = label_length w rest parts.1 in
    rw (parts.0, more) (omega arith)

colon_after : (w rest : Text) → slice_index (w ++ 58 ∷ rest) (length w) ≡ 58
colon_after [] rest = refl
colon_after (b ∷ w) rest = colon_after w rest

colon_second : (x rest : Text) → slice_index (x ++ 34 ∷ 58 ∷ rest) (suc (length x)) ≡ 58
colon_second [] rest = refl
colon_second (c ∷ x) rest = colon_second x rest

run_label : (w rest : Text) → 0 < length w → list_all is_name_byte w ≡ true → Fronts k.Label (length (w ++ 58 ∷ [])) ((w ++ 58 ∷ []) ++ rest)
run_label [] rest some h = absurd (omega (arith, some))
run_label (b ∷ w) rest some h =
    let named = (and_parts (is_name_byte b) (list_all is_name_byte w) h).0 in
    let text : (b ∷ w) ++ 58 ∷ [] ++ rest ≡ (b ∷ w) ++ 58 ∷ rest = append_assoc (b ∷ w) (58 ∷ []) rest in (
      name_is_no_blank b named,
      differs b 59 named refl,
      ap token_at text ∙ fits_label ((b ∷ w) ++ 58 ∷ rest) (length (b ∷ w)) (sym (label_length (b ∷ w) rest h)) some (colon_after (b ∷ w) rest)
          ∙ ap (λ m. Some (k.Label, m)) (omega (arith, length-append (b ∷ w) (58 ∷ []))),
      omega arith,
    )

string_label : (x rest : Text) → Fronts k.Label (length (quoted x ++ 58 ∷ [])) ((quoted x ++ 58 ∷ []) ++ rest)
unfolding quoted
string_label x rest =
    let body : Text = flat_map string_byte x in
    let inner : (body ++ 34 ∷ []) ++ 58 ∷ [] ++ rest ≡ body ++ 34 ∷ 58 ∷ rest = append_assoc (body ++ 34 ∷ []) (58 ∷ []) rest ∙ append_assoc body (34 ∷ []) (58 ∷ rest) in
    let second : 1 + (length body + 1) ≡ suc (length (34 ∷ body)) = omega arith in
    let place : slice_index (34 ∷ (body ++ 34 ∷ 58 ∷ rest)) (1 + (length body + 1)) ≡ 58 = ap (slice_index (34 ∷ (body ++ 34 ∷ 58 ∷ rest))) second ∙ colon_second (34 ∷ body) rest in (
      refl,
      refl,
      ap (λ r. token_at (34 ∷ r)) inner ∙ fits_string_label (body ++ 34 ∷ 58 ∷ rest) (length body + 1) (closed x (58 ∷ rest)) place
          ∙ ap (λ m. Some (k.Label, m)) (omega (arith, length-append (body ++ 34 ∷ []) (58 ∷ []), length-append body (34 ∷ []))),
      omega arith,
    )

name_label : (n : Name) (rest : Text) → Fronts k.Label (length (name_text n ++ 58 ∷ [])) ((name_text n ++ 58 ∷ []) ++ rest)
unfolding name_text
name_label (Number n) rest = run_label (decimal n) rest (decimal_some n) (decimal_named n)
name_label (Called x) rest = elim (is_plain x) as (λ t. is_plain x ≡ t → Fronts k.Label (length (cond t x (quoted x) ++ 58 ∷ [])) ((cond t x (quoted x) ++ 58 ∷ []) ++ rest)) [
  | true ↦ λ p. let w = plain_named x p in run_label x rest w.0 w.1
  | false ↦ λ p. string_label x rest
] refl

pub label_whole : (n : Name) → IsWhole (label_token n)
label_whole n = record { spelled = refl; fronts = λ rest e. name_label n rest }

-- ---- strings of bytes

pub bytes_whole : (x : Text) → IsWhole (bytes_token x)
unfolding quoted string followed_by one_of
bytes_whole x = record {
  spelled = refl;
  fronts = λ rest e.
      let body : Text = flat_map string_byte x in
      let text : Text = 99 ∷ 34 ∷ (body ++ 34 ∷ rest) in
      let inner : body ++ 34 ∷ [] ++ rest ≡ body ++ 34 ∷ rest = append_assoc body (34 ∷ []) rest in
      let ends : string (34 ∷ (body ++ 34 ∷ rest)) ≡ Some (1 + (length body + 1)) = rw (closed x rest) refl in (
        refl,
        refl,
        ap (λ r. token_at (99 ∷ 34 ∷ r)) inner
            ∙ fits_c_text text 1 refl (omega arith) (λ q. absurd (omega (arith, q))) (1 + (1 + (length body + 1))) (c_with_string text 1 refl (omega arith) refl (1 + (length body + 1)) ends)
            ∙ ap (λ m. Some (k.CText, m)) (omega (arith, length-append body (34 ∷ []))),
        omega arith,
      );
}

-- ---- numbers

digit_is_not : (b c : ℕ) → is_ascii_digit b ≡ true → is_ascii_digit c ≡ false → eqb b c ≡ false
digit_is_not b c h other = elim (eqb_tells b c) [
  | inl same ↦ let e = ap is_ascii_digit same.1 in absurd cc
  | inr apart ↦ apart.0
]

is_digits_of : (w : Text) → 0 < length w → list_all is_ascii_digit w ≡ true → is_digits w ≡ true
is_digits_of w some h = rw (lt-ltb 0 (length w) some, h) refl

digits_are_number : (b : ℕ) (w : Text) → list_all is_ascii_digit (b ∷ w) ≡ true → is_number (b ∷ w) ≡ true
digits_are_number b w h = rw (digit_is_not b 45 (and_parts (is_ascii_digit b) (list_all is_ascii_digit w) h).0 refl) (is_digits_of (b ∷ w) (omega arith) h)

digits_are_not_c : (b : ℕ) (w : Text) → list_all is_ascii_digit (b ∷ w) ≡ true → is_c (b ∷ w) ≡ false
digits_are_not_c b [] h = digit_is_not b 99 (and_parts (is_ascii_digit b) true h).0 refl
digits_are_not_c b (c ∷ w) h = refl

kind_is_number : (a b : Bool) → a ≡ true → cond a k.Number (cond b k.Word k.Other) ≡ k.Number
kind_is_number a b p = rw p refl

digits_whole : (w : Text) → 0 < length w → list_all is_name_byte w ≡ true → list_all is_ascii_digit w ≡ true → IsWhole (lexeme k.Number w)
digits_whole [] some named h = absurd (omega (arith, some))
digits_whole (b ∷ w) some named h =
    subst (λ kind. IsWhole (lexeme kind (b ∷ w))) (kind_is_number (is_number (b ∷ w)) (begins_word (b ∷ w)) (digits_are_number b w h))
    (run_whole b w named (digits_are_not_c b w h))

minus_is_not_c : (w : Text) → is_c (45 ∷ w) ≡ false
minus_is_not_c [] = refl
minus_is_not_c (c ∷ w) = refl

minus_whole : (w : Text) → 0 < length w → list_all is_name_byte w ≡ true → list_all is_ascii_digit w ≡ true → IsWhole (lexeme k.Number (45 ∷ w))
minus_whole w some named h =
    subst (λ kind. IsWhole (lexeme kind (45 ∷ w))) (kind_is_number (is_number (45 ∷ w)) (begins_word (45 ∷ w)) (is_digits_of w some h))
    (run_whole 45 w named (minus_is_not_c w))

pub count_whole : (n : ℕ) → IsWhole (count_token n)
count_whole n = digits_whole (decimal n) (decimal_some n) (decimal_named n) (decimal_digits n)

signed_whole : (z : ℤ) → IsWhole (lexeme k.Number (signed_text z))
signed_whole (pos n) = count_whole n
signed_whole (negsuc n) = minus_whole (decimal (n + 1)) (decimal_some (n + 1)) (decimal_named (n + 1)) (decimal_digits (n + 1))

pub number_whole : (width n : ℕ) → IsWhole (number_token width n)
unfolding number_token
number_whole width n = signed_whole (signed width n)

-- ---- the word of an integer type

width_is_not_c : (w : Text) → is_c (105 ∷ w) ≡ false
width_is_not_c [] = refl
width_is_not_c (c ∷ w) = refl

and_false : (a : Bool) → (a && false) ≡ false
and_false true = refl
and_false false = refl

pub width_whole : (n : ℕ) → IsWhole (word (105 ∷ decimal n))
width_whole n =
    subst (λ kind. IsWhole (lexeme kind (105 ∷ decimal n))) (kind_is_word (is_number (105 ∷ decimal n)) (begins_word (105 ∷ decimal n)) (and_false _) refl)
    (run_whole 105 (decimal n) (decimal_named n) (width_is_not_c (decimal n)))
