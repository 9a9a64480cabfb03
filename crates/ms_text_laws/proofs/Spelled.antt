-- Names, and words of integer types, are read as what they were written of.
use Rattle.std.proofs.Common.{◌≡◌, ℕ, ◌-◌, ◌<◌, ◌≤◌, ◌^◌, Bool, true, false, not, ◌&&◌, ◌||◌, cond, List, [], ◌∷◌, ◌++◌, length, Ok, Err, refl, ap, ◌∙◌, inl, inr, arith, length-append}
use Rattle.std.specs.Prelude.{codes, decimal, nat_lt, is_some, ◌==◌, take}
use Rattle.std.specs.List.{list_all}
use Rattle.std.specs.Char.{is_ascii_digit}
use Rattle.std.specs.Str.{bytes_eq}
use Rattle.std.proofs.lemmas.List.{take_at}
use Rattle.std.proofs.lemmas.Bool.{ltb-true, lt-ltb, and_right, and_parts}
use Rattle.std.proofs.lemmas.Bool.Decides.{eqb_tells}
use Rattle.ms_lex.specs.Tokens.{Text, is_digits, is_quote}
use Rattle.ms_lex.specs.Names.{decoded}
use Rattle.ms_lex.specs.Numbers as read
use Rattle.ms_ir.specs.declared.syntax.Name.{Name}
use Rattle.ms_ir.specs.declared.syntax.Name.TheVariants.{Number, Text as Called}
use Rattle.ms_ir.specs.Names.{lookup, runtime_functions, slots}
use Rattle.ms_ir.specs.declared.forms.Form.TheVariants.{Instrumented}
use Rattle.ms_text_grammar.specs.declared.refusals.Cause.TheVariants as r
use Rattle.ms_text_grammar.specs.declared.symbols.Symbol.{Symbol}
use Rattle.ms_text_grammar.specs.declared.symbols.Symbol.TheVariants as s
use Rattle.ms_text_grammar.specs.Lexemes.{Lexeme, Row, keywords, symbol_in, type_or_plain, int_symbol, word_symbol, symbol_of, name_in, width_in}
use Rattle.ms_text_grammar.specs.Names.{begins_msan, is_inserted, reserved_local, reserved_global, number_name}
use Rattle.ms_check_valid.specs.FormedNames.{are_bytes, is_local_name, is_global_name}
use Rattle.ms_text_grammar.specs.LayoutPieces.{word}
use Rattle.ms_text_grammar.specs.LayoutNames.{quoted, is_plain, name_text, local_token, global_token, label_token}
use Rattle.ms_text_grammar.proofs.WholeNames.{decimal_digits, decimal_some}
use Rattle.ms_text_grammar.proofs.SpelledBack.{name_back}
use Rattle.ms_text_grammar.proofs.WholeKinds.{not_true}
use Rattle.ms_text_laws.proofs.Limited.{Limits, local_name, global_name, local_by, global_by}
use Rattle.ms_text_laws.proofs.Numbers.{decimal_back}

-- ---- digits

digits_true : (n : ℕ) → is_digits (decimal n) ≡ true
digits_true n = rw (lt-ltb 0 (length (decimal n)) (decimal_some n), decimal_digits n) refl

no_quote : (b : ℕ) → is_ascii_digit b ≡ true → is_quote b ≡ false
no_quote b h = elim (eqb_tells b 34) [
  | inl same ↦ let e = ap is_ascii_digit same.1 in absurd cc
  | inr apart ↦ apart.0
]

digits_decoded : (w : Text) → list_all is_ascii_digit w ≡ true → decoded w ≡ w
digits_decoded [] h = refl
digits_decoded (b ∷ w) h = rw (no_quote b (and_parts (is_ascii_digit b) (list_all is_ascii_digit w) h).0) refl

plain_no_digits : (x : Text) → is_plain x ≡ true → is_digits x ≡ false
plain_no_digits [] p = refl
plain_no_digits (b ∷ w) p =
    let first : is_ascii_digit b ≡ false = not_true (is_ascii_digit b) (and_parts (not (is_ascii_digit b)) _ p).0 in
    and_right (nat_lt 0 (length (b ∷ w))) _ (ap (λ d. d && list_all is_ascii_digit w) first)

text_no_digits : (x : Text) → is_digits (name_text (Called x)) ≡ false
unfolding name_text quoted
text_no_digits x = elim (is_plain x) as (λ t. is_plain x ≡ t → is_digits (cond t x (quoted x)) ≡ false) [
  | true ↦ λ p. plain_no_digits x p
  | false ↦ λ p. and_right (nat_lt 0 (length (quoted x))) false refl
] refl

-- ---- symbols

pub local_number_symbol : (n : ℕ) → (local_token (Number n)).symbol ≡ s.NumberedLocal
unfolding symbol_of name_text
local_number_symbol n = ap (λ b. cond b s.NumberedLocal s.Local) (digits_true n)

pub local_text_symbol : (x : Text) → (local_token (Called x)).symbol ≡ s.Local
unfolding symbol_of
local_text_symbol x = ap (λ b. cond b s.NumberedLocal s.Local) (text_no_digits x)

before_colon : (w : Text) → take (length (w ++ codes ":") - 1) (w ++ codes ":") ≡ w
before_colon w = take_at w (codes ":") (length (w ++ codes ":") - 1) (omega (arith, length-append w (codes ":")))

pub label_number_symbol : (n : ℕ) → (label_token (Number n)).symbol ≡ s.NumberedLabel
unfolding symbol_of name_text
label_number_symbol n = ap (λ w. cond (is_digits w) s.NumberedLabel s.Label) (before_colon (decimal n)) ∙ ap (λ b. cond b s.NumberedLabel s.Label) (digits_true n)

pub label_text_symbol : (x : Text) → (label_token (Called x)).symbol ≡ s.Label
unfolding symbol_of
label_text_symbol x = ap (λ w. cond (is_digits w) s.NumberedLabel s.Label) (before_colon (name_text (Called x))) ∙ ap (λ b. cond b s.NumberedLabel s.Label) (text_no_digits x)

-- ---- the names that tokens spell

number_decoded : (n : ℕ) → decoded (name_text (Number n)) ≡ decimal n
unfolding name_text
number_decoded n = digits_decoded (decimal n) (decimal_digits n)

pub local_number_in : (n : ℕ) → n < 2 ^ 32 → read.decimal (name_in (local_token (Number n))) ≡ n
local_number_in n small = ap read.decimal (number_decoded n) ∙ decimal_back n (omega (arith, small))

pub label_number_in : (n : ℕ) → n < 2 ^ 32 → read.decimal (name_in (label_token (Number n))) ≡ n
label_number_in n small = ap read.decimal (ap decoded (before_colon (name_text (Number n))) ∙ number_decoded n) ∙ decimal_back n (omega (arith, small))

pub local_text_in : (x : Text) → are_bytes x ≡ true → name_in (local_token (Called x)) ≡ x
local_text_in x h = name_back x h

pub global_text_in : (x : Text) → are_bytes x ≡ true → name_in (global_token (Called x)) ≡ x
global_text_in x h = name_back x h

pub label_text_in : (x : Text) → are_bytes x ≡ true → name_in (label_token (Called x)) ≡ x
label_text_in x h = ap decoded (before_colon (name_text (Called x))) ∙ name_back x h

-- ---- reserved names

free_local : (begins inserted : Bool) → (not begins || inserted) ≡ true → (begins && not inserted) ≡ false
free_local true true h = refl
free_local true false h = absurd cc
free_local false i h = refl

free_global : (begins function slot : Bool) → (not begins || function || slot) ≡ true → (begins && not (function || slot)) ≡ false
free_global true true slot h = refl
free_global true false true h = refl
free_global true false false h = absurd cc
free_global false f slot h = refl

pub local_unreserved : (x : Text) → is_local_name (Called x) ≡ true → reserved_local Instrumented x ≡ false
unfolding reserved_local
local_unreserved x h = free_local (begins_msan x) (is_inserted x) (and_parts (are_bytes x) _ h).1

pub global_unreserved : (x : Text) → is_global_name (Called x) ≡ true → reserved_global Instrumented x ≡ false
unfolding reserved_global
global_unreserved x h = free_global (begins_msan x) (is_some (lookup runtime_functions (Called x))) (is_some (lookup slots (Called x))) (and_parts (are_bytes x) _ h).1

-- ---- verdicts on names

-- a number, or a text of fewer bytes
abbrev pub is_below : ℕ → Name → Bool
is_below most (Number n) = true
is_below most (Called x) = nat_lt (length x) most

module _ (limits : Limits) where
  pub local_name_good : (x : Text) → is_local_name (Called x) ≡ true → nat_lt (length x) limits.names ≡ true → local_name limits x ≡ Ok (Called x)
  local_name_good x h few = rw (local_unreserved x h, few) refl

  pub global_name_good : (x : Text) → is_global_name (Called x) ≡ true → nat_lt (length x) limits.names ≡ true → global_name limits x ≡ Ok (Called x)
  global_name_good x h few = rw (global_unreserved x h, few) refl

  pub local_good : (x : Name) → is_local_name x ≡ true → is_below limits.names x ≡ true → local_by limits (local_token x).symbol (local_token x) ≡ Ok x
  local_good (Number n) h few =
      ap (λ y. local_by limits y (local_token (Number n))) (local_number_symbol n)
      ∙ ap number_name (local_number_in n (ltb-true n (2 ^ 32) h))
      ∙ ap (λ b. cond b (Ok (Number n)) (Err r.Numbering)) h
  local_good (Called x) h few =
      ap (λ y. local_by limits y (local_token (Called x))) (local_text_symbol x)
      ∙ ap (local_name limits) (local_text_in x (and_parts (are_bytes x) _ h).0)
      ∙ local_name_good x h few

  pub global_good : (x : Name) → is_global_name x ≡ true → is_below limits.names x ≡ true → global_by limits (global_token x).symbol (global_token x) ≡ Ok x
  unfolding symbol_of
  global_good (Number n) h few = absurd cc
  global_good (Called x) h few = ap (global_name limits) (global_text_in x (and_parts (are_bytes x) _ h).0) ∙ global_name_good x h few

-- ---- the words of integer types

-- `i` and a digit don't begin the word
abbrev not_int : Text → Bool
not_int [] = true
not_int (a ∷ []) = true
not_int (a ∷ b ∷ rest) = not (a == 105) || not (is_ascii_digit b)

apart : (a b d : ℕ) (more : Bool) → (not (a == 105) || not (is_ascii_digit b)) ≡ true → is_ascii_digit d ≡ true → ((a == 105) && ((b == d) && more)) ≡ false
apart a b d more h digit = elim (a == 105) as (λ t. (not t || not (is_ascii_digit b)) ≡ true → (t && ((b == d) && more)) ≡ false) [
  | false ↦ λ p. refl
  | true ↦ λ p. elim (eqb_tells b d) [
    | inl same ↦ let e = ap is_ascii_digit same.1 in let f = not_true (is_ascii_digit b) p in absurd cc
    | inr differ ↦ ap (λ t. t && more) differ.0
  ]
] h

no_row : (row : Text) (d : ℕ) (w : Text) → not_int row ≡ true → is_ascii_digit d ≡ true → bytes_eq row (105 ∷ d ∷ w) ≡ false
no_row [] d w h digit = refl
no_row (a ∷ []) d w h digit = and_right (a == 105) false refl
no_row (a ∷ b ∷ rest) d w h digit = apart a b d (bytes_eq rest w) h digit

no_keyword : (table : List Row) (fallback : Symbol) (d : ℕ) (w : Text) → list_all (λ row. not_int row.0) table ≡ true → is_ascii_digit d ≡ true
    → symbol_in table fallback (105 ∷ d ∷ w) ≡ fallback
no_keyword [] fallback d w h digit = refl
no_keyword (row ∷ table) fallback d w h digit =
    let parts = and_parts (not_int row.0) (list_all (λ row. not_int row.0) table) h in
    ap (λ b. cond b row.1 (symbol_in table fallback (105 ∷ d ∷ w))) (no_row row.0 d w parts.0 digit) ∙ no_keyword table fallback d w parts.1 digit

int_word : (w : Text) → 0 < length w → list_all is_ascii_digit w ≡ true → word_symbol (105 ∷ w) ≡ int_symbol (read.decimal w)
unfolding word_symbol
int_word [] some h = absurd (omega (arith, some))
int_word (d ∷ w) some h =
    no_keyword keywords (type_or_plain (105 ∷ d ∷ w)) d w refl (and_parts (is_ascii_digit d) _ h).0
    ∙ rw (lt-ltb 0 (length (d ∷ w)) some, h) refl

narrow : (n : ℕ) → 1 ≤ n → n ≤ 64 → int_symbol n ≡ s.IntType
narrow n some few = grind arith

-- the token of an integer type
abbrev pub int_token : ℕ → Lexeme
int_token n = word (105 ∷ decimal n)

pub int_token_symbol : (n : ℕ) → 1 ≤ n → n ≤ 64 → (int_token n).symbol ≡ s.IntType
unfolding symbol_of
int_token_symbol n some few = int_word (decimal n) (decimal_some n) (decimal_digits n) ∙ ap int_symbol (decimal_back n (omega (arith, few))) ∙ narrow n some few

pub int_token_width : (n : ℕ) → n ≤ 64 → width_in (int_token n) ≡ n
int_token_width n few = decimal_back n (omega (arith, few))
