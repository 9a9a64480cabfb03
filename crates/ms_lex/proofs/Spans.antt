-- The tokens of a text lie in it, one after the other.
use Rattle.std.proofs.Common.{◌≡◌, ℕ, zero, suc, ◌+◌, ◌-◌, ◌<◌, ◌≤◌, Bool, true, false, not, cond, eqb, ltb, List, [], ◌∷◌, length, take, drop, Option, Some, None, refl, arith, length-drop}
use Rattle.std.proofs.Math.Dec.{eqb-suc-zero}
use Rattle.std.proofs.lemmas.Bool.{ltb-true}
use Rattle.std.specs.List.{prefix_len, position_or_len, slice_index_or}
use Rattle.std.specs.Option.{option_map, option_and_then, option_or}
use Rattle.ms_lex.specs.declared.kinds.Kind.{Kind}
use Rattle.ms_lex.specs.declared.kinds.Token.{Token}
use Rattle.ms_lex.specs.Tokens.{Text, Form, Found, Cut, is_blank, is_name_byte, is_newline, is_one_of, is_quote, is_number, begins_word, is_c, punctuation, one_of, followed_by, or_else, run, run_that, up_to_quote, string, name, label, c_text, table, or_next, first_fit, token_at, cut_at, cut_from, cut_of, InOrder}

-- ---- A form that fits takes a byte or more, and none after the end

abbrev Inside : Text → Option ℕ → Type 0
Inside text None = Unit {0}
Inside text (Some n) = (0 < n) × (n ≤ length text)

abbrev Fitting : Form → Type 0
Fitting form = (text : Text) → Inside text (form text)

one_of_inside : (bytes : Text) → Fitting (one_of bytes)
unfolding one_of
one_of_inside bytes [] = tt
one_of_inside bytes (b ∷ rest) = elim (is_one_of bytes b) as (λ t. Inside (b ∷ rest) (cond t (Some 1) None)) [
  | true ↦ (omega arith, omega arith)
  | false ↦ tt
]

sum_inside : (text : Text) (n : ℕ) → n ≤ length text → (second : Option ℕ) → Inside (drop n text) second → Inside text (option_map (λ m. n + m) second)
sum_inside text n long None inside = tt
sum_inside text n long (Some m) inside = (omega arith, omega (arith, length-drop n text))

both_inside : (text : Text) (second : Form) → Fitting second → (first : Option ℕ) → Inside text first → Inside text (option_and_then (λ n. option_map (λ m. n + m) (second (drop n text))) first)
both_inside text second fits None inside = tt
both_inside text second fits (Some n) inside = sum_inside text n inside.1 (second (drop n text)) (fits (drop n text))

followed_inside : (first second : Form) → Fitting first → Fitting second → Fitting (followed_by first second)
unfolding followed_by
followed_inside first second f s text = both_inside text second s (first text) (f text)

or_inside : (text : Text) (a b : Option ℕ) → Inside text a → Inside text b → Inside text (option_or a b)
or_inside text None b f s = s
or_inside text (Some n) b f s = f

else_inside : (first second : Form) → Fitting first → Fitting second → Fitting (or_else first second)
unfolding or_else
else_inside first second f s text = or_inside text (first text) (second text) (f text) (s text)

prefix_inside : (test : ℕ → Bool) (text : Text) → prefix_len test text ≤ length text
prefix_inside test [] = omega arith
prefix_inside test (b ∷ rest) = elim (test b) as (λ t. cond t (1 + prefix_len test rest) 0 ≤ length (b ∷ rest)) [
  | true ↦ let less = prefix_inside test rest in omega arith
  | false ↦ omega arith
]

counted_inside : (text : Text) (n : ℕ) → n ≤ length text → Inside text (cond (eqb n 0) None (Some n))
counted_inside text zero long = tt
counted_inside text (suc n) long = rw (eqb-suc-zero n) (omega arith, long)

run_inside : Fitting run
unfolding run
run_inside text = counted_inside text (prefix_len is_name_byte text) (prefix_inside is_name_byte text)

tested_inside : (text : Text) (test : Text → Bool) (n : Option ℕ) → Inside text n → Inside text (option_and_then (λ n. cond (test (take n text)) (Some n) None) n)
tested_inside text test None inside = tt
tested_inside text test (Some n) inside = elim (test (take n text)) as (λ t. Inside text (cond t (Some n) None)) [
  | true ↦ inside
  | false ↦ tt
]

run_that_inside : (test : Text → Bool) → Fitting (run_that test)
unfolding run_that
run_that_inside test text = tested_inside text test (run text) (run_inside text)

place_inside : (text : Text) (n : ℕ) (t : Bool) → (t ≡ true → n < length text) → Inside text (option_map (λ n. n + 1) (cond t (Some n) None))
place_inside text n true less = let l = less refl in (omega arith, omega arith)
place_inside text n false less = tt

up_to_quote_inside : Fitting up_to_quote
unfolding up_to_quote
up_to_quote_inside text = place_inside text (position_or_len is_quote text) (ltb (position_or_len is_quote text) (length text)) (ltb-true (position_or_len is_quote text) (length text))

string_inside : Fitting string
unfolding string
string_inside = followed_inside (one_of (34 ∷ [])) up_to_quote (one_of_inside (34 ∷ [])) up_to_quote_inside

name_inside : Fitting name
unfolding name
name_inside = else_inside run string run_inside string_inside

abbrev FoundInside : Text → Found → Type 0
FoundInside text None = Unit {0}
FoundInside text (Some t) = (0 < t.1) × (t.1 ≤ length text)

row_inside : (text : Text) (kind : Kind) (n : Option ℕ) (next : Found) → Inside text n → FoundInside text next → FoundInside text (or_next kind n next)
row_inside text kind None next a b = b
row_inside text kind (Some n) next a b = a

AllFitting : List (Kind × Form) → Type 0
AllFitting [] = Unit {0}
AllFitting (row ∷ rows) = Fitting row.1 × AllFitting rows

first_inside : (rows : List (Kind × Form)) → AllFitting rows → (text : Text) → FoundInside text (first_fit rows text)
unfolding first_fit AllFitting
first_inside [] fits text = tt
first_inside (row ∷ rows) fits text = row_inside text row.0 (row.1 text) (first_fit rows text) (fits.0 text) (first_inside rows fits.1 text)

token_inside : (text : Text) → FoundInside text (token_at text)
unfolding token_at AllFitting label c_text
token_inside = first_inside table (
  followed_inside name (one_of (58 ∷ [])) name_inside (one_of_inside (58 ∷ [])),
  (
    followed_inside (run_that is_c) string (run_that_inside is_c) string_inside,
    (
      string_inside,
      (
        run_that_inside is_number,
        (
          run_that_inside begins_word,
          (
            run_inside,
            (
              followed_inside (one_of (64 ∷ [])) name (one_of_inside (64 ∷ [])) name_inside,
              (
                followed_inside (one_of (37 ∷ [])) name (one_of_inside (37 ∷ [])) name_inside,
                (
                  followed_inside (one_of (33 ∷ [])) run (one_of_inside (33 ∷ [])) run_inside,
                  (
                    followed_inside (one_of (35 ∷ [])) run (one_of_inside (35 ∷ [])) run_inside,
                    (one_of_inside punctuation, tt),
                  ),
                ),
              ),
            ),
          ),
        ),
      ),
    ),
  ),
)

-- ---- The tokens of a text stand in order

-- from this place on, up to this size
abbrev pub From : ℕ → ℕ → List Token → Type 0
From place size [] = Unit {0}
From place size (t ∷ ts) = (place ≤ t.start) × (t.start < t.end) × (t.end ≤ size) × From t.end size ts

earlier : (place later size : ℕ) (ts : List Token) → place ≤ later → From later size ts → From place size ts
earlier place later size [] le h = tt
earlier place later size (t ∷ ts) le h = (omega arith, h.1, h.2, h.3)

moved : (place place' size size' : ℕ) (ts : List Token) → place ≡ place' → size ≡ size' → From place size ts → From place' size' ts
moved place place' size size' [] p q h = tt
moved place place' size size' (t ∷ ts) p q h = (omega arith, h.1, omega arith, rw (← q) h.3)

cut_at_inside : (found : Found) (b : ℕ) (rest : Text) (place : ℕ) → FoundInside (b ∷ rest) found
    → ((left : ℕ) → left ≤ length rest → From (place + 1 + left) (place + 1 + length rest) (cut_from left (place + 1) rest).tokens)
    → From place (place + length (b ∷ rest)) (cut_at found place (λ left. cut_from left (place + 1) rest)).tokens
cut_at_inside None b rest place inside later = tt
cut_at_inside (Some t) b rest place inside later = (
  omega arith,
  omega arith,
  omega arith,
  moved _ _ _ _ (cut_from (t.1 - 1) (place + 1) rest).tokens (omega arith) (omega arith) (later (t.1 - 1) (omega arith)),
)

chosen : (t u : Bool) (a b c : Cut) (place size : ℕ) → From place size a.tokens → From place size b.tokens → From place size c.tokens → From place size (cond t a (cond u b c)).tokens
chosen true u a b c place size x y z = x
chosen false true a b c place size x y z = y
chosen false false a b c place size x y z = z

in_order_from : (left place : ℕ) (text : Text) → left ≤ length text → From (place + left) (place + length text) (cut_from left place text).tokens
in_order_from left place [] long = tt
in_order_from (suc left) place (b ∷ rest) long = moved _ _ _ _ (cut_from left (place + 1) rest).tokens (omega arith) (omega arith) (in_order_from left (place + 1) rest (omega arith))
in_order_from zero place (b ∷ rest) long =
    let after : From place (place + 1 + length rest) (cut_from 0 (place + 1) rest).tokens = earlier place (place + 1 + 0) _ (cut_from 0 (place + 1) rest).tokens (omega arith) (in_order_from 0 (place + 1) rest (omega arith)) in
    let line = prefix_inside (λ b. not (is_newline b)) rest in
    let after_line : From place (place + 1 + length rest) (cut_from (position_or_len is_newline rest) (place + 1) rest).tokens = earlier place (place + 1 + position_or_len is_newline rest) _ (cut_from (position_or_len is_newline rest) (place + 1) rest).tokens (omega arith) (in_order_from (position_or_len is_newline rest) (place + 1) rest line) in
    let token = cut_at_inside (token_at (b ∷ rest)) b rest place (token_inside (b ∷ rest)) (λ left less. in_order_from left (place + 1) rest less) in
    moved place (place + 0) (place + 1 + length rest) (place + length (b ∷ rest)) _ (omega arith) (omega arith)
    (chosen (is_blank b) (eqb b 59) (cut_from 0 (place + 1) rest) (cut_from (position_or_len is_newline rest) (place + 1) rest) (cut_at (token_at (b ∷ rest)) place (λ left. cut_from left (place + 1) rest)) place (place + 1 + length rest)
    after after_line (moved place place (place + length (b ∷ rest)) (place + 1 + length rest) _ refl (omega arith) token))

pub in_order_of : (text : Text) → From 0 (length text) (cut_of text).tokens
unfolding cut_of
in_order_of text = moved 0 0 (0 + length text) (length text) (cut_from 0 0 text).tokens refl (omega arith) (in_order_from 0 0 text (omega arith))

-- ---- The same by index

within_at : (place size : ℕ) (ts : List Token) → From place size ts → (k : ℕ) (d : Token) → k < length ts → ((slice_index_or ts k d).start < (slice_index_or ts k d).end) × ((slice_index_or ts k d).end ≤ size)
within_at place size [] h k d less = absurd (omega arith)
within_at place size (t ∷ ts) h zero d less = (h.1, h.2)
within_at place size (t ∷ ts) h (suc k) d less = within_at t.end size ts h.3 k d (omega arith)

after_at : (place size : ℕ) (ts : List Token) → From place size ts → (k : ℕ) (d : Token) → k < length ts → place ≤ (slice_index_or ts k d).start
after_at place size [] h k d less = absurd (omega arith)
after_at place size (t ∷ ts) h zero d less = h.0
after_at place size (t ∷ ts) h (suc k) d less = let rest = after_at t.end size ts h.3 k d (omega arith) in omega (arith, h.0, h.1)

pairs_at : (place size : ℕ) (ts : List Token) → From place size ts → (i j : ℕ) (d : Token) → i < j → j < length ts → (slice_index_or ts i d).end ≤ (slice_index_or ts j d).start
pairs_at place size [] h i j d less inside = absurd (omega arith)
pairs_at place size (t ∷ ts) h i zero d less inside = absurd (omega arith)
pairs_at place size (t ∷ ts) h zero (suc j) d less inside = after_at t.end size ts h.3 j d (omega arith)
pairs_at place size (t ∷ ts) h (suc i) (suc j) d less inside = pairs_at t.end size ts h.3 i j d (omega arith) (omega arith)

in_order_by_index : (size : ℕ) (ts : List Token) → From 0 size ts → InOrder ts size
in_order_by_index size ts h = record { within = within_at 0 size ts h; ordered = pairs_at 0 size ts h }

-- a text's tokens stand in it in order
pub in_order : (text : Text) → InOrder (cut_of text).tokens (length text)
in_order text = in_order_by_index (length text) (cut_of text).tokens (in_order_of text)
