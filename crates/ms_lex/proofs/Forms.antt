-- Which form of the table fits first, told by the first byte of a text.
use Rattle.std.proofs.Common.{◌≡◌, ◌≢◌, ℕ, zero, suc, ◌+◌, ◌<◌, Bool, true, false, cond, eqb, [], ◌∷◌, take, drop, Some, None, refl, ap, inl, inr, arith}
use Rattle.std.specs.Prelude.{codes, slice_index}
use Rattle.std.specs.List.{prefix_len}
use Rattle.std.specs.Option.{option_map}
use Rattle.std.proofs.lemmas.Bool.Decides.{nat_tests, eqb_tells}
use Rattle.std.proofs.lemmas.Bool.{ne_eqb}
use Rattle.ms_lex.specs.declared.kinds.Kind.TheVariants.{Label, CText, Str, Number, Word, Other, Local, Meta, Group, Punct}
use Rattle.ms_lex.specs.declared.kinds.Kind.TheVariants as kinds
use Rattle.ms_lex.specs.Tokens.{Text, Form, Found, is_one_of, is_name_byte, is_number, begins_word, is_c, one_of, followed_by, or_else, run, run_that, up_to_quote, string, name, label, c_text, punctuation, or_next, first_fit, token_at}

-- ---- A colon

pub colon_here : (text : Text) (n : ℕ) → slice_index text n ≡ 58 → one_of (codes ":") (drop n text) ≡ Some 1
unfolding one_of
colon_here [] zero e = absurd (omega arith)
colon_here [] (suc n) e = absurd (omega arith)
colon_here (b ∷ rest) zero e = rw e refl
colon_here (b ∷ rest) (suc n) e = colon_here rest n e

pub no_colon_here : (text : Text) (n : ℕ) → slice_index text n ≢ 58 → one_of (codes ":") (drop n text) ≡ None
unfolding one_of
no_colon_here [] zero e = refl
no_colon_here [] (suc n) e = refl
no_colon_here (b ∷ rest) zero e = grind (arith, nat_tests)
no_colon_here (b ∷ rest) (suc n) e = no_colon_here rest n e

-- ---- A name byte in front

pub differs : (b c : ℕ) → is_name_byte b ≡ true → is_name_byte c ≡ false → eqb b c ≡ false
differs b c named other = elim (eqb_tells b c) [
  | inl same ↦ let e = ap is_name_byte same.1 in absurd cc
  | inr apart ↦ apart.0
]

first_is_name : (b : ℕ) (rest : Text) → 0 < prefix_len is_name_byte (b ∷ rest) → is_name_byte b ≡ true
first_is_name b rest some = elim (is_name_byte b) as (λ t. 0 < cond t (1 + prefix_len is_name_byte rest) 0 → t ≡ true) [
  | true ↦ λ some. refl
  | false ↦ λ some. absurd (omega arith)
] some

pub run_is : (text : Text) (n : ℕ) → n ≡ prefix_len is_name_byte text → 0 < n → run text ≡ Some n
unfolding run
run_is text n e some = grind (arith, nat_tests)

pub no_string : (text : Text) → 0 < prefix_len is_name_byte text → string text ≡ None
unfolding string followed_by one_of
no_string [] some = refl
no_string (b ∷ rest) some = rw (differs b 34 (first_is_name b rest some) refl) refl

module _ (text : Text) (n : ℕ) (e : n ≡ prefix_len is_name_byte text) (some : 0 < n) where
  here : run text ≡ Some n
  here = run_is text n e some

  that : (test : Text → Bool) → run_that test text ≡ cond (test (take n text)) (Some n) None
  unfolding run_that
  that test = rw here refl

  pub label_is : slice_index text n ≡ 58 → label text ≡ Some (n + 1)
  unfolding label followed_by name or_else
  label_is colon = rw (here, colon_here text n colon) refl

  pub no_label : slice_index text n ≢ 58 → label text ≡ None
  unfolding label followed_by name or_else
  no_label colon = rw (here, no_colon_here text n colon) refl

  pub no_c : is_c (take n text) ≡ false → c_text text ≡ None
  unfolding c_text followed_by
  no_c other = rw (that is_c, other) refl

  pub c_with_string : is_c (take n text) ≡ true → (m : ℕ) → string (drop n text) ≡ Some m → c_text text ≡ Some (n + m)
  unfolding c_text followed_by
  c_with_string c m closed = rw (that is_c, c, closed) refl

  pub c_with_none : is_c (take n text) ≡ true → string (drop n text) ≡ None → c_text text ≡ None
  unfolding c_text followed_by
  c_with_none c open_ = rw (that is_c, c, open_) refl

  pub fits_label : slice_index text n ≡ 58 → token_at text ≡ Some (Label, n + 1)
  unfolding token_at first_fit
  fits_label colon = rw (label_is colon) refl

  pub fits_c_text : slice_index text n ≢ 58 → (m : ℕ) → c_text text ≡ Some m → token_at text ≡ Some (CText, m)
  unfolding token_at first_fit
  fits_c_text colon m c = rw (no_label colon, c) refl

  kind_of : (a b : Bool) (later : Found) → or_next Number (cond a (Some n) None) (or_next Word (cond b (Some n) None) (or_next Other (Some n) later)) ≡ Some (cond a Number (cond b Word Other), n)
  kind_of true b later = refl
  kind_of false true later = refl
  kind_of false false later = refl

  pub fits_run : slice_index text n ≢ 58 → c_text text ≡ None → token_at text ≡ Some (cond (is_number (take n text)) Number (cond (begins_word (take n text)) Word Other), n)
  unfolding token_at first_fit
  fits_run colon c = rw (no_label colon, c, no_string text (omega arith), that is_number, that begins_word, here, kind_of) refl

-- ---- Another byte in front

pub fits_global : (rest : Text) → token_at (64 ∷ rest) ≡ or_next kinds.Global (option_map (λ m. 1 + m) (name rest)) None
unfolding token_at first_fit label c_text string run_that run followed_by name or_else one_of
fits_global rest = refl

pub fits_local : (rest : Text) → token_at (37 ∷ rest) ≡ or_next Local (option_map (λ m. 1 + m) (name rest)) None
unfolding token_at first_fit label c_text string run_that run followed_by name or_else one_of
fits_local rest = refl

pub fits_group : (rest : Text) → token_at (35 ∷ rest) ≡ or_next Group (option_map (λ m. 1 + m) (run rest)) None
unfolding token_at first_fit label c_text string run_that run followed_by name or_else one_of
fits_group rest = refl

pub fits_meta : (rest : Text) (n : ℕ) → run rest ≡ Some n → token_at (33 ∷ rest) ≡ Some (Meta, 1 + n)
unfolding token_at first_fit label c_text string run_that run followed_by name or_else one_of
fits_meta rest n r = rw r refl

pub fits_bang : (rest : Text) → run rest ≡ None → token_at (33 ∷ rest) ≡ Some (Punct, 1)
unfolding token_at first_fit label c_text string run_that run followed_by name or_else one_of
fits_bang rest r = rw r refl

pub no_string_fits : (rest : Text) → up_to_quote rest ≡ None → token_at (34 ∷ rest) ≡ None
unfolding token_at first_fit label c_text string run_that run followed_by name or_else one_of
no_string_fits rest r = rw r refl

module _ (rest : Text) (m : ℕ) (closed : up_to_quote rest ≡ Some m) where
  closed_string : string (34 ∷ rest) ≡ Some (1 + m)
  unfolding string followed_by one_of
  closed_string = rw closed refl

  no_run : run (34 ∷ rest) ≡ None
  unfolding run
  no_run = refl

  string_label : slice_index (34 ∷ rest) (1 + m) ≡ 58 → label (34 ∷ rest) ≡ Some (1 + m + 1)
  unfolding label followed_by name or_else
  string_label colon = rw (no_run, closed_string, colon_here (34 ∷ rest) (1 + m) colon) refl

  no_string_label : slice_index (34 ∷ rest) (1 + m) ≢ 58 → label (34 ∷ rest) ≡ None
  unfolding label followed_by name or_else
  no_string_label colon = rw (no_run, closed_string, no_colon_here (34 ∷ rest) (1 + m) colon) refl

  no_c_text : c_text (34 ∷ rest) ≡ None
  unfolding c_text followed_by run_that
  no_c_text = rw no_run refl

  pub fits_string_label : slice_index (34 ∷ rest) (1 + m) ≡ 58 → token_at (34 ∷ rest) ≡ Some (Label, 1 + m + 1)
  unfolding token_at first_fit
  fits_string_label colon = rw (string_label colon) refl

  pub fits_string : slice_index (34 ∷ rest) (1 + m) ≢ 58 → token_at (34 ∷ rest) ≡ Some (Str, 1 + m)
  unfolding token_at first_fit
  fits_string colon = rw (no_string_label colon, no_c_text, closed_string) refl

away : (c b : ℕ) (rest : Text) (form : Form) → b ≢ c → followed_by (one_of (c ∷ [])) form (b ∷ rest) ≡ None
unfolding followed_by one_of
away c b rest form apart = rw (ne_eqb b c apart) refl

module _ (b : ℕ) (rest : Text) (unnamed : is_name_byte b ≡ false) where
  other_run : run (b ∷ rest) ≡ None
  unfolding run
  other_run = rw unnamed refl

  other_run_that : (test : Text → Bool) → run_that test (b ∷ rest) ≡ None
  unfolding run_that
  other_run_that test = rw other_run refl

  module _ (quote : b ≢ 34) where
    other_string : string (b ∷ rest) ≡ None
    unfolding string
    other_string = away 34 b rest up_to_quote quote

    other_label : label (b ∷ rest) ≡ None
    unfolding label followed_by name or_else
    other_label = rw (other_run, other_string) refl

    other_c_text : c_text (b ∷ rest) ≡ None
    unfolding c_text followed_by
    other_c_text = rw (other_run_that is_c) refl

    pub fits_other : b ≢ 64 → b ≢ 37 → b ≢ 33 → b ≢ 35 → token_at (b ∷ rest) ≡ or_next Punct (one_of punctuation (b ∷ rest)) None
    unfolding token_at first_fit
    fits_other at percent bang hash =
        rw (other_label, other_c_text, other_string, other_run_that is_number, other_run_that begins_word, other_run, away 64 b rest name at, away 37 b rest name percent, away 33 b rest run bang, away 35 b rest run hash) refl

    pub fits_punctuation : b ≢ 64 → b ≢ 37 → b ≢ 33 → b ≢ 35 → is_one_of punctuation b ≡ true → token_at (b ∷ rest) ≡ Some (Punct, 1)
    unfolding one_of
    fits_punctuation at percent bang hash one = rw (fits_other at percent bang hash, one) refl

    pub fits_none : b ≢ 64 → b ≢ 37 → b ≢ 33 → b ≢ 35 → is_one_of punctuation b ≡ false → token_at (b ∷ rest) ≡ None
    unfolding one_of
    fits_none at percent bang hash none = rw (fits_other at percent bang hash, none) refl

pub named : (b : ℕ) (rest : Text) → is_name_byte b ≡ true → 0 < prefix_len is_name_byte (b ∷ rest)
named b rest h = rw h (omega arith)
