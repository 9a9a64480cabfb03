-- Types are read as what they were written of.
use Rattle.std.proofs.Common.{◌≡◌, ℕ, zero, suc, ◌≤◌, ◌^◌, Bool, true, false, cond, List, [], ◌∷◌, ◌++◌, Option, Some, None, Ok, Err, refl, sym, ap, ◌∙◌, subst, append_assoc, append-nil, arith, le_trans, leb-true}
use native.Mathlib.Nat.{le-max_left, le-max_right}
use Rattle.std.specs.Prelude.{codes, nat_lt, nat_le, pos}
use Rattle.std.specs.List.{list_all}
use Rattle.std.proofs.lemmas.Bool.{ltb-true, and_parts}
use Rattle.std.proofs.lemmas.List.Folds.{list_all-append}
use Rattle.ms_lex.specs.Grammar.{head}
use Rattle.ms_ir.specs.declared.syntax.Name.{Name}
use Rattle.ms_ir.specs.declared.syntax.Name.TheVariants.{Number, Text as Called}
use Rattle.ms_ir.specs.declared.syntax.Ty.{Ty, Int, Ptr, Array', Struct', Named, Row_of-Ty, end_of-Ty, more_of-Ty, items-the_row-Ty, Struct}
use Rattle.ms_text_grammar.specs.declared.symbols.Symbol.{Symbol}
use Rattle.ms_text_grammar.specs.declared.symbols.Symbol.TheVariants as s
use Rattle.ms_text_grammar.specs.Lexemes.{Lexeme, end_of_text, is, same_symbol, symbol_of, word_symbol}
use Rattle.ms_text_grammar.specs.Steps.{Rule, word, items, with_item, refusal}
use Rattle.ms_text_grammar.specs.Skipped.{is_closer}
use Rattle.ms_text_grammar.specs.Types.{value_type_by, value_type, result_type, opens, count_by, count, packed_brace, array_rest, struct_rest, packed_rest}
use Rattle.ms_check_valid.specs.FormedNames.{is_local_name}
use Rattle.ms_check_valid.specs.FormedCode.{is_width, is_value_type, type_formed, row_formed, result_formed}
use Rattle.ms_check_valid.specs.ReadLimits.{type_depth, row_depth, mentioned}
use Rattle.ms_ir.specs.Written.{Mention, type_mentions, row_mentions}
use Rattle.ms_text_grammar.specs.LayoutPieces.{word as word_token, sign, with_commas}
use Rattle.ms_text_grammar.specs.LayoutNames.{local_token, count_token}
use Rattle.ms_text_grammar.specs.LayoutTypes.{type_tokens, row_tokens, struct_tokens, result_tokens}
use Rattle.ms_check_valid.specs.Formed.{is_struct}
use Rattle.ms_text_laws.proofs.Limited.{Limits, flat, nested, type_to, struct_type, local}
use Rattle.ms_text_laws.proofs.Takes.{Takes, given, taken, chain, by_symbol, other, word_taken, along}
use Rattle.ms_text_laws.proofs.Numbers.{signed_back}
use Rattle.ms_text_laws.proofs.Rows.{array_is, struct_is}
use Rattle.ms_text_laws.proofs.Spelled.{is_below, local_good, int_token, int_token_symbol, int_token_width, local_number_symbol, local_text_symbol}
use Rattle.ms_text_laws.proofs.Listed.{AllTake, Closing, listed_back}

-- ---- words

pub ptr_symbol : (word_token (codes "ptr")).symbol ≡ s.PtrType
unfolding symbol_of word_symbol
ptr_symbol = refl

pub void_symbol : (word_token (codes "void")).symbol ≡ s.Void
unfolding symbol_of word_symbol
void_symbol = refl

x_symbol : (word_token (codes "x")).symbol ≡ s.X
unfolding symbol_of word_symbol
x_symbol = refl

module _ {ts : List Lexeme} where
  x_taken : Takes (word s.X) (word_token (codes "x") ∷ ts) tt ts
  unfolding same_symbol
  x_taken = word_taken s.X refl x_symbol

  pub open_bracket_taken : Takes (word s.OpenBracket) (sign (codes "[") ∷ ts) tt ts
  unfolding same_symbol symbol_of
  open_bracket_taken = word_taken s.OpenBracket refl refl

  pub close_bracket_taken : Takes (word s.CloseBracket) (sign (codes "]") ∷ ts) tt ts
  unfolding same_symbol symbol_of
  close_bracket_taken = word_taken s.CloseBracket refl refl

  pub greater_taken : Takes (word s.Greater) (sign (codes ">") ∷ ts) tt ts
  unfolding same_symbol symbol_of
  greater_taken = word_taken s.Greater refl refl

  pub brace_taken : Takes packed_brace (sign (codes "{") ∷ ts) tt ts
  unfolding packed_brace same_symbol symbol_of
  brace_taken = taken refl

  pub ptr_taken : Takes (word s.PtrType) (word_token (codes "ptr") ∷ ts) tt ts
  unfolding same_symbol
  ptr_taken = word_taken s.PtrType refl ptr_symbol

pub close_brace : Closing (λ t. true) s.CloseBrace (sign (codes "}"))
unfolding same_symbol symbol_of
close_brace = record { closes = refl; no_comma = refl; allowed = refl; comma_allowed = refl }

pub close_bracket : Closing (λ t. true) s.CloseBracket (sign (codes "]"))
unfolding same_symbol symbol_of
close_bracket = record { closes = refl; no_comma = refl; allowed = refl; comma_allowed = refl }

pub close_paren : Closing (λ t. true) s.CloseParen (sign (codes ")"))
unfolding same_symbol symbol_of
close_paren = record { closes = refl; no_comma = refl; allowed = refl; comma_allowed = refl }

-- ---- what doesn't close

pub no_closer : (x : Symbol) → is_closer x ≡ false → (same_symbol x s.CloseParen ≡ false) × (same_symbol x s.CloseBracket ≡ false) × (same_symbol x s.CloseBrace ≡ false)
unfolding same_symbol
no_closer s.CloseParen h = absurd cc
no_closer s.CloseBracket h = absurd cc
no_closer s.CloseBrace h = absurd cc
no_closer x h = (refl, refl, refl)

-- ---- values of another form

pub valued : {A : Type 0} {g : Rule A} {ts rest : List Lexeme} {a b : A} → a ≡ b → Takes g ts a rest → Takes g ts b rest
valued {g = g} {ts = ts} {rest = rest} e p = subst (λ v. Takes g ts v rest) e p

-- ---- types of values

pub width_parts : (n : ℕ) → is_width n ≡ true → (1 ≤ n) × (n ≤ 64)
width_parts n h = let parts = and_parts (nat_le 1 n) (nat_le n 64) h in (leb-true 1 n parts.0, leb-true n 64 parts.1)

int_taken : (n : ℕ) (ts : List Lexeme) → is_width n ≡ true → Takes value_type (int_token n ∷ ts) (Int n) ts
unfolding value_type
int_taken n ts h =
    let w = width_parts n h in
    taken (ap (λ x. value_type_by x (int_token n)) (int_token_symbol n w.0 w.1) ∙ ap (λ k. Ok (Int k)) (int_token_width n w.1))

pub value_type_taken : (t : Ty) (ts : List Lexeme) → is_value_type t ≡ true → Takes value_type (type_tokens t ++ ts) t ts
unfolding value_type
value_type_taken Ptr ts h = taken (ap (λ x. value_type_by x (word_token (codes "ptr"))) ptr_symbol)
value_type_taken (Int n) ts h = int_taken n ts h
value_type_taken (Array' n shape item) ts h = absurd cc
value_type_taken (Struct' packed shape fields) ts h = absurd cc
value_type_taken (Named x) ts h = absurd cc

-- the first symbol of a type of a value
pub value_type_symbol : (t : Ty) (ts : List Lexeme) → is_value_type t ≡ true → {A : Type 0} (f : Symbol → A) (a : A) → f s.PtrType ≡ a → f s.IntType ≡ a → f (head end_of_text (type_tokens t ++ ts)).symbol ≡ a
value_type_symbol Ptr ts h f a p q = ap f ptr_symbol ∙ p
value_type_symbol (Int n) ts h f a p q = let w = width_parts n h in ap f (int_token_symbol n w.0 w.1) ∙ q
value_type_symbol (Array' n shape item) ts h f a p q = absurd cc
value_type_symbol (Struct' packed shape fields) ts h f a p q = absurd cc
value_type_symbol (Named x) ts h f a p q = absurd cc

-- ---- counts

count_taken : (n : ℕ) (ts : List Lexeme) → nat_lt n (2 ^ 64) ≡ true → Takes count (count_token n ∷ ts) n ts
unfolding count same_symbol symbol_of
count_taken n ts h = taken (ap (λ z. count_by z (count_token n)) (signed_back (pos n) (ltb-true n (2 ^ 64) h)) ∙ ap (λ b. cond b (Ok n) (Err (refusal (count_token n)))) h)

-- ---- all types

-- names of fewer bytes
abbrev pub few_names : ℕ → List Mention → Bool
few_names most xs = list_all (λ x. is_below most (mentioned x)) xs

pub few_parts : (most : ℕ) (xs ys : List Mention) → few_names most (xs ++ ys) ≡ true → (few_names most xs ≡ true) × (few_names most ys ≡ true)
few_parts most xs ys h = and_parts (few_names most xs) (few_names most ys) (sym (list_all-append (λ x. is_below most (mentioned x)) xs ys) ∙ h)

-- a type as it may stand, of so many arrays and structs at most, whose names are short
pub record TypeFits (limits : Limits) (depth : ℕ) (t : Ty) : Type 0 where
  pub formed : type_formed t ≡ true
  pub shallow : type_depth t ≤ depth
  pub named : few_names limits.names (type_mentions t) ≡ true

pub record RowFits (limits : Limits) (depth : ℕ) {n : _} (row : Row_of-Ty n) : Type 0 where
  pub formed : row_formed row ≡ true
  pub shallow : row_depth row ≤ depth
  pub named : few_names limits.names (row_mentions row) ≡ true

pub name_closes : (x : Name) → is_closer (local_token x).symbol ≡ false
name_closes (Number n) = ap is_closer (local_number_symbol n)
name_closes (Called x) = ap is_closer (local_text_symbol x)

-- the first symbol of a type closes nothing
pub type_closes : (t : Ty) (ts : List Lexeme) → type_formed t ≡ true → is_closer (head end_of_text (type_tokens t ++ ts)).symbol ≡ false
unfolding symbol_of
type_closes Ptr ts h = ap is_closer ptr_symbol
type_closes (Int n) ts h = let w = width_parts n h in ap is_closer (int_token_symbol n w.0 w.1)
type_closes (Array' n shape item) ts h = refl
type_closes (Struct' false shape fields) ts h = refl
type_closes (Struct' true shape fields) ts h = refl
type_closes (Named x) ts h = name_closes x

pub regrouped : (xs : List Lexeme) (t : Lexeme) (rest : List Lexeme) → (xs ++ t ∷ []) ++ rest ≡ xs ++ t ∷ rest
regrouped xs t rest = append_assoc xs (t ∷ []) rest

pub plain_tokens : (parts : List (List Lexeme)) (rest : List Lexeme) → struct_tokens false parts ++ rest ≡ sign (codes "{") ∷ (with_commas parts ++ sign (codes "}") ∷ rest)
plain_tokens parts rest = ap (λ ys. sign (codes "{") ∷ ys) (regrouped (with_commas parts) (sign (codes "}")) rest)

pub packed_tokens : (parts : List (List Lexeme)) (rest : List Lexeme) → struct_tokens true parts ++ rest ≡ sign (codes "<") ∷ sign (codes "{") ∷ (with_commas parts ++ sign (codes "}") ∷ sign (codes ">") ∷ rest)
packed_tokens parts rest = ap (λ ys. sign (codes "<") ∷ sign (codes "{") ∷ ys)
    (regrouped (with_commas parts ++ sign (codes "}") ∷ []) (sign (codes ">")) rest ∙ regrouped (with_commas parts) (sign (codes "}")) (sign (codes ">") ∷ rest))

module _ (limits : Limits) where
  nested_flat : (part : Rule Ty) (x : Symbol) {ts rest : List Lexeme} {t : Ty} → opens x ≡ false → Takes (flat limits x) ts t rest → Takes (nested limits part x) ts t rest
  nested_flat part s.OpenBracket h p = absurd cc
  nested_flat part s.OpenBrace h p = absurd cc
  nested_flat part s.Less h p = absurd cc
  nested_flat part x h p = p

  flat_taken : (depth : ℕ) (x : Symbol) {ts rest : List Lexeme} {t : Ty} → (head end_of_text ts).symbol ≡ x → opens x ≡ false → Takes (flat limits x) ts t rest → Takes (type_to limits depth) ts t rest
  unfolding type_to
  flat_taken zero x e closed p = by_symbol x e (other (opens x) _ _ closed p)
  flat_taken (suc depth) x e closed p = by_symbol x e (nested_flat (type_to limits depth) x closed p)

  local_taken : (x : Name) (ts : List Lexeme) → is_local_name x ≡ true → is_below limits.names x ≡ true → Takes (local limits) (local_token x ∷ ts) x ts
  unfolding local
  local_taken x ts h few = taken (local_good limits x h few)

  named_taken : (x : Name) (depth : ℕ) (ts : List Lexeme) → is_local_name x ≡ true → is_below limits.names x ≡ true → Takes (type_to limits depth) (local_token x ∷ ts) (Named x) ts
  named_taken (Number n) depth ts h few = flat_taken depth s.NumberedLocal (local_number_symbol n) refl (chain (local_taken (Number n) ts h few) given)
  named_taken (Called x) depth ts h few = flat_taken depth s.Local (local_text_symbol x) refl (chain (local_taken (Called x) ts h few) given)

  first_fits : {n : _} (t : Ty) (row : Row_of-Ty n) (depth : ℕ) → RowFits limits depth (more_of-Ty t row) → TypeFits limits depth t
  first_fits t row depth h = record {
    formed = (and_parts (type_formed t) (row_formed row) h.formed).0;
    shallow = le_trans (le-max_left (type_depth t) (row_depth row)) h.shallow;
    named = (few_parts limits.names (type_mentions t) (row_mentions row) h.named).0;
  }

  rest_fits : {n : _} (t : Ty) (row : Row_of-Ty n) (depth : ℕ) → RowFits limits depth (more_of-Ty t row) → RowFits limits depth row
  rest_fits t row depth h = record {
    formed = (and_parts (type_formed t) (row_formed row) h.formed).1;
    shallow = le_trans (le-max_right (type_depth t) (row_depth row)) h.shallow;
    named = (few_parts limits.names (type_mentions t) (row_mentions row) h.named).1;
  }

  abbrev RowTakes : {n : _} → Row_of-Ty n → ℕ → List Ty → Type 0
  RowTakes row depth found = AllTake {S = List Ty} (λ t. true) (λ found. true) (with_item (type_to limits depth)) (row_tokens row) found (found ++ items-the_row-Ty _ row)

  abbrev RowBegins : List (List Lexeme) → Type 0
  RowBegins [] = Unit {0}
  RowBegins (part ∷ parts) = (rest : List Lexeme) → is s.CloseBrace (head end_of_text (part ++ rest)) ≡ false

  row_begins : {n : _} (row : Row_of-Ty n) → row_formed row ≡ true → RowBegins (row_tokens row)
  row_begins end_of-Ty h = tt
  row_begins (more_of-Ty t row) h = λ rest. (no_closer _ (type_closes t rest (and_parts (type_formed t) (row_formed row) h).0)).2

  fields_taken : {n : _} (row : Row_of-Ty n) (depth : ℕ) (rest : List Lexeme) → row_formed row ≡ true → RowTakes row depth []
      → Takes (items s.CloseBrace (type_to limits depth)) (with_commas (row_tokens row) ++ sign (codes "}") ∷ rest) (items-the_row-Ty _ row) rest
  unfolding items
  fields_taken row depth rest h takes =
      listed_back (λ t. true) (λ found. true) (with_item (type_to limits depth)) s.CloseBrace (sign (codes "}")) close_brace (row_tokens row) [] (items-the_row-Ty _ row) rest (row_begins row h) takes

  struct_taken : {n : _} (row : Row_of-Ty n) (depth : ℕ) (rest : List Lexeme) → row_formed row ≡ true → RowTakes row depth []
      → Takes (struct_rest (type_to limits depth)) (with_commas (row_tokens row) ++ sign (codes "}") ∷ rest) (Struct false (items-the_row-Ty _ row)) rest
  unfolding struct_rest
  struct_taken row depth rest h takes = chain (fields_taken row depth rest h takes) given

  packed_taken : {n : _} (row : Row_of-Ty n) (depth : ℕ) (rest : List Lexeme) → row_formed row ≡ true → RowTakes row depth []
      → Takes (packed_rest (type_to limits depth)) (sign (codes "{") ∷ (with_commas (row_tokens row) ++ sign (codes "}") ∷ sign (codes ">") ∷ rest)) (Struct true (items-the_row-Ty _ row)) rest
  unfolding packed_rest
  packed_taken row depth rest h takes = chain brace_taken (chain (fields_taken row depth (sign (codes ">") ∷ rest) h takes) (chain greater_taken given))

  mutual
    unfolding type_to array_rest symbol_of

    pub type_taken : (t : Ty) (depth : ℕ) (rest : List Lexeme) → TypeFits limits depth t → Takes (type_to limits depth) (type_tokens t ++ rest) t rest
    type_taken Ptr depth rest h = flat_taken depth s.PtrType ptr_symbol refl (value_type_taken Ptr rest refl)
    type_taken (Int n) depth rest h = let w = width_parts n h.formed in flat_taken depth s.IntType (int_token_symbol n w.0 w.1) refl (value_type_taken (Int n) rest h.formed)
    type_taken (Named x) depth rest h = named_taken x depth rest h.formed (and_parts (is_below limits.names x) true h.named).0
    type_taken (Array' n shape item) zero rest h = absurd (omega (arith, h.shallow))
    type_taken (Array' n shape (more_of-Ty t end_of-Ty)) (suc depth) rest h =
        let parts = and_parts (nat_lt n (2 ^ 64)) (row_formed (more_of-Ty t end_of-Ty)) h.formed in
        let row : RowFits limits depth (more_of-Ty t end_of-Ty) = record { formed = parts.1; shallow = omega (arith, h.shallow); named = h.named } in
        along (ap (λ ys. sign (codes "[") ∷ count_token n ∷ word_token (codes "x") ∷ ys) (regrouped (type_tokens t ++ []) (sign (codes "]")) rest ∙ ap (λ ys. ys ++ sign (codes "]") ∷ rest) (append-nil (type_tokens t))))
        (valued (array_is n shape t)
        (by_symbol s.OpenBracket refl (chain (taken refl) (chain (count_taken n _ parts.0) (chain x_taken (chain (type_taken t depth (sign (codes "]") ∷ rest) (first_fits t end_of-Ty depth row)) (chain close_bracket_taken given)))))))
    type_taken (Struct' packed shape fields) zero rest h = absurd (omega (arith, h.shallow))
    type_taken (Struct' false shape fields) (suc depth) rest h =
        let row : RowFits limits depth fields = record { formed = h.formed; shallow = omega (arith, h.shallow); named = h.named } in
        along (plain_tokens (row_tokens fields) rest)
        (valued (struct_is false shape fields) (by_symbol s.OpenBrace refl (chain (taken refl) (struct_taken fields depth rest h.formed (row_taken fields depth [] row)))))
    type_taken (Struct' true shape fields) (suc depth) rest h =
        let row : RowFits limits depth fields = record { formed = h.formed; shallow = omega (arith, h.shallow); named = h.named } in
        along (packed_tokens (row_tokens fields) rest)
        (valued (struct_is true shape fields) (by_symbol s.Less refl (chain (taken refl) (packed_taken fields depth rest h.formed (row_taken fields depth [] row)))))

    row_taken : {n : _} (row : Row_of-Ty n) (depth : ℕ) (found : List Ty) → RowFits limits depth row → RowTakes row depth found
    row_taken end_of-Ty depth found h = append-nil found
    row_taken (more_of-Ty t row) depth found h = (
      refl,
      found ++ t ∷ [],
      λ rest good. chain (type_taken t depth rest (first_fits t row depth h)) given,
      subst (λ v. AllTake {S = List Ty} (λ t. true) (λ found. true) (with_item (type_to limits depth)) (row_tokens row) (found ++ t ∷ []) v) (append_assoc found (t ∷ []) (items-the_row-Ty _ row))
          (row_taken row depth (found ++ t ∷ []) (rest_fits t row depth h)),
    )

  -- a named type's definition
  pub struct_type_taken : (t : Ty) (rest : List Lexeme) → is_struct t ≡ true → TypeFits limits (suc limits.depth) t → Takes (struct_type limits) (type_tokens t ++ rest) t rest
  unfolding struct_type symbol_of
  struct_type_taken Ptr rest struct h = absurd cc
  struct_type_taken (Int n) rest struct h = absurd cc
  struct_type_taken (Named x) rest struct h = absurd cc
  struct_type_taken (Array' n shape item) rest struct h = absurd cc
  struct_type_taken (Struct' false shape fields) rest struct h =
      let row : RowFits limits limits.depth fields = record { formed = h.formed; shallow = omega (arith, h.shallow); named = h.named } in
      along (plain_tokens (row_tokens fields) rest)
      (valued (struct_is false shape fields) (by_symbol s.OpenBrace refl (chain (taken refl) (struct_taken fields limits.depth rest h.formed (row_taken fields limits.depth [] row)))))
  struct_type_taken (Struct' true shape fields) rest struct h =
      let row : RowFits limits limits.depth fields = record { formed = h.formed; shallow = omega (arith, h.shallow); named = h.named } in
      along (packed_tokens (row_tokens fields) rest)
      (valued (struct_is true shape fields) (by_symbol s.Less refl (chain (taken refl) (packed_taken fields limits.depth rest h.formed (row_taken fields limits.depth [] row)))))

-- ---- types of results

pub result_taken : (t : Option Ty) (rest : List Lexeme) → result_formed t ≡ true → Takes result_type (result_tokens t ++ rest) t rest
unfolding result_type
result_taken None rest h = by_symbol s.Void void_symbol (chain (taken refl) given)
result_taken (Some Ptr) rest h = by_symbol s.PtrType ptr_symbol (chain (value_type_taken Ptr rest h) given)
result_taken (Some (Int n)) rest h = let w = width_parts n h in by_symbol s.IntType (int_token_symbol n w.0 w.1) (chain (value_type_taken (Int n) rest h) given)
result_taken (Some (Array' n shape item)) rest h = absurd cc
result_taken (Some (Struct' packed shape fields)) rest h = absurd cc
result_taken (Some (Named x)) rest h = absurd cc
