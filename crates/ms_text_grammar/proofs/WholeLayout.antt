-- Every token of the layout is whole, so the tokens of a module's text stand apart.
use Rattle.std.proofs.Common.{ℕ, Bool, true, false, cond, List, [], ◌∷◌, ◌++◌, refl}
use Rattle.std.specs.Prelude.{codes, map, ◌==◌, Option, Some, None}
use Rattle.ms_lex.specs.Tokens.{Text}
use Rattle.ms_ir.specs.declared.syntax.Ty.{Ty, Int, Ptr, Array', Struct', Named, Row_of-Ty, end_of-Ty, more_of-Ty}
use Rattle.ms_ir.specs.declared.syntax.Operand.{Operand}
use Rattle.ms_ir.specs.declared.syntax.Operand.TheVariants as operand
use Rattle.ms_ir.specs.declared.syntax.Init.{Init, Row_of-Init-Array-0-2, end_of-Init-Array-0-2, more_of-Init-Array-0-2}
use Rattle.ms_ir.specs.declared.syntax.Init as initial
use Rattle.ms_ir.specs.Equal.{AddressStep}
use Rattle.ms_ir.specs.Layout.{width_of}
use Rattle.ms_text_grammar.specs.Lexemes.{Lexeme}
use Rattle.ms_text_grammar.specs.LayoutPieces.{word, sign, after_commas, with_commas, enclosed}
use Rattle.ms_text_grammar.specs.LayoutNames.{global_token, number_token}
use Rattle.ms_text_grammar.specs.LayoutTypes.{struct_tokens, type_tokens, row_tokens, result_tokens}
use Rattle.ms_text_grammar.specs.LayoutValues.{constant_index_tokens, offset_tokens, base_tokens, value_tokens, typed_tokens, pair_tokens, init_tokens, items_tokens}
use Rattle.ms_text_grammar.specs.LayoutApart.{IsWhole, AreWhole}
use Rattle.ms_text_grammar.proofs.WholeNames.{local_whole, global_whole}
use Rattle.ms_text_grammar.proofs.WholeKinds.{open_paren, close_paren, open_bracket, close_bracket, open_brace, close_brace, less, greater, comma_sign, word_whole, bytes_whole, count_whole, number_whole, width_whole}

-- ---- lists of tokens

pub append_whole : (a b : List Lexeme) → AreWhole a → AreWhole b → AreWhole (a ++ b)
append_whole [] b p q = q
append_whole (t ∷ a) b p q = (p.0, append_whole a b p.1 q)

-- parts whose tokens are whole
abbrev pub AreWholeParts : List (List Lexeme) → Type 0
AreWholeParts [] = Unit {0}
AreWholeParts (part ∷ rest) = AreWhole part × AreWholeParts rest

pub after_whole : (parts : List (List Lexeme)) → AreWholeParts parts → AreWhole (after_commas parts)
after_whole [] h = tt
after_whole (part ∷ rest) h = (comma_sign, append_whole part (after_commas rest) h.0 (after_whole rest h.1))

pub commas_whole : (parts : List (List Lexeme)) → AreWholeParts parts → AreWhole (with_commas parts)
commas_whole [] h = tt
commas_whole (part ∷ rest) h = append_whole part (after_commas rest) h.0 (after_whole rest h.1)

pub enclosed_whole : (o c : Text) → IsWhole (sign o) → IsWhole (sign c) → (parts : List (List Lexeme)) → AreWholeParts parts → AreWhole (enclosed o c parts)
enclosed_whole o c p q parts h = (p, append_whole (with_commas parts) (sign c ∷ []) (commas_whole parts h) (q, tt))

pub mapped_whole : {A : Type 0} (f : A → List Lexeme) → ((a : A) → AreWhole (f a)) → (xs : List A) → AreWholeParts (map f xs)
mapped_whole f h [] = tt
mapped_whole f h (x ∷ xs) = (h x, mapped_whole f h xs)

-- ---- types

struct_whole : (packed : Bool) (fields : List (List Lexeme)) → AreWholeParts fields → AreWhole (struct_tokens packed fields)
struct_whole false fields h = enclosed_whole (codes "{") (codes "}") open_brace close_brace fields h
struct_whole true fields h = (less, append_whole (enclosed (codes "{") (codes "}") fields) (sign (codes ">") ∷ []) (enclosed_whole (codes "{") (codes "}") open_brace close_brace fields h) (greater, tt))

mutual
  pub type_whole : (t : Ty) → AreWhole (type_tokens t)
  type_whole (Int width) = (width_whole width, tt)
  type_whole Ptr = (word_whole (codes "ptr") refl, tt)
  type_whole (Array' n shape item) =
      (open_bracket, (count_whole n, (word_whole (codes "x") refl, append_whole (with_commas (row_tokens item)) (sign (codes "]") ∷ []) (commas_whole (row_tokens item) (row_whole item)) (close_bracket, tt))))
  type_whole (Struct' packed shape fields) = struct_whole packed (row_tokens fields) (row_whole fields)
  type_whole (Named x) = (local_whole x, tt)

  row_whole : {n : _} (row : Row_of-Ty n) → AreWholeParts (row_tokens row)
  row_whole end_of-Ty = tt
  row_whole (more_of-Ty t ts) = (type_whole t, row_whole ts)

pub result_whole : (t : Option Ty) → AreWhole (result_tokens t)
result_whole None = (word_whole (codes "void") refl, tt)
result_whole (Some t) = type_whole t

-- ---- values

truth_whole : (t : Bool) → IsWhole (word (cond t (codes "false") (codes "true")))
truth_whole true = word_whole (codes "false") refl
truth_whole false = word_whole (codes "true") refl

integer_by : (t : Bool) (width n : ℕ) → IsWhole (cond t (word (cond (n == 0) (codes "false") (codes "true"))) (number_token width n))
integer_by true width n = truth_whole (n == 0)
integer_by false width n = number_whole width n

index_whole : (i : Ty × ℕ) → AreWhole (constant_index_tokens i)
index_whole i = append_whole (type_tokens i.0) (number_token (width_of i.0) i.1 ∷ []) (type_whole i.0) (number_whole (width_of i.0) i.1, tt)

offset_whole : (t : Ty) (base : List Lexeme) → AreWhole base → (indices : List (Ty × ℕ)) → AreWhole (offset_tokens t base indices)
unfolding offset_tokens
offset_whole t base h indices = (
  word_whole (codes "getelementptr") refl,
  enclosed_whole (codes "(") (codes ")") open_paren close_paren (type_tokens t ∷ (word (codes "ptr") ∷ base) ∷ map constant_index_tokens indices)
      (type_whole t, ((word_whole (codes "ptr") refl, h), mapped_whole constant_index_tokens index_whole indices)),
)

base_whole : (base : Lexeme) → IsWhole base → (steps : List AddressStep) → AreWhole (base_tokens base steps)
base_whole base h [] = (h, tt)
base_whole base h (s ∷ inner) = offset_whole s.0 (base_tokens base inner) (base_whole base h inner) s.1

pub value_whole : (t : Ty) (a : Operand) → AreWhole (value_tokens t a)
unfolding value_tokens
value_whole t (operand.Int n) = (integer_by (width_of t == 1) (width_of t) n, tt)
value_whole t operand.Null = (word_whole (codes "null") refl, tt)
value_whole t operand.Undef = (word_whole (codes "undef") refl, tt)
value_whole t operand.Poison = (word_whole (codes "poison") refl, tt)
value_whole t (operand.Local x) = (local_whole x, tt)
value_whole t (operand.Global x) = (global_whole x, tt)
value_whole t (operand.Offset x steps) = base_whole (global_token x) (global_whole x) steps

pub typed_whole : (t : Ty) (a : Operand) → AreWhole (typed_tokens t a)
typed_whole t a = append_whole (type_tokens t) (value_tokens t a) (type_whole t) (value_whole t a)

pub pair_whole : (p : Ty × Operand) → AreWhole (pair_tokens p)
pair_whole p = typed_whole p.0 p.1

mutual
  pub init_whole : (t : Ty) (i : Init) → AreWhole (init_tokens t i)
  init_whole t (initial.Value a) = value_whole t a
  init_whole t initial.Zero = (word_whole (codes "zeroinitializer") refl, tt)
  init_whole t (initial.Array' shape items) = enclosed_whole (codes "[") (codes "]") open_bracket close_bracket (items_tokens items) (items_whole items)
  init_whole t (initial.Struct' packed shape fields) = struct_whole packed (items_tokens fields) (items_whole fields)
  init_whole t (initial.Text bytes) = (bytes_whole bytes, tt)

  items_whole : {n : _} (row : Row_of-Init-Array-0-2 n) → AreWholeParts (items_tokens row)
  items_whole end_of-Init-Array-0-2 = tt
  items_whole (more_of-Init-Array-0-2 t i rest) = (append_whole (type_tokens t) (init_tokens t i) (type_whole t) (init_whole t i), items_whole rest)
