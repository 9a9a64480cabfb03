-- How types are written (LLVM Language Reference, "Type System").
use Rattle.std.specs.Prelude.{ℕ, Bool, true, false, List, [], ◌∷◌, ◌++◌, codes, decimal, Option, Some, None}
use Rattle.ms_ir.specs.declared.syntax.Ty.{Ty, Int, Ptr, Array', Struct', Named, Row_of-Ty, end_of-Ty, more_of-Ty}
use Rattle.ms_text_grammar.specs.Lexemes.{Lexeme}
use Rattle.ms_text_grammar.specs.LayoutPieces.{word, sign, with_commas, enclosed}
use Rattle.ms_text_grammar.specs.LayoutNames.{local_token, count_token}

-- an array: how many items, and the type of each
abbrev pub array_tokens : ℕ → List Lexeme → List Lexeme
array_tokens n item = sign (codes "[") ∷ count_token n ∷ word (codes "x") ∷ (item ++ sign (codes "]") ∷ [])

-- the fields of a struct, which may be packed, or their values
abbrev pub struct_tokens : Bool → List (List Lexeme) → List Lexeme
struct_tokens false fields = enclosed (codes "{") (codes "}") fields
struct_tokens true fields = sign (codes "<") ∷ (enclosed (codes "{") (codes "}") fields ++ sign (codes ">") ∷ [])

-- a type, and each of a row of types
abbrev mutual
  pub type_tokens : Ty → List Lexeme
  type_tokens (Int width) = word (105 ∷ decimal width) ∷ []
  type_tokens Ptr = word (codes "ptr") ∷ []
  type_tokens (Array' n shape item) = array_tokens n (with_commas (row_tokens item))
  type_tokens (Struct' packed shape fields) = struct_tokens packed (row_tokens fields)
  type_tokens (Named x) = local_token x ∷ []

  pub row_tokens : {n : _} → Row_of-Ty n → List (List Lexeme)
  row_tokens end_of-Ty = []
  row_tokens (more_of-Ty t ts) = type_tokens t ∷ row_tokens ts

-- the type of a result, or `void`
abbrev pub result_tokens : Option Ty → List Lexeme
result_tokens None = word (codes "void") ∷ []
result_tokens (Some t) = type_tokens t
