-- How values are written after their types (LLVM Language Reference, "Constants"), and initialisers ("Complex Constants").
use Rattle.std.specs.Prelude.{ℕ, ◌==◌, if◌then◌else◌, List, [], ◌∷◌, ◌++◌, codes, map}
use Rattle.ms_ir.specs.declared.syntax.Ty.{Ty}
use Rattle.ms_ir.specs.declared.syntax.Operand.{Operand}
use Rattle.ms_ir.specs.declared.syntax.Operand.TheVariants as operand
use Rattle.ms_ir.specs.declared.syntax.Init.{Init, Row_of-Init-Array-0-2, end_of-Init-Array-0-2, more_of-Init-Array-0-2}
use Rattle.ms_ir.specs.declared.syntax.Init as initial
use Rattle.ms_ir.specs.Equal.{AddressStep}
use Rattle.ms_ir.specs.Layout.{width_of}
use Rattle.ms_text_grammar.specs.Lexemes.{Lexeme}
use Rattle.ms_text_grammar.specs.LayoutPieces.{word, enclosed}
use Rattle.ms_text_grammar.specs.LayoutNames.{local_token, global_token, number_token, bytes_token}
use Rattle.ms_text_grammar.specs.LayoutTypes.{type_tokens, struct_tokens}

-- ---- values

-- an integer: a single bit is a truth value
abbrev pub integer_token : ℕ → ℕ → Lexeme
integer_token width n = if width == 1 then word (if n == 0 then codes "false" else codes "true") else number_token width n

-- a constant index with its type: a number, of a single bit too
abbrev pub constant_index_tokens : Ty × ℕ → List Lexeme
constant_index_tokens i = type_tokens i.0 ++ number_token (width_of i.0) i.1 ∷ []

-- a constant `getelementptr`, after which a space stands, with its base
unfoldable pub offset_tokens : Ty → List Lexeme → List (Ty × ℕ) → List Lexeme
offset_tokens t base indices =
    word (codes "getelementptr") ∷ enclosed (codes "(") (codes ")") (type_tokens t ∷ (word (codes "ptr") ∷ base) ∷ map constant_index_tokens indices)

-- the base of a constant `getelementptr`: a global, or the steps that lead on from it, the outermost first
abbrev pub base_tokens : Lexeme → List AddressStep → List Lexeme
base_tokens base [] = base ∷ []
base_tokens base (s ∷ inner) = offset_tokens s.0 (base_tokens base inner) s.1

-- a value of a type
unfoldable pub value_tokens : Ty → Operand → List Lexeme
value_tokens t (operand.Int n) = integer_token (width_of t) n ∷ []
value_tokens t operand.Null = word (codes "null") ∷ []
value_tokens t operand.Undef = word (codes "undef") ∷ []
value_tokens t operand.Poison = word (codes "poison") ∷ []
value_tokens t (operand.Local x) = local_token x ∷ []
value_tokens t (operand.Global x) = global_token x ∷ []
value_tokens t (operand.Offset x steps) = base_tokens (global_token x) steps

-- a value after its type
abbrev pub typed_tokens : Ty → Operand → List Lexeme
typed_tokens t a = type_tokens t ++ value_tokens t a

-- a type with a value of it
abbrev pub pair_tokens : Ty × Operand → List Lexeme
pair_tokens p = typed_tokens p.0 p.1

-- ---- initialisers

-- the initialiser of a type, and each of a row of items or fields after its type
abbrev mutual
  pub init_tokens : Ty → Init → List Lexeme
  init_tokens t (initial.Value a) = value_tokens t a
  init_tokens t initial.Zero = word (codes "zeroinitializer") ∷ []
  init_tokens t (initial.Array' shape items) = enclosed (codes "[") (codes "]") (items_tokens items)
  init_tokens t (initial.Struct' packed shape fields) = struct_tokens packed (items_tokens fields)
  init_tokens t (initial.Text bytes) = bytes_token bytes ∷ []

  pub items_tokens : {n : _} → Row_of-Init-Array-0-2 n → List (List Lexeme)
  items_tokens end_of-Init-Array-0-2 = []
  items_tokens (more_of-Init-Array-0-2 t i rest) = (type_tokens t ++ init_tokens t i) ∷ items_tokens rest
