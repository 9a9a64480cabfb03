-- Parts of what is written that the writer's functions speak of.
use Rattle.std.specs.Prelude.{ℕ, Bool, true, false, List, [], ◌∷◌, ◌++◌, codes, decimal, Option, Some, None}
use Rattle.ms_lex.specs.Tokens.{Text}
use Rattle.ms_ir.specs.declared.syntax.Init.{Init}
use Rattle.ms_ir.specs.declared.syntax.Operand.{Operand}
use Rattle.ms_ir.specs.declared.syntax.Ty.{Ty}
use Rattle.ms_text_grammar.specs.Lexemes.{Lexeme}
use Rattle.ms_text_grammar.specs.LayoutPieces.{sign, comma, three_dots}
use Rattle.ms_text_grammar.specs.LayoutTypes.{type_tokens}
use Rattle.ms_text_grammar.specs.LayoutValues.{init_tokens, typed_tokens, value_tokens}

-- the digits of a signed number that is kept as a word: of the word, or after a minus sign of how far it is below zero
abbrev pub signed_digits : ℕ → Option ℕ → Text
signed_digits value None = decimal value
signed_digits value (Some far) = 45 ∷ decimal far

-- what opens a struct, and what closes it
abbrev pub open_tokens : Bool → List Lexeme
open_tokens false = sign (codes "{") ∷ []
open_tokens true = sign (codes "<") ∷ sign (codes "{") ∷ []

abbrev pub close_tokens : Bool → List Lexeme
close_tokens false = sign (codes "}") ∷ []
close_tokens true = sign (codes "}") ∷ sign (codes ">") ∷ []

-- an item of an array or a field of a struct, after its type
abbrev pub item_tokens : Ty × Init → List Lexeme
item_tokens p = type_tokens p.0 ++ init_tokens p.0 p.1

-- two values of a type, which stands in front
abbrev pub two_tokens : Ty → Operand → Operand → List Lexeme
two_tokens t a b = typed_tokens t a ++ comma ∷ value_tokens t b

-- the dots after the parameters of a declaration that has them
abbrev pub dot_tokens : Bool → List Lexeme
dot_tokens false = []
dot_tokens true = comma ∷ three_dots ∷ []
