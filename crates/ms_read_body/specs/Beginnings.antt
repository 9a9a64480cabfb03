-- What the first token of a line brings.
use Rattle.std.specs.Prelude.{ℕ}
use Rattle.ms_ir.specs.declared.syntax.Name.{Name}
use Rattle.ms_ir.specs.declared.syntax.Name.TheVariants as name
use Rattle.ms_text_grammar.specs.declared.states.BodySoFar.{BodySoFar}
use Rattle.ms_text_grammar.specs.declared.symbols.Symbol.{Symbol}
use Rattle.ms_text_grammar.specs.declared.symbols.Symbol.TheVariants as s
use Rattle.ms_text_grammar.specs.Bodies.{opened_as}
use Rattle.ms_text_grammar.specs.Lexemes.{Lexeme, name_in}

-- the block of a label: of a name, or of the next number
abbrev pub labelled : BodySoFar → Symbol → Lexeme → BodySoFar
labelled body s.Label t = opened_as body (name.Text (name_in t)) 0
labelled body symbol t = opened_as body (name.Number body.next) 1

-- the name of a result: a name, or the next number
abbrev pub result_name : ℕ → Symbol → Lexeme → Name
result_name number s.Local t = name.Text (name_in t)
result_name number symbol t = name.Number number
