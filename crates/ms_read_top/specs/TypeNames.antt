-- The names of named types.
use Rattle.ms_lex.specs.Numbers.{decimal}
use Rattle.ms_ir.specs.declared.syntax.Name.{Name}
use Rattle.ms_ir.specs.declared.syntax.Name.TheVariants as name
use Rattle.ms_text_grammar.specs.declared.symbols.Symbol.{Symbol}
use Rattle.ms_text_grammar.specs.declared.symbols.Symbol.TheVariants as s
use Rattle.ms_text_grammar.specs.Lexemes.{Lexeme, name_in}

-- the name of a type that a token of this symbol is, where it may stand
abbrev pub type_name : Symbol → Lexeme → Name
type_name s.NumberedLocal t = name.Number (decimal (name_in t))
type_name symbol t = name.Text (name_in t)
