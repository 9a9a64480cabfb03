-- What contracts see of a token of a text.
use Rattle.std.specs.Prelude.{◌≡◌, ◌≤◌, ◌⊎◌, ◌-◌, length, take, drop}
use Rattle.ms_lex.specs.declared.kinds.Kind.{Kind}
use Rattle.ms_lex.specs.declared.kinds.Kind.TheVariants as k
use Rattle.ms_lex.specs.Tokens.{Text}
use Rattle.ms_lex.specs.Names.{spelling_of}
use Rattle.ms_text_grammar.specs.declared.symbols.Symbol.TheVariants.{EndOfText}
use Rattle.ms_text_grammar.specs.Lexemes.{Lexeme, symbol_of}
use Rattle.ms_read_cursor.specs.declared.lexemes.Lexeme.TheInside.{Inside}

abbrev pub lexeme_in : Inside → Lexeme
lexeme_in l = record { symbol = l.symbol; kind = l.token.kind; spelling = spelling_of l.text.now l.token }

-- it lies in its text, and its symbol is that of its spelling or the end of the text
pub record IsLexeme (l : Inside) : Type 0 where
  pub ordered : l.token.start ≤ l.token.end
  pub inside : l.token.end ≤ length l.text.now
  pub symbol : (l.symbol ≡ EndOfText) ⊎ (l.symbol ≡ symbol_of l.token.kind (spelling_of l.text.now l.token))

-- the digits of a token that is a numbered label or a numbered local
abbrev pub digits_of : Kind → Text → Text
digits_of k.Label spelling = take (length spelling - 1) spelling
digits_of kind spelling = drop 1 spelling
