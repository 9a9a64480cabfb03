-- A text with what stands in it, by the places of marks and tokens. Everything here is total: what isn't there is empty.
use Rattle.std.specs.Prelude.{ℕ, List, drop, Option, slice_get}
use Rattle.ms_lex.specs.declared.kinds.Token.{Token}
use Rattle.ms_lex.specs.Tokens.{Text}
use Rattle.ms_text_grammar.specs.Lexemes.{Lexeme, lexemes_of}
use Rattle.ms_read_cursor.specs.Reading.{front}
use Rattle.ms_where_places.specs.declared.marks.Mark.{Mark}

-- a text, its tokens, and what is told of them
pub record Told : Type 0 where
  pub text : Text
  pub tokens : List Token
  pub marks : List Mark

abbrev pub lexemes : Told → List Lexeme
lexemes d = lexemes_of d.text d.tokens

-- the token with a number, counted from 0, or the end of the text
abbrev pub lexeme_at : Told → ℕ → Lexeme
lexeme_at d n = front (drop n (lexemes d))

-- its bytes
abbrev pub spelling_at : Told → ℕ → Text
spelling_at d n = (lexeme_at d n).spelling

-- the mark at a place, counted from 0
abbrev pub mark_at : Told → ℕ → Option Mark
mark_at d place = slice_get d.marks place
