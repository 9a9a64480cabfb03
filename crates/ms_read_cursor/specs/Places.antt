-- What contracts see of a cursor: the tokens that are left.
use Rattle.std.specs.Prelude.{◌≡◌, ◌≤◌, List, length}
use Rattle.std.specs.List.{AllByRecursion}
use Rattle.ms_lex.specs.declared.kinds.Token.{Token}
use Rattle.ms_lex.specs.Tokens.{Text}
use Rattle.ms_text_grammar.specs.Lexemes.{Lexeme, lexemes_of}
use Rattle.ms_read_cursor.specs.declared.cursor.Tokens.TheInside.{Inside}
use Rattle.ms_read_cursor.specs.Reading.{front}

abbrev pub left_in : Inside → List Lexeme
left_in c = lexemes_of c.text.now c.rest.now

-- they lie in the text, and the next symbol is at hand
abbrev pub LieIn : Text → List Token → Type 0
LieIn text = AllByRecursion (λ t. (t.start ≤ t.end) × (t.end ≤ length text))

abbrev pub IsReady : Inside → Type 0
IsReady c = LieIn c.text.now c.rest.now × (c.symbol ≡ (front (left_in c)).symbol)
