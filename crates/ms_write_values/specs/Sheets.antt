-- A text as far as it is written: its bytes, and the first byte of the token that stands last in the line. That byte tells
-- whether a space stands after the token.
use Rattle.std.specs.Prelude.{ℕ, Bool, ◌||◌, ◌&&◌, ◌==◌, if◌then◌else◌, List, [], ◌∷◌, ◌++◌, codes, Option, Some, None}
use Rattle.ms_lex.specs.Tokens.{Text}
use Rattle.ms_text_grammar.specs.Lexemes.{Lexeme}
use Rattle.ms_text_grammar.specs.LayoutPieces.{Line}

pub record Sheet : Type 0 where
  pub bytes : Text
  pub last : Option ℕ

-- nothing is written
abbrev pub empty : Sheet
empty = record { bytes = []; last = None }

-- ---- tokens

-- the first byte of a token; 0, which begins none, stands for that of an empty one
abbrev pub first_byte : Text → ℕ
first_byte [] = 0
first_byte (b ∷ rest) = b

-- between tokens that begin with these bytes no space stands
abbrev pub are_near : ℕ → ℕ → Bool
are_near a b = a == 40 || b == 44 || b == 41 || (a == 64 && b == 40)

-- what stands in front of a token that begins with this byte: nothing where it is the first of its line
abbrev pub gap : Option ℕ → ℕ → Text
gap None b = []
gap (Some a) b = if are_near a b then [] else codes " "

-- further bytes of the last token
abbrev pub grown : Sheet → Text → Sheet
grown s text = record { bytes = s.bytes ++ text; last = s.last }

-- a token more
abbrev pub put_text : Sheet → Text → Sheet
put_text s text = record { bytes = s.bytes ++ (gap s.last (first_byte text) ++ text); last = Some (first_byte text) }

-- tokens more, in order
abbrev pub put : Sheet → List Lexeme → Sheet
put s [] = s
put s (t ∷ rest) = put (put_text s t.spelling) rest

-- ---- lines

-- a line is begun after these bytes
abbrev pub opened : Sheet → Text → Sheet
opened s indent = record { bytes = s.bytes ++ indent; last = None }

-- a line is ended
abbrev pub ended : Sheet → Sheet
ended s = record { bytes = s.bytes ++ 10 ∷ []; last = None }

-- a line more
abbrev pub put_line : Sheet → Line → Sheet
put_line s line = ended (put (opened s line.indent) line.tokens)

-- lines more, in order
abbrev pub put_lines : Sheet → List Line → Sheet
put_lines s [] = s
put_lines s (line ∷ rest) = put_lines (put_line s line) rest
