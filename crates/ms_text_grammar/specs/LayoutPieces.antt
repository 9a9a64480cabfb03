-- What is written: tokens, the bytes between them, and lines of them.
use Rattle.std.specs.Prelude.{ℕ, Bool, false, ◌||◌, ◌&&◌, ◌==◌, if◌then◌else◌, List, [], ◌∷◌, ◌++◌, codes}
use Rattle.ms_lex.specs.declared.kinds.Kind.TheVariants as k
use Rattle.ms_lex.specs.Tokens.{Text}
use Rattle.ms_text_grammar.specs.Lexemes.{Lexeme, lexeme}

-- ---- tokens and the bytes between them

-- a token, and the bytes from it to the next one
pub record Piece : Type 0 where
  pub token : Lexeme
  pub gap : Text

-- the bytes of pieces
abbrev pub render : List Piece → Text
render [] = []
render (p ∷ rest) = p.token.spelling ++ (p.gap ++ render rest)

-- the tokens of pieces
abbrev pub tokens_in : List Piece → List Lexeme
tokens_in [] = []
tokens_in (p ∷ rest) = p.token ∷ tokens_in rest

-- a text begins with this byte
abbrev pub is_first : ℕ → Text → Bool
is_first byte [] = false
is_first byte (b ∷ rest) = b == byte

-- the first byte of a token, which tells `,`, `(` and `)`, and a global by its `@`
abbrev pub begins_with : ℕ → Lexeme → Bool
begins_with byte t = is_first byte t.spelling

-- No space stands before `,` and `)`, after `(`, and before the `(` after the name of a function.
unfoldable pub are_close : Lexeme → Lexeme → Bool
are_close a b = begins_with 40 a || begins_with 44 b || begins_with 41 b || (begins_with 64 a && begins_with 40 b)

-- the bytes between two tokens of a line: one space, or nothing
abbrev pub between : Lexeme → Lexeme → Text
between a b = if are_close a b then [] else codes " "

-- the tokens of a line, with these bytes after the last one
abbrev pub spaced : Text → List Lexeme → List Piece
spaced after [] = []
spaced after (t ∷ []) = record { token = t; gap = after } ∷ []
spaced after (t ∷ u ∷ rest) = record { token = t; gap = between t u } ∷ spaced after (u ∷ rest)

-- ---- lines

-- the bytes in front of a line's tokens, and the tokens
pub record Line : Type 0 where
  pub indent : Text
  pub tokens : List Lexeme

-- a line that begins at its first byte
abbrev pub flush : List Lexeme → Line
flush tokens = record { indent = []; tokens = tokens }

-- a line after two spaces
abbrev pub indented : List Lexeme → Line
indented tokens = record { indent = codes "  "; tokens = tokens }

-- what stands in front of the first line
abbrev pub indent_of : List Line → Text
indent_of [] = []
indent_of (line ∷ rest) = line.indent

-- the pieces of lines, each of which ends with a newline, after the first one's indent
abbrev pub pieces_of : List Line → List Piece
pieces_of [] = []
pieces_of (line ∷ rest) = spaced (10 ∷ indent_of rest) line.tokens ++ pieces_of rest

-- ---- tokens

-- a word
abbrev pub word : Text → Lexeme
word = lexeme k.Word

-- punctuation
abbrev pub sign : Text → Lexeme
sign = lexeme k.Punct

-- a name of metadata
abbrev pub meta : Text → Lexeme
meta = lexeme k.Meta

-- three dots
abbrev pub three_dots : Lexeme
three_dots = lexeme k.Other (codes "...")

-- `,`
abbrev pub comma : Lexeme
comma = sign (codes ",")

-- a comma in front of each
abbrev pub after_commas : List (List Lexeme) → List Lexeme
after_commas [] = []
after_commas (tokens ∷ rest) = comma ∷ (tokens ++ after_commas rest)

-- commas between
abbrev pub with_commas : List (List Lexeme) → List Lexeme
with_commas [] = []
with_commas (tokens ∷ rest) = tokens ++ after_commas rest

-- the same between two signs
abbrev pub enclosed : Text → Text → List (List Lexeme) → List Lexeme
enclosed open_sign close_sign parts = sign open_sign ∷ (with_commas parts ++ sign close_sign ∷ [])
