-- When the bytes of pieces are cut back into their tokens: each token stands apart from what follows it.
use Rattle.std.specs.Prelude.{◌≡◌, ◌<◌, ℕ, ◌+◌, Bool, false, ◌||◌, ◌==◌, codes, List, [], ◌∷◌, ◌++◌, length, Some, IsTrue}
use Rattle.std.specs.List.{list_all}
use Rattle.ms_lex.specs.declared.kinds.Kind.{Kind}
use Rattle.ms_lex.specs.declared.kinds.Token.{Token}
use Rattle.ms_lex.specs.Tokens.{Text, is_blank, is_one_of, token_at}
use Rattle.ms_text_grammar.specs.Lexemes.{Lexeme, symbol_of}
use Rattle.ms_text_grammar.specs.LayoutPieces.{Piece, render, Line, begins_with}

-- a token of this kind, of so many bytes, is in front of a text
abbrev pub Fronts : Kind → ℕ → Text → Type 0
Fronts kind n [] = ⊥
Fronts kind n (b ∷ rest) = (is_blank b ≡ false) × ((b == 59) ≡ false) × (token_at (b ∷ rest) ≡ Some (kind, n)) × (0 < n)

-- a token has the symbol that it is spelled as
abbrev pub IsSpelled : Lexeme → Type 0
IsSpelled t = t.symbol ≡ symbol_of t.kind t.spelling

-- each token is in front of what follows it, whole, and blanks are after it
abbrev pub AreApart : List Piece → Type 0
AreApart [] = Unit {0}
AreApart (p ∷ rest) =
    Fronts p.token.kind (length p.token.spelling) (p.token.spelling ++ (p.gap ++ render rest)) × IsTrue (list_all is_blank p.gap) × IsSpelled p.token
    × AreApart rest

-- where the tokens of pieces stand in their text, from this place on
abbrev pub spans : ℕ → List Piece → List Token
spans place [] = []
spans place (p ∷ rest) =
    record { kind = p.token.kind; start = place; end = place + length p.token.spelling }
    ∷ spans (place + length p.token.spelling + length p.gap) rest

-- ---- lines

-- a blank, or one of the signs that may stand directly after a token
abbrev pub ends_token : Text → Bool
ends_token [] = false
ends_token (b ∷ rest) = is_blank b || is_one_of (codes ",()") b

-- a token that is in front of what may stand after it, whole; after `(` that is anything
pub record IsWhole (t : Lexeme) : Type 0 where
  pub spelled : IsSpelled t
  pub fronts : (rest : Text) → IsTrue (begins_with 40 t || ends_token rest) → Fronts t.kind (length t.spelling) (t.spelling ++ rest)

-- tokens that are whole
abbrev pub AreWhole : List Lexeme → Type 0
AreWhole [] = Unit {0}
AreWhole (t ∷ rest) = IsWhole t × AreWhole rest

-- lines of such tokens after blanks
abbrev pub AreWholeLines : List Line → Type 0
AreWholeLines [] = Unit {0}
AreWholeLines (line ∷ rest) = IsTrue (list_all is_blank line.indent) × AreWhole line.tokens × AreWholeLines rest
