-- What is put on a sheet token by token are the bytes of its pieces.
use Rattle.std.proofs.Common.{◌≡◌, Bool, List, [], ◌∷◌, ◌++◌, Some, refl, ap, sym, ◌∙◌, append_assoc, append-nil}
use Rattle.std.specs.Prelude.{◌||◌, ◌&&◌, codes, if◌then◌else◌}
use Rattle.ms_lex.specs.Tokens.{Text}
use Rattle.ms_text_grammar.specs.Lexemes.{Lexeme}
use Rattle.ms_text_grammar.specs.LayoutPieces.{Piece, render, is_first, are_close, between, spaced, Line, indent_of, pieces_of}
use Rattle.ms_write_values.specs.Sheets.{Sheet, first_byte, are_near, gap, put_text, put, opened, put_line, put_lines}

-- ---- spaces

near_texts : (x y : Text) → are_near (first_byte x) (first_byte y) ≡ (is_first 40 x || is_first 44 y || is_first 41 y || (is_first 64 x && is_first 40 y))
near_texts [] [] = refl
near_texts [] (b ∷ y) = refl
near_texts (a ∷ x) [] = refl
near_texts (a ∷ x) (b ∷ y) = refl

near_close : (t u : Lexeme) → are_near (first_byte t.spelling) (first_byte u.spelling) ≡ are_close t u
unfolding are_close
near_close t u = near_texts t.spelling u.spelling

gap_between : (t u : Lexeme) → gap (Some (first_byte t.spelling)) (first_byte u.spelling) ≡ between t u
gap_between t u = ap (λ (near : Bool). if near then [] else codes " ") (near_close t u)

-- ---- tokens

pub render_append : (a b : List Piece) → render (a ++ b) ≡ render a ++ render b
render_append [] b = refl
render_append (p ∷ a) b = rw (render_append a b) (sym (simp append_assoc))

-- the tokens of a line, and what stands after the last one
tokens_rendered : (s : Sheet) (t : Lexeme) (ts : List Lexeme) (later : Text) (after : List Piece)
    → (put (put_text s t.spelling) ts).bytes ++ (later ++ render after) ≡ s.bytes ++ (gap s.last (first_byte t.spelling) ++ render (spaced later (t ∷ ts) ++ after))
tokens_rendered s t [] later after = simp append_assoc
tokens_rendered s t (u ∷ ts) later after =
    tokens_rendered (put_text s t.spelling) u ts later after
    ∙ ap (λ g. (s.bytes ++ (gap s.last (first_byte t.spelling) ++ t.spelling)) ++ (g ++ render (spaced later (u ∷ ts) ++ after))) (gap_between t u)
    ∙ simp append_assoc

-- ---- lines

-- a line has tokens
abbrev pub IsFull : List Lexeme → Type 0
IsFull [] = ⊥
IsFull (t ∷ ts) = Unit {0}

-- all lines have
abbrev pub AreFull : List Line → Type 0
AreFull [] = Unit {0}
AreFull (line ∷ rest) = IsFull line.tokens × AreFull rest

line_rendered : (s : Sheet) (indent : Text) (tokens : List Lexeme) → IsFull tokens → (later : Text) (after : List Piece)
    → ((put (opened s indent) tokens).bytes ++ 10 ∷ []) ++ (later ++ render after) ≡ s.bytes ++ (indent ++ render (spaced (10 ∷ later) tokens ++ after))
line_rendered s indent [] h later after = absurd h
line_rendered s indent (t ∷ ts) h later after =
    append_assoc (put (opened s indent) (t ∷ ts)).bytes (10 ∷ []) (later ++ render after)
    ∙ tokens_rendered (opened s indent) t ts (10 ∷ later) after
    ∙ append_assoc s.bytes indent (render (spaced (10 ∷ later) (t ∷ ts) ++ after))

pub lines_rendered : (s : Sheet) (lines : List Line) → AreFull lines → (put_lines s lines).bytes ≡ s.bytes ++ (indent_of lines ++ render (pieces_of lines))
lines_rendered s [] h = sym (simp append-nil)
lines_rendered s (line ∷ rest) h =
    lines_rendered (put_line s line) rest h.1 ∙ line_rendered s line.indent line.tokens h.0 (indent_of rest) (pieces_of rest)
