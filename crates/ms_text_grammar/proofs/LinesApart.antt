-- The tokens of lines stand apart where each is whole.
use Rattle.std.proofs.Common.{◌≡◌, Bool, true, false, ◌||◌, ◌&&◌, cond, List, [], ◌∷◌, ◌++◌, refl, ap, ◌∙◌, append_assoc}
use Rattle.std.specs.Prelude.{IsTrue, codes, ◌==◌}
use Rattle.std.specs.List.{list_all}
use Rattle.std.proofs.lemmas.Bool.{or_right}
use Rattle.ms_lex.specs.Tokens.{Text, is_blank}
use Rattle.ms_text_grammar.specs.Lexemes.{Lexeme}
use Rattle.ms_text_grammar.specs.LayoutPieces.{Piece, render, Line, is_first, begins_with, are_close, between, spaced, indent_of, pieces_of}
use Rattle.ms_text_grammar.specs.LayoutApart.{AreApart, ends_token, AreWhole, AreWholeLines}

-- one of three signs
sign_follows : (blank comma closes opens named : Bool) → (comma || closes || (named && opens)) ≡ true → (blank || (comma || (opens || (closes || false)))) ≡ true
sign_follows true comma closes opens named h = refl
sign_follows false true closes opens named h = refl
sign_follows false false closes true named h = refl
sign_follows false false true false named h = refl
sign_follows false false false false true h = h
sign_follows false false false false false h = h

none_follows : (named : Bool) → (false || false || (named && false)) ≡ true → false ≡ true
none_follows true h = h
none_follows false h = h

-- where no space stands, what is after may stand close
sign_after : (named : Bool) (spelling x : Text) → (is_first 44 spelling || is_first 41 spelling || (named && is_first 40 spelling)) ≡ true → ends_token (spelling ++ x) ≡ true
sign_after named [] x h = let e = none_follows named h in absurd cc
sign_after named (b ∷ s) x h = sign_follows (is_blank b) (b == 44) (b == 41) (b == 40) named h

close_first : (opens comma closes called : Bool) → (opens || comma || closes || called) ≡ true → (rest : Bool) → ((comma || closes || called) ≡ true → rest ≡ true) → (opens || rest) ≡ true
close_first true comma closes called h rest f = refl
close_first false comma closes called h rest f = f h

may_follow : (t u : Lexeme) (x : Text) → are_close t u ≡ true → (begins_with 40 t || ends_token (u.spelling ++ x)) ≡ true
unfolding are_close
may_follow t u x h =
    close_first (begins_with 40 t) (begins_with 44 u) (begins_with 41 u) (begins_with 64 t && begins_with 40 u) h
    (ends_token (u.spelling ++ x)) (sign_after (begins_with 64 t) u.spelling x)

gap_ends : (t u : Lexeme) (x text : Text) → text ≡ u.spelling ++ x → (begins_with 40 t || ends_token (between t u ++ text)) ≡ true
gap_ends t u x text e = elim (are_close t u) as (λ c. are_close t u ≡ c → (begins_with 40 t || ends_token (cond c [] (codes " ") ++ text)) ≡ true) [
  | true ↦ λ h. ap (λ r. begins_with 40 t || ends_token r) e ∙ may_follow t u x h
  | false ↦ λ h. or_right (begins_with 40 t) true refl
] refl

gap_blank : (t u : Lexeme) → IsTrue (list_all is_blank (between t u))
gap_blank t u = elim (are_close t u) as (λ c. IsTrue (list_all is_blank (cond c [] (codes " ")))) [
  | true ↦ refl
  | false ↦ refl
]

begins_so : (later : Text) (u : Lexeme) (rest : List Lexeme) (after : List Piece) → (x : Text) × (render (spaced later (u ∷ rest) ++ after) ≡ u.spelling ++ x)
begins_so later u [] after = (later ++ render after, refl)
begins_so later u (v ∷ rest) after = (between u v ++ render (spaced later (v ∷ rest) ++ after), refl)

-- a newline, and blanks
module _ (blanks : Text) (all : IsTrue (list_all is_blank blanks)) where
  line_apart : (tokens : List Lexeme) (after : List Piece) → AreWhole tokens → AreApart after → AreApart (spaced (10 ∷ blanks) tokens ++ after)
  line_apart [] after w a = a
  line_apart (t ∷ []) after w a = (w.0.fronts (10 ∷ (blanks ++ render after)) (or_right (begins_with 40 t) true refl), all, w.0.spelled, a)
  line_apart (t ∷ u ∷ rest) after w a =
      let so = begins_so (10 ∷ blanks) u rest after in
      let text : Text = render (spaced (10 ∷ blanks) (u ∷ rest) ++ after) in
      (w.0.fronts (between t u ++ text) (gap_ends t u so.0 text so.1), gap_blank t u, w.0.spelled, line_apart (u ∷ rest) after w.1 a)

indent_blank : (lines : List Line) → AreWholeLines lines → IsTrue (list_all is_blank (indent_of lines))
indent_blank [] h = refl
indent_blank (line ∷ rest) h = h.0

-- the pieces of lines, in front of other pieces
pub lines_apart : (lines : List Line) (after : List Piece) → AreWholeLines lines → AreApart after → AreApart (pieces_of lines ++ after)
lines_apart [] after h a = a
lines_apart (line ∷ rest) after h a =
    rw (append_assoc (spaced (10 ∷ indent_of rest) line.tokens) (pieces_of rest) after)
    (line_apart (indent_of rest) (indent_blank rest h.2) line.tokens (pieces_of rest ++ after) h.1 (lines_apart rest after h.2 a))
