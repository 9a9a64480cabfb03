-- Tokens that are written, with blanks between, are cut again as those tokens.
use Rattle.std.proofs.Common.{◌≡◌, ℕ, suc, ◌+◌, ◌-◌, ◌≤◌, Bool, true, false, ◌&&◌, List, [], ◌∷◌, ◌++◌, length, take, drop, None, Ok, refl, sym, ap, ap₂, ◌∙◌, append_assoc, arith, length-append}
use Rattle.std.specs.Prelude.{IsTrue}
use Rattle.std.specs.List.{list_all}
use Rattle.std.proofs.lemmas.List.{drop_at, take_at}
use Rattle.std.proofs.lemmas.Bool.{le-ltb}
use Rattle.ms_lex.specs.declared.kinds.Kind.{Kind}
use Rattle.ms_lex.specs.declared.kinds.Token.{Token}
use Rattle.ms_lex.specs.Tokens.{Text, is_blank, cut_from, cut_of, with_first, tokens_of}
use Rattle.ms_lex.specs.Names.{spelling_of}
use Rattle.ms_lex.proofs.Cuts.{at_blank, at_token}
use Rattle.ms_text_grammar.specs.Lexemes.{Lexeme, lexeme, lexemes_of}
use Rattle.ms_text_grammar.specs.LayoutPieces.{Piece, render, tokens_in}
use Rattle.ms_text_grammar.specs.LayoutApart.{Fronts, AreApart, IsSpelled, spans}

front_goes : (kind : Kind) (n : ℕ) (text : Text) (place : ℕ) → Fronts kind n text
    → cut_from 0 place text ≡ with_first (record { kind = kind; start = place; end = place + n }) (cut_from 0 (place + n) (drop n text))
front_goes kind n [] place h = absurd h
front_goes kind n (b ∷ z) place h = at_token b z place kind n h.0 h.1 h.2 h.3

head_blank : (t : Bool) (all : Bool) → IsTrue (t && all) → (t ≡ true) × IsTrue all
head_blank true all h = (refl, h)
head_blank false all h = absurd cc

gap_goes : (gap rest : Text) (place : ℕ) → IsTrue (list_all is_blank gap) → cut_from 0 place (gap ++ rest) ≡ cut_from 0 (place + length gap) rest
gap_goes [] rest place h = ap (λ k. cut_from 0 k rest) (omega arith)
gap_goes (b ∷ gap) rest place h =
    let parts = head_blank (is_blank b) (list_all is_blank gap) h in
    at_blank b (gap ++ rest) place parts.0 ∙ gap_goes gap rest (place + 1) parts.1 ∙ ap (λ k. cut_from 0 k rest) (omega arith)

cut_back : (ps : List Piece) (place : ℕ) → AreApart ps → cut_from 0 place (render ps) ≡ record { tokens = spans place ps; stop = None }
cut_back [] place h = refl
cut_back (p ∷ ps) place h =
    let s : Text = p.token.spelling in
    let token : Token = record { kind = p.token.kind; start = place; end = place + length s } in
    let after = drop_at s (p.gap ++ render ps) (length s) refl in
    front_goes p.token.kind (length s) (s ++ (p.gap ++ render ps)) place h.0
    ∙ ap (λ r. with_first token (cut_from 0 (place + length s) r)) after
    ∙ ap (with_first token) (gap_goes p.gap (render ps) (place + length s) h.1 ∙ cut_back ps (place + length s + length p.gap) h.3)

spans_length : (ps : List Piece) (place : ℕ) → length (spans place ps) ≡ length ps
spans_length [] place = refl
spans_length (p ∷ ps) place = ap suc (spans_length ps (place + length p.token.spelling + length p.gap))

pub tokens_back : (ps : List Piece) (limit : ℕ) → AreApart ps → length ps ≤ limit → tokens_of (render ps) limit ≡ Ok (spans 0 ps)
unfolding tokens_of cut_of
tokens_back ps limit h few = rw (cut_back ps 0 h, spans_length ps 0, le-ltb limit (length ps) few) refl

-- ---- the tokens as the grammar sees them

spelled : (t : Lexeme) → IsSpelled t → lexeme t.kind t.spelling ≡ t
spelled t h = ap (λ x. record { symbol = x; kind = t.kind; spelling = t.spelling }) (sym h)

this_one : (front s rest : Text) (kind : Kind) → spelling_of (front ++ (s ++ rest)) (record { kind = kind; start = length front; end = length front + length s }) ≡ s
this_one front s rest kind =
    ap (take (length front + length s - length front)) (drop_at front (s ++ rest) (length front) refl)
    ∙ take_at s rest (length front + length s - length front) (omega arith)

lexemes_from : (ps : List Piece) (front : Text) → AreApart ps → lexemes_of (front ++ render ps) (spans (length front) ps) ≡ tokens_in ps
lexemes_from [] front h = refl
lexemes_from (p ∷ ps) front h =
    let s : Text = p.token.spelling in
    let longer : Text = front ++ (s ++ p.gap) in
    let text : front ++ (s ++ (p.gap ++ render ps)) ≡ longer ++ render ps = ap (λ r. front ++ r) (sym (append_assoc s p.gap (render ps))) ∙ sym (append_assoc front (s ++ p.gap) (render ps)) in
    let place : length front + length s + length p.gap ≡ length longer = omega (arith, length-append {A = ℕ}) in
    ap₂ (λ x xs. x ∷ xs)
    (ap (λ r. lexeme p.token.kind r) (this_one front s (p.gap ++ render ps) p.token.kind) ∙ spelled p.token h.2)
    (ap₂ (λ t n. lexemes_of t (spans n ps)) text place ∙ lexemes_from ps longer h.3)

pub lexemes_back : (ps : List Piece) → AreApart ps → lexemes_of (render ps) (spans 0 ps) ≡ tokens_in ps
lexemes_back ps h = lexemes_from ps [] h
