-- Tokens that lie in a text in order.
use Rattle.std.proofs.Common.{◌≡◌, ℕ, zero, suc, ◌<◌, ◌≤◌, List, [], ◌∷◌, length, drop, refl, arith}
use Rattle.std.proofs.lemmas.List.Elements.{All-weaker, All-drop, recursion_from_All}
use Rattle.ms_lex.specs.declared.kinds.Token.{Token}
use Rattle.ms_lex.specs.Tokens.{Text, InOrder}
use Rattle.ms_text_grammar.specs.Lexemes.{lexemes_of}
use Rattle.ms_read_cursor.specs.Places.{LieIn}

abbrev Within : ℕ → Token → Type 0
Within size t = (t.start ≤ t.end) × (t.end ≤ size)

pub lie_in : (text : Text) (tokens : List Token) (place : ℕ) → InOrder tokens (length text) → LieIn text (drop place tokens)
lie_in text tokens place h =
    let all = All-weaker (λ t. (t.start < t.end) × (t.end ≤ length text)) (Within (length text)) (λ t w. (omega (arith, w.0), w.1)) tokens h.within in
    recursion_from_All (Within (length text)) (drop place tokens) (All-drop (Within (length text)) place tokens all)

pub after : (text : Text) (tokens : List Token) (place : ℕ) → lexemes_of text (drop place tokens) ≡ drop place (lexemes_of text tokens)
after text tokens zero = refl
after text [] (suc place) = refl
after text (t ∷ tokens) (suc place) = after text tokens place
