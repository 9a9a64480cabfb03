-- The string that the token at a place is.
use Rattle.std.proofs.Common.{◌≡◌, ℕ, zero, suc, List, [], ◌∷◌, drop, Option, Some, None, refl, ap}
use Rattle.std.specs.Prelude.{slice_get, unwrap_or}
use Rattle.ms_lex.specs.declared.kinds.Token.{Token}
use Rattle.ms_lex.specs.Tokens.{Text}
use Rattle.ms_lex.specs.Names.{spelling_of}
use Rattle.ms_text_grammar.specs.Lexemes.{Lexeme, lexemes_of, lexeme_of, end_of_text}
use Rattle.ms_read_cursor.specs.Reading.{front}
use Rattle.ms_where_places.specs.Told.{Told}
use Rattle.ms_where.specs.Nodes.{string_at, string_by}

lexeme_there : (text : Text) (tokens : List Token) (n : ℕ) (t : Token) → slice_get tokens n ≡ Some t → front (drop n (lexemes_of text tokens)) ≡ lexeme_of text t
lexeme_there text [] n t e = absurd cc
lexeme_there text (x ∷ tokens) zero t e = ap (λ (o : Option Token). lexeme_of text (unwrap_or o x)) e
lexeme_there text (x ∷ tokens) (suc n) t e = lexeme_there text tokens n t e

no_lexeme : (text : Text) (tokens : List Token) (n : ℕ) → slice_get tokens n ≡ None → front (drop n (lexemes_of text tokens)) ≡ end_of_text
no_lexeme text [] zero e = refl
no_lexeme text [] (suc n) e = refl
no_lexeme text (x ∷ tokens) zero e = absurd cc
no_lexeme text (x ∷ tokens) (suc n) e = no_lexeme text tokens n e

pub string_there : (d : Told) (n : ℕ) (t : Token) → slice_get d.tokens n ≡ Some t → string_at d n ≡ string_by t.kind (spelling_of d.text t)
unfolding string_at
string_there d n t e = ap (λ (x : Lexeme). string_by x.kind x.spelling) (lexeme_there d.text d.tokens n t e)

pub no_string : (d : Told) (n : ℕ) → slice_get d.tokens n ≡ None → string_at d n ≡ None
unfolding string_at
no_string d n e = rw (no_lexeme d.text d.tokens n e) refl
