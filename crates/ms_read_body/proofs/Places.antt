-- The bytes at which tokens begin.
use Rattle.std.proofs.Common.{◌≡◌, ◌≤◌, ◌<◌, ℕ, zero, suc, List, [], ◌∷◌, length, get_or, refl, arith}
use Rattle.ms_lex.specs.declared.kinds.Token.{Token}
use Rattle.ms_lex.specs.Tokens.{Text}
use Rattle.ms_text_grammar.specs.Texts.{place_in}

-- a token's place is its first byte
pub begins : (text : Text) (tokens : List Token) (k : ℕ) (d : Token) → k < length tokens → place_in text tokens k ≡ (get_or tokens k d).start
begins text [] k d h = absurd (omega arith)
begins text (t ∷ rest) zero d h = refl
begins text (t ∷ rest) (suc k) d h = begins text rest k d (omega arith)

-- after the last one it is the text's length
pub place_at_end : (text : Text) (tokens : List Token) (k : ℕ) → length tokens ≤ k → place_in text tokens k ≡ length text
place_at_end text [] k h = refl
place_at_end text (t ∷ rest) zero h = absurd (omega arith)
place_at_end text (t ∷ rest) (suc k) h = place_at_end text rest k (omega arith)
