-- What a text reads as, and at which of its tokens, and why, it stops.
use Rattle.std.specs.Prelude.{◌≡◌, ◌≤◌, ℕ, zero, suc, ◌+◌, ◌^◌, List, [], ◌∷◌, length, Ok}
use Rattle.ms_lex.specs.declared.kinds.Token.{Token}
use Rattle.ms_lex.specs.Tokens.{Text, tokens_of}
use Rattle.ms_lex.specs.Grammar as grammar
use Rattle.ms_ir.specs.declared.syntax.Module.{Module}
use Rattle.ms_ir.specs.declared.forms.Form.{Form}
use Rattle.ms_ir.specs.declared.forms.Form.TheVariants.{Plain, Instrumented}
use Rattle.ms_text_grammar.specs.declared.refusals.Cause.{Cause}
use Rattle.ms_text_grammar.specs.Lexemes.{Lexeme, end_of_text, lexemes_of}
use Rattle.ms_text_grammar.specs.Steps.{Rule}
use Rattle.ms_text_grammar.specs.Modules.{module_rule}

-- bytes of a text
unfoldable pub max_bytes : Form → ℕ
max_bytes Plain = 2 ^ 22
max_bytes Instrumented = 2 ^ 27

-- tokens of a text
unfoldable pub max_tokens : Form → ℕ
max_tokens Plain = 2 ^ 20
max_tokens Instrumented = 2 ^ 25

-- a text of at most so many bytes that has these tokens, which aren't too many
pub record HasTokens (form : Form) (text : Text) (tokens : List Token) : Type 0 where
  pub short : length text ≤ max_bytes form
  pub cut : tokens_of text (max_tokens form) ≡ Ok tokens

-- a piece of the grammar reads a value from lexemes, up to a rest
abbrev pub ReadsUpTo : {A : Type 0} → Rule A → List Lexeme → A → List Lexeme → Type 0
ReadsUpTo rule ts a rest = grammar.Reads end_of_text rule ts a rest

-- a piece of the grammar stops at the first lexeme of a rest
abbrev pub StopsAt : {A : Type 0} → Rule A → List Lexeme → Cause → List Lexeme → Type 0
StopsAt rule ts cause rest = grammar.Stops end_of_text rule ts cause rest

-- the text reads as this module in this form
abbrev pub Reads : Form → Text → Module → Type 0
Reads form text m = (tokens : List Token) × HasTokens form text tokens × ReadsUpTo (module_rule form) (lexemes_of text tokens) m []

-- the text stops at token k, counted from 0, for this cause; at the end of the text k is the number of its tokens
abbrev pub Stops : Form → Text → ℕ → Cause → Type 0
Stops form text k cause =
    (tokens : List Token) × HasTokens form text tokens
    × ((rest : List Lexeme) × (k + length rest ≡ length tokens) × StopsAt (module_rule form) (lexemes_of text tokens) cause rest)

-- the byte at which token k begins; at the end of the text that is its length
abbrev pub place_in : Text → List Token → ℕ → ℕ
place_in text [] k = length text
place_in text (t ∷ rest) zero = t.start
place_in text (t ∷ rest) (suc k) = place_in text rest k
