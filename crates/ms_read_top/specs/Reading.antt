-- What an answer of a reader of whole texts says.
use Rattle.std.specs.Prelude.{◌≡◌, ◌≢◌, ◌⊎◌, ℕ, List, Some, Result, Ok, Err}
use Rattle.ms_lex.specs.declared.errors.LexError.{LexError}
use Rattle.ms_lex.specs.declared.errors.LexError.TheVariants as lex
use Rattle.ms_lex.specs.declared.kinds.Token.{Token}
use Rattle.ms_lex.specs.Tokens.{Text, tokens_of}
use Rattle.ms_ir.specs.declared.syntax.Module.{Module}
use Rattle.ms_ir.specs.declared.forms.Form.{Form}
use Rattle.ms_text_grammar.specs.declared.refusals.Cause.{Cause}
use Rattle.ms_text_grammar.specs.Causes.{printed_number}
use Rattle.ms_text_grammar.specs.Texts.{HasTokens, Reads, Stops, max_tokens, place_in}
use Rattle.ms_read_body.specs.Calls.{what_of}
use Rattle.ms_read_body.specs.declared.errors.What.{What}
use Rattle.ms_read_body.specs.declared.errors.ReadError.{ReadError}
use Rattle.ms_read_body.specs.declared.errors.ReadError.TheVariants as e

-- the text stops at this token, which begins at this byte, for a cause of this number that names this
pub record IsTextRefused (form : Form) (text : Text) (number : ℕ) (what : What) (token place : ℕ) : Type 0 where
  pub cause : Cause
  pub stops : Stops form text token cause
  pub numbered : printed_number cause ≡ Some number
  pub named : what ≡ what_of cause
  pub begins : (tokens : List Token) → HasTokens form text tokens → place ≡ place_in text tokens token

-- what an answer says is so; running out of memory says nothing
abbrev pub IsReading : Form → Text → Result Module ReadError → Type 0
IsReading form text (Ok m) = Reads form text m
IsReading form text (Err (e.Lex cause)) = (tokens_of text (max_tokens form) ≡ Err cause) × (cause ≢ lex.NoMemory)
IsReading form text (Err (e.Refused number what token place)) = IsTextRefused form text number what token place
IsReading form text (Err e.NoMemory) = Unit {0}

-- the call answers this exactly where the fact holds, unless memory ran out
abbrev pub AnswersExactly : Result Module ReadError → Result Module ReadError → Type 0 → Type 0
AnswersExactly result answer Fact = (result ≡ answer → Fact) × (Fact → (result ≡ answer) ⊎ (result ≡ Err e.NoMemory))

-- the error for a text that has no tokens
abbrev pub of_lexer : LexError → ReadError
of_lexer lex.NoMemory = e.NoMemory
of_lexer cause = e.Lex cause
