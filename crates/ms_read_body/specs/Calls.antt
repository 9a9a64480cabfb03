-- What the calls that read a part of a text promise, in the words of the grammar's relations.
use Rattle.std.specs.Prelude.{◌≡◌, ◌≢◌, ◌≤◌, ◌<◌, ◌-◌, ◌^◌, ℕ, List, length, drop, Option, Some, None, Result, Ok, Err}
use Rattle.ms_lex.specs.declared.kinds.Token.{Token}
use Rattle.ms_lex.specs.Tokens.{Text, tokens_of}
use Rattle.ms_lex.specs.Grammar.{◌>>◌}
use Rattle.ms_ir.specs.declared.syntax.Func.{Func}
use Rattle.ms_ir.specs.declared.forms.Form.{Form}
use Rattle.ms_text_grammar.specs.declared.symbols.Symbol.TheVariants as s
use Rattle.ms_text_grammar.specs.declared.refusals.Cause.{Cause}
use Rattle.ms_text_grammar.specs.declared.refusals.Cause.TheVariants as r
use Rattle.ms_text_grammar.specs.Causes.{printed_number}
use Rattle.ms_text_grammar.specs.Lexemes.{Lexeme, lexemes_of}
use Rattle.ms_text_grammar.specs.Steps.{Rule, word}
use Rattle.ms_text_grammar.specs.Functions.{function}
use Rattle.ms_text_grammar.specs.Texts.{place_in, ReadsUpTo, StopsAt}
use Rattle.ms_read_body.specs.declared.errors.What.{What}
use Rattle.ms_read_body.specs.declared.errors.What.TheVariants as what
use Rattle.ms_read_body.specs.declared.errors.ReadError.{ReadError}
use Rattle.ms_read_body.specs.declared.errors.ReadError.TheVariants as e

-- ---- texts and their tokens

-- these are all tokens of the text, and 32 bits count its bytes and them
pub record AreTokens (text : Text) (tokens : List Token) : Type 0 where
  pub short : length text < 2 ^ 32
  pub limit : ℕ
  pub few : limit < 2 ^ 32
  pub cut : tokens_of text limit ≡ Ok tokens

-- the tokens of a text from one of them on
abbrev pub lexemes_from : Text → List Token → ℕ → List Lexeme
lexemes_from text tokens at = drop at (lexemes_of text tokens)

-- ---- pieces of the grammar

-- `define` and the function after it, in front of which the text has so many instructions
abbrev pub definition : Form → ℕ → Rule Func
definition form before = word s.Define >> function form before

-- a piece reads this value from one token on, and leaves the text from another on
pub record ReadsAt {A : Type 0} (rule : Rule A) (text : Text) (tokens : List Token) (at : ℕ) (a : A) (next : ℕ) : Type 0 where
  pub inside : next ≤ length tokens
  pub read : ReadsUpTo rule (lexemes_from text tokens at) a (lexemes_from text tokens next)

-- a piece that is read from one token on stops at another, for this cause
pub record StopsFor {A : Type 0} (rule : Rule A) (text : Text) (tokens : List Token) (at : ℕ) (cause : Cause) (token : ℕ) : Type 0 where
  pub inside : token ≤ length tokens
  pub stopped : StopsAt rule (lexemes_from text tokens at) cause (lexemes_from text tokens token)

-- ---- errors

-- what a cause names beside its number
abbrev pub what_of : Cause → What
what_of (r.Outside construct) = what.Outside construct
what_of (r.Limit limit) = what.Limit limit
what_of _ = what.Nothing

-- the error of this number
abbrev pub numbered_error : Option ℕ → What → ℕ → ℕ → ReadError
numbered_error (Some number) w token place = e.Refused number w token place
numbered_error None w token place = e.NoMemory

-- the error for a cause at a token, which begins at this byte
abbrev pub error_at : Cause → ℕ → ℕ → ReadError
error_at cause token place = numbered_error (printed_number cause) (what_of cause) token place

-- the error for a cause at a token of a text
abbrev pub error_in : Text → List Token → Cause → ℕ → ReadError
error_in text tokens cause token = error_at cause token (place_in text tokens token)

-- ---- answers

-- A call that reads this piece from a token on answers Ok exactly where the piece reads, with its value and the token
-- after it, and an error exactly where the piece stops, with the cause, the token and its place. Running out of memory alone is free.
pub record ReadsExactly {A : Type 0} (rule : Rule A) (text : Text) (tokens : List Token) (at : ℕ) (result : Result (A × ℕ) ReadError) : Type 0 where
  -- what it returns is so
  pub read : (a : A) (next : ℕ) → result ≡ Ok (a, next) → ReadsAt rule text tokens at a next
  pub refused : (error : ReadError) → result ≡ Err error → error ≢ e.NoMemory
      → (cause : Cause) × (token : ℕ) × (error ≡ error_in text tokens cause token) × StopsFor rule text tokens at cause token
  -- and what is so it answers
  pub reading : (a : A) (next : ℕ) → ReadsAt rule text tokens at a next → result ≢ Err e.NoMemory → result ≡ Ok (a, next)
  pub stop : (cause : Cause) (token : ℕ) → StopsFor rule text tokens at cause token → result ≢ Err e.NoMemory → result ≡ Err (error_in text tokens cause token)

-- the answer of a call whose value says nothing
abbrev pub with_nothing : Result ℕ ReadError → Result (Unit {0} × ℕ) ReadError
with_nothing (Ok next) = Ok (tt, next)
with_nothing (Err error) = Err error

-- the answer for what a reader gave, where so many tokens are left of so many
abbrev pub answer_of : {A : Type 0} → Text → List Token → Result A Cause → ℕ → Result (A × ℕ) ReadError
answer_of text tokens (Ok a) left = Ok (a, length tokens - left)
answer_of text tokens (Err cause) left = Err (error_in text tokens cause (length tokens - left))
