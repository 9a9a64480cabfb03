-- What reading a text comes to, as a function: examples compute with it, and the laws say that it is what the relations say.
use Rattle.std.specs.Prelude.{ℕ, ◌-◌, nat_lt, if◌then◌else◌, List, [], ◌∷◌, length, map, Option, Some, None, Result, Ok, Err}
use Rattle.ms_lex.specs.declared.kinds.Token.{Token}
use Rattle.ms_lex.specs.declared.errors.LexError.{LexError}
use Rattle.ms_lex.specs.Tokens.{Text, tokens_of}
use Rattle.ms_lex.specs.Grammar.{Outcome, done, fails, run}
use Rattle.ms_ir.specs.declared.syntax.Module.{Module}
use Rattle.ms_ir.specs.declared.forms.Form.{Form}
use Rattle.ms_ir.specs.declared.forms.Form.TheVariants.{Plain}
use Rattle.ms_text_grammar.specs.declared.refusals.Cause.{Cause}
use Rattle.ms_text_grammar.specs.declared.refusals.Cause.TheVariants as r
use Rattle.ms_text_grammar.specs.declared.refusals.Outside.{Outside}
use Rattle.ms_text_grammar.specs.Lexemes.{Lexeme, end_of_text, lexemes_of}
use Rattle.ms_text_grammar.specs.Functions.{function}
use Rattle.ms_text_grammar.specs.Modules.{module_rule}
use Rattle.ms_text_grammar.specs.Texts.{max_tokens, place_in}

-- what a text comes to
pub data Answer : Type 0 where
  -- the module that the text reads as
  reads : Module → Answer
  -- the token, counted from 0, at which it stops, and why
  stops : ℕ → Cause → Answer
  -- why it has no tokens
  has_no_tokens : LexError → Answer
  -- it reads as a module before its end
  goes_on : Answer

-- a module, where nothing is left
abbrev pub whole : Module → List Lexeme → Answer
whole m [] = reads m
whole m (t ∷ rest) = goes_on

-- of so many tokens
abbrev pub answer_by : ℕ → Outcome Lexeme Cause Module → Answer
answer_by tokens (done m rest) = whole m rest
answer_by tokens (fails cause rest) = if nat_lt tokens (length rest) then goes_on else stops (tokens - length rest) cause

-- the answer, by the tokens of the text
abbrev pub answer_in : Form → Text → Result (List Token) LexError → Answer
answer_in form text (Err e) = has_no_tokens e
answer_in form text (Ok tokens) = answer_by (length tokens) (run end_of_text (module_rule form) (lexemes_of text tokens))

-- the answer for a text
unfoldable pub answer_of : Form → Text → Answer
answer_of form text = answer_in form text (tokens_of text (max_tokens form))

-- the construct for which a text is refused
abbrev pub construct_in : Answer → Option Outside
construct_in (stops k (r.Outside construct)) = Some construct
construct_in _ = None

-- the constructs for which plain texts are refused
abbrev pub constructs_of : List Text → List (Option Outside)
constructs_of = map (λ text. construct_in (answer_of Plain text))

-- a stop, with the byte at which its token begins
abbrev pub refused_by : Text → Result (List Token) LexError → Answer → Option (ℕ × ℕ × Cause)
refused_by text (Ok tokens) (stops k cause) = Some (k, place_in text tokens k, cause)
refused_by text _ _ = None

-- the token at which a text is refused, the byte at which it begins, and the cause
abbrev pub refused_at : Form → Text → Option (ℕ × ℕ × Cause)
refused_at form text = refused_by text (tokens_of text (max_tokens form)) (answer_of form text)

-- a stop of a piece that was given so many tokens
abbrev pub stop_of : {A : Type 0} → ℕ → Outcome Lexeme Cause A → Option (ℕ × Cause)
stop_of tokens (done a rest) = None
stop_of tokens (fails cause rest) = Some (tokens - length rest, cause)

-- a stop of a function that so many instructions stand before
abbrev pub function_stop_in : Form → ℕ → Text → Result (List Token) LexError → Option (ℕ × Cause)
function_stop_in form before text (Err e) = None
function_stop_in form before text (Ok tokens) = stop_of (length tokens) (run end_of_text (function form before) (lexemes_of text tokens))

-- where, after `define`, a function stops that so many instructions stand before
abbrev pub function_stop : Form → ℕ → Text → Option (ℕ × Cause)
function_stop form before text = function_stop_in form before text (tokens_of text (max_tokens form))
