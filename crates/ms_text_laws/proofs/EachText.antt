-- Every text reads as a module, or stops, or has no tokens.
use Rattle.std.proofs.Common.{◌≡◌, ◌≤◌, ℕ, Bool, true, false, cond, List, length, Option, Some, None, Result, Ok, Err, refl, inl, inr, ⊎_elim}
use Rattle.std.specs.Prelude.{◌⊎◌, nat_lt, slice_index, is_some}
use Rattle.ms_lex.specs.declared.errors.LexError.{LexError}
use Rattle.ms_lex.specs.declared.errors.LexError.TheVariants.{NoMemory, OpenString, BadByte, TooManyTokens}
use Rattle.ms_lex.specs.declared.kinds.Token.{Token}
use Rattle.ms_lex.specs.Tokens.{Text, is_quote, refusal_of, unless_stopped, cut_of, tokens_of}
use Rattle.ms_ir.specs.declared.syntax.Module.{Module}
use Rattle.ms_ir.specs.declared.forms.Form.{Form}
use Rattle.ms_text_grammar.specs.declared.refusals.Cause.{Cause}
use Rattle.ms_text_grammar.specs.declared.refusals.Cause.TheVariants as r
use Rattle.ms_text_grammar.specs.Causes.{printed_number}
use Rattle.ms_text_grammar.specs.Texts.{HasTokens, Reads, Stops, max_bytes, max_tokens}
use Rattle.ms_text_grammar.proofs.Ends.{reads_or_stops}
use Rattle.ms_text_laws.proofs.Blames.{IsCause}
use Rattle.ms_text_laws.proofs.BlamesModules.{stops_named}

abbrev IsAnswered : Form → Text → Type 0
IsAnswered form text =
    ((m : Module) × Reads form text m) ⊎ (((k : ℕ) × (c : Cause) × Stops form text k c) ⊎ ((e : LexError) × (tokens_of text (max_tokens form) ≡ Err e)))

module _ (form : Form) (text : Text) (short : length text ≤ max_bytes form) where
  by_tokens : (r : Result (List Token) LexError) → tokens_of text (max_tokens form) ≡ r → IsAnswered form text
  by_tokens (Err e) cut = inr (inr (e, cut))
  by_tokens (Ok tokens) cut =
      let has : HasTokens form text tokens = record { short = short; cut = cut } in
      ⊎_elim (λ reading. inl reading) (λ stop. inr (inl stop)) (reads_or_stops form text tokens has)

  pub answered : IsAnswered form text
  answered = by_tokens (tokens_of text (max_tokens form)) refl

-- ---- why a text has no tokens

refusal_named : (quote : Bool) (place : ℕ) → ◌≡◌ {A = LexError} (cond quote (OpenString place) (BadByte place)) NoMemory → ⊥
refusal_named true place h = cc
refusal_named false place h = cc

same_cause : {A : Type 0} (d e : LexError) → ◌≡◌ {A = Result A LexError} (Err d) (Err e) → d ≡ e
same_cause d e h = cc

tokens_named : (text : Text) (tokens : List Token) (stop : Option ℕ) (many : Bool) → cond many (Err TooManyTokens) (unless_stopped text tokens stop) ≡ Err NoMemory → ⊥
tokens_named text tokens stop true h = cc
tokens_named text tokens None false h = cc
tokens_named text tokens (Some place) false h = refusal_named (is_quote (slice_index text place)) place (same_cause (refusal_of (slice_index text place) place) NoMemory h)

pub named : (text : Text) (most : ℕ) → tokens_of text most ≡ Err NoMemory → ⊥
unfolding tokens_of
named text most h = tokens_named text (cut_of text).tokens (cut_of text).stop (nat_lt most (length (cut_of text).tokens)) h

-- ---- why a text stops

numbered : (e : Cause) → IsCause e → is_some (printed_number e) ≡ true
numbered r.NoMemory h = absurd (h refl)
numbered r.Syntax h = refl
numbered (r.Outside construct) h = refl
numbered (r.Limit limit) h = refl
numbered r.Numbering h = refl
numbered r.Reserved h = refl

pub stops_numbered : (form : Form) (text : Text) (k : ℕ) (e : Cause) → Stops form text k e → is_some (printed_number e) ≡ true
stops_numbered form text k e h = numbered e (stops_named form text k e h)
