-- What a text comes to, from what a reader of its tokens gave.
use Rattle.std.proofs.Common.{◌≡◌, ◌≢◌, ◌≤◌, ◌^◌, ℕ, ◌+◌, ◌-◌, ltb, List, [], length, drop, Some, Ok, Err, refl, sym, subst, ap, inl, inr, arith, lit≤}
use Rattle.std.proofs.lemmas.List.{length-map}
use Rattle.ms_lex.specs.declared.errors.LexError.{LexError}
use Rattle.ms_lex.specs.declared.errors.LexError.TheVariants as lex
use Rattle.ms_lex.specs.declared.kinds.Token.{Token}
use Rattle.ms_lex.specs.Tokens.{Text, cut_of, tokens_of}
use Rattle.ms_lex.specs.Grammar.{Outcome, done, fails}
use Rattle.ms_lex.proofs.Exact.{complete, stop_sound, stop_complete}
use Rattle.ms_ir.specs.declared.syntax.Module.{Module}
use Rattle.ms_ir.specs.declared.forms.Form.{Form}
use Rattle.ms_ir.specs.declared.forms.Form.TheVariants.{Plain, Instrumented}
use Rattle.ms_text_grammar.specs.declared.refusals.Cause.{Cause}
use Rattle.ms_text_grammar.specs.declared.refusals.Cause.TheVariants as r
use Rattle.ms_text_grammar.specs.Causes.{printed_number}
use Rattle.ms_text_grammar.specs.Lexemes.{Lexeme, end_of_text, lexeme_of, lexemes_of}
use Rattle.ms_text_grammar.specs.Modules.{module_rule}
use Rattle.ms_text_grammar.specs.Texts.{HasTokens, Reads, Stops, StopsAt, max_bytes, max_tokens, place_in}
use Rattle.ms_text_grammar.proofs.Ends.{reads_or_stops}
use Rattle.ms_text_grammar.proofs.Readings.{same_tokens}
use Rattle.ms_text_grammar.proofs.Rests.{stop_shorter}
use Rattle.ms_read_cursor.specs.Reading.{run}
use Rattle.ms_read_body.specs.Calls.{what_of, error_at}
use Rattle.ms_read_body.proofs.Answering.{not_more}
use Rattle.ms_read_top.specs.Reading.{IsTextRefused, IsReading, of_lexer}

-- ---- numbers that fit

most_tokens : (form : Form) → max_tokens form ≤ 2 ^ 25
unfolding max_tokens
most_tokens Plain = lit≤ tt
most_tokens Instrumented = lit≤ tt

most_bytes : (form : Form) → max_bytes form ≤ 2 ^ 27
unfolding max_bytes
most_bytes Plain = lit≤ tt
most_bytes Instrumented = lit≤ tt

pub short_text : (form : Form) (n : ℕ) → n ≤ max_bytes form → n ≤ 2 ^ 27
short_text form n h = let most = most_bytes form in omega arith

pub few_tokens : (form : Form) (text : Text) (tokens : List Token) → HasTokens form text tokens → length tokens ≤ 2 ^ 25
unfolding tokens_of
few_tokens form text tokens has =
    let few = not_more (max_tokens form) text (cut_of text).tokens (cut_of text).stop tokens (ltb (max_tokens form) (length (cut_of text).tokens)) refl has.cut in
    let most = most_tokens form in
    omega arith

-- ---- answers

module _ (form : Form) (text : Text) (tokens : List Token) (has : HasTokens form text tokens) where
  abbrev Given : Type 0
  Given = Outcome Lexeme Cause Module

  outcome : Given
  outcome = run (module_rule form) (lexemes_of text tokens)

  same_module : (m n : Module) (x y : List Lexeme) (o : Given) → o ≡ done m x → o ≡ done n y → n ≡ m
  same_module m n x y o p q = cc

  apart : (m : Module) (c : Cause) (x y : List Lexeme) (o : Given) → o ≡ done m x → o ≡ fails c y → ⊥
  apart m c x y o p q = cc

  abbrev Runs : List Token → Given → Type 0
  Runs ts o = run (module_rule form) (lexemes_of text ts) ≡ o

  -- a module that is read is the whole text's
  told_module : (m : Module) (rest : List Lexeme) → run (module_rule form) (lexemes_of text tokens) ≡ done m rest → Reads form text m
  told_module m rest h = elim (reads_or_stops form text tokens has) [
    | inl r ↦
        let e = same_tokens form text tokens r.1.0 has r.1.1 in
        let whole = complete end_of_text (module_rule form) (lexemes_of text r.1.0) r.0 [] r.1.2 in
        let here : run (module_rule form) (lexemes_of text tokens) ≡ done r.0 [] = subst (λ ts. Runs ts (done r.0 [])) e whole in
        subst (Reads form text) (same_module m r.0 rest [] _ h here) r.1
    | inr s ↦
        let e = same_tokens form text tokens s.2.0 has s.2.1 in
        let whole = stop_complete end_of_text (module_rule form) (lexemes_of text s.2.0) s.1 s.2.2.0 s.2.2.2 in
        let here : run (module_rule form) (lexemes_of text tokens) ≡ fails s.1 s.2.2.0 = subst (λ ts. Runs ts (fails s.1 s.2.2.0)) e whole in
        absurd (apart m s.1 rest s.2.2.0 _ h here)
  ]

  told_stop : (c : Cause) (rest : List Lexeme) → run (module_rule form) (lexemes_of text tokens) ≡ fails c rest → Stops form text (length tokens - length rest) c
  told_stop c rest h =
      let stops : StopsAt (module_rule form) (lexemes_of text tokens) c rest = stop_sound end_of_text (module_rule form) (lexemes_of text tokens) c rest h in
      let less = stop_shorter end_of_text (module_rule form) (lexemes_of text tokens) c rest stops in
      let whole : (length tokens - length rest) + length rest ≡ length tokens = omega (arith, length-map tokens (lexeme_of text)) in
      (tokens, has, (rest, whole, stops))

  refused : (c : Cause) (n k : ℕ) → printed_number c ≡ Some n → Stops form text k c → IsTextRefused form text n (what_of c) k (place_in text tokens k)
  refused c n k e stops = record {
    cause = c;
    stops = stops;
    numbered = e;
    named = refl;
    begins = λ us other. ap (λ ts. place_in text ts k) (sym (same_tokens form text tokens us has other));
  }

  told_error : (c : Cause) (rest : List Lexeme) → (c ≢ r.NoMemory → run (module_rule form) (lexemes_of text tokens) ≡ fails c rest)
      → IsReading form text (Err (error_at c (length tokens - length rest) (place_in text tokens (length tokens - length rest))))
  told_error r.Syntax rest h = refused r.Syntax 4 _ refl (told_stop r.Syntax rest (h (λ n. cc)))
  told_error (r.Outside construct) rest h = refused (r.Outside construct) 5 _ refl (told_stop (r.Outside construct) rest (h (λ n. cc)))
  told_error (r.Limit limit) rest h = refused (r.Limit limit) 6 _ refl (told_stop (r.Limit limit) rest (h (λ n. cc)))
  told_error r.Numbering rest h = refused r.Numbering 7 _ refl (told_stop r.Numbering rest (h (λ n. cc)))
  told_error r.Reserved rest h = refused r.Reserved 8 _ refl (told_stop r.Reserved rest (h (λ n. cc)))
  told_error r.NoMemory rest h = tt

pub told_reads : (form : Form) (text : Text) (tokens : List Token) (m : Module) (rest : List Lexeme) → HasTokens form text tokens
    → run (module_rule form) (drop 0 (lexemes_of text tokens)) ≡ done m rest → IsReading form text (Ok m)
told_reads form text tokens m rest has h = told_module form text tokens has m rest h

pub told_stops : (form : Form) (text : Text) (tokens : List Token) (c : Cause) (rest : List Lexeme) → HasTokens form text tokens
    → (c ≢ r.NoMemory → run (module_rule form) (drop 0 (lexemes_of text tokens)) ≡ fails c rest)
    → IsReading form text (Err (error_at c (length tokens - length rest) (place_in text tokens (length tokens - length rest))))
told_stops form text tokens c rest has h = told_error form text tokens has c rest h

-- ---- what the lexer gave

pub has_tokens : (form : Form) (text : Text) (tokens : List Token) → length text ≤ max_bytes form → tokens_of text (max_tokens form) ≡ Ok tokens → HasTokens form text tokens
has_tokens form text tokens short cut = record { short = short; cut = cut }

pub told_lexer : (form : Form) (text : Text) (error : LexError) → (error ≢ lex.NoMemory → tokens_of text (max_tokens form) ≡ Err error) → IsReading form text (Err (of_lexer error))
told_lexer form text (lex.BadByte place) h = (h (λ n. cc), λ n. cc)
told_lexer form text (lex.OpenString place) h = (h (λ n. cc), λ n. cc)
told_lexer form text lex.TooManyTokens h = (h (λ n. cc), λ n. cc)
told_lexer form text lex.NoMemory h = tt
