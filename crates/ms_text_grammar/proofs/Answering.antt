-- What the function answers is what the relations say.
use Rattle.std.proofs.Common.{◌≡◌, ◌≤◌, ℕ, ◌+◌, ◌-◌, Bool, true, false, cond, ltb, List, [], ◌∷◌, length, Result, Ok, Err, refl, ◌∙◌, ap, arith}
use Rattle.std.proofs.lemmas.Bool.{ltb-false, le-ltb}
use Rattle.ms_lex.specs.declared.kinds.Token.{Token}
use Rattle.ms_lex.specs.declared.errors.LexError.{LexError}
use Rattle.ms_lex.specs.Tokens.{Text, tokens_of}
use Rattle.ms_lex.specs.Grammar.{Outcome, done, fails, run}
use Rattle.ms_lex.proofs.Exact.{sound, complete, stop_sound, stop_complete}
use Rattle.ms_ir.specs.declared.syntax.Module.{Module}
use Rattle.ms_ir.specs.declared.forms.Form.{Form}
use Rattle.ms_text_grammar.specs.declared.refusals.Cause.{Cause}
use Rattle.ms_text_grammar.specs.Lexemes.{Lexeme, end_of_text, lexemes_of}
use Rattle.ms_text_grammar.specs.Modules.{module_rule}
use Rattle.ms_text_grammar.specs.Texts.{Reads, Stops, max_tokens, max_bytes}
use Rattle.ms_text_grammar.specs.Answers.{reads, stops, goes_on, answer_by, answer_in, answer_of}

no_reading : (k : ℕ) (c : Cause) (m : Module) (b : Bool) → cond b goes_on (stops k c) ≡ reads m → ⊥
no_reading k c m true h = cc
no_reading k c m false h = cc

-- a whole reading
whole_by : (n : ℕ) (o : Outcome Lexeme Cause Module) (m : Module) → answer_by n o ≡ reads m → o ≡ done m []
whole_by n (done a []) m h = cc
whole_by n (done a (t ∷ rest)) m h = absurd cc
whole_by n (fails c rest) m h = absurd (no_reading (n - length rest) c m (ltb n (length rest)) h)

stop_of : (n l k : ℕ) (d c : Cause) (b : Bool) → ltb n l ≡ b → cond b goes_on (stops (n - l) d) ≡ stops k c → (d ≡ c) × (k + l ≡ n)
stop_of n l k d c true e h = absurd cc
stop_of n l k d c false e h =
    let less = ltb-false n l e in
    let same : n - l ≡ k = cc in
    (cc, omega arith)

-- a stop
stopped_by : (n : ℕ) (o : Outcome Lexeme Cause Module) (k : ℕ) (c : Cause) → answer_by n o ≡ stops k c → (rest : List Lexeme) × (o ≡ fails c rest) × (k + length rest ≡ n)
stopped_by n (done a []) k c h = absurd cc
stopped_by n (done a (t ∷ rest)) k c h = absurd cc
stopped_by n (fails d rest) k c h =
    let found = stop_of n (length rest) k d c (ltb n (length rest)) refl h in
    (rest, ap (λ e. fails e rest) found.0, found.1)

module _ (form : Form) (text : Text) (short : length text ≤ max_bytes form) where
  read_in : (r : Result (List Token) LexError) (m : Module) → tokens_of text (max_tokens form) ≡ r → answer_in form text r ≡ reads m → Reads form text m
  read_in (Err e) m cut h = absurd cc
  read_in (Ok ts) m cut h = (
    ts,
    record { short = short; cut = cut },
    sound end_of_text (module_rule form) (lexemes_of text ts) m []
        (whole_by (length ts) (run end_of_text (module_rule form) (lexemes_of text ts)) m h),
  )

  pub reads_answer : (m : Module) → answer_of form text ≡ reads m → Reads form text m
  unfolding answer_of
  reads_answer m h = read_in (tokens_of text (max_tokens form)) m refl h

  stop_in : (r : Result (List Token) LexError) (k : ℕ) (c : Cause) → tokens_of text (max_tokens form) ≡ r → answer_in form text r ≡ stops k c → Stops form text k c
  stop_in (Err e) k c cut h = absurd cc
  stop_in (Ok ts) k c cut h =
      let found = stopped_by (length ts) (run end_of_text (module_rule form) (lexemes_of text ts)) k c h in
      (ts, record { short = short; cut = cut }, (found.0, found.2, stop_sound end_of_text (module_rule form) (lexemes_of text ts) c found.0 found.1))

  pub stops_answer : (k : ℕ) (c : Cause) → answer_of form text ≡ stops k c → Stops form text k c
  unfolding answer_of
  stops_answer k c h = stop_in (tokens_of text (max_tokens form)) k c refl h

module _ (form : Form) (text : Text) where
  pub answer_reads : (m : Module) → Reads form text m → answer_of form text ≡ reads m
  unfolding answer_of
  answer_reads m p =
      ap (answer_in form text) p.1.cut
      ∙ ap (answer_by (length p.0)) (complete end_of_text (module_rule form) (lexemes_of text p.0) m [] p.2)

  place : (k l n : ℕ) (c : Cause) → k + l ≡ n → cond (ltb n l) goes_on (stops (n - l) c) ≡ stops k c
  place k l n c e =
      let same : n - l ≡ k = omega arith in
      rw (le-ltb n l (omega arith)) (ap (λ j. stops j c) same)

  pub answer_stops : (k : ℕ) (c : Cause) → Stops form text k c → answer_of form text ≡ stops k c
  unfolding answer_of
  answer_stops k c p =
      ap (answer_in form text) p.1.cut
      ∙ ap (answer_by (length p.0)) (stop_complete end_of_text (module_rule form) (lexemes_of text p.0) c p.2.0 p.2.2)
      ∙ place k (length p.2.0) (length p.0) c p.2.1
