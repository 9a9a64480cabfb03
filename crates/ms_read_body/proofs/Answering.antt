-- What a call answers, from what a reader gave.
use Rattle.std.proofs.Common.{◌≡◌, ◌≢◌, ◌≤◌, ◌<◌, ℕ, ◌-◌, ◌^◌, Bool, true, false, cond, ltb, List, length, drop, Option, Some, None, Result, Ok, Err, refl, sym, subst, ap, ◌∙◌, arith}
use Rattle.std.specs.Prelude.{Vec, IfOk}
use Rattle.std.specs.declared.alloc.Global.{Global}
use Rattle.std.proofs.lemmas.Bool.{ltb-false}
use Rattle.std.proofs.lemmas.List.{length-map, length-drop}
use Rattle.ms_lex.specs.declared.kinds.Token.{Token}
use Rattle.ms_lex.specs.declared.errors.LexError.{LexError}
use Rattle.ms_lex.specs.declared.errors.LexError.TheVariants.{TooManyTokens}
use Rattle.ms_lex.specs.Tokens.{Text, cut_of, unless_stopped, tokens_of, GivesTokens, InOrder}
use Rattle.ms_lex.specs.Grammar.{Outcome, done, fails}
use Rattle.ms_lex.proofs.Causes.{tokens_in_order}
use Rattle.ms_lex.proofs.Exact.{sound, complete, stop_sound, stop_complete}
use Rattle.ms_text_grammar.specs.declared.refusals.Cause.{Cause}
use Rattle.ms_text_grammar.specs.declared.refusals.Cause.TheVariants as r
use Rattle.ms_text_grammar.specs.Causes.{printed_number}
use Rattle.ms_text_grammar.specs.Lexemes.{Lexeme, end_of_text, lexeme_of, lexemes_of}
use Rattle.ms_text_grammar.specs.Steps.{Rule}
use Rattle.ms_text_grammar.specs.Texts.{ReadsUpTo, StopsAt}
use Rattle.ms_read_cursor.specs.Reading.{Gives, run}
use Rattle.ms_read_body.specs.declared.errors.ReadError.{ReadError}
use Rattle.ms_read_body.specs.Calls.{AreTokens, lexemes_from, ReadsAt, StopsFor, error_in, ReadsExactly, answer_of}
use Rattle.ms_read_body.proofs.Suffixes.{IsEnd, reads_end, stops_end, by_length, after}

-- ---- the number of tokens

pub not_more : (limit : ℕ) (text : Text) (ts : List Token) (stop : Option ℕ) (found : List Token) (b : Bool) → ltb limit (length ts) ≡ b
    → cond b (Err TooManyTokens) (unless_stopped text ts stop) ≡ Ok found → length found ≤ limit
not_more limit text ts stop found true e h = absurd cc
not_more limit text ts None found false e h =
    let same : ts ≡ found = cc in
    let most = ltb-false limit (length ts) e in
    omega (arith, ap length same)
not_more limit text ts (Some place) found false e h = absurd cc

-- 32 bits count them
pub few_tokens : (text : Text) (tokens : List Token) → AreTokens text tokens → length tokens < 2 ^ 32
unfolding tokens_of
few_tokens text tokens are =
    let most = not_more are.limit text (cut_of text).tokens (cut_of text).stop tokens (ltb are.limit (length (cut_of text).tokens)) refl are.cut in
    let few = are.few in
    omega arith

-- they stand in the text in order
pub stand_in_order : (text : Text) (tokens : List Token) → AreTokens text tokens → InOrder tokens (length text)
stand_in_order text tokens are = tokens_in_order text are.limit tokens are.cut

-- what `tokens` gives are all tokens of the text
pub are_tokens : (text : Text) (limit : ℕ) (result : Result (Vec Token Global) LexError) → length text ≤ 2 ^ 27 → limit < 2 ^ 32
    → GivesTokens (tokens_of text limit) result → IfOk result (λ found. AreTokens text found.items)
are_tokens text limit (Ok found) short few gives = record { short = omega arith; limit = limit; few = few; cut = gives }
are_tokens text limit (Err e) short few gives = tt

-- ---- answers

module _ {A : Type 0} (rule : Rule A) (text : Text) (tokens : List Token) (at : ℕ) where
  count : length (lexemes_of text tokens) ≡ length tokens
  count = length-map tokens (lexeme_of text)

  -- the rest of the lexemes by their number
  rest_is : (rest : List Lexeme) → IsEnd rest (lexemes_from text tokens at) → rest ≡ lexemes_from text tokens (length tokens - length rest)
  rest_is rest p = by_length (lexemes_of text tokens) rest (after at (lexemes_of text tokens) rest p) ∙ ap (λ n. drop (n - length rest) (lexemes_of text tokens)) count

  reads_at : (a : A) (rest : List Lexeme) → run rule (lexemes_from text tokens at) ≡ done a rest → ReadsAt rule text tokens at a (length tokens - length rest)
  reads_at a rest h =
      let reads : ReadsUpTo rule (lexemes_from text tokens at) a rest = sound end_of_text rule (lexemes_from text tokens at) a rest h in
      let is = rest_is rest (reads_end end_of_text rule (lexemes_from text tokens at) a rest reads) in
      record { inside = omega arith; read = subst (λ l. ReadsUpTo rule (lexemes_from text tokens at) a l) is reads }

  stops_for : (cause : Cause) (rest : List Lexeme) → run rule (lexemes_from text tokens at) ≡ fails cause rest → StopsFor rule text tokens at cause (length tokens - length rest)
  stops_for cause rest h =
      let stops : StopsAt rule (lexemes_from text tokens at) cause rest = stop_sound end_of_text rule (lexemes_from text tokens at) cause rest h in
      let is = rest_is rest (stops_end end_of_text rule (lexemes_from text tokens at) cause rest stops) in
      record { inside = omega arith; stopped = subst (λ l. StopsAt rule (lexemes_from text tokens at) cause l) is stops }

  -- so many tokens are after one
  left_at : (k : ℕ) → k ≤ length tokens → length tokens - length (lexemes_from text tokens k) ≡ k
  left_at k inside =
      let lengths = length-drop k (lexemes_of text tokens) in
      let all = count in
      omega arith

  abbrev pub Answer : Type 0
  Answer = Result (A × ℕ) ReadError

  same_value : (a b : A) (m n : ℕ) → ◌≡◌ {A = Answer} (Ok (a, m)) (Ok (b, n)) → (a ≡ b) × (m ≡ n)
  same_value a b m n h = let p : ◌≡◌ {A = A × ℕ} (a, m) (b, n) = cc in (ap (λ q. q.0) p, ap (λ q. q.1) p)

  same_outcome : (a b : A) (x y : List Lexeme) (o : Outcome Lexeme Cause A) → o ≡ done a x → o ≡ done b y → (a ≡ b) × (x ≡ y)
  same_outcome a b x y o p q = (cc, cc)

  same_failure : (d c : Cause) (x y : List Lexeme) (o : Outcome Lexeme Cause A) → o ≡ fails d x → o ≡ fails c y → (d ≡ c) × (x ≡ y)
  same_failure d c x y o p q = (cc, cc)

  apart : (a : A) (c : Cause) (x y : List Lexeme) (o : Outcome Lexeme Cause A) → o ≡ done a x → o ≡ fails c y → ⊥
  apart a c x y o p q = cc

  module _ (rest : List Lexeme) where
    abbrev Told : Result A Cause → Type 0
    Told given = ReadsExactly rule text tokens at (answer_of text tokens given (length rest))

    told_ok : (a : A) → run rule (lexemes_from text tokens at) ≡ done a rest → Told (Ok a)
    told_ok a h = record {
      read = λ b next same.
          let both = same_value a b (length tokens - length rest) next same in
          subst (λ n. ReadsAt rule text tokens at b n) both.1 (subst (λ v. ReadsAt rule text tokens at v (length tokens - length rest)) both.0 (reads_at a rest h));
      refused = λ error same real. absurd cc;
      reading = λ b next reads real.
          let whole = complete end_of_text rule (lexemes_from text tokens at) b (lexemes_from text tokens next) reads.read in
          let both = same_outcome a b rest (lexemes_from text tokens next) _ h whole in
          let place : length tokens - length rest ≡ next = ap (λ l. length tokens - length l) both.1 ∙ left_at next reads.inside in
          ap (λ v. Ok (v, length tokens - length rest)) both.0 ∙ ap (λ n. Ok (b, n)) place;
      stop = λ cause token stops real.
          let whole = stop_complete end_of_text rule (lexemes_from text tokens at) cause (lexemes_from text tokens token) stops.stopped in
          absurd (apart a cause rest (lexemes_from text tokens token) _ h whole);
    }

    told_err : (c : Cause) → printed_number c ≢ None → run rule (lexemes_from text tokens at) ≡ fails c rest → Told (Err c)
    told_err c real h = record {
      read = λ b next same. absurd cc;
      refused = λ error same is_real. (c, length tokens - length rest, cc, stops_for c rest h);
      reading = λ b next reads is_real.
          let whole = complete end_of_text rule (lexemes_from text tokens at) b (lexemes_from text tokens next) reads.read in
          absurd (apart b c (lexemes_from text tokens next) rest _ whole h);
      stop = λ cause token stops is_real.
          let whole = stop_complete end_of_text rule (lexemes_from text tokens at) cause (lexemes_from text tokens token) stops.stopped in
          let both = same_failure c cause rest (lexemes_from text tokens token) _ h whole in
          let place : length tokens - length rest ≡ token = ap (λ l. length tokens - length l) both.1 ∙ left_at token stops.inside in
          ap (λ d. Err (error_in text tokens d (length tokens - length rest))) both.0 ∙ ap (λ k. Err (error_in text tokens cause k)) place;
    }

    told_wanting : Told (Err r.NoMemory)
    told_wanting = record {
      read = λ b next same. absurd cc;
      refused = λ error same real. absurd (real cc);
      reading = λ b next reads real. absurd (real refl);
      stop = λ cause token stops real. absurd (real refl);
    }

    -- a reader that gives what the piece comes to
    pub told : (given : Result A Cause) → Gives (run rule (lexemes_from text tokens at)) given rest → Told given
    told (Ok a) h = told_ok a h
    told (Err r.Syntax) h = told_err r.Syntax (λ n. cc) (h (λ n. cc))
    told (Err (r.Outside construct)) h = told_err (r.Outside construct) (λ n. cc) (h (λ n. cc))
    told (Err (r.Limit limit)) h = told_err (r.Limit limit) (λ n. cc) (h (λ n. cc))
    told (Err r.Numbering) h = told_err r.Numbering (λ n. cc) (h (λ n. cc))
    told (Err r.Reserved) h = told_err r.Reserved (λ n. cc) (h (λ n. cc))
    told (Err r.NoMemory) h = told_wanting

  -- a call whose cursor begins at the token
  pub answered : (given : Result A Cause) (start rest : List Lexeme) (left : ℕ) (result : Answer) → start ≡ lexemes_from text tokens at
      → Gives (run rule start) given rest → left ≡ length rest → result ≡ answer_of text tokens given left → ReadsExactly rule text tokens at result
  answered given start rest left result begins gives lefts is =
      let whole = told rest given (subst (λ ts. Gives (run rule ts) given rest) begins gives) in
      subst (λ r. ReadsExactly rule text tokens at r) (sym (is ∙ ap (answer_of text tokens given) lefts)) whole
