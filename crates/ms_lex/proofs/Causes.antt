-- When the tokens of a text are refused, and why.
use Rattle.std.proofs.Common.{◌≡◌, ◌≢◌, inl, inr, ℕ, ◌<◌, ◌≤◌, Bool, true, false, cond, ltb, List, length, Option, Some, None, Result, Ok, Err, refl, sym, ap, ◌∙◌}
use Rattle.std.specs.Prelude.{slice_index, Vec, IfOk}
use Rattle.std.specs.declared.alloc.Global.{Global}
use Rattle.std.proofs.lemmas.Bool.{lt-ltb, le-ltb, ltb-true, ltb-false}
use Rattle.ms_lex.specs.declared.kinds.Token.{Token}
use Rattle.ms_lex.specs.declared.errors.LexError.{LexError}
use Rattle.ms_lex.specs.declared.errors.LexError.TheVariants.{NoMemory, BadByte, OpenString, TooManyTokens}
use Rattle.ms_lex.specs.Tokens.{Text, is_quote, cut_of, refusal_of, unless_stopped, tokens_of, GivesTokens, RefusesExactly, StopsAt, InOrder}
use Rattle.ms_lex.proofs.Spans.{in_order}

-- a call that gives an answer refuses where that answer does
refuses : (result : Result (Vec Token Global) LexError) (answer : Result (List Token) LexError) (reason : LexError) (Fact : Type 0) → GivesTokens answer result → reason ≢ NoMemory
    → (answer ≡ Err reason → Fact) → (Fact → answer ≡ Err reason) → RefusesExactly result reason Fact
refuses (Ok found) answer reason Fact gives real only where_ = (λ e. absurd cc, λ fact. let e = where_ fact in absurd cc)
refuses (Err NoMemory) answer reason Fact gives real only where_ = (λ e. absurd (real cc), λ fact. inr refl)
refuses (Err (BadByte place)) answer reason Fact gives real only where_ =
    let e : answer ≡ Err (BadByte place) = gives (λ h. absurd cc) in
    (λ same. only (cc), λ fact. inl (let f = where_ fact in cc))
refuses (Err (OpenString place)) answer reason Fact gives real only where_ =
    let e : answer ≡ Err (OpenString place) = gives (λ h. absurd cc) in
    (λ same. only (cc), λ fact. inl (let f = where_ fact in cc))
refuses (Err TooManyTokens) answer reason Fact gives real only where_ =
    let e : answer ≡ Err TooManyTokens = gives (λ h. absurd cc) in
    (λ same. only (cc), λ fact. inl (let f = where_ fact in cc))

-- why an answer is an error
module _ (text : Text) (tokens : List Token) where
  stopped_bad : (t : Bool) (stop : Option ℕ) (place : ℕ) → cond t (Err TooManyTokens) (unless_stopped text tokens stop) ≡ Err (BadByte place) → (t ≡ false) × (stop ≡ Some place) × (is_quote (slice_index text place) ≡ false)
  stopped_bad true stop place e = absurd cc
  stopped_bad false None place e = absurd cc
  stopped_bad false (Some p) place e = bad p place (is_quote (slice_index text p)) refl e where
    bad : (p place : ℕ) (quote : Bool) → is_quote (slice_index text p) ≡ quote → ◌≡◌ {A = Result (List Token) LexError} (Err (cond quote (OpenString p) (BadByte p))) (Err (BadByte place)) → (false ≡ false) × (Some p ≡ Some place) × (is_quote (slice_index text place) ≡ false)
    bad p place true h e = absurd cc
    bad p place false h e = let same : p ≡ place = cc in (refl, ap Some same, ap (λ k. is_quote (slice_index text k)) (sym same) ∙ h)

  stopped_open : (t : Bool) (stop : Option ℕ) (place : ℕ) → cond t (Err TooManyTokens) (unless_stopped text tokens stop) ≡ Err (OpenString place) → (t ≡ false) × (stop ≡ Some place) × (is_quote (slice_index text place) ≡ true)
  stopped_open true stop place e = absurd cc
  stopped_open false None place e = absurd cc
  stopped_open false (Some p) place e = open_ p place (is_quote (slice_index text p)) refl e where
    open_ : (p place : ℕ) (quote : Bool) → is_quote (slice_index text p) ≡ quote → ◌≡◌ {A = Result (List Token) LexError} (Err (cond quote (OpenString p) (BadByte p))) (Err (OpenString place)) → (false ≡ false) × (Some p ≡ Some place) × (is_quote (slice_index text place) ≡ true)
    open_ p place false h e = absurd cc
    open_ p place true h e = let same : p ≡ place = cc in (refl, ap Some same, ap (λ k. is_quote (slice_index text k)) (sym same) ∙ h)

  stopped_full : (t : Bool) (stop : Option ℕ) → cond t (Err TooManyTokens) (unless_stopped text tokens stop) ≡ Err TooManyTokens → t ≡ true
  stopped_full true stop e = refl
  stopped_full false None e = absurd cc
  stopped_full false (Some p) e = elim (is_quote (slice_index text p)) as (λ quote. ◌≡◌ {A = Result (List Token) LexError} (Err (cond quote (OpenString p) (BadByte p))) (Err TooManyTokens) → false ≡ true) [
    | true ↦ λ e. absurd cc
    | false ↦ λ e. absurd cc
  ] e

  given : (t : Bool) (stop : Option ℕ) (found : List Token) → cond t (Err TooManyTokens) (unless_stopped text tokens stop) ≡ Ok found → found ≡ tokens
  given true stop found e = absurd cc
  given false None found e = cc
  given false (Some p) found e = absurd cc

module _ (text : Text) (limit : ℕ) where
  refused_at : (place : ℕ) → StopsAt text limit place → tokens_of text limit ≡ Err (refusal_of (slice_index text place) place)
  unfolding tokens_of
  refused_at place stops = rw (le-ltb limit (length (cut_of text).tokens) stops.few, stops.here) refl

  few : ltb limit (length (cut_of text).tokens) ≡ false → length (cut_of text).tokens ≤ limit
  few h = ltb-false limit (length (cut_of text).tokens) h

  bad_only : (place : ℕ) → tokens_of text limit ≡ Err (BadByte place) → StopsAt text limit place × (is_quote (slice_index text place) ≡ false)
  unfolding tokens_of
  bad_only place e = let why = stopped_bad text (cut_of text).tokens (ltb limit (length (cut_of text).tokens)) (cut_of text).stop place e in (record { here = why.1; few = few why.0 }, why.2)

  open_only : (place : ℕ) → tokens_of text limit ≡ Err (OpenString place) → StopsAt text limit place × (is_quote (slice_index text place) ≡ true)
  unfolding tokens_of
  open_only place e = let why = stopped_open text (cut_of text).tokens (ltb limit (length (cut_of text).tokens)) (cut_of text).stop place e in (record { here = why.1; few = few why.0 }, why.2)

  full_only : tokens_of text limit ≡ Err TooManyTokens → limit < length (cut_of text).tokens
  unfolding tokens_of
  full_only e = ltb-true limit (length (cut_of text).tokens) (stopped_full text (cut_of text).tokens (ltb limit (length (cut_of text).tokens)) (cut_of text).stop e)

  full : limit < length (cut_of text).tokens → tokens_of text limit ≡ Err TooManyTokens
  unfolding tokens_of
  full more = rw (lt-ltb limit (length (cut_of text).tokens) more) refl

  module _ (result : Result (Vec Token Global) LexError) (gives : GivesTokens (tokens_of text limit) result) where
    pub bad_byte_exactly : (place : ℕ) → RefusesExactly result (BadByte place) (StopsAt text limit place × (is_quote (slice_index text place) ≡ false))
    bad_byte_exactly place = refuses result (tokens_of text limit) (BadByte place) _ gives (λ h. absurd cc) (bad_only place) (λ fact. refused_at place fact.0 ∙ ap (λ quote. Err (cond quote (OpenString place) (BadByte place))) fact.1)

    pub open_string_exactly : (place : ℕ) → RefusesExactly result (OpenString place) (StopsAt text limit place × (is_quote (slice_index text place) ≡ true))
    open_string_exactly place = refuses result (tokens_of text limit) (OpenString place) _ gives (λ h. absurd cc) (open_only place) (λ fact. refused_at place fact.0 ∙ ap (λ quote. Err (cond quote (OpenString place) (BadByte place))) fact.1)

    pub too_many_exactly : RefusesExactly result TooManyTokens (limit < length (cut_of text).tokens)
    too_many_exactly = refuses result (tokens_of text limit) TooManyTokens _ gives (λ h. absurd cc) full_only full

-- the tokens of a text that has them stand in it in order
pub tokens_in_order : (text : Text) (limit : ℕ) (found : List Token) → tokens_of text limit ≡ Ok found → InOrder found (length text)
unfolding tokens_of
tokens_in_order text limit found e = rw (given text (cut_of text).tokens (ltb limit (length (cut_of text).tokens)) (cut_of text).stop found e) (in_order text)

pub given_in_order : (text : Text) (limit : ℕ) (result : Result (Vec Token Global) LexError) → GivesTokens (tokens_of text limit) result → IfOk result (λ found. InOrder found.items (length text))
given_in_order text limit (Ok found) gives = tokens_in_order text limit found.items gives
given_in_order text limit (Err e) gives = tt
