-- What a list that is read has grown by, against the tokens that it took.
use Rattle.std.proofs.Common.{◌≡◌, ◌≤◌, ℕ, zero, suc, ◌+◌, Bool, true, false, cond, List, [], ◌∷◌, length, Result, Err, sym, ◌∙◌, ap, ap₂, arith}
use Rattle.ms_lex.specs.Grammar.{Turns, give, one, seq, loop, ◌>>=◌, ◌>>◌}
use Rattle.ms_lex.proofs.Exact.{shorter, complete}
use Rattle.ms_text_grammar.specs.declared.refusals.Cause.{Cause}
use Rattle.ms_text_grammar.specs.declared.symbols.Symbol.{Symbol}
use Rattle.ms_text_grammar.specs.Lexemes.{Lexeme, end_of_text}
use Rattle.ms_text_grammar.specs.Steps.{Rule, Verdict, skip, sees, word, comma_begins, listed}
use Rattle.ms_text_grammar.specs.Texts.{ReadsUpTo}
use Rattle.ms_text_laws.proofs.Sound.{no_value}

-- no more tokens are left than there were
pub left : {A : Type 0} (g : Rule A) (ts : List Lexeme) (v : A) (rest : List Lexeme) → ReadsUpTo g ts v rest → length rest ≤ length ts
left g ts v rest h = shorter end_of_text g ts v rest (complete end_of_text g ts v rest h)

-- What no turn raises, no number of turns raises.
module _ {S : Type 0} (begins : S → Lexeme → Result Bool Cause) (R : S → Lexeme → List Lexeme → S → List Lexeme → Type 0) (size : S → List Lexeme → ℕ)
    (falls : (a : S) (t : Lexeme) (ts : List Lexeme) (v : S) (rest : List Lexeme) → R a t ts v rest → size v rest ≤ size a (t ∷ ts)) where
  pub turns_fall : (n : ℕ) (a : S) (ts : List Lexeme) (v : S) (rest : List Lexeme) → Turns begins R n a ts v rest → size v rest ≤ size a ts
  turns_fall zero a ts v rest h = let same : size v rest ≡ size a ts = ap₂ size h.1 h.2 in omega (arith, same)
  turns_fall (suc n) a [] v rest h = absurd h
  turns_fall (suc n) a (t ∷ ts) v rest h =
      let first = falls a t ts h.1 h.2 h.3 in
      let others = turns_fall n h.1 h.2 v rest h.4 in
      omega (arith, first, others)

-- What grows by at most one a turn grows by at most one a token.
module _ {S : Type 0} (begins : S → Lexeme → Verdict Bool) (body : S → Lexeme → Rule S) (size : S → ℕ)
    (one_more : (a : S) (t : Lexeme) (ts : List Lexeme) (v : S) (rest : List Lexeme) → ReadsUpTo (body a t) ts v rest → size v ≤ size a + 1) where
  pub loop_counts : (a : S) (ts : List Lexeme) (v : S) (rest : List Lexeme) → ReadsUpTo (loop begins body a) ts v rest → size v + length rest ≤ size a + length ts
  loop_counts a ts v rest h =
      turns_fall begins (λ a t. ReadsUpTo (body a t)) (λ a us. size a + length us)
      (λ a t us w others r. let more = one_more a t us w others r in let fewer = left (body a t) us w others r in omega (arith, more, fewer))
      h.0 a ts v rest h.1

-- The first item of a list has no comma in front.
module _ {S : Type 0} (closing : Symbol) (more : S → Bool) (item : S → Rule S) (size : S → ℕ)
    (one_more : (a : S) (ts : List Lexeme) (v : S) (rest : List Lexeme) → ReadsUpTo (item a) ts v rest → size v ≤ size a + 1) where
  abbrev further : S → Rule S
  further = loop (comma_begins more) (λ state comma. item state)

  list_counts : (empty : Bool) (start : S) (ts : List Lexeme) (v : S) (rest : List Lexeme)
      → ReadsUpTo (cond empty (skip >> give start) (item start >>= λ first. further first >>= λ all. word closing >> give all)) ts v rest
      → size v + length rest ≤ size start + 1 + length ts
  list_counts true start ts v rest h =
      let same = ap size h.3.0 in
      let fewer = left (skip >> give start) ts v rest h in
      omega (arith, same, fewer)
  list_counts false start ts v rest h =
      let first = one_more start ts h.0 h.1 h.2 in
      let after_first = left (item start) ts h.0 h.1 h.2 in
      let others = loop_counts (comma_begins more) (λ state comma. item state) size (λ a t. one_more a) h.0 h.1 h.3.0 h.3.1 h.3.2 in
      let after_others = left (word closing >> give h.3.0) h.3.1 v rest h.3.3 in
      let same = ap size h.3.3.3.0 in
      omega (arith, first, after_first, others, after_others, same)

  pub listed_counts : (start : S) (ts : List Lexeme) (v : S) (rest : List Lexeme) → ReadsUpTo (listed closing more item start) ts v rest → size v + length rest ≤ size start + 1 + length ts
  unfolding listed
  listed_counts start ts v rest h =
      let here = left (sees closing) ts h.0 h.1 h.2 in
      let all = list_counts h.0 start h.1 v rest h.3 in
      omega (arith, here, all)

-- ---- pieces with a token for each part of their value, but for so many at most

pub record Owes {A : Type 0} (size : A → ℕ) (n : ℕ) (g : Rule A) : Type 0 where
  pub each : (ts : List Lexeme) (v : A) (rest : List Lexeme) → ReadsUpTo g ts v rest → size v + length rest ≤ n + length ts

-- a piece that takes a token
pub record TakesOne {A : Type 0} (g : Rule A) : Type 0 where
  pub each : (ts : List Lexeme) (v : A) (rest : List Lexeme) → ReadsUpTo g ts v rest → 1 + length rest ≤ length ts

one_taken : {A : Type 0} (f : Lexeme → Verdict A) (e : Cause) → f end_of_text ≡ Err e → (ts : List Lexeme) (v : A) (rest : List Lexeme) → ReadsUpTo (one f) ts v rest → 1 + length rest ≤ length ts
one_taken f e none [] v rest h = no_value e v (sym none ∙ h.0)
one_taken f e none (t ∷ ts) v rest h = let same = ap length h.1 in omega (arith, same)

-- a token that can't be the end of the text
pub takes_one : {A : Type 0} {f : Lexeme → Verdict A} (e : Cause) → f end_of_text ≡ Err e → TakesOne (one f)
takes_one {f = f} e none = record { each = one_taken f e none }

pub settled : {A : Type 0} {size : A → ℕ} {n : ℕ} {a : A} → size a ≤ n → Owes size n (give a)
settled {size = size} few = record { each = λ ts v rest h. let value = ap size h.0 in let all = ap length h.1 in omega (arith, few, value, all) }

pub passed : {A B : Type 0} {size : B → ℕ} {n : ℕ} {g : Rule A} {k : A → Rule B} → ((a : A) → Owes size n (k a)) → Owes size n (seq g k)
passed {g = g} more = record {
  each = λ ts v rest h. let first = left g ts h.0 h.1 h.2 in let others = (more h.0).each h.1 v rest h.3 in omega (arith, first, others);
}

pub paid : {A B : Type 0} {size : B → ℕ} {n : ℕ} {g : Rule A} {k : A → Rule B} → TakesOne g → ((a : A) → Owes size (suc n) (k a)) → Owes size n (seq g k)
paid token more = record {
  each = λ ts v rest h. let first = token.each ts h.0 h.1 h.2 in let others = (more h.0).each h.1 v rest h.3 in omega (arith, first, others);
}

pub either_owes : {A : Type 0} {size : A → ℕ} {n : ℕ} {g h : Rule A} (b : Bool) → Owes size n g → Owes size n h → Owes size n (cond b g h)
either_owes true p q = p
either_owes false p q = q
