-- Lists with commas, whose items go on from one another, as a loop reads them.
use Rattle.std.proofs.Common.{◌≡◌, ◌<◌, Bool, true, false, ◌&&◌, List, length, refl, ◌∙◌, arith, Ok, [], ◌∷◌}
use Rattle.ms_lex.specs.Grammar.{tail, Outcome, done, fails, and_then}
use Rattle.ms_lex.proofs.Exact.{shorter}
use Rattle.ms_lex.proofs.Loops.{loop_goes, loop_ends}
use Rattle.ms_text_grammar.specs.declared.symbols.Symbol.{Symbol}
use Rattle.ms_text_grammar.specs.declared.symbols.Symbol.TheVariants.{Comma}
use Rattle.ms_text_grammar.specs.declared.refusals.Cause.{Cause}
use Rattle.ms_text_grammar.specs.Lexemes.{Lexeme, end_of_text, is, same_symbol}
use Rattle.ms_text_grammar.specs.Steps.{Rule, Verdict, comma_begins, word, listed}
use Rattle.ms_read_cursor.specs.Reading.{front, run}
use Rattle.ms_read_cursor.specs.Lists.{further}

-- the closing symbol, after all items
abbrev pub closed : {S : Type 0} → Symbol → S → List Lexeme → Outcome Lexeme Cause S
closed closing all rest = and_then (run (word closing) rest) (λ _. done all)

module _ {S : Type 0} (more : S → Bool) (item : S → Rule S) where
  comma_comes : (ts : List Lexeme) → is Comma (front ts) ≡ true → length (tail ts) < length ts
  unfolding same_symbol
  comma_comes [] h = absurd cc
  comma_comes (t ∷ ts) h = omega arith

  said : Bool → Verdict Bool
  said b = Ok b

  begins : (state : S) (ts : List Lexeme) (m c : Bool) → more state ≡ m → is Comma (front ts) ≡ c → comma_begins more state (front ts) ≡ Ok (m && c)
  begins state ts m c p q = rw (p, q) refl

  further_turn : (state : S) (ts : List Lexeme) → more state ≡ true → is Comma (front ts) ≡ true → run (further more item state) ts ≡ and_then (run (item state) (tail ts)) (λ state. run (further more item state))
  unfolding further
  further_turn state ts m h = let some = comma_comes ts h in loop_goes end_of_text (comma_begins more) (λ state comma. item state) state ts (omega arith) (begins state ts true true m h)

  pub more_goes : (state : S) (ts : List Lexeme) (x : S) (mid : List Lexeme) → more state ≡ true → is Comma (front ts) ≡ true → run (item state) (tail ts) ≡ done x mid → run (further more item state) ts ≡ run (further more item x) mid
  more_goes state ts x mid m h e = further_turn state ts m h ∙ rw e refl

  pub more_stops : (state : S) (ts : List Lexeme) (d : Cause) (k : List Lexeme) → more state ≡ true → is Comma (front ts) ≡ true → run (item state) (tail ts) ≡ fails d k → run (further more item state) ts ≡ fails d k
  more_stops state ts d k m h e = further_turn state ts m h ∙ rw e refl

  pub more_ends : (state : S) (ts : List Lexeme) → more state ≡ true → is Comma (front ts) ≡ false → run (further more item state) ts ≡ done state ts
  unfolding further
  more_ends state ts m h = loop_ends end_of_text (comma_begins more) (λ state comma. item state) state ts (begins state ts true false m h)

  pub no_more : (state : S) (ts : List Lexeme) → more state ≡ false → run (further more item state) ts ≡ done state ts
  unfolding further
  no_more state ts m = loop_ends end_of_text (comma_begins more) (λ state comma. item state) state ts (rw m refl)

  pub listed_empty : (closing : Symbol) (start : S) (ts : List Lexeme) → is closing (front ts) ≡ true → run (listed closing more item start) ts ≡ done start (tail ts)
  unfolding listed
  listed_empty closing start ts h = rw h refl

  pub listed_stops : (closing : Symbol) (start : S) (ts : List Lexeme) (d : Cause) (k : List Lexeme) → is closing (front ts) ≡ false → run (item start) ts ≡ fails d k → run (listed closing more item start) ts ≡ fails d k
  unfolding listed
  listed_stops closing start ts d k h e = rw (h, e) refl

  listed_goes : (closing : Symbol) (start : S) (ts : List Lexeme) (x : S) (mid : List Lexeme) → is closing (front ts) ≡ false → run (item start) ts ≡ done x mid
      → run (listed closing more item start) ts ≡ and_then (run (further more item x) mid) (closed closing)
  unfolding listed further
  listed_goes closing start ts x mid h e = rw (h, e) refl

  pub turn_shorter : (state : S) (ts : List Lexeme) (x : S) (mid : List Lexeme) → is Comma (front ts) ≡ true → run (item state) (tail ts) ≡ done x mid → length mid < length ts
  turn_shorter state ts x mid h e = let less = shorter end_of_text (item state) (tail ts) x mid e in let comes = comma_comes ts h in omega arith

  -- a list that was read up to its closing symbol, one in which a further item stops, and one without that symbol
  pub listed_whole : (closing : Symbol) (start : S) (ts : List Lexeme) (x : S) (mid : List Lexeme) (all : S) (after : List Lexeme) (u : Unit {0}) (left : List Lexeme) → is closing (front ts) ≡ false → run (item start) ts ≡ done x mid
      → run (further more item x) mid ≡ done all after → run (word closing) after ≡ done u left → run (listed closing more item start) ts ≡ done all left
  listed_whole closing start ts x mid all after u left h e f w = listed_goes closing start ts x mid h e ∙ rw f (rw w refl)

  pub listed_cut : (closing : Symbol) (start : S) (ts : List Lexeme) (x : S) (mid : List Lexeme) (d : Cause) (k : List Lexeme) → is closing (front ts) ≡ false → run (item start) ts ≡ done x mid
      → run (further more item x) mid ≡ fails d k → run (listed closing more item start) ts ≡ fails d k
  listed_cut closing start ts x mid d k h e f = listed_goes closing start ts x mid h e ∙ rw f refl

  pub listed_open : (closing : Symbol) (start : S) (ts : List Lexeme) (x : S) (mid : List Lexeme) (all : S) (after : List Lexeme) (d : Cause) (k : List Lexeme) → is closing (front ts) ≡ false → run (item start) ts ≡ done x mid
      → run (further more item x) mid ≡ done all after → run (word closing) after ≡ fails d k → run (listed closing more item start) ts ≡ fails d k
  listed_open closing start ts x mid all after d k h e f w = listed_goes closing start ts x mid h e ∙ rw f (rw w refl)
