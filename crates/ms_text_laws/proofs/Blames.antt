-- Where a piece of the grammar stops it names a cause, which isn't want of memory: a law for each way in which pieces are put together.
use Rattle.std.proofs.Common.{◌≡◌, ℕ, zero, suc, Bool, true, false, cond, List, [], ◌∷◌, Option, Some, None, Ok, Err, refl, subst, ⊎_elim}
use Rattle.ms_lex.specs.Grammar.{head, TurnStops, give, one, look, seq, loop}
use Rattle.ms_text_grammar.specs.declared.refusals.Limit.{Limit}
use Rattle.ms_text_grammar.specs.declared.refusals.Outside.{Outside}
use Rattle.ms_text_grammar.specs.declared.refusals.Cause.{Cause}
use Rattle.ms_text_grammar.specs.declared.refusals.Cause.TheVariants as r
use Rattle.ms_text_grammar.specs.declared.symbols.Symbol.{Symbol}
use Rattle.ms_text_grammar.specs.Lexemes.{Lexeme, end_of_text, is}
use Rattle.ms_text_grammar.specs.Steps.{Rule, Verdict, outside_of, syntax_or, refusal, within, judge_map, next_symbol, refuse, stop, skip, sees, word, listed, with_item, items}
use Rattle.ms_text_grammar.specs.Texts.{ReadsUpTo, StopsAt}

-- a cause other than want of memory
abbrev pub IsCause : Cause → Type 0
IsCause e = e ≡ r.NoMemory → ⊥

-- ---- verdicts

-- a verdict that refuses names a cause
abbrev pub IsNamed : {A : Type 0} → Verdict A → Type 0
IsNamed (Ok a) = Unit {0}
IsNamed (Err e) = IsCause e

-- a refusal that is no want of memory
abbrev named : Cause → Bool
named r.NoMemory = false
named e = true

pub cause : (e : Cause) → named e ≡ true → IsCause e
cause r.NoMemory h = λ same. cc
cause r.Syntax h = λ same. cc
cause (r.Outside construct) h = λ same. cc
cause (r.Limit limit) h = λ same. cc
cause r.Numbering h = λ same. cc
cause r.Reserved h = λ same. cc

syntax_named : (construct : Option Outside) → named (syntax_or construct) ≡ true
syntax_named None = refl
syntax_named (Some construct) = refl

pub refusal_is : (t : Lexeme) → IsCause (refusal t)
unfolding refusal
refusal_is t = cause _ (either_named _ (r.Outside _) (syntax_or (outside_of t.symbol)) refl (syntax_named (outside_of t.symbol)))
  where
    either_named : (b : Bool) (c d : Cause) → named c ≡ true → named d ≡ true → named (cond b c d) ≡ true
    either_named true c d h k = h
    either_named false c d h k = k

pub if_named : {A : Type 0} (b : Bool) (v w : Verdict A) → IsNamed v → IsNamed w → IsNamed (cond b v w)
if_named true v w h k = h
if_named false v w h k = k

-- a value, or else the token is refused
pub or_refused : {A : Type 0} (b : Bool) (v : Verdict A) (t : Lexeme) → IsNamed v → IsNamed (cond b v (Err (refusal t)))
or_refused b v t h = if_named b v (Err (refusal t)) h (refusal_is t)

pub within_named : {A : Type 0} (b : Bool) (most : Limit) (v : Verdict A) → IsNamed v → IsNamed (within b most v)
within_named true most v h = h
within_named false most (Ok a) h = cause (r.Limit most) refl
within_named false most (Err e) h = h

pub mapped_named : {A B : Type 0} (f : A → B) (v : Verdict A) → IsNamed v → IsNamed (judge_map f v)
mapped_named f (Ok a) h = tt
mapped_named f (Err e) h = h

pub cause_of : {A : Type 0} (v : Verdict A) (e : Cause) → IsNamed v → v ≡ Err e → IsCause e
cause_of (Ok a) e h same = absurd cc
cause_of (Err d) e h same = let this : d ≡ e = cc in subst IsCause this h

-- ---- pieces

-- each stop of the piece names a cause
pub record Blames {A : Type 0} (g : Rule A) : Type 0 where
  pub each : (ts : List Lexeme) (e : Cause) (rest : List Lexeme) → StopsAt g ts e rest → IsCause e

pub given : {A : Type 0} {a : A} → Blames (give a)
given = record { each = λ ts e rest h. absurd h }

pub judged : {A : Type 0} {f : Lexeme → Verdict A} → ((t : Lexeme) → IsNamed (f t)) → Blames (one f)
judged {f = f} all = record { each = λ ts e rest h. cause_of (f (head end_of_text ts)) e (all (head end_of_text ts)) h.0 }

pub seen : {A : Type 0} {f : Lexeme → Verdict A} → ((t : Lexeme) → IsNamed (f t)) → Blames (look f)
seen {f = f} all = record { each = λ ts e rest h. cause_of (f (head end_of_text ts)) e (all (head end_of_text ts)) h.0 }

pub chained : {A B : Type 0} {g : Rule A} {k : A → Rule B} → Blames g → ((a : A) → Blames (k a)) → Blames (seq g k)
chained p q = record { each = λ ts e rest h. ⊎_elim (λ first. p.each ts e rest first) (λ second. (q second.0).each second.1 e rest second.3) h }

pub either : {A : Type 0} {g h : Rule A} (b : Bool) → Blames g → Blames h → Blames (cond b g h)
either true p q = p
either false p q = q

module _ {S : Type 0} (begins : S → Lexeme → Verdict Bool) (body : S → Lexeme → Rule S) (all : (s : S) (t : Lexeme) → IsNamed (begins s t)) (more : (s : S) (t : Lexeme) → Blames (body s t)) where
  turns_blame : (n : ℕ) (a : S) (ts : List Lexeme) (e : Cause) (rest : List Lexeme)
      → TurnStops begins (λ s t. ReadsUpTo (body s t)) (λ s t. StopsAt (body s t)) n a ts e rest → IsCause e
  turns_blame n a [] e rest h = absurd h
  turns_blame zero a (t ∷ ts) e rest h = ⊎_elim (λ first. cause_of (begins a t) e (all a t) first.0) (λ second. (more a t).each ts e rest second.1) h
  turns_blame (suc n) a (t ∷ ts) e rest h = turns_blame n h.1 h.2 e rest h.4

pub looped : {S : Type 0} {begins : S → Lexeme → Verdict Bool} {body : S → Lexeme → Rule S} {a : S} → ((s : S) (t : Lexeme) → IsNamed (begins s t)) → ((s : S) (t : Lexeme) → Blames (body s t)) → Blames (loop begins body a)
looped {begins = begins} {body = body} {a = a} all more = record { each = λ ts e rest h. turns_blame begins body all more h.0 a ts e rest h.1 }

-- ---- steps

pub symbol_seen : Blames next_symbol
symbol_seen = seen (λ t. tt)

pub refused : {A : Type 0} → Blames (refuse {A = A})
refused = seen refusal_is

pub stopped : {A : Type 0} (e : Cause) → named e ≡ true → Blames (stop {A = A} e)
stopped e h = seen (λ t. cause e h)

pub skipped : Blames skip
skipped = judged (λ t. tt)

pub sight : (x : Symbol) → Blames (sees x)
sight x = seen (λ t. tt)

pub word_taken : (x : Symbol) → Blames (word x)
unfolding word
word_taken x = judged (λ t. or_refused (is x t) (Ok tt) t tt)

-- what the next symbol decides
pub by_symbol : {B : Type 0} {k : Symbol → Rule B} → ((x : Symbol) → Blames (k x)) → Blames (seq next_symbol k)
by_symbol q = chained symbol_seen q

-- a token that is passed, and a word
pub after_token : {B : Type 0} {k : Unit {0} → Rule B} → ((u : Unit {0}) → Blames (k u)) → Blames (seq skip k)
after_token q = chained skipped q

pub after_word : {B : Type 0} {k : Unit {0} → Rule B} (x : Symbol) → ((u : Unit {0}) → Blames (k u)) → Blames (seq (word x) k)
after_word x q = chained (word_taken x) q

-- ---- lists

pub listed_blame : {S : Type 0} (closing : Symbol) (going : S → Bool) (item : S → Rule S) (a : S) → ((s : S) → Blames (item s)) → Blames (listed closing going item a)
unfolding listed
listed_blame closing going item a each =
    chained (sight closing) (λ empty. either empty (after_token (λ u. given)) (chained (each a) (λ first. chained (looped (λ s t. tt) (λ s t. each s)) (λ all. after_word _ (λ u. given)))))

pub items_blame : {A : Type 0} (closing : Symbol) (item : Rule A) → Blames item → Blames (items closing item)
unfolding items
items_blame closing item each = listed_blame closing (λ found. true) (with_item item) [] (λ found. chained each (λ a. given))
