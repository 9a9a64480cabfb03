-- What holds of each value that a piece of the grammar reads from any lexemes: a law for each way in which pieces are put together.
use Rattle.std.proofs.Common.{◌≡◌, ℕ, zero, suc, Bool, true, false, cond, List, [], ◌∷◌, Ok, refl, sym, subst}
use Rattle.std.specs.List.{list_all}
use Rattle.ms_lex.specs.Grammar.{head, Turns, give, one, seq, loop}
use Rattle.ms_text_grammar.specs.declared.refusals.Cause.{Cause}
use Rattle.ms_text_grammar.specs.declared.symbols.Symbol.{Symbol}
use Rattle.ms_text_grammar.specs.Lexemes.{Lexeme, end_of_text}
use Rattle.ms_text_grammar.specs.Steps.{Rule, Verdict, refuse, stop, listed, with_item, items}
use Rattle.ms_text_grammar.specs.Texts.{ReadsUpTo}
use Rattle.ms_text_laws.proofs.Sound.{all_pushed, no_value}

-- each value that the piece reads is one of these
pub record Brings {A : Type 0} (g : Rule A) (P : A → Type 0) : Type 0 where
  pub each : (ts : List Lexeme) (v : A) (rest : List Lexeme) → ReadsUpTo g ts v rest → P v

pub given : {A : Type 0} {P : A → Type 0} {a : A} → P a → Brings (give a) P
given {P = P} p = record { each = λ ts v rest h. subst P (sym h.0) p }

pub judged : {A : Type 0} {P : A → Type 0} {f : Lexeme → Verdict A} → ((t : Lexeme) (a : A) → f t ≡ Ok a → P a) → Brings (one f) P
judged p = record { each = λ ts v rest h. p (head end_of_text ts) v h.0 }

pub chained : {A B : Type 0} {P : A → Type 0} {Q : B → Type 0} {g : Rule A} {k : A → Rule B} → Brings g P → ((a : A) → P a → Brings (k a) Q) → Brings (seq g k) Q
chained p q = record { each = λ ts v rest h. (q h.0 (p.each ts h.0 h.1 h.2)).each h.1 v rest h.3 }

-- whatever the first piece reads
pub after : {A B : Type 0} {Q : B → Type 0} {g : Rule A} {k : A → Rule B} → ((a : A) → Brings (k a) Q) → Brings (seq g k) Q
after q = record { each = λ ts v rest h. (q h.0).each h.1 v rest h.3 }

pub either : {A : Type 0} {P : A → Type 0} {g h : Rule A} (b : Bool) → Brings g P → Brings h P → Brings (cond b g h) P
either true p q = p
either false p q = q

pub refused : {A : Type 0} {P : A → Type 0} → Brings (refuse {A = A}) P
refused = record { each = λ ts v rest h. no_value _ v h.0 }

pub stopped : {A : Type 0} {P : A → Type 0} (e : Cause) → Brings (stop {A = A} e) P
stopped e = record { each = λ ts v rest h. no_value e v h.0 }

module _ {S : Type 0} (begins : S → Lexeme → Verdict Bool) (body : S → Lexeme → Rule S) (P : S → Type 0) (more : (b : S) (t : Lexeme) → P b → begins b t ≡ Ok true → Brings (body b t) P) where
  turns_keep : (n : ℕ) (a : S) (ts : List Lexeme) (v : S) (rest : List Lexeme) → Turns begins (λ b t. ReadsUpTo (body b t)) n a ts v rest → P a → P v
  turns_keep zero a ts v rest h p = subst P (sym h.1) p
  turns_keep (suc n) a [] v rest h p = absurd h
  turns_keep (suc n) a (t ∷ ts) v rest h p = turns_keep n h.1 h.2 v rest h.4 ((more a t p h.0).each ts h.1 h.2 h.3)

pub looped : {S : Type 0} {P : S → Type 0} {begins : S → Lexeme → Verdict Bool} {body : S → Lexeme → Rule S} {a : S}
    → P a → ((b : S) (t : Lexeme) → P b → begins b t ≡ Ok true → Brings (body b t) P) → Brings (loop begins body a) P
looped {P = P} {begins = begins} {body = body} {a = a} p more = record { each = λ ts v rest h. turns_keep begins body P more h.0 a ts v rest h.1 p }

-- a list with commas between, each item of which goes on from what was read before it
pub listed_brings : {S : Type 0} (P : S → Type 0) (closing : Symbol) (going : S → Bool) (item : S → Rule S) (a : S) → P a → ((b : S) → P b → Brings (item b) P) → Brings (listed closing going item a) P
unfolding listed
listed_brings P closing going item a p more =
    after (λ empty. either empty (after (λ taken. given p)) (chained (more a p) (λ first q. chained {P = P} (looped q (λ b t r e. more b r)) (λ all r. after (λ word. given r)))))

-- each item passes a test
pub items_bring : {A : Type 0} (closing : Symbol) (item : Rule A) (test : A → Bool) → Brings item (λ v. test v ≡ true) → Brings (items closing item) (λ v. list_all test v ≡ true)
unfolding items
items_bring closing item test each =
    listed_brings (λ found. list_all test found ≡ true) closing (λ found. true) (with_item item) [] refl (λ found p. chained each (λ a q. given (all_pushed test found a p q)))
