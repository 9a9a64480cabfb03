-- What holds of each value that a piece of the grammar reads from sound lexemes: a law for each way in which pieces are put together.
use Rattle.std.proofs.Common.{◌≡◌, Bool, true, false, cond, ◌&&◌, List, [], ◌∷◌, ◌++◌, map, Ok, refl, sym, subst}
use Rattle.std.specs.List.{list_all}
use Rattle.std.proofs.lemmas.Bool.{and_parts, and_from}
use Rattle.ms_lex.specs.Grammar.{head, give, one, seq, loop}
use Rattle.ms_text_grammar.specs.declared.symbols.Symbol.{Symbol}
use Rattle.ms_text_grammar.specs.Lexemes.{Lexeme, end_of_text}
use Rattle.ms_text_grammar.specs.Steps.{Rule, Verdict, listed}
use Rattle.ms_text_grammar.specs.Texts.{ReadsUpTo}
use Rattle.ms_text_laws.proofs.Sound.{IsSound, AllSound, sound_head, sound_rest, loop_keeps, listed_keeps}

-- each value that the piece reads from sound lexemes is one of these
pub record Yields {A : Type 0} (g : Rule A) (P : A → Type 0) : Type 0 where
  pub each : (ts : List Lexeme) (v : A) (rest : List Lexeme) → AllSound ts → ReadsUpTo g ts v rest → P v

pub given : {A : Type 0} {P : A → Type 0} {a : A} → P a → Yields (give a) P
given {P = P} p = record { each = λ ts v rest s h. subst P (sym h.0) p }

pub judged : {A : Type 0} {P : A → Type 0} {f : Lexeme → Verdict A} → ((t : Lexeme) (a : A) → IsSound t → f t ≡ Ok a → P a) → Yields (one f) P
judged p = record { each = λ ts v rest s h. p (head end_of_text ts) v (sound_head ts s) h.0 }

pub chained : {A B : Type 0} {P : A → Type 0} {Q : B → Type 0} {g : Rule A} {k : A → Rule B} → Yields g P → ((a : A) → P a → Yields (k a) Q) → Yields (seq g k) Q
chained {g = g} p q = record { each = λ ts v rest s h. (q h.0 (p.each ts h.0 h.1 s h.2)).each h.1 v rest (sound_rest g ts h.0 h.1 s h.2) h.3 }

-- whatever the first piece reads
pub after : {A B : Type 0} {Q : B → Type 0} {g : Rule A} {k : A → Rule B} → ((a : A) → Yields (k a) Q) → Yields (seq g k) Q
after {g = g} q = record { each = λ ts v rest s h. (q h.0).each h.1 v rest (sound_rest g ts h.0 h.1 s h.2) h.3 }

pub either : {A : Type 0} {P : A → Type 0} {g h : Rule A} (b : Bool) → Yields g P → Yields h P → Yields (cond b g h) P
either true p q = p
either false p q = q

pub looped : {S : Type 0} {P : S → Type 0} {begins : S → Lexeme → Verdict Bool} {body : S → Lexeme → Rule S} {a : S}
    → P a → ((b : S) (t : Lexeme) → IsSound t → P b → begins b t ≡ Ok true → Yields (body b t) P) → Yields (loop begins body a) P
looped {P = P} {begins = begins} {body = body} {a = a} p more = record {
  each = λ ts v rest s h. loop_keeps begins body P (λ b t us w others e here good r q. (more b t here q e).each us w others good r) a ts v rest s h p;
}

pub listed_yields : {S : Type 0} (P : S → Type 0) (closing : Symbol) (going : S → Bool) (item : S → Rule S) (a : S) → P a → ((b : S) → P b → Yields (item b) P) → Yields (listed closing going item a) P
listed_yields P closing going item a p more = record {
  each = λ ts v rest s h. listed_keeps closing going item P (λ b us w others good r q. (more b q).each us w others good r) a ts v rest s h p;
}

-- ---- tests

pub begun : (b c : Bool) → ◌≡◌ {A = Verdict Bool} (Ok (b && c)) (Ok true) → b ≡ true
begun true c h = refl
begun false c h = absurd cc

-- one more in a list
pub mapped_more : {A B : Type 0} (p : B → Bool) (f : A → B) (xs : List A) (x : A) → list_all p (map f xs) ≡ true → p (f x) ≡ true → list_all p (map f (xs ++ x ∷ [])) ≡ true
mapped_more p f [] x h e = and_from (p (f x)) true e refl
mapped_more p f (y ∷ ys) x h e =
    let parts = and_parts (p (f y)) (list_all p (map f ys)) h in
    and_from (p (f y)) (list_all p (map f (ys ++ x ∷ []))) parts.0 (mapped_more p f ys x parts.1 e)
