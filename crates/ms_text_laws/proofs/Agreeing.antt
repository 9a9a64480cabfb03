-- One grammar does what another does, unless it stops at a limit: a law for each way in which pieces are put together.
use Rattle.std.proofs.Common.{◌≡◌, ◌⊎◌, inl, inr, ℕ, zero, suc, ◌<◌, ◌≤◌, ◌&&◌, ◌||◌, Bool, true, false, true≢false, cond, List, [], ◌∷◌, length, Ok, Err, refl, sym, ap, subst, arith}
use Rattle.std.specs.Prelude.{nat_lt}
use Rattle.std.proofs.lemmas.Bool.{ltb-true, lt-ltb, and_parts, and_from}
use Rattle.ms_lex.specs.Grammar.{Outcome, done, fails, and_then, judged as outcome_of, turn, turns, run, head, tail, one, seq, loop}
use Rattle.ms_text_grammar.specs.declared.refusals.Limit.{Limit}
use Rattle.ms_text_grammar.specs.declared.refusals.Cause.{Cause}
use Rattle.ms_text_grammar.specs.declared.refusals.Cause.TheVariants as r
use Rattle.ms_text_grammar.specs.declared.symbols.Symbol.{Symbol}
use Rattle.ms_text_grammar.specs.Lexemes.{Lexeme, end_of_text}
use Rattle.ms_text_grammar.specs.Steps.{Rule, Verdict, within, judge_map, stop, listed, items}
use Rattle.ms_text_laws.specs.Fits.{NamesLimit}

-- ---- verdicts

-- two verdicts are the same, or the first names a limit
abbrev pub Near : {A : Type 0} → Verdict A → Verdict A → Type 0
Near v w = (v ≡ w) ⊎ ((e : Cause) × NamesLimit e × (v ≡ Err e))

pub names_limit : (l : Limit) → NamesLimit (r.Limit l)
names_limit l = inl (l, refl)

pub less_still : (n a b : ℕ) → a ≤ b → nat_lt n a ≡ true → nat_lt n b ≡ true
less_still n a b up h = let less : n < a = ltb-true n a h in lt-ltb n b (omega (arith, less, up))

pub or_still : (a p q : Bool) → (p ≡ true → q ≡ true) → (a || p) ≡ true → (a || q) ≡ true
or_still true p q more h = refl
or_still false p q more h = more h

pub both_still : (a b c d : Bool) → (a ≡ true → c ≡ true) → (b ≡ true → d ≡ true) → (a && b) ≡ true → (c && d) ≡ true
both_still a b c d first second h = let parts = and_parts a b h in and_from c d (first parts.0) (second parts.1)

pub else_near : {A : Type 0} (b : Bool) (v w x : Verdict A) → Near w x → Near (cond b v w) (cond b v x)
else_near true v w x near = inl refl
else_near false v w x near = near

pub then_near : {A : Type 0} (b : Bool) (v w x : Verdict A) → Near v w → Near (cond b v x) (cond b w x)
then_near true v w x near = near
then_near false v w x near = inl refl

-- one has more room than the other
pub room_near : {A : Type 0} (p q : Bool) (v w : Verdict A) (e : Cause) → NamesLimit e → (p ≡ true → q ≡ true) → Near v w → Near (cond p v (Err e)) (cond q w (Err e))
room_near true true v w e limit more near = near
room_near true false v w e limit more near = absurd (true≢false (sym (more refl)))
room_near false q v w e limit more near = inr (e, limit, refl)

pub within_near : {A : Type 0} (p q : Bool) (l : Limit) (v : Verdict A) → (p ≡ true → q ≡ true) → Near (within p l v) (within q l v)
within_near true true l v more = inl refl
within_near true false l v more = absurd (true≢false (sym (more refl)))
within_near false true l (Ok a) more = inr (r.Limit l, names_limit l, refl)
within_near false true l (Err e) more = inl refl
within_near false false l v more = inl refl

pub mapped_near : {A B : Type 0} (f : A → B) (v w : Verdict A) → Near v w → Near (judge_map f v) (judge_map f w)
mapped_near f v w (inl same) = inl (ap (judge_map f) same)
mapped_near f v w (inr (e, limit, is)) = inr (e, limit, ap (judge_map f) is)

-- ---- pieces

-- two outcomes are the same, or the first names a limit
abbrev pub Agrees : {A : Type 0} → Outcome Lexeme Cause A → Outcome Lexeme Cause A → Type 0
Agrees o p = (o ≡ p) ⊎ ((e : Cause) × (rest : List Lexeme) × NamesLimit e × (o ≡ fails e rest))

-- of all lexemes the second piece makes what the first makes of them, unless that names a limit
pub record Looser {A : Type 0} (g h : Rule A) : Type 0 where
  pub each : (ts : List Lexeme) → Agrees (run end_of_text g ts) (run end_of_text h ts)

pub same : {A : Type 0} {g : Rule A} → Looser g g
same = record { each = λ ts. inl refl }

verdict_agrees : {A : Type 0} (v w : Verdict A) (ts rest : List Lexeme) → Near v w → Agrees (outcome_of v ts rest) (outcome_of w ts rest)
verdict_agrees v w ts rest (inl same) = inl (ap (λ x. outcome_of x ts rest) same)
verdict_agrees v w ts rest (inr (e, limit, is)) = inr (e, ts, limit, ap (λ x. outcome_of x ts rest) is)

pub taken : {A : Type 0} {f g : Lexeme → Verdict A} → ((t : Lexeme) → Near (f t) (g t)) → Looser (one f) (one g)
taken {f = f} {g = g} near = record { each = λ ts. verdict_agrees (f (head end_of_text ts)) (g (head end_of_text ts)) ts (tail ts) (near (head end_of_text ts)) }

-- the first piece stops at a limit at once
pub stopped : {A : Type 0} {e : Cause} {h : Rule A} → NamesLimit e → Looser (stop e) h
stopped {e = e} limit = record { each = λ ts. inr (e, ts, limit, refl) }

then_agrees : {A B : Type 0} (o p : Outcome Lexeme Cause A) (f g : A → List Lexeme → Outcome Lexeme Cause B) → Agrees o p
    → ((a : A) (ts : List Lexeme) → Agrees (f a ts) (g a ts)) → Agrees (and_then o f) (and_then p g)
then_agrees (done a ts) p f g (inl same) each = subst (λ x. Agrees (f a ts) (and_then x g)) same (each a ts)
then_agrees (fails e ts) p f g (inl same) each = inl (ap (λ x. and_then x g) same)
then_agrees o p f g (inr (e, rest, limit, is)) each = inr (e, rest, limit, ap (λ x. and_then x f) is)

pub next : {A B : Type 0} {g h : Rule A} {k l : A → Rule B} → Looser g h → ((a : A) → Looser (k a) (l a)) → Looser (seq g k) (seq h l)
next {g = g} {h = h} {k = k} {l = l} p q = record {
  each = λ ts. then_agrees (run end_of_text g ts) (run end_of_text h ts) (λ a. run end_of_text (k a)) (λ a. run end_of_text (l a)) (p.each ts) (λ a rest. (q a).each rest);
}

turn_agrees : {A : Type 0} (v w : Verdict Bool) (o p : Outcome Lexeme Cause A) (a : A) (ts : List Lexeme) → Near v w → Agrees o p → Agrees (turn v o a ts) (turn w p a ts)
turn_agrees (Ok true) w o p a ts (inl same) h = subst (λ x. Agrees o (turn x p a ts)) same h
turn_agrees (Ok false) w o p a ts (inl same) h = inl (ap (λ x. turn x p a ts) same)
turn_agrees (Err e) w o p a ts (inl same) h = inl (ap (λ x. turn x p a ts) same)
turn_agrees v w o p a ts (inr (e, limit, is)) h = inr (e, ts, limit, ap (λ x. turn x o a ts) is)

module _ {S : Type 0} (b c : S → Lexeme → Verdict Bool) (f g : S → Lexeme → Rule S) (p : (a : S) (t : Lexeme) → Near (b a t) (c a t)) (q : (a : S) (t : Lexeme) → Looser (f a t) (g a t)) where
  turns_agree : (n : ℕ) (a : S) (ts : List Lexeme) → Agrees (turns b (λ s t. run end_of_text (f s t)) n a ts) (turns c (λ s t. run end_of_text (g s t)) n a ts)
  turns_agree zero a ts = inl refl
  turns_agree (suc n) a [] = inl refl
  turns_agree (suc n) a (t ∷ ts) =
      turn_agrees (b a t) (c a t) _ _ a (t ∷ ts) (p a t)
      (then_agrees (run end_of_text (f a t) ts) (run end_of_text (g a t) ts) (turns b (λ s t. run end_of_text (f s t)) n) (turns c (λ s t. run end_of_text (g s t)) n) ((q a t).each ts)
      (λ s rest. turns_agree n s rest))

pub repeated : {S : Type 0} {b c : S → Lexeme → Verdict Bool} {f g : S → Lexeme → Rule S} {a : S} → ((a : S) (t : Lexeme) → Near (b a t) (c a t)) → ((a : S) (t : Lexeme) → Looser (f a t) (g a t))
    → Looser (loop b f a) (loop c g a)
repeated {b = b} {c = c} {f = f} {g = g} {a = a} p q = record { each = λ ts. turns_agree b c f g p q (length ts) a ts }

-- turns that begin alike
pub turning : {S : Type 0} {b : S → Lexeme → Verdict Bool} {f g : S → Lexeme → Rule S} {a : S} → ((a : S) (t : Lexeme) → Looser (f a t) (g a t)) → Looser (loop b f a) (loop b g a)
turning q = repeated (λ a t. inl refl) q

pub either : {A : Type 0} (b : Bool) {g h k l : Rule A} → Looser g h → Looser k l → Looser (cond b g k) (cond b h l)
either true p q = p
either false p q = q

pub listed_looser : {S : Type 0} (closing : Symbol) (more : S → Bool) {f g : S → Rule S} (a : S) → ((a : S) → Looser (f a) (g a)) → Looser (listed closing more f a) (listed closing more g a)
unfolding listed
listed_looser closing more a p = next same (λ empty. either empty same (next (p _) (λ first. next (turning (λ state comma. p state)) (λ all. same))))

pub items_looser : {A : Type 0} (closing : Symbol) {f g : Rule A} → Looser f g → Looser (items closing f) (items closing g)
unfolding items
items_looser closing p = listed_looser closing (λ found. true) [] (λ found. next p (λ a. same))
