-- What a piece of the grammar takes of the tokens in front of it: laws for each way in which pieces are put together.
use Rattle.std.proofs.Common.{◌≡◌, zero, suc, Bool, true, false, cond, List, [], ◌∷◌, Ok, refl, ap}
use Rattle.ms_lex.specs.Grammar.{head, give, one, look, seq, loop}
use Rattle.ms_text_grammar.specs.declared.symbols.Symbol.{Symbol}
use Rattle.ms_text_grammar.specs.Lexemes.{Lexeme, end_of_text, same_symbol}
use Rattle.ms_text_grammar.specs.Steps.{Rule, Verdict, next_symbol, word}
use Rattle.ms_text_grammar.specs.Texts.{ReadsUpTo}

-- the piece reads this value from the tokens and leaves the rest
pub record Takes {A : Type 0} (g : Rule A) (ts : List Lexeme) (a : A) (rest : List Lexeme) : Type 0 where
  pub reads : ReadsUpTo g ts a rest

pub given : {A : Type 0} {a : A} {ts : List Lexeme} → Takes (give a) ts a ts
given = record { reads = (refl, refl) }

pub taken : {A : Type 0} {f : Lexeme → Verdict A} {t : Lexeme} {ts : List Lexeme} {a : A} → f t ≡ Ok a → Takes (one f) (t ∷ ts) a ts
taken h = record { reads = (h, refl) }

pub seen : {A : Type 0} {f : Lexeme → Verdict A} {ts : List Lexeme} {a : A} → f (head end_of_text ts) ≡ Ok a → Takes (look f) ts a ts
seen h = record { reads = (h, refl) }

pub chain : {A B : Type 0} {g : Rule A} {h : A → Rule B} {ts mid rest : List Lexeme} {a : A} {b : B} → Takes g ts a mid → Takes (h a) mid b rest → Takes (seq g h) ts b rest
chain {mid = mid} {a = a} p q = record { reads = (a, mid, p.reads, q.reads) }

pub turned : {S : Type 0} {begins : S → Lexeme → Verdict Bool} {body : S → Lexeme → Rule S} {s next v : S} {t : Lexeme} {ts mid rest : List Lexeme}
    → begins s t ≡ Ok true → Takes (body s t) ts next mid → Takes (loop begins body next) mid v rest → Takes (loop begins body s) (t ∷ ts) v rest
turned {next = next} {mid = mid} h p q = record { reads = (suc q.reads.0, (h, next, mid, p.reads, q.reads.1)) }

pub ended : {S : Type 0} {begins : S → Lexeme → Verdict Bool} {body : S → Lexeme → Rule S} {s : S} {ts : List Lexeme}
    → begins s (head end_of_text ts) ≡ Ok false → Takes (loop begins body s) ts s ts
ended {ts = []} h = record { reads = (zero, (tt, refl, refl)) }
ended {ts = t ∷ ts} h = record { reads = (zero, (h, refl, refl)) }

-- what the next symbol decides
pub by_symbol : {B : Type 0} {h : Symbol → Rule B} {ts rest : List Lexeme} {b : B} (x : Symbol)
    → (head end_of_text ts).symbol ≡ x → Takes (h x) ts b rest → Takes (seq next_symbol h) ts b rest
by_symbol x e p = chain (seen (ap Ok e)) p

-- what a test decides
pub chosen : {A : Type 0} (b : Bool) (g h : Rule A) {ts rest : List Lexeme} {a : A} → b ≡ true → Takes g ts a rest → Takes (cond b g h) ts a rest
chosen true g h e p = p
chosen false g h e p = absurd cc

pub other : {A : Type 0} (b : Bool) (g h : Rule A) {ts rest : List Lexeme} {a : A} → b ≡ false → Takes h ts a rest → Takes (cond b g h) ts a rest
other false g h e p = p
other true g h e p = absurd cc

-- a token of this symbol
pub word_taken : {t : Lexeme} {ts : List Lexeme} (x : Symbol) → same_symbol x x ≡ true → t.symbol ≡ x → Takes (word x) (t ∷ ts) tt ts
unfolding word
word_taken x same e = taken (rw (e, same) refl)

-- tokens that are the same in another form
pub along : {A : Type 0} {g : Rule A} {ts us rest : List Lexeme} {a : A} → us ≡ ts → Takes g ts a rest → Takes g us a rest
along e p = rw e p
