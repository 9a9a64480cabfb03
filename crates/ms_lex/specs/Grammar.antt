-- A grammar as data, and what it means: which tokens it reads, and where it stops and why.
-- `T` is the type of tokens, `R` that of reasons to stop, and `end` stands for the token after the last one.
use Rattle.std.specs.Prelude.{◌≡◌, ◌≢◌, ◌⊎◌, ℕ, zero, suc, Bool, true, false, List, [], ◌∷◌, length, Result, Ok, Err}

-- the next token
abbrev pub head : {T : Type 0} → T → List T → T
head end [] = end
head end (t ∷ ts) = t

-- the tokens after the next one
abbrev pub tail : {T : Type 0} → List T → List T
tail [] = []
tail (t ∷ ts) = ts

-- The pieces that a grammar is made of. A token is judged by itself and by what was read before it.
pub data Grammar (T R : Type 0) : Type 0 → Type 1 where
  -- no token: this value
  give : {A : Type 0} → A → Grammar T R A
  -- one token, which is taken
  one : {A : Type 0} → (T → Result A R) → Grammar T R A
  -- the next token is looked at, and not taken
  look : {A : Type 0} → (T → Result A R) → Grammar T R A
  -- one piece after another
  seq : {A B : Type 0} → Grammar T R A → (A → Grammar T R B) → Grammar T R B
  -- turn after turn, as long as the next token begins one, which then takes that token
  loop : {S : Type 0} → (S → T → Result Bool R) → (S → T → Grammar T R S) → S → Grammar T R S

-- ---- What a grammar reads: a value, from the tokens up to a rest

-- no further turn begins
abbrev pub Ends : {T R S : Type 0} → (S → T → Result Bool R) → S → List T → Type 0
Ends begins s [] = Unit {0}
Ends begins s (t ∷ ts) = begins s t ≡ Ok false

-- so many turns, each of which reads what `TurnReads` says
abbrev pub Turns : {T R S : Type 0} → (S → T → Result Bool R) → (S → T → List T → S → List T → Type 0) → ℕ → S → List T → S → List T → Type 0
Turns begins TurnReads zero s ts v rest = Ends begins s ts × (v ≡ s) × (rest ≡ ts)
Turns begins TurnReads (suc n) s [] v rest = ⊥
Turns {T} {R} {S} begins TurnReads (suc n) s (t ∷ ts) v rest =
    (begins s t ≡ Ok true) × (next : S) × (mid : List T) × TurnReads s t ts next mid × Turns begins TurnReads n next mid v rest

-- the grammar reads this value from the tokens and leaves the rest
abbrev pub Reads : {T R A : Type 0} → T → Grammar T R A → List T → A → List T → Type 0
Reads end (give a) ts v rest = (v ≡ a) × (rest ≡ ts)
Reads end (one f) ts v rest = (f (head end ts) ≡ Ok v) × (rest ≡ tail ts)
Reads end (look f) ts v rest = (f (head end ts) ≡ Ok v) × (rest ≡ ts)
Reads {T} end (seq {A = X} g h) ts v rest = (a : X) × (mid : List T) × Reads end g ts a mid × Reads end (h a) mid v rest
Reads end (loop begins body s) ts v rest = (n : ℕ) × Turns begins (λ s t. Reads end (body s t)) n s ts v rest

-- ---- Where a grammar stops: at the first token of a rest, for a reason

-- so many turns are read, and the next one stops
abbrev pub TurnStops : {T R S : Type 0} → (S → T → Result Bool R) → (S → T → List T → S → List T → Type 0) → (S → T → List T → R → List T → Type 0) → ℕ → S → List T → R → List T → Type 0
TurnStops begins TurnReads Stop n s [] e rest = ⊥
TurnStops begins TurnReads Stop zero s (t ∷ ts) e rest =
    ((begins s t ≡ Err e) × (rest ≡ t ∷ ts)) ⊎ ((begins s t ≡ Ok true) × Stop s t ts e rest)
TurnStops {T} {R} {S} begins TurnReads Stop (suc n) s (t ∷ ts) e rest =
    (begins s t ≡ Ok true) × (next : S) × (mid : List T) × TurnReads s t ts next mid × TurnStops begins TurnReads Stop n next mid e rest

-- the tokens before the rest are pieces of the grammar as far as they go, and its first token can't stand there
abbrev pub Stops : {T R A : Type 0} → T → Grammar T R A → List T → R → List T → Type 0
Stops end (give a) ts e rest = ⊥
Stops end (one f) ts e rest = (f (head end ts) ≡ Err e) × (rest ≡ ts)
Stops end (look f) ts e rest = (f (head end ts) ≡ Err e) × (rest ≡ ts)
Stops {T} end (seq {A = X} g h) ts e rest =
    Stops end g ts e rest ⊎ ((a : X) × (mid : List T) × Reads end g ts a mid × Stops end (h a) mid e rest)
Stops end (loop begins body s) ts e rest =
    (n : ℕ) × TurnStops begins (λ s t. Reads end (body s t)) (λ s t. Stops end (body s t)) n s ts e rest

-- ---- Reading as a function

pub data Outcome (T R A : Type 0) : Type 0 where
  -- a value, and the tokens after it
  done : A → List T → Outcome T R A
  -- why the first of these tokens can't stand where it stands
  fails : R → List T → Outcome T R A

abbrev pub and_then : {T R A B : Type 0} → Outcome T R A → (A → List T → Outcome T R B) → Outcome T R B
and_then (done a ts) f = f a ts
and_then (fails e ts) f = fails e ts

abbrev pub judged : {T R A : Type 0} → Result A R → List T → List T → Outcome T R A
judged (Ok a) ts rest = done a rest
judged (Err e) ts rest = fails e ts

abbrev pub turn : {T R A : Type 0} → Result Bool R → Outcome T R A → A → List T → Outcome T R A
turn (Ok true) goes_on a ts = goes_on
turn (Ok false) goes_on a ts = done a ts
turn (Err e) goes_on a ts = fails e ts

-- at most so many turns
abbrev pub turns : {T R S : Type 0} → (S → T → Result Bool R) → (S → T → List T → Outcome T R S) → ℕ → S → List T → Outcome T R S
turns begins read zero s ts = done s ts
turns begins read (suc n) s [] = done s []
turns begins read (suc n) s (t ∷ ts) = turn (begins s t) (and_then (read s t ts) (turns begins read n)) s (t ∷ ts)

-- what the grammar makes of the tokens
abbrev pub run : {T R A : Type 0} → T → Grammar T R A → List T → Outcome T R A
run end (give a) ts = done a ts
run end (one f) ts = judged (f (head end ts)) ts (tail ts)
run end (look f) ts = judged (f (head end ts)) ts ts
run end (seq g h) ts = and_then (run end g ts) (λ a. run end (h a))
run end (loop begins body s) ts = turns begins (λ s t. run end (body s t)) (length ts) s ts

infixl 10 ◌>>=◌
abbrev pub ◌>>=◌ : {T R A B : Type 0} → Grammar T R A → (A → Grammar T R B) → Grammar T R B
g >>= h = seq g h

infixl 10 ◌>>◌
abbrev pub ◌>>◌ : {T R A B : Type 0} → Grammar T R A → Grammar T R B → Grammar T R B
g >> h = seq g (λ _. h)

-- ---- What a function that reads ensures

-- What it returned, and the tokens that it left, are this outcome. Only running out of memory, for which one reason stands, is free.
abbrev pub Gives : {T R A : Type 0} → R → Outcome T R A → Result A R → List T → Type 0
Gives no_memory outcome (Ok a) left = outcome ≡ done a left
Gives no_memory outcome (Err e) left = e ≢ no_memory → outcome ≡ fails e left

-- It returned a value exactly where the grammar reads one, and a reason exactly where the grammar stops, unless memory ran out.
abbrev pub Exactly : {T R A : Type 0} → T → R → Grammar T R A → List T → Result A R → List T → Type 0
Exactly end no_memory g ts (Ok a) left = Reads end g ts a left
Exactly end no_memory g ts (Err e) left = e ≢ no_memory → Stops end g ts e left
