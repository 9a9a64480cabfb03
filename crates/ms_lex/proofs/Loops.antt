-- One turn of a loop, and its end. As many turns as there are tokens are enough.
use Rattle.std.proofs.Common.{◌≡◌, ℕ, zero, suc, ◌≤◌, ◌<◌, Bool, true, false, List, [], ◌∷◌, length, Result, Ok, Err, refl, ap, arith}
use Rattle.ms_lex.specs.Grammar.{head, tail, Grammar, loop, Outcome, done, fails, and_then, turn, turns, run}
use Rattle.ms_lex.proofs.Exact.{shorter}

module _ {T E : Type 0} (end : T) where
  abbrev Same : {S : Type 0} → ℕ → (S → List T → Outcome T E S) → (S → List T → Outcome T E S) → Type 0
  Same {S} len f g = (s : S) (ts : List T) → length ts ≤ len → f s ts ≡ g s ts

  both : {S : Type 0} (r : Outcome T E S) (f g : S → List T → Outcome T E S) (len : ℕ) → Same len f g → ((v : S) (rest : List T) → r ≡ done v rest → length rest ≤ len) → and_then r f ≡ and_then r g
  both (done a ts) f g len same short = same a ts (short a ts refl)
  both (fails e ts) f g len same short = refl

  module _ {S : Type 0} (begins : S → T → Result Bool E) (read : S → T → List T → Outcome T E S)
      (short : (s : S) (t : T) (ts : List T) (v : S) (rest : List T) → read s t ts ≡ done v rest → length rest ≤ length ts) where
    -- more turns than tokens make no difference
    enough : (n m : ℕ) (s : S) (ts : List T) → length ts ≤ n → length ts ≤ m → turns begins read n s ts ≡ turns begins read m s ts
    enough zero zero s ts p q = refl
    enough zero (suc m) s [] p q = refl
    enough zero (suc m) s (t ∷ ts) p q = absurd (omega arith)
    enough (suc n) zero s [] p q = refl
    enough (suc n) zero s (t ∷ ts) p q = absurd (omega arith)
    enough (suc n) (suc m) s [] p q = refl
    enough (suc n) (suc m) s (t ∷ ts) p q = ap (λ r. turn (begins s t) r s (t ∷ ts))
        (both (read s t ts) (turns begins read n) (turns begins read m) (length ts) (λ s ts less. enough n m s ts (omega arith) (omega arith)) (short s t ts))

    goes_on : (s : S) (t : T) (ts : List T) → begins s t ≡ Ok true → turns begins read (length (t ∷ ts)) s (t ∷ ts) ≡ and_then (read s t ts) (λ s ts. turns begins read (length ts) s ts)
    goes_on s t ts h = rw h (both (read s t ts) (turns begins read (length ts)) (λ s ts. turns begins read (length ts) s ts) (length ts) (λ s ts less. enough _ _ s ts less (omega arith)) (short s t ts))

    ends : (s : S) (ts : List T) → begins s (head end ts) ≡ Ok false → turns begins read (length ts) s ts ≡ done s ts
    ends s [] h = refl
    ends s (t ∷ ts) h = rw h refl

  module _ {S : Type 0} (begins : S → T → Result Bool E) (body : S → T → Grammar T E S) where
    pub loop_goes : (s : S) (ts : List T) → 0 < length ts → begins s (head end ts) ≡ Ok true → run end (loop begins body s) ts ≡ and_then (run end (body s (head end ts)) (tail ts)) (λ s. run end (loop begins body s))
    loop_goes s [] some h = absurd (omega arith)
    loop_goes s (t ∷ ts) some h = goes_on begins (λ s t. run end (body s t)) (λ s t. shorter end (body s t)) s t ts h

    pub loop_ends : (s : S) (ts : List T) → begins s (head end ts) ≡ Ok false → run end (loop begins body s) ts ≡ done s ts
    loop_ends s ts h = ends begins (λ s t. run end (body s t)) (λ s t. shorter end (body s t)) s ts h

    pub loop_all : (s : S) (ts : List T) → length ts ≡ 0 → run end (loop begins body s) ts ≡ done s ts
    loop_all s [] none = refl
    loop_all s (t ∷ ts) none = absurd (omega arith)

    pub loop_stops : (s : S) (ts : List T) (e : E) → 0 < length ts → begins s (head end ts) ≡ Err e → run end (loop begins body s) ts ≡ fails e ts
    loop_stops s [] e some h = absurd (omega arith)
    loop_stops s (t ∷ ts) e some h = rw h refl

    pub loop_moves : (s : S) (ts : List T) (v : S) (mid : List T) → 0 < length ts → run end (body s (head end ts)) (tail ts) ≡ done v mid → length mid < length ts
    loop_moves s [] v mid some e = absurd (omega arith)
    loop_moves s (t ∷ ts) v mid some e = let less = shorter end (body s t) ts v mid e in omega arith

  pub after : {A B : Type 0} (r : Outcome T E A) (f : A → List T → Outcome T E B) (a : A) (mid : List T) → r ≡ done a mid → and_then r f ≡ f a mid
  after r f a mid e = rw e refl
