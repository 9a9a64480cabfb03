-- Tests, and tests of the items of lists.
use Rattle.std.proofs.Common.{◌≡◌, ◌<◌, ◌≤◌, ◌⊎◌, inl, inr, ℕ, Bool, true, false, true≢false, ◌&&◌, ◌||◌, List, [], ◌∷◌, ◌++◌, refl, sym, ap, ◌∙◌, leb, ltb, arith}
use Rattle.std.specs.Prelude.{not}
use Rattle.std.specs.List.{list_all}
use Rattle.std.proofs.lemmas.Bool.{lt-ltb, le-ltb, le-leb, lt-leb}
use Rattle.ms_threads_schedules_laws.proofs.Branching.{three}

pub le_or_lt : (a b : ℕ) → (a ≤ b) ⊎ (b < a)
le_or_lt a b = at (three a b)
  where
    at : (a ≡ b) ⊎ ((a < b) ⊎ (b < a)) → (a ≤ b) ⊎ (b < a)
    at (inl e) = inl (omega (arith, e))
    at (inr (inl lt)) = inl (omega (arith, lt))
    at (inr (inr gt)) = inr gt

pub ltb_not : (a b : ℕ) → ltb a b ≡ not (leb b a)
ltb_not a b = at (le_or_lt b a)
  where
    at : (b ≤ a) ⊎ (a < b) → ltb a b ≡ not (leb b a)
    at (inl le) = le-ltb a b le ∙ sym (ap not (le-leb b a le))
    at (inr lt) = lt-ltb a b lt ∙ sym (ap not (lt-leb b a lt))

pub not_not : (b : Bool) → not (not b) ≡ b
not_not true = refl
not_not false = refl

pub or_not : (a b : Bool) → (not a || not b) ≡ not (a && b)
or_not true b = refl
or_not false b = refl

and_true : (b : Bool) → (b && true) ≡ b
and_true true = refl
and_true false = refl

and_assoc : (a b c : Bool) → (a && (b && c)) ≡ ((a && b) && c)
and_assoc true b c = refl
and_assoc false b c = refl

pub all_more : {X : Type 0} (p : X → Bool) (xs : List X) (x : X) → list_all p (xs ++ x ∷ []) ≡ (list_all p xs && p x)
all_more p [] x = and_true (p x)
all_more p (y ∷ xs) x = ap (λ b. p y && b) (all_more p xs x) ∙ and_assoc (p y) (list_all p xs) (p x)

pub or_cases : (a b : Bool) → (a || b) ≡ true → (a ≡ true) ⊎ (b ≡ true)
or_cases true b e = inl refl
or_cases false b e = inr e

pub neither : (a b : Bool) → (a || b) ≡ false → (a ≡ false) × (b ≡ false)
neither true b e = absurd (true≢false e)
neither false b e = (refl, e)
