-- Of few calls all are printed, and so are few places; lines are added in parts.
use Rattle.std.proofs.Common.{◌≡◌, ◌≤◌, ◌++◌, ◌∙◌, ℕ, List, length, take, sym, ap, append_assoc}
use Rattle.std.specs.Prelude.{Result, Ok, Err, IfOk}
use Rattle.std.proofs.lemmas.List.{take_all}
use Rattle.ms_runs.specs.declared.runs.BlindPlace.{BlindPlace}

pub all_taken : (n : ℕ) (sites : List ℕ) → length sites ≤ n → sites ≡ take n sites
all_taken n sites few = sym (take_all n sites few)

pub all_shown : (n : ℕ) (places : List BlindPlace) → length places ≤ n → places ≡ take n places
all_shown n places few = sym (take_all n places few)

pub two_added : (old x y t u : List ℕ) → t ≡ old ++ x → u ≡ t ++ y → u ≡ old ++ (x ++ y)
two_added old x y t u first second = second ∙ ap (λ (a : List ℕ). a ++ y) first ∙ append_assoc old x y

pub three_added : (old x y z t u v : List ℕ) → t ≡ old ++ x → u ≡ t ++ y → v ≡ u ++ z → v ≡ old ++ (x ++ y ++ z)
three_added old x y z t u v first second third =
    third ∙ ap (λ (a : List ℕ). a ++ z) (second ∙ ap (λ (a : List ℕ). a ++ y) first ∙ append_assoc old x y) ∙ append_assoc old (x ++ y) z

pub if_pushed : {A E : Type 0} {P Q : Type 0} (r : Result A E) → (P → Q) → IfOk r (λ a. P) → IfOk r (λ a. Q)
if_pushed (Ok a) f h = f h
if_pushed (Err e) f h = tt
