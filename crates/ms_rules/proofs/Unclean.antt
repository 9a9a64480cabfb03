-- What is made for a value that has a number and isn't known to be clean, and what for another.
use Rattle.std.proofs.Common.{◌≡◌, ℕ, Bool, true, false, Option, Some, None, ap}
use Rattle.std.specs.Prelude.{if◌then◌else◌}

module _ {A : Type 0} (make : ℕ → A) (other : A) where
  -- where the number is asked for first
  pub number_first : (clean : Bool) (number unclean : Option ℕ) → unclean ≡ (if clean then None else number)
      → elim unclean as (λ _. A) [ Some v ↦ make v | None ↦ other ] ≡ elim number as (λ _. A) [ Some v ↦ if clean then other else make v | None ↦ other ]
  number_first true None unclean e = ap (λ o. elim o as (λ _. A) [ Some v ↦ make v | None ↦ other ]) e
  number_first true (Some v) unclean e = ap (λ o. elim o as (λ _. A) [ Some v ↦ make v | None ↦ other ]) e
  number_first false None unclean e = ap (λ o. elim o as (λ _. A) [ Some v ↦ make v | None ↦ other ]) e
  number_first false (Some v) unclean e = ap (λ o. elim o as (λ _. A) [ Some v ↦ make v | None ↦ other ]) e

  -- where it is asked first whether the value is clean
  pub clean_first : (clean : Bool) (number unclean : Option ℕ) → unclean ≡ (if clean then None else number)
      → elim unclean as (λ _. A) [ Some v ↦ make v | None ↦ other ] ≡ (if clean then other else elim number as (λ _. A) [ Some v ↦ make v | None ↦ other ])
  clean_first true number unclean e = ap (λ o. elim o as (λ _. A) [ Some v ↦ make v | None ↦ other ]) e
  clean_first false number unclean e = ap (λ o. elim o as (λ _. A) [ Some v ↦ make v | None ↦ other ]) e
