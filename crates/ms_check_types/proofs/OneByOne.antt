-- The operands of an instruction, one by one.
use Rattle.std.proofs.Common.{◌≡◌, ℕ, zero, suc, ◌+◌, ◌≤◌, List, [], ◌∷◌, map, length, Bool, true, false, Option, Some, None, refl, sym, ap, ◌∙◌, drop, drop_of_length-le, add-one}
use Rattle.std.specs.Prelude.{◌&&◌, slice_get, if◌then◌else◌}
use Rattle.std.specs.List.{list_all}
use Rattle.std.proofs.lemmas.Option.{same_Some, none-some}
use Rattle.ms_ir.specs.declared.syntax.Ty.{Ty}
use Rattle.ms_ir.specs.declared.syntax.Operand.{Operand}
use Rattle.ms_check_valid.specs.TypesAgree.{first_misfit}
use Rattle.ms_check_types.specs.Typed.{holds_at}

-- ---- an operand with its type

pub typed_there : (xs : List (Ty × Operand)) (k : ℕ) (t : Ty) (o : Operand) → Some t ≡ slice_get (map (λ x. x.0) xs) k → Some o ≡ slice_get (map (λ x. x.1) xs) k → Some (t, o) ≡ slice_get xs k
typed_there [] k t o a b = absurd (none-some t (sym a))
typed_there (x ∷ xs) zero t o a b = λ i. Some (same_Some t x.0 a i, same_Some o x.1 b i)
typed_there (x ∷ xs) (suc k) t o a b = typed_there xs k t o a b

pub untyped : (xs : List (Ty × Operand)) (k : ℕ) → None ≡ slice_get (map (λ x. x.0) xs) k → None ≡ slice_get xs k
untyped [] k e = refl
untyped (x ∷ xs) zero e = absurd (none-some x.0 e)
untyped (x ∷ xs) (suc k) e = untyped xs k e

pub unheld : (xs : List (Ty × Operand)) (k : ℕ) → None ≡ slice_get (map (λ x. x.1) xs) k → None ≡ slice_get xs k
unheld [] k e = refl
unheld (x ∷ xs) zero e = absurd (none-some x.1 e)
unheld (x ∷ xs) (suc k) e = unheld xs k e

-- ---- a test of each

module _ {A : Type 0} (test : A → Bool) where
  all_step : (xs : List A) (k : ℕ) → list_all test (drop k xs) ≡ (holds_at test (slice_get xs k) && list_all test (drop (suc k) xs))
  all_step [] zero = refl
  all_step [] (suc k) = refl
  all_step (x ∷ xs) zero = refl
  all_step (x ∷ xs) (suc k) = all_step xs k

  pub all_on : (xs : List A) (k : ℕ) (whole : Bool) → holds_at test (slice_get xs k) ≡ true → list_all test (drop k xs) ≡ whole → list_all test (drop (k + 1) xs) ≡ whole
  all_on xs k whole ok inv =
      ap (λ n. list_all test (drop n xs)) (add-one k) ∙ sym (all_step xs k ∙ ap (λ b. b && list_all test (drop (suc k) xs)) ok) ∙ inv

  pub all_stop : (xs : List A) (k : ℕ) (whole : Bool) → holds_at test (slice_get xs k) ≡ false → list_all test (drop k xs) ≡ whole → false ≡ whole
  all_stop xs k whole bad inv = sym (all_step xs k ∙ ap (λ b. b && list_all test (drop (suc k) xs)) bad) ∙ inv

  pub all_done : (xs : List A) (k : ℕ) (whole : Bool) → length xs ≤ k → list_all test (drop k xs) ≡ whole → true ≡ whole
  all_done xs k whole done inv = sym (ap (list_all test) (drop_of_length-le xs done)) ∙ inv

-- ---- the first operand that doesn't fit

module _ (fits : Ty × Operand → Bool) where
  misfit_step : (n : ℕ) (xs : List (Ty × Operand)) (k : ℕ) → first_misfit fits n (drop k xs) ≡ (if holds_at fits (slice_get xs k) then first_misfit fits (suc n) (drop (suc k) xs) else Some n)
  misfit_step n [] zero = refl
  misfit_step n [] (suc k) = refl
  misfit_step n (x ∷ xs) zero = refl
  misfit_step n (x ∷ xs) (suc k) = misfit_step n xs k

  pub misfit_on : (xs : List (Ty × Operand)) (k : ℕ) (whole : Option ℕ) → holds_at fits (slice_get xs k) ≡ true → first_misfit fits k (drop k xs) ≡ whole → first_misfit fits (k + 1) (drop (k + 1) xs) ≡ whole
  misfit_on xs k whole ok inv =
      ap (λ n. first_misfit fits n (drop n xs)) (add-one k)
      ∙ sym (misfit_step k xs k ∙ ap (λ b. if b then first_misfit fits (suc k) (drop (suc k) xs) else Some k) ok) ∙ inv

  pub misfit_here : (xs : List (Ty × Operand)) (k : ℕ) (whole : Option ℕ) → holds_at fits (slice_get xs k) ≡ false → first_misfit fits k (drop k xs) ≡ whole → Some k ≡ whole
  misfit_here xs k whole bad inv =
      sym (misfit_step k xs k ∙ ap (λ b. if b then first_misfit fits (suc k) (drop (suc k) xs) else Some k) bad) ∙ inv

  pub misfit_none : (xs : List (Ty × Operand)) (k : ℕ) (whole : Option ℕ) → length xs ≤ k → first_misfit fits k (drop k xs) ≡ whole → None ≡ whole
  misfit_none xs k whole done inv = sym (ap (first_misfit fits k) (drop_of_length-le xs done)) ∙ inv
