-- The first fault of a list, one part after the other.
use Rattle.std.proofs.Common.{◌≡◌, ◌<◌, ℕ, ◌+◌, List, [], ◌∷◌, ◌++◌, Option, Some, None, refl, sym, ap, ◌∙◌, length, drop, get_or, Bool, true, false}
use Rattle.std.specs.Prelude.{flat_map, slice_get}
use Rattle.std.proofs.lemmas.Option.{none-some}
use Rattle.ms_ir.specs.declared.syntax.Name.{Name}
use Rattle.ms_ir.proofs.Sizes.{drop_next}
use Rattle.ms_check_valid.specs.SizesFit.{spelled_unless}

-- the first of items, from a place on
abbrev pub first_from : {A B : Type 0} → (A → List B) → List A → ℕ → Option B
first_from g xs i = slice_get (flat_map g (drop i xs)) 0

pub fault_after : {A B : Type 0} (g : A → List B) (xs : List A) (i : ℕ) (x : A) (whole : Option B) → i < length xs → x ≡ get_or xs i x → g x ≡ []
    → first_from g xs i ≡ whole → first_from g xs (i + 1) ≡ whole
fault_after g xs i x whole l is none h =
    ap (λ f. slice_get (f ++ flat_map g (drop (i + 1) xs)) 0) (sym none) ∙ ap (λ ys. slice_get (flat_map g ys) 0) (sym (drop_next xs i x l is)) ∙ h

pub fault_here : {A B : Type 0} (g : A → List B) (xs : List A) (i : ℕ) (x : A) (y : B) (whole : Option B) → i < length xs → x ≡ get_or xs i x → g x ≡ y ∷ []
    → first_from g xs i ≡ whole → Some y ≡ whole
fault_here g xs i x y whole l is some h =
    ap (λ f. slice_get (f ++ flat_map g (drop (i + 1) xs)) 0) (sym some) ∙ ap (λ ys. slice_get (flat_map g ys) 0) (sym (drop_next xs i x l is)) ∙ h

-- a name that isn't spelled, and one that is
pub not_spelled : (holds : Bool) (global : Bool) (x : Name) → holds ≡ true → spelled_unless holds global x ≡ []
not_spelled holds global x h = ap (λ b. spelled_unless b global x) h

pub is_spelled : (holds : Bool) (global : Bool) (x : Name) → holds ≡ false → spelled_unless holds global x ≡ record { global = global; name = x } ∷ []
is_spelled holds global x h = ap (λ b. spelled_unless b global x) h

-- the first of two lists, one after the other
pub first_of_two : {B : Type 0} (xs ys : List B) → slice_get xs 0 ≡ None → slice_get (xs ++ ys) 0 ≡ slice_get ys 0
first_of_two [] ys h = refl
first_of_two (x ∷ xs) ys h = absurd (none-some x (sym h))

pub first_of_first : {B : Type 0} (xs ys : List B) (y : B) → slice_get xs 0 ≡ Some y → slice_get (xs ++ ys) 0 ≡ Some y
first_of_first [] ys y h = absurd (none-some y h)
first_of_first (x ∷ xs) ys y h = h
