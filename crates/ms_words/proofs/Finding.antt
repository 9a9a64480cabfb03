-- Loops that look for the first item of a list.
use Rattle.std.proofs.Common.{◌≡◌, ◌∙◌, ◌<◌, ℕ, suc, Bool, true, false, List, ◌∷◌, length, drop, Some, refl, sym, ap, drop-cons}
use Rattle.std.specs.List.{find, list_all, list_any, slice_index_or}

-- the item at which a loop stops is the first one
pub find_here : {X : Type 0} (p : X → Bool) (xs : List X) (i : ℕ) (x : X) → i < length xs → x ≡ slice_index_or xs i x → p x ≡ true
    → find p (drop i xs) ≡ find p xs → Some x ≡ find p xs
find_here p xs i x lt at hit same =
    let here : find p (x ∷ drop (suc i) xs) ≡ Some x = rw hit refl in
    sym here ∙ ap (λ y. find p (y ∷ drop (suc i) xs)) at ∙ sym (ap (find p) (drop-cons xs i x lt)) ∙ same

-- an item that a loop passes over
pub find_passed : {X : Type 0} (p : X → Bool) (xs : List X) (i : ℕ) (x : X) → i < length xs → x ≡ slice_index_or xs i x → p x ≡ false
    → find p (drop i xs) ≡ find p xs → find p (drop (suc i) xs) ≡ find p xs
find_passed p xs i x lt at miss same =
    let here : find p (x ∷ drop (suc i) xs) ≡ find p (drop (suc i) xs) = rw miss refl in
    sym here ∙ ap (λ y. find p (y ∷ drop (suc i) xs)) at ∙ sym (ap (find p) (drop-cons xs i x lt)) ∙ same

-- a test of all items, or of any, at an item that settles it
pub fails_here : {X : Type 0} (p : X → Bool) (xs : List X) (i : ℕ) (x : X) → i < length xs → x ≡ slice_index_or xs i x → p x ≡ false
    → list_all p (drop i xs) ≡ list_all p xs → false ≡ list_all p xs
fails_here p xs i x lt at miss same =
    let here : list_all p (x ∷ drop (suc i) xs) ≡ false = rw miss refl in
    sym here ∙ ap (λ y. list_all p (y ∷ drop (suc i) xs)) at ∙ sym (ap (list_all p) (drop-cons xs i x lt)) ∙ same

pub all_passed : {X : Type 0} (p : X → Bool) (xs : List X) (i : ℕ) (x : X) → i < length xs → x ≡ slice_index_or xs i x → p x ≡ true
    → list_all p (drop i xs) ≡ list_all p xs → list_all p (drop (suc i) xs) ≡ list_all p xs
all_passed p xs i x lt at hit same =
    let here : list_all p (x ∷ drop (suc i) xs) ≡ list_all p (drop (suc i) xs) = rw hit refl in
    sym here ∙ ap (λ y. list_all p (y ∷ drop (suc i) xs)) at ∙ sym (ap (list_all p) (drop-cons xs i x lt)) ∙ same

pub holds_here : {X : Type 0} (p : X → Bool) (xs : List X) (i : ℕ) (x : X) → i < length xs → x ≡ slice_index_or xs i x → p x ≡ true
    → list_any p (drop i xs) ≡ list_any p xs → true ≡ list_any p xs
holds_here p xs i x lt at hit same =
    let here : list_any p (x ∷ drop (suc i) xs) ≡ true = rw hit refl in
    sym here ∙ ap (λ y. list_any p (y ∷ drop (suc i) xs)) at ∙ sym (ap (list_any p) (drop-cons xs i x lt)) ∙ same

pub any_passed : {X : Type 0} (p : X → Bool) (xs : List X) (i : ℕ) (x : X) → i < length xs → x ≡ slice_index_or xs i x → p x ≡ false
    → list_any p (drop i xs) ≡ list_any p xs → list_any p (drop (suc i) xs) ≡ list_any p xs
any_passed p xs i x lt at miss same =
    let here : list_any p (x ∷ drop (suc i) xs) ≡ list_any p (drop (suc i) xs) = rw miss refl in
    sym here ∙ ap (λ y. list_any p (y ∷ drop (suc i) xs)) at ∙ sym (ap (list_any p) (drop-cons xs i x lt)) ∙ same
