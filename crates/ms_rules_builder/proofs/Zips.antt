-- Operands beside types.
use Rattle.std.proofs.Common.{◌≡◌, List, [], ◌∷◌, refl, ap, map}
use Rattle.std.specs.List.{zip}

pub zip_of_map : {A B C : Type 0} (f : A → B) (xs : List A) (ys : List C) → map (λ (p : A × C). (f p.0, p.1)) (zip xs ys) ≡ zip (map f xs) ys
zip_of_map f [] ys = refl
zip_of_map f (x ∷ xs) [] = refl
zip_of_map f (x ∷ xs) (y ∷ ys) = ap (λ l. (f x, y) ∷ l) (zip_of_map f xs ys)
