-- A list of bytes that is written in two parts to the front of a longer one.
use Rattle.std.proofs.Common.{◌≡◌, ℕ, ◌+◌, List, ◌++◌, length, take, refl, sym, ap, ◌∙◌, append_assoc}
use Rattle.std.proofs.lemmas.List.{take_at, length-append}

parts : (xs ys zs rest : List ℕ) → take (length xs + length ys) (take (length xs) (xs ++ zs) ++ (ys ++ rest)) ≡ xs ++ ys
parts xs ys zs rest =
    ap (λ (l : List ℕ). take (length xs + length ys) (l ++ (ys ++ rest))) (take_at xs zs (length xs) refl)
    ∙ ap (take (length xs + length ys)) (sym (append_assoc xs ys rest))
    ∙ take_at (xs ++ ys) rest (length xs + length ys) (length-append xs ys)

-- the front holds both parts, one after the other
pub both_parts : (xs ys first second zs rest : List ℕ) → first ≡ xs → second ≡ ys → take (length xs + length ys) (take (length xs) (first ++ zs) ++ (second ++ rest)) ≡ xs ++ ys
both_parts xs ys first second zs rest is_first is_second = rw (is_first, is_second) (parts xs ys zs rest)
