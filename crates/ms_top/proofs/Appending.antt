-- Bytes appended to what a sink has written.
use Rattle.std.proofs.Math.Seq.{take-nil}
use Rattle.std.proofs.Common.{◌≡◌, ℕ, zero, suc, ◌+◌, ◌-◌, ◌≤◌, List, [], ◌∷◌, ◌++◌, take, drop, min, Option, Some, None, refl, ap, sym, ◌∙◌, append_assoc, zero-add, arith}
use Rattle.ms_io.specs.Writing.{with_appended, AppendsPrefix}

pub with_appended-twice : (w : Option (List ℕ)) (a b : List ℕ) → with_appended (with_appended w a) b ≡ with_appended w (a ++ b)
with_appended-twice None a b = refl
with_appended-twice (Some c) a b = ap Some (append_assoc c a b)

take-two : (i n : ℕ) (xs : List ℕ) → take i xs ++ take n (drop i xs) ≡ take (i + n) xs
take-two zero n xs = ap (λ k. take k xs) (sym (zero-add n))
take-two (suc i) n [] = take-nil n ∙ sym (take-nil (suc i + n))
take-two (suc i) n (x ∷ xs) =
    let e : suc i + n ≡ suc (i + n) = omega arith in ap (λ ys. x ∷ ys) (take-two i n xs) ∙ ap (λ k. take k (x ∷ xs)) (sym e)

take-to : (i j : ℕ) (xs : List ℕ) → i ≤ j → take i xs ++ take (j - i) (drop i xs) ≡ take j xs
take-to i j xs h = let e : i + (j - i) ≡ j = omega arith in take-two i (j - i) xs ∙ ap (λ k. take k xs) e

-- after the first i bytes of a text, those up to j
pub with_next : (w x y : Option (List ℕ)) (i j : ℕ) (text : List ℕ) → i ≤ j
    → x ≡ with_appended w (take i text) → y ≡ with_appended x (take (j - i) (drop i text)) → y ≡ with_appended w (take j text)
with_next w x y i j text o h k =
    k ∙ ap (λ z. with_appended z (take (j - i) (drop i text))) h ∙ with_appended-twice w (take i text) (take (j - i) (drop i text)) ∙ ap (with_appended w) (take-to i j text o)

take-take-min : (n p : ℕ) (xs : List ℕ) → take n (take p xs) ≡ take (min n p) xs
take-take-min zero p xs = let e : 0 ≡ min 0 p = omega arith in ap (λ k. take k xs) e
take-take-min (suc n) zero xs = let e : 0 ≡ min (suc n) 0 = omega arith in take-nil (suc n) ∙ ap (λ k. take k xs) e
take-take-min (suc n) (suc p) [] = take-nil (suc n) ∙ sym (take-nil (min (suc n) (suc p)))
take-take-min (suc n) (suc p) (x ∷ xs) =
    let e : min (suc n) (suc p) ≡ suc (min n p) = omega arith in ap (λ ys. x ∷ ys) (take-take-min n p xs) ∙ ap (λ k. take k (x ∷ xs)) (sym e)

-- after the first i bytes of a text, a first part of the next p
pub with_part : (w x y : Option (List ℕ)) (i p : ℕ) (text : List ℕ)
    → x ≡ with_appended w (take i text) → AppendsPrefix x y (take p (drop i text)) → AppendsPrefix w y text
with_part w x y i p text h k =
    let n : ℕ = min k.0 p in (
      i + n,
      k.1 ∙ ap (with_appended x) (take-take-min k.0 p (drop i text)) ∙ ap (λ z. with_appended z (take n (drop i text))) h
          ∙ with_appended-twice w (take i text) (take n (drop i text)) ∙ ap (with_appended w) (take-two i n text),
    )
