-- Searches in lists of which at most one place can pass a test.
use Rattle.std.proofs.Common.{◌≡◌, ℕ, zero, suc, ◌<◌, ◌≢◌, Bool, true, false, cond, List, [], ◌∷◌, length, get_or, set, map, arith, refl, ap, ◌∙◌, if◌then◌else◌, Some, None}
use Rattle.std.specs.List.{find, filter}
use Rattle.ms_alloc.specs.Only.{IsOnly}

pub find-none : {X : Type 0} (p : X → Bool) (xs : List X) → ((i : ℕ) (d : X) → i < length xs → p (get_or xs i d) ≡ false) → find p xs ≡ None
find-none p [] h = refl
find-none p (x ∷ xs) h = ap (λ b. cond b (Some x) (find p xs)) (h zero x (omega arith)) ∙ find-none p xs (λ i d l. h (suc i) d (omega arith))

-- where every place but one fails the test
pub find-only : {X : Type 0} (p : X → Bool) (xs : List X) (j : ℕ) (d : X) → j < length xs → ((i : ℕ) (e : X) → i < length xs → i ≢ j → p (get_or xs i e) ≡ false) → find p xs ≡ cond (p (get_or xs j d)) (Some (get_or xs j d)) None
find-only p [] j d l h = absurd (omega arith)
find-only p (x ∷ xs) zero d l h = ap (λ r. cond (p x) (Some x) r) (find-none p xs (λ i e m. h (suc i) e (omega arith) (λ q. omega arith)))
find-only p (x ∷ xs) (suc j) d l h =
    ap (λ b. cond b (Some x) (find p xs)) (h zero x (omega arith) (λ q. omega arith))
    ∙ find-only p xs j d (omega arith) (λ i e m n. h (suc i) e (omega arith) (λ q. n (omega arith)))

-- a change at the one place that passes
pub map-none : {X : Type 0} (p : X → Bool) (f : X → X) (xs : List X) → ((i : ℕ) (d : X) → i < length xs → p (get_or xs i d) ≡ false) → map (λ x. if p x then f x else x) xs ≡ xs
map-none p f [] h = refl
map-none p f (x ∷ xs) h =
    ap (λ b. (if b then f x else x) ∷ map (λ x. if p x then f x else x) xs) (h zero x (omega arith))
    ∙ ap (λ r. x ∷ r) (map-none p f xs (λ i d l. h (suc i) d (omega arith)))

pub map-only : {X : Type 0} (p : X → Bool) (f : X → X) (xs : List X) (j : ℕ) (d : X) → j < length xs → ((i : ℕ) (e : X) → i < length xs → i ≢ j → p (get_or xs i e) ≡ false) → p (get_or xs j d) ≡ true → map (λ x. if p x then f x else x) xs ≡ set xs j (f (get_or xs j d))
map-only p f [] j d l h t = absurd (omega arith)
map-only p f (x ∷ xs) zero d l h t =
    ap (λ b. (if b then f x else x) ∷ map (λ x. if p x then f x else x) xs) t
    ∙ ap (λ r. f x ∷ r) (map-none p f xs (λ i e m. h (suc i) e (omega arith) (λ q. omega arith)))
map-only p f (x ∷ xs) (suc j) d l h t =
    ap (λ b. (if b then f x else x) ∷ map (λ x. if p x then f x else x) xs) (h zero x (omega arith) (λ q. omega arith))
    ∙ ap (λ r. x ∷ r) (map-only p f xs j d (omega arith) (λ i e m n. h (suc i) e (omega arith) (λ q. n (omega arith))) t)

pub filter-all : {X : Type 0} (p : X → Bool) (xs : List X) → ((i : ℕ) (d : X) → i < length xs → p (get_or xs i d) ≡ true) → filter p xs ≡ xs
filter-all p [] h = refl
filter-all p (x ∷ xs) h =
    ap (λ b. cond b (x ∷ filter p xs) (filter p xs)) (h zero x (omega arith))
    ∙ ap (λ r. x ∷ r) (filter-all p xs (λ i d l. h (suc i) d (omega arith)))

-- the one place that passes is what a search finds
pub find-at : {X : Type 0} (p : X → Bool) (xs : List X) (i : ℕ) (d : X) → IsOnly p xs i → find p xs ≡ Some (get_or xs i d)
find-at p xs i d o = find-only p xs i d o.within o.others ∙ ap (λ (b : Bool). cond b (Some (get_or xs i d)) None) (o.passes d)
