-- Lists of numbers in which each number stands equally often.
use Rattle.std.proofs.Common.{◌≡◌, ℕ, suc, List, [], ◌∷◌, Bool, true, false, refl, sym, ap, subst, ◌∙◌, arith}
use Rattle.std.specs.Prelude.{◌<◌, ◌≤◌, ◌+◌, ◌↔◌, nat_eq, length, take, cond, if◌then◌else◌, slice_index, slice_index_or, IsTrue}
use Rattle.std.proofs.lemmas.Bool.{eq-eqb, eqb-true}
use Rattle.std.proofs.lemmas.List.{get_or_default}
use Rattle.std.proofs.lemmas.List.Sums.{sum_by-cons, sum_by-take-le, count_by_more_yes}
use Rattle.ms_check_flow.specs.Counted.{count_of}

-- one where two numbers are equal
abbrev pub one_if : Bool → ℕ
one_if t = cond t 1 0

pub count-cons : (k x : ℕ) (xs : List ℕ) → count_of k (x ∷ xs) ≡ one_if (nat_eq x k) + count_of k xs
count-cons k x xs = sum_by-cons (λ n. cond (nat_eq n k) 1 0) x xs

-- without the first that is equal to x
remove_one : ℕ → List ℕ → List ℕ
remove_one x [] = []
remove_one x (y ∷ ys) = if nat_eq y x then ys else y ∷ remove_one x ys

-- a list that has x has one more than without it
shorter : (x : ℕ) (ys : List ℕ) → 0 < count_of x ys → suc (length (remove_one x ys)) ≡ length ys
unfolding remove_one
shorter x [] l = grind arith
shorter x (y ∷ ys) l = by_test (nat_eq y x) (subst (λ n. 0 < n) (count-cons x y ys) l) (shorter x ys)
  where
    by_test : (t : Bool) → 0 < one_if t + count_of x ys → (0 < count_of x ys → suc (length (remove_one x ys)) ≡ length ys)
        → suc (length (if t then ys else y ∷ remove_one x ys)) ≡ suc (length ys)
    by_test true l later = refl
    by_test false l later = ap suc (later (omega (arith, l)))

-- and x once more often
rarer : (x : ℕ) (ys : List ℕ) → 0 < count_of x ys → (k : ℕ) → one_if (nat_eq x k) + count_of k (remove_one x ys) ≡ count_of k ys
unfolding remove_one
rarer x [] l k = grind arith
rarer x (y ∷ ys) l k = by_test (nat_eq y x) refl (subst (λ n. 0 < n) (count-cons x y ys) l) (λ h. rarer x ys h k) ∙ sym (count-cons k y ys)
  where
    by_test : (t : Bool) → nat_eq y x ≡ t → 0 < one_if t + count_of x ys → (0 < count_of x ys → one_if (nat_eq x k) + count_of k (remove_one x ys) ≡ count_of k ys)
        → one_if (nat_eq x k) + count_of k (if t then ys else y ∷ remove_one x ys) ≡ one_if (nat_eq y k) + count_of k ys
    by_test true e l later = ap (λ z. one_if (nat_eq z k) + count_of k ys) (sym (eqb-true y x e))
    by_test false e l later =
        let rest = later (omega (arith, l)) in
        omega (arith, rest, count-cons k y (remove_one x ys))

-- a list counts its head
counts_head : (x : ℕ) (xs : List ℕ) → 0 < count_of x (x ∷ xs)
counts_head x xs = subst (λ n. 0 < n) (sym (count-cons x x xs ∙ ap (λ t. one_if t + count_of x xs) (eq-eqb x x refl))) (omega arith)

-- what is left of the one is counted no more often in what is left of the other
left_over : (x : ℕ) (xs ys : List ℕ) → ((k : ℕ) → count_of k (x ∷ xs) ≤ count_of k ys) → (k : ℕ) → count_of k xs ≤ count_of k (remove_one x ys)
left_over x xs ys h k =
    let some : 0 < count_of x ys = omega (arith, counts_head x xs, h x) in
    omega (arith, h k, count-cons k x xs, rarer x ys some k)

-- a list that counts no number more often is no longer
pub no_longer : (xs ys : List ℕ) → ((k : ℕ) → count_of k xs ≤ count_of k ys) → length xs ≤ length ys
no_longer [] ys h = omega arith
no_longer (x ∷ xs) ys h =
    let some : 0 < count_of x ys = omega (arith, counts_head x xs, h x) in
    omega (arith, no_longer xs (remove_one x ys) (left_over x xs ys h), shorter x ys some)

-- and where it is no shorter either, both count each number equally often
pub all_counted : (xs ys : List ℕ) → ((k : ℕ) → count_of k xs ≤ count_of k ys) → length xs ≡ length ys → (k : ℕ) → count_of k xs ≡ count_of k ys
all_counted [] [] h e k = refl
all_counted [] (y ∷ ys) h e k = grind arith
all_counted (x ∷ xs) ys h e k =
    let some : 0 < count_of x ys = omega (arith, counts_head x xs, h x) in
    let len : length xs ≡ length (remove_one x ys) = omega (arith, e, shorter x ys some) in
    let rest = all_counted xs (remove_one x ys) (left_over x xs ys h) len k in
    omega (arith, rest, count-cons k x xs, rarer x ys some k)

-- lists that count each number equally often have one length
pub same_length : (xs ys : List ℕ) → ((k : ℕ) → count_of k xs ≡ count_of k ys) → length xs ≡ length ys
same_length xs ys h =
    let one = no_longer xs ys (λ k. omega (arith, h k)) in
    let other = no_longer ys xs (λ k. omega (arith, h k)) in
    omega (arith, one, other)

-- ---- counts in loops

-- a number is counted less often before one of its places than in all
pub counted_later : (xs : List ℕ) (i : ℕ) → i < length xs → count_of (slice_index xs i) (take i xs) < count_of (slice_index xs i) xs
counted_later xs i l =
    let more = count_by_more_yes (λ n. nat_eq n (slice_index xs i)) xs i 0 l (eq-eqb (slice_index xs i) (slice_index xs i) refl) in
    let part = sum_by-take-le (λ n. cond (nat_eq n (slice_index xs i)) 1 0) xs (i + 1) in
    omega (arith, more, part)

-- where each number of xs was taken off what counts ys, both count the same, and nothing is left
pub taken_all : (r : Bool) (xs ys : List ℕ) (before after : ℕ → ℕ) → ((k : ℕ) → before k ≡ count_of k ys)
    → (IsTrue r → (k : ℕ) → after k + count_of k xs ≡ before k) → (r ≡ false → (k : ℕ) × (before k < count_of k xs)) → length xs ≡ length ys
    → IsTrue r ↔ ((k : ℕ) → count_of k xs ≡ count_of k ys)
taken_all r xs ys before after counts enough short e = (there, by_result r short)
  where
    there : IsTrue r → (k : ℕ) → count_of k xs ≡ count_of k ys
    there t = all_counted xs ys (λ k. omega (arith, enough t k, counts k)) e

    by_result : (s : Bool) → (s ≡ false → (k : ℕ) × (before k < count_of k xs)) → ((k : ℕ) → count_of k xs ≡ count_of k ys) → IsTrue s
    by_result true none h = refl
    by_result false none h = let less = none refl in absurd (omega (arith, less.1, counts less.0, h less.0))

pub none_left : (xs ys : List ℕ) (before after : ℕ → ℕ) → ((k : ℕ) → before k ≡ count_of k ys) → ((k : ℕ) → after k + count_of k xs ≡ before k)
    → length xs ≡ length ys → (k : ℕ) → after k ≡ 0
none_left xs ys before after counts enough e k =
    let same = all_counted xs ys (λ j. omega (arith, enough j, counts j)) e k in
    omega (arith, same, enough k, counts k)

-- a list counts what stands at a place of it
pub counts_at : (xs : List ℕ) (i d : ℕ) → i < length xs → 0 < count_of (slice_index_or xs i d) xs
counts_at xs i d l = subst (λ n. 0 < count_of n xs) (get_or_default xs i 0 d l) (omega (arith, counted_later xs i l))
