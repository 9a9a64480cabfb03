-- A phi fits its block exactly where its edges by numbers are those into the block's row, and agree.
use Rattle.std.proofs.Common.{◌≡◌, ℕ, zero, suc, List, [], ◌∷◌, ◌++◌, Bool, true, false, refl, sym, ap, subst, ◌∙◌, arith, true≢false, inl, inr}
use Rattle.std.specs.Prelude.{◌<◌, ◌+◌, ◌⊎◌, ◌||◌, not, nat_eq, cond, length, map, All, Some, slice_get, slice_index, slice_index_or}
use Rattle.std.specs.List.{list_all}
use Rattle.std.proofs.lemmas.Bool.{eq-eqb, eqb-true, and_parts}
use Rattle.std.proofs.lemmas.List.{length-map}
use Rattle.std.proofs.lemmas.List.Folds.{list_all-append}
use Rattle.std.proofs.lemmas.List.Sums.{sum_by-cons}
use Rattle.std.proofs.lemmas.Option.{none-some, same_Some, slice_get_within, get_or_from_slice_get}
use Rattle.ms_ir.specs.declared.syntax.Name.{Name}
use Rattle.ms_ir.specs.declared.syntax.Operand.{Operand}
use Rattle.ms_ir.specs.declared.syntax.Block.{Block}
use Rattle.ms_ir.specs.declared.syntax.Func.{Func}
use Rattle.ms_ir.specs.Names.{name_eq}
use Rattle.ms_ir.specs.Equal.{has_name, operand_eq}
use Rattle.ms_check_valid.specs.FlowGraph.{name_place}
use Rattle.ms_ir.specs.Locals.{block_names}
use Rattle.ms_ir.proofs.RootKinds.{name_same as name_sound}
use Rattle.ms_check_valid.specs.PhisFit.{count_name, edges_between, edges_agree, phi_fits}
use Rattle.ms_check_valid.proofs.NameTests.{name_same}
use Rattle.ms_check_flow.specs.Arriving.{arrivals}
use Rattle.ms_check_flow.specs.Counted.{count_of}
use Rattle.ms_check_flow.specs.Fitting.{Agree, FitsRow}
use Rattle.ms_check_flow.proofs.Arrived.{count_names, count_arrivals, counted_name, counted_block, from_known, has_at, block_known}
use Rattle.ms_check_flow.proofs.Counts.{one_if}
use Rattle.ms_check_flow.proofs.SameOperands.{both}
use Rattle.ms_check_valid.proofs.NamePlaces.{place_below, below_place, same_place}

-- ---- lists

-- a test that passes at each place passes throughout, and the other way round
all_pass : {A : Type 0} (p : A → Bool) (xs : List A) → ((k : ℕ) (x : A) → slice_get xs k ≡ Some x → p x ≡ true) → list_all p xs ≡ true
all_pass p [] h = refl
all_pass p (x ∷ xs) h = both (h 0 x refl) (all_pass p xs (λ k y e. h (suc k) y e))

passes_at : {A : Type 0} (p : A → Bool) (xs : List A) (k : ℕ) (x : A) → list_all p xs ≡ true → slice_get xs k ≡ Some x → p x ≡ true
passes_at p [] k x all e = absurd (none-some x e)
passes_at p (y ∷ xs) zero x all e = ap p (sym (same_Some y x e)) ∙ (and_parts (p y) (list_all p xs) all).0
passes_at p (y ∷ xs) (suc k) x all e = passes_at p xs k x (and_parts (p y) (list_all p xs) all).1 e

-- what stands at a place of a mapped list
map_at : {A B : Type 0} (h : A → B) (xs : List A) (k : ℕ) (x : A) → slice_get xs k ≡ Some x → slice_get (map h xs) k ≡ Some (h x)
map_at h [] k x e = absurd (none-some x e)
map_at h (y ∷ xs) zero x e = ap (λ z. Some (h z)) (same_Some y x e)
map_at h (y ∷ xs) (suc k) x e = map_at h xs k x e

from_map : {A B : Type 0} (h : A → B) (xs : List A) (k : ℕ) (y : B) → slice_get (map h xs) k ≡ Some y → (x : A) × (slice_get xs k ≡ Some x) × (h x ≡ y)
from_map h [] k y e = absurd (none-some y e)
from_map h (x ∷ xs) zero y e = (x, refl, same_Some (h x) y e)
from_map h (x ∷ xs) (suc k) y e = from_map h xs k y e

index_at : {A : Type 0} (h : A → ℕ) (xs : List A) (k : ℕ) (x : A) → slice_get xs k ≡ Some x → slice_index (map h xs) k ≡ h x
index_at h xs k x e = get_or_from_slice_get (map h xs) k (h x) 0 (map_at h xs k x e)

map_twice : (h : Name → ℕ) (edges : List (Operand × Name)) → map (λ e. h e.1) edges ≡ map h (map (λ e. e.1) edges)
map_twice h [] = refl
map_twice h (e ∷ edges) = ap (λ l. h e.1 ∷ l) (map_twice h edges)

-- ---- operands

-- edges that agree by their numbers do so by their names
agree_there : (number : Name → ℕ) (edges : List (Operand × Name)) → Agree edges (map (λ e. number e.1) edges) → edges_agree edges ≡ true
agree_there number [] agree = refl
agree_there number (e ∷ rest) agree =
    both
    (all_pass (λ d. not (name_eq d.1 e.1) || operand_eq d.0 e.0) rest
    (λ k d at. by_test d (name_eq d.1 e.1) refl (λ same. agree 0 (suc k) e d (omega arith) (omega (arith, slice_get_within rest k d at)) refl at
    (ap number (sym (name_sound d.1 e.1 same)) ∙ sym (index_at (λ c. number c.1) rest k d at)))))
    (agree_there number rest (λ i j a b l m p q same. agree (suc i) (suc j) a b (omega (arith, l)) (omega (arith, m)) p q same))
  where
    by_test : (d : Operand × Name) (t : Bool) → name_eq d.1 e.1 ≡ t → (name_eq d.1 e.1 ≡ true → operand_eq d.0 e.0 ≡ true) → (not t || operand_eq d.0 e.0) ≡ true
    by_test d true is holds = holds is
    by_test d false is holds = refl

-- and the other way round, where their names are known
agree_here : (names : List Name) (edges : List (Operand × Name)) → ((k : ℕ) (e : Operand × Name) → slice_get edges k ≡ Some e → has_name names e.1 ≡ true)
    → edges_agree edges ≡ true → (i j : ℕ) (e d : Operand × Name) → i < j → slice_get edges i ≡ Some e → slice_get edges j ≡ Some d
    → name_place names e.1 ≡ name_place names d.1 → operand_eq d.0 e.0 ≡ true
agree_here names [] known agree i j e d l p q same = absurd (none-some e p)
agree_here names (x ∷ rest) known agree zero zero e d l p q same = absurd (omega (arith, l))
agree_here names (x ∷ rest) known agree (suc i) zero e d l p q same = absurd (omega (arith, l))
agree_here names (x ∷ rest) known agree zero (suc j) e d l p q same =
    subst (λ z. operand_eq d.0 z.0 ≡ true) (same_Some x e p) (by_test (name_eq d.1 x.1) named tested)
  where
    tested : (not (name_eq d.1 x.1) || operand_eq d.0 x.0) ≡ true
    tested =
        passes_at (λ c. not (name_eq c.1 x.1) || operand_eq c.0 x.0) rest j d
        (and_parts (list_all (λ c. not (name_eq c.1 x.1) || operand_eq c.0 x.0) rest) (edges_agree rest) agree).0 q

    equal : d.1 ≡ x.1
    equal = same_place names x.1 d.1 (known 0 x refl) (sym same ∙ ap (λ z. name_place names z.1) (sym (same_Some x e p)))

    named : name_eq d.1 x.1 ≡ true
    named = ap (λ z. name_eq z x.1) equal ∙ name_same x.1

    by_test : (t : Bool) → t ≡ true → (not t || operand_eq d.0 x.0) ≡ true → operand_eq d.0 x.0 ≡ true
    by_test true is holds = holds
    by_test false is holds = absurd (true≢false (sym is))
agree_here names (x ∷ rest) known agree (suc i) (suc j) e d l p q same =
    agree_here names rest (λ k c at. known (suc k) c at)
    (and_parts (list_all (λ c. not (name_eq c.1 x.1) || operand_eq c.0 x.0) rest) (edges_agree rest) agree).1
    i j e d (omega (arith, l)) p q same

-- ---- phis

-- the number of a block of a function
abbrev pub number_in : Func → Name → ℕ
number_in f x = name_place (block_names f) x

-- the edges into a block
abbrev pub row_of : Func → Name → List ℕ
row_of f to = arrivals (number_in f) f.blocks (number_in f to)

-- a phi names a block as often as it has edges to the block `to`
abbrev pub names_rightly : Func → Name → List (Operand × Name) → Name → Bool
names_rightly f to edges from = nat_eq (count_name from (map (λ e. e.1) edges)) (edges_between f.blocks from to)

labels_counted : (f : Func) (edges : List (Operand × Name)) (x : Name) → has_name (block_names f) x ≡ true
    → count_of (number_in f x) (map (λ e. number_in f e.1) edges) ≡ count_name x (map (λ e. e.1) edges)
labels_counted f edges x known = ap (count_of (number_in f x)) (map_twice (number_in f) edges) ∙ count_names (block_names f) x known (map (λ e. e.1) edges)

row_counted : (f : Func) (to : Name) → has_name (block_names f) to ≡ true → (x : Name) → count_of (number_in f x) (row_of f to) ≡ edges_between f.blocks x to
row_counted f to there x = count_arrivals (block_names f) f.blocks (block_known f.blocks) x to there

labels_known : (f : Func) (edges : List (Operand × Name)) → All (λ n. n < length f.blocks) (map (λ e. number_in f e.1) edges)
    → (k : ℕ) (e : Operand × Name) → slice_get edges k ≡ Some e → has_name (block_names f) e.1 ≡ true
labels_known f edges all k e at =
    let is = index_at (λ (c : Operand × Name). number_in f c.1) edges k e at in
    let within : k < length (map (λ (c : Operand × Name). number_in f c.1) edges) =
    omega (arith, slice_get_within edges k e at, length-map edges (λ (c : Operand × Name). number_in f c.1)) in
    let low = all k 0 within in
    below_place (block_names f) e.1 (omega (arith, is, low, length-map f.blocks (λ (b : Block). b.name)))

pub fits_there : (f : Func) (to : Name) (edges : List (Operand × Name)) → has_name (block_names f) to ≡ true
    → FitsRow (block_names f) (length f.blocks) (row_of f to) edges → phi_fits f to edges ≡ true
fits_there f to edges there h =
    both
    (list_all-append (names_rightly f to edges) (map (λ e. e.1) edges) (block_names f)
    ∙ both
    (all_pass (names_rightly f to edges) (map (λ e. e.1) edges) (λ k x at.
    let e = from_map (λ (c : Operand × Name). c.1) edges k x at in
    equal x (subst (λ y. has_name (block_names f) y ≡ true) e.2 (labels_known f edges h.known k e.0 e.1))))
    (all_pass (names_rightly f to edges) (block_names f) (λ k x at. equal x (has_at (block_names f) k x at))))
    (agree_there (number_in f) edges h.agree)
  where
    equal : (x : Name) → has_name (block_names f) x ≡ true → names_rightly f to edges x ≡ true
    equal x known =
        eq-eqb (count_name x (map (λ e. e.1) edges)) (edges_between f.blocks x to)
        (sym (labels_counted f edges x known) ∙ h.counts (number_in f x) ∙ row_counted f to there x)

-- a list of names counts what stands at a place of it
named_counts : (xs : List Name) (k : ℕ) (x : Name) → slice_get xs k ≡ Some x → 0 < count_name x xs
named_counts [] k x e = absurd (none-some x e)
named_counts (y ∷ xs) zero x e =
    subst (λ n. 0 < n) (sym (sum_by-cons (λ z. cond (name_eq z x) 1 0) y xs))
    (subst (λ t. 0 < one_if t + count_name x xs) (sym (ap (λ z. name_eq z x) (same_Some y x e) ∙ name_same x)) (omega arith))
named_counts (y ∷ xs) (suc k) x e = omega (arith, named_counts xs k x e, sum_by-cons (λ z. cond (name_eq z x) 1 0) y xs)

at_below : {A : Type 0} (xs : List A) (k : ℕ) → k < length xs → (x : A) × (slice_get xs k ≡ Some x)
at_below [] k l = absurd (omega (arith, l))
at_below (x ∷ xs) zero l = (x, refl)
at_below (x ∷ xs) (suc k) l = at_below xs k (omega (arith, l))

none_or_some : (n : ℕ) → (n ≡ 0) ⊎ (0 < n)
none_or_some zero = inl refl
none_or_some (suc n) = inr (omega arith)

pub fits_here : (f : Func) (to : Name) (edges : List (Operand × Name)) → has_name (block_names f) to ≡ true
    → phi_fits f to edges ≡ true → FitsRow (block_names f) (length f.blocks) (row_of f to) edges
fits_here f to edges there fits = record {
  known = λ k d l. known_number k d l;
  counts = λ k. by_counts k (none_or_some (count_of k (map (λ e. number_in f e.1) edges))) (none_or_some (count_of k (row_of f to)));
  agree = λ i j e d l m p q same.
      agree_here (block_names f) edges (λ k c at. label_known k c.1 (map_at (λ (z : Operand × Name). z.1) edges k c at)) parts.1 i j e d l p q
      (sym (index_at (λ (c : Operand × Name). number_in f c.1) edges i e p) ∙ same ∙ index_at (λ (c : Operand × Name). number_in f c.1) edges j d q);
}
  where
    parts : (list_all (names_rightly f to edges) (map (λ e. e.1) edges ++ block_names f) ≡ true) × (edges_agree edges ≡ true)
    parts = and_parts (list_all (names_rightly f to edges) (map (λ e. e.1) edges ++ block_names f)) (edges_agree edges) fits

    sides : (list_all (names_rightly f to edges) (map (λ e. e.1) edges) ≡ true) × (list_all (names_rightly f to edges) (block_names f) ≡ true)
    sides =
        and_parts (list_all (names_rightly f to edges) (map (λ e. e.1) edges)) (list_all (names_rightly f to edges) (block_names f))
        (sym (list_all-append (names_rightly f to edges) (map (λ e. e.1) edges) (block_names f)) ∙ parts.0)

    rightly : (x : Name) → names_rightly f to edges x ≡ true → count_name x (map (λ e. e.1) edges) ≡ edges_between f.blocks x to
    rightly x e = eqb-true (count_name x (map (λ c. c.1) edges)) (edges_between f.blocks x to) e

    label_known : (k : ℕ) (x : Name) → slice_get (map (λ e. e.1) edges) k ≡ Some x → has_name (block_names f) x ≡ true
    label_known k x at =
        let some = named_counts (map (λ (e : Operand × Name). e.1) edges) k x at in
        let same = rightly x (passes_at (names_rightly f to edges) (map (λ e. e.1) edges) k x sides.0 at) in
        from_known f.blocks x to (omega (arith, some, same))

    known_number : (k d : ℕ) → k < length (map (λ e. number_in f e.1) edges) → slice_index_or (map (λ e. number_in f e.1) edges) k d < length f.blocks
    known_number k d l =
        let e = at_below edges k (omega (arith, l, length-map edges (λ (c : Operand × Name). number_in f c.1))) in
        let is = get_or_from_slice_get (map (λ (c : Operand × Name). number_in f c.1) edges) k (number_in f e.0.1) d
        (map_at (λ (c : Operand × Name). number_in f c.1) edges k e.0 e.1) in
        let below = place_below (block_names f) e.0.1 (label_known k e.0.1 (map_at (λ (c : Operand × Name). c.1) edges k e.0 e.1)) in
        omega (arith, is, below, length-map f.blocks (λ (b : Block). b.name))

    at_name : (x : Name) → has_name (block_names f) x ≡ true → names_rightly f to edges x ≡ true
        → count_of (number_in f x) (map (λ e. number_in f e.1) edges) ≡ count_of (number_in f x) (row_of f to)
    at_name x known e = labels_counted f edges x known ∙ rightly x e ∙ sym (row_counted f to there x)

    by_counts : (k : ℕ) → (count_of k (map (λ e. number_in f e.1) edges) ≡ 0) ⊎ (0 < count_of k (map (λ e. number_in f e.1) edges))
        → (count_of k (row_of f to) ≡ 0) ⊎ (0 < count_of k (row_of f to)) → count_of k (map (λ e. number_in f e.1) edges) ≡ count_of k (row_of f to)
    by_counts k (inl none) (inl nothing) = none ∙ sym nothing
    by_counts k (inr some) other =
        let x = counted_name (number_in f) k (map (λ (e : Operand × Name). e.1) edges) (subst (λ l. 0 < count_of k l) (map_twice (number_in f) edges) some) in
        subst (λ n. count_of n (map (λ e. number_in f e.1) edges) ≡ count_of n (row_of f to)) x.1.2
        (at_name x.1.0 (label_known x.0 x.1.0 x.1.1) (passes_at (names_rightly f to edges) (map (λ e. e.1) edges) x.0 x.1.0 sides.0 x.1.1))
    by_counts k (inl none) (inr some) =
        let b = counted_block (number_in f) k (number_in f to) f.blocks some in
        let at = map_at (λ (c : Block). c.name) f.blocks b.0 b.1.0 b.1.1 in
        subst (λ n. count_of n (map (λ e. number_in f e.1) edges) ≡ count_of n (row_of f to)) b.1.2
        (at_name b.1.0.name (has_at (block_names f) b.0 b.1.0.name at) (passes_at (names_rightly f to edges) (block_names f) b.0 b.1.0.name sides.1 at))
