-- The edges into a block by numbers are those that its phis have to name.
use Rattle.std.proofs.Common.{◌≡◌, ℕ, zero, suc, List, [], ◌∷◌, ◌++◌, Bool, true, false, refl, sym, ap, subst, ◌∙◌, arith}
use Rattle.std.specs.Prelude.{◌<◌, ◌+◌, ◌||◌, nat_eq, cond, length, map, All, Some, slice_get, slice_index_or, if◌then◌else◌}
use Rattle.std.proofs.Math.Path.{ap₂}
use Rattle.std.proofs.lemmas.Bool.{eqb-true}
use Rattle.std.proofs.lemmas.List.{length-map}
use Rattle.std.proofs.lemmas.List.Concat.{flat_map-cons}
use Rattle.std.proofs.lemmas.List.Sums.{sum_by-cons, sum_by-append}
use Rattle.std.proofs.lemmas.Option.{none-some, same_Some}
use Rattle.ms_ir.specs.declared.syntax.Name.{Name}
use Rattle.ms_ir.specs.declared.syntax.Block.{Block}
use Rattle.ms_ir.specs.Names.{name_eq}
use Rattle.ms_ir.specs.Equal.{has_name}
use Rattle.ms_check_valid.specs.FlowGraph.{name_place}
use Rattle.ms_check_valid.specs.PhisFit.{count_name, edges_between}
use Rattle.ms_ir.specs.Written.{block_targets}
use Rattle.ms_check_valid.proofs.NameTests.{name_same}
use Rattle.ms_check_flow.specs.Counted.{count_of}
use Rattle.ms_check_flow.specs.Arriving.{edges_to, arrivals}
use Rattle.ms_check_flow.proofs.Counts.{one_if, count-cons, counts_at}
use Rattle.ms_check_valid.proofs.NamePlaces.{place_below, same_number, same_number_left}

-- a number where a test passes
abbrev pub keep : Bool → ℕ → ℕ
keep t n = cond t n 0

keep_sum : (t : Bool) (a b : ℕ) → keep t a + keep t b ≡ keep t (a + b)
keep_sum true a b = refl
keep_sum false a b = refl

keep_none : (t : Bool) → 0 ≡ keep t 0
keep_none true = refl
keep_none false = refl

count-append : (k : ℕ) (xs ys : List ℕ) → count_of k (xs ++ ys) ≡ count_of k xs + count_of k ys
count-append k xs ys = sum_by-append (λ n. cond (nat_eq n k) 1 0) xs ys

-- ---- counts of edges

count_edge : (k from : ℕ) (t : Bool) → count_of k (if t then from ∷ [] else []) ≡ keep (nat_eq from k) (one_if t)
count_edge k from true = count-cons k from [] ∙ by_test (nat_eq from k)
  where
    by_test : (b : Bool) → one_if b + 0 ≡ keep b 1
    by_test true = refl
    by_test false = refl
count_edge k from false = keep_none (nat_eq from k)

count_targets : (k from to : ℕ) (ts : List ℕ) → count_of k (edges_to from ts to) ≡ keep (nat_eq from k) (count_of to ts)
count_targets k from to [] = keep_none (nat_eq from k)
count_targets k from to (t ∷ ts) =
    ap (count_of k) (flat_map-cons (λ (u : ℕ). if nat_eq u to then from ∷ [] else []) t ts)
    ∙ count-append k (if nat_eq t to then from ∷ [] else []) (edges_to from ts to)
    ∙ ap₂ (λ a b. a + b) (count_edge k from (nat_eq t to)) (count_targets k from to ts)
    ∙ keep_sum (nat_eq from k) (one_if (nat_eq t to)) (count_of to ts)
    ∙ ap (keep (nat_eq from k)) (sym (count-cons to t ts))

-- a known name's number stands among numbers of names as often as the name among these
pub count_names : (names : List Name) (x : Name) → has_name names x ≡ true → (ts : List Name) → count_of (name_place names x) (map (name_place names) ts) ≡ count_name x ts
count_names names x known [] = refl
count_names names x known (t ∷ ts) =
    count-cons (name_place names x) (name_place names t) (map (name_place names) ts)
    ∙ ap₂ (λ b n. one_if b + n) (same_number names x t known) (count_names names x known ts)
    ∙ sym (sum_by-cons (λ y. cond (name_eq y x) 1 0) t ts)

-- the edges into a known block from one with a name
pub count_arrivals : (names : List Name) (blocks : List Block) → ((k : ℕ) (b : Block) → slice_get blocks k ≡ Some b → has_name names b.name ≡ true)
    → (x to : Name) → has_name names to ≡ true
    → count_of (name_place names x) (arrivals (name_place names) blocks (name_place names to)) ≡ edges_between blocks x to
count_arrivals names [] known x to there = refl
count_arrivals names (b ∷ blocks) known x to there =
    ap (count_of (name_place names x)) (flat_map-cons (λ (c : Block). edges_to (name_place names c.name) (map (name_place names) (block_targets c)) (name_place names to)) b blocks)
    ∙ count-append (name_place names x) (edges_to (name_place names b.name) (map (name_place names) (block_targets b)) (name_place names to))
    (arrivals (name_place names) blocks (name_place names to))
    ∙ ap₂ (λ m n. m + n)
    (count_targets (name_place names x) (name_place names b.name) (name_place names to) (map (name_place names) (block_targets b))
    ∙ ap₂ keep (same_number_left names b.name x (known 0 b refl)) (count_names names to there (block_targets b)))
    (count_arrivals names blocks (λ k c e. known (suc k) c e) x to there)

-- ---- where numbers come from

-- a number that a list of numbers of names counts is that of one of them
pub counted_name : (number : Name → ℕ) (k : ℕ) (xs : List Name) → 0 < count_of k (map number xs) → (i : ℕ) × ((x : Name) × (slice_get xs i ≡ Some x) × (number x ≡ k))
counted_name number k [] l = absurd (omega (arith, l))
counted_name number k (x ∷ xs) l = by_test (nat_eq (number x) k) refl (subst (λ n. 0 < n) (count-cons k (number x) (map number xs)) l) (counted_name number k xs)
  where
    by_test : (t : Bool) → nat_eq (number x) k ≡ t → 0 < one_if t + count_of k (map number xs)
        → (0 < count_of k (map number xs) → (i : ℕ) × ((y : Name) × (slice_get xs i ≡ Some y) × (number y ≡ k)))
        → (i : ℕ) × ((y : Name) × (slice_get (x ∷ xs) i ≡ Some y) × (number y ≡ k))
    by_test true e l later = (0, (x, refl, eqb-true (number x) k e))
    by_test false e l later = let found = later (omega (arith, l)) in (suc found.0, found.1)

-- a number that is counted among edges is that of a block
pub counted_block : (number : Name → ℕ) (k to : ℕ) (blocks : List Block) → 0 < count_of k (arrivals number blocks to)
    → (i : ℕ) × ((b : Block) × (slice_get blocks i ≡ Some b) × (number b.name ≡ k))
counted_block number k to [] l = absurd (omega (arith, l))
counted_block number k to (b ∷ blocks) l = by_test (nat_eq (number b.name) k) refl positive (counted_block number k to blocks)
  where
    here : ℕ
    here = count_of to (map number (block_targets b))

    positive : 0 < keep (nat_eq (number b.name) k) (count_of to (map number (block_targets b))) + count_of k (arrivals number blocks to)
    positive =
        subst (λ n. 0 < n)
        (ap (count_of k) (flat_map-cons (λ (c : Block). edges_to (number c.name) (map number (block_targets c)) to) b blocks)
        ∙ count-append k (edges_to (number b.name) (map number (block_targets b)) to) (arrivals number blocks to)
        ∙ ap (λ n. n + count_of k (arrivals number blocks to)) (count_targets k (number b.name) to (map number (block_targets b)))) l

    by_test : (t : Bool) → nat_eq (number b.name) k ≡ t → 0 < keep t (count_of to (map number (block_targets b))) + count_of k (arrivals number blocks to)
        → (0 < count_of k (arrivals number blocks to) → (i : ℕ) × ((c : Block) × (slice_get blocks i ≡ Some c) × (number c.name ≡ k)))
        → (i : ℕ) × ((c : Block) × (slice_get (b ∷ blocks) i ≡ Some c) × (number c.name ≡ k))
    by_test true e l later = (0, (b, refl, eqb-true (number b.name) k e))
    by_test false e l later = let found = later (omega (arith, l)) in (suc found.0, found.1)

-- a block from which an edge leads has its name
pub from_known : (blocks : List Block) (x to : Name) → 0 < edges_between blocks x to → has_name (map (λ b. b.name) blocks) x ≡ true
from_known [] x to l = absurd (omega (arith, l))
from_known (b ∷ blocks) x to l = by_test (name_eq b.name x) l (from_known blocks x to)
  where
    by_test : (t : Bool) → 0 < (if t then count_name to (block_targets b) else 0) + edges_between blocks x to
        → (0 < edges_between blocks x to → has_name (map (λ c. c.name) blocks) x ≡ true) → (t || has_name (map (λ c. c.name) blocks) x) ≡ true
    by_test true l later = refl
    by_test false l later = later (omega (arith, l))

-- a list has what stands at a place of it
pub has_at : (xs : List Name) (k : ℕ) (x : Name) → slice_get xs k ≡ Some x → has_name xs x ≡ true
has_at [] k x e = absurd (none-some x e)
has_at (y ∷ xs) zero x e = ap (λ t. t || has_name xs x) (ap (λ z. name_eq z x) (same_Some y x e) ∙ name_same x)
has_at (y ∷ xs) (suc k) x e = by_test (name_eq y x) (has_at xs k x e)
  where
    by_test : (t : Bool) → has_name xs x ≡ true → (t || has_name xs x) ≡ true
    by_test true h = refl
    by_test false h = h

pub block_known : (blocks : List Block) (k : ℕ) (b : Block) → slice_get blocks k ≡ Some b → has_name (map (λ c. c.name) blocks) b.name ≡ true
block_known blocks k b e = has_at (map (λ c. c.name) blocks) k b.name (map_at blocks k e)
  where
    map_at : (bs : List Block) (j : ℕ) → slice_get bs j ≡ Some b → slice_get (map (λ c. c.name) bs) j ≡ Some b.name
    map_at [] j e = absurd (none-some b e)
    map_at (c ∷ bs) zero e = ap (λ (z : Block). Some z.name) (same_Some c b e)
    map_at (c ∷ bs) (suc j) e = map_at bs j e

-- the numbers of a row are those of blocks
pub arrivals_below : (blocks : List Block) (to : ℕ) → All (λ n. n < length blocks) (arrivals (name_place (map (λ b. b.name) blocks)) blocks to)
arrivals_below blocks to i d l =
    let names = map (λ (b : Block). b.name) blocks in
    let row = arrivals (name_place names) blocks to in
    let found = counted_block (name_place names) (slice_index_or row i d) to blocks (counts_at row i d l) in
    let below = place_below names found.1.0.name (block_known blocks found.0 found.1.0 found.1.1) in
    let len = length-map blocks (λ (b : Block). b.name) in
    omega (arith, below, len, found.1.2)
