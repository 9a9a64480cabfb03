-- Which allocation of an area has an address: only the one that takes it can.
use Rattle.std.proofs.Common.{◌≡◌, ◌≢◌, ℕ, ◌+◌, ◌<◌, ◌≤◌, Bool, true, false, cond, eqb, List, ◌++◌, length, get_or, set, map, if◌then◌else◌, option_map, arith, refl, sym, ap, ◌∙◌, Option, Some, None, ◌⊎◌, inl, inr, ⊎_elim, is_some, subst, ◌||◌, MatchOption}
use Rattle.std.specs.List.{find}
use Rattle.std.specs.Option.{option_or}
use Rattle.std.proofs.lemmas.Bool.{cases_lt, and_from, and_left, eq-eqb, ne_eqb}
use Rattle.std.proofs.lemmas.List.{get_or_default}
use Rattle.std.proofs.lemmas.Grind.{common_steps}
use Rattle.std.proofs.lemmas.List.Folds.{find-append}
use Rattle.ms_alloc.specs.declared.kinds.AllocKind.{AllocKind}
use Rattle.ms_alloc.specs.declared.kinds.AllocKind.TheVariants.{Fixed, Heap, Stack}
use Rattle.ms_alloc.specs.declared.allocations.Allocation.{Allocation}
use Rattle.ms_alloc.specs.Layout.{room, area_base, area_limit}
use Rattle.ms_alloc.specs.Allocations.{Allocations, IsArea, IsLaidOut, used, listed, of_kind, covers, is_block, is_good}
use Rattle.ms_alloc.specs.declared.allocations.TablePlace.{TablePlace}
use Rattle.ms_alloc.specs.Places.{IsPlace}
use Rattle.ms_alloc.specs.Only.{IsOnly}
use Rattle.ms_alloc.specs.Owners.{Has, IsOutside}
use Rattle.ms_alloc.proofs.Rows.{row-from, row-to, row-apart, size-le}
use Rattle.ms_alloc.proofs.Searches.{find-none, find-only, find-at, map-only}

pub covers-after : (addr n : ℕ) (a : Allocation) → addr < a.base → covers addr n a ≡ false
covers-after addr n a h = grind (arith, common_steps)

pub covers-before : (addr n : ℕ) (a : Allocation) → a.base + a.size < addr + n → covers addr n a ≡ false
covers-before addr n a h = grind (arith, common_steps)

pub block-other : (base : ℕ) (a : Allocation) → a.base ≢ base → is_block base a ≡ false
block-other base a h = grind (arith, common_steps)

-- any other allocation than the one that takes an address begins after it or ends before it
pub other-place : (k : AllocKind) (xs : List Allocation) (addr o : ℕ) → IsArea k xs → Has xs addr o →
    (i : ℕ) (d : Allocation) → i < length xs → i ≢ o →
    (addr < (get_or xs i d).base) ⊎ ((get_or xs i d).base + room (get_or xs i d).size ≤ addr)
other-place k xs addr o area has i d inside other =
    ⊎_elim
    (λ (low : i < o). inr (omega (arith, has.above d, row-apart k _ xs area.row i o d low has.within)))
    (λ (high : o ≤ i). inl (omega (arith, has.below d, row-apart k _ xs area.row o i d (omega arith) inside)))
    (cases_lt i o)

pub other-covers : (k : AllocKind) (xs : List Allocation) (addr n o : ℕ) → 0 < n → IsArea k xs → Has xs addr o →
    (i : ℕ) (d : Allocation) → i < length xs → i ≢ o → covers addr n (get_or xs i d) ≡ false
other-covers k xs addr n o some area has i d inside other =
    ⊎_elim
    (λ (after : addr < (get_or xs i d).base). covers-after addr n (get_or xs i d) after)
    (λ (before : (get_or xs i d).base + room (get_or xs i d).size ≤ addr). covers-before addr n (get_or xs i d) (omega (arith, size-le (get_or xs i d).size)))
    (other-place k xs addr o area has i d inside other)

pub other-block : (xs : List Allocation) (base o : ℕ) → IsArea Heap xs → Has xs base o →
    (i : ℕ) (d : Allocation) → i < length xs → i ≢ o → is_block base (get_or xs i d) ≡ false
other-block xs base o area has i d inside other =
    block-other base (get_or xs i d) (λ same. ⊎_elim
    (λ (after : base < (get_or xs i d).base). omega arith)
    (λ (before : (get_or xs i d).base + room (get_or xs i d).size ≤ base). omega arith)
    (other-place Heap xs base o area has i d inside other))

-- the one that takes an address is the one to test
pub find-owner : (k : AllocKind) (xs : List Allocation) (addr n o : ℕ) (d : Allocation) (b : Bool) → 0 < n → IsArea k xs → Has xs addr o →
    covers addr n (get_or xs o d) ≡ b → cond b (Some (get_or xs o d)) None ≡ find (covers addr n) xs
find-owner k xs addr n o d b some area has is =
    sym (find-only (covers addr n) xs o d has.within (λ i e l other. other-covers k xs addr n o some area has i e l other)
    ∙ ap (λ (t : Bool). cond t (Some (get_or xs o d)) None) is)

pub block-owner : (xs : List Allocation) (base o : ℕ) (d : Allocation) → IsArea Heap xs → Has xs base o → is_block base (get_or xs o d) ≡ false → find (is_block base) xs ≡ None
block-owner xs base o d area has is =
    find-only (is_block base) xs o d has.within (λ i e l other. other-block xs base o area has i e l other)
    ∙ ap (λ (t : Bool). cond t (Some (get_or xs o d)) None) is

pub block-only : (xs : List Allocation) (base o : ℕ) (d : Allocation) → IsArea Heap xs → Has xs base o → is_block base (get_or xs o d) ≡ true → IsOnly (is_block base) xs o
block-only xs base o d area has is = record {
  within = has.within;
  passes = λ e. ap (is_block base) (get_or_default xs o e d has.within) ∙ is;
  others = λ i e l other. other-block xs base o area has i e l other;
}

-- where none takes it, none is found
pub place-outside : (k : AllocKind) (xs : List Allocation) (addr : ℕ) → IsArea k xs → IsOutside k xs addr → (i : ℕ) (d : Allocation) → i < length xs →
    (addr < (get_or xs i d).base) ⊎ ((get_or xs i d).base + room (get_or xs i d).size ≤ addr)
place-outside k xs addr area outside i d inside =
    ⊎_elim
    (λ (low : addr < area_base k). inl (omega (arith, low, row-from k _ xs area.row i d inside)))
    (λ (high : area_base k + used xs ≤ addr). inr (omega (arith, high, row-to k _ xs area.row i d inside)))
    outside

pub find-nowhere : (k : AllocKind) (xs : List Allocation) (addr n : ℕ) → 0 < n → IsArea k xs → IsOutside k xs addr → find (covers addr n) xs ≡ None
find-nowhere k xs addr n some area outside =
    find-none (covers addr n) xs (λ i d l. ⊎_elim
    (λ (after : addr < (get_or xs i d).base). covers-after addr n (get_or xs i d) after)
    (λ (before : (get_or xs i d).base + room (get_or xs i d).size ≤ addr). covers-before addr n (get_or xs i d) (omega (arith, size-le (get_or xs i d).size)))
    (place-outside k xs addr area outside i d l))

pub block-nowhere : (xs : List Allocation) (base : ℕ) → IsArea Heap xs → IsOutside Heap xs base → find (is_block base) xs ≡ None
block-nowhere xs base area outside =
    find-none (is_block base) xs (λ i d l. block-other base (get_or xs i d) (λ same. ⊎_elim
    (λ (after : base < (get_or xs i d).base). omega arith)
    (λ (before : (get_or xs i d).base + room (get_or xs i d).size ≤ base). omega arith)
    (place-outside Heap xs base area outside i d l)))

-- an area has no address outside itself
pub find-outside : (k : AllocKind) (xs : List Allocation) (addr n : ℕ) → 0 < n → IsArea k xs → (addr < area_base k) ⊎ (area_base k + area_limit k ≤ addr) → find (covers addr n) xs ≡ None
find-outside k xs addr n some area outside =
    find-nowhere k xs addr n some area (⊎_elim
    (λ (low : addr < area_base k). inl low)
    (λ (high : area_base k + area_limit k ≤ addr). inr (omega (arith, area.within)))
    outside)

option_or-none : (o : Option Allocation) → option_or o None ≡ o
option_or-none None = refl
option_or-none (Some a) = refl

-- an address is sought in its area alone
pub listed-fixed : (t : Allocations) (addr n : ℕ) → 0 < n → IsLaidOut t → addr < area_base Heap → find (covers addr n) (listed t) ≡ find (covers addr n) t.fixed
listed-fixed t addr n some laid low =
    find-append (covers addr n) (t.fixed ++ t.heap) t.stack
    ∙ ap (λ r. option_or (find (covers addr n) (t.fixed ++ t.heap)) r) (find-outside Stack t.stack addr n some laid.stack (inl (omega arith)))
    ∙ option_or-none (find (covers addr n) (t.fixed ++ t.heap))
    ∙ find-append (covers addr n) t.fixed t.heap
    ∙ ap (λ r. option_or (find (covers addr n) t.fixed) r) (find-outside Heap t.heap addr n some laid.heap (inl low))
    ∙ option_or-none (find (covers addr n) t.fixed)

pub listed-heap : (t : Allocations) (addr n : ℕ) → 0 < n → IsLaidOut t → area_base Heap ≤ addr → addr < area_base Stack → find (covers addr n) (listed t) ≡ find (covers addr n) t.heap
listed-heap t addr n some laid low high =
    find-append (covers addr n) (t.fixed ++ t.heap) t.stack
    ∙ ap (λ r. option_or (find (covers addr n) (t.fixed ++ t.heap)) r) (find-outside Stack t.stack addr n some laid.stack (inl high))
    ∙ option_or-none (find (covers addr n) (t.fixed ++ t.heap))
    ∙ find-append (covers addr n) t.fixed t.heap
    ∙ ap (λ r. option_or r (find (covers addr n) t.heap)) (find-outside Fixed t.fixed addr n some laid.fixed (inr (omega arith)))

pub listed-stack : (t : Allocations) (addr n : ℕ) → 0 < n → IsLaidOut t → area_base Stack ≤ addr → find (covers addr n) (listed t) ≡ find (covers addr n) t.stack
listed-stack t addr n some laid low =
    find-append (covers addr n) (t.fixed ++ t.heap) t.stack
    ∙ ap (λ r. option_or r (find (covers addr n) t.stack))
    (find-append (covers addr n) t.fixed t.heap
    ∙ ap (λ r. option_or r (find (covers addr n) t.heap)) (find-outside Fixed t.fixed addr n some laid.fixed (inr (omega arith)))
    ∙ find-outside Heap t.heap addr n some laid.heap (inr (omega arith)))

pub block-holds : (base : ℕ) (a : Allocation) → a.live ≡ true → a.base ≡ base → is_block base a ≡ true
block-holds base a live same = and_from a.live (eqb a.base base) live (eq-eqb a.base base same)

pub block-ended : (base : ℕ) (a : Allocation) → a.live ≡ false → is_block base a ≡ false
block-ended base a ended = and_left a.live (eqb a.base base) ended

pub size-found : (xs : List Allocation) (base i : ℕ) (a : Allocation) → IsOnly (is_block base) xs i → option_map (λ (b : Allocation). b.size) (find (is_block base) xs) ≡ Some (get_or xs i a).size
size-found xs base i a only = ap (option_map (λ (b : Allocation). b.size)) (find-at (is_block base) xs i a only)

pub ended-set : (xs : List Allocation) (base i : ℕ) (a : Allocation) → IsOnly (is_block base) xs i → a ≡ get_or xs i a →
    set xs i (record a { live = false }) ≡ map (λ b. if is_block base b then record b { live = false } else b) xs
ended-set xs base i a only is =
    ap (λ (b : Allocation). set xs i (record b { live = false })) is
    ∙ sym (map-only (is_block base) (λ b. record b { live = false }) xs i a only.within only.others (only.passes a))

-- the place that has a range
pub owner-only : (k : AllocKind) (xs : List Allocation) (addr n o : ℕ) (d : Allocation) → 0 < n → IsArea k xs → Has xs addr o → covers addr n (get_or xs o d) ≡ true → IsOnly (covers addr n) xs o
owner-only k xs addr n o d some area has is = record {
  within = has.within;
  passes = λ e. ap (covers addr n) (get_or_default xs o e d has.within) ∙ is;
  others = λ i e l other. other-covers k xs addr n o some area has i e l other;
}

-- a range that is not found is not good
pub none-good : (t : Allocations) (addr n : ℕ) → 0 < n → find (covers addr n) (listed t) ≡ None → is_good addr n t ≡ false
none-good t addr n some none = ap (λ (b : Bool). b || is_some (find (covers addr n) (listed t))) (ne_eqb n 0 (λ e. omega arith)) ∙ ap is_some none

-- in its area, and so in the whole table
pub place-listed : (r : Option TablePlace) (j k : AllocKind) (t : Allocations) (addr n : ℕ) → 0 < n → j ≡ k → find (covers addr n) (listed t) ≡ find (covers addr n) (of_kind k t) →
    MatchOption r (find (covers addr n) (of_kind k t) ≡ None) (λ p. IsPlace j (of_kind k t) addr n p) →
    MatchOption r (is_good addr n t ≡ false) (λ p. IsPlace p.kind (of_kind p.kind t) addr n p)
place-listed None j k t addr n some here same none =
    none-good t addr n some (same ∙ none)
place-listed (Some p) j k t addr n some here same is =
    subst (λ (i : AllocKind). IsPlace i (of_kind i t) addr n p) (sym (is.kind_is ∙ here)) (record { kind_is = is.kind_is ∙ here; only = is.only; base_is = is.base_is })

-- below the first area nothing is found
pub listed-below : (t : Allocations) (addr n : ℕ) → 0 < n → IsLaidOut t → addr < area_base Fixed → find (covers addr n) (listed t) ≡ None
listed-below t addr n some laid low = listed-fixed t addr n some laid (omega arith) ∙ find-outside Fixed t.fixed addr n some laid.fixed (inl low)

-- an answer that is nothing
pub none-matches : {X : Type 0} (P : Type 0) (Q : X → Type 0) (r : Option X) → r ≡ None → P → MatchOption r P Q
none-matches P Q r is p = subst (λ (o : Option _). MatchOption o P Q) (sym is) p
