-- The allocations of a table as the world of the definitions has them.
use Rattle.std.proofs.Common.{◌≡◌, ◌≢◌, ℕ, ◌+◌, ◌<◌, ◌≤◌, Bool, true, false, not, List, [], ◌∷◌, ◌++◌, map, refl, sym, ap, ◌∙◌, subst, arith, ◌⊎◌, inl, inr, ⊎_elim, is_some, Option, Some, None, cond, leb, eqb, ◌&&◌, ◌||◌, if◌then◌else◌, IsTrue, option_map}
use Rattle.std.specs.List.{find, filter}
use Rattle.std.specs.Option.{option_or}
use Rattle.std.proofs.lemmas.Bool.{and_parts, and_from, or_cases, leb-true, le-leb, eqb-true, cases_Bool, or_right}
use Rattle.std.proofs.lemmas.List.{map-append}
use Rattle.std.proofs.lemmas.List.Elements.{filter-append}
use Rattle.std.proofs.lemmas.List.Folds.{find-append}
use Rattle.ms_alloc.specs.declared.kinds.AllocKind.{AllocKind}
use Rattle.ms_alloc.specs.declared.kinds.AllocKind.TheVariants as kind
use Rattle.ms_alloc.specs.declared.allocations.Allocation.{Allocation as Entry}
use Rattle.ms_alloc.specs.Layout.{room as room_taken, area_base as base_of, area_limit as limit_of}
use Rattle.ms_alloc.specs.Allocations.{Allocations, IsRow, IsLaidOut, listed, of_kind, next as next_entry, with_made, with_ended, without_from, is_block, used as taken_by, next_base as base_after, covers as has_range, is_good as is_live, heap_size as block_size}
use Rattle.ms_planes.proofs.Reaches.{some-or}
use Rattle.ms_planes.proofs.Standing.{areas}
use Rattle.ms_ir.specs.Areas.{Area, Fixed, Heap, Stack}
use Rattle.ms_runs.specs.World.{Allocation, World}
use Rattle.ms_ir.specs.Areas.{area_eq, area_base, area_limit, room}
use Rattle.ms_runs.specs.Memory.{used, fits, next_base, first_that, covers, is_good, is_heap_block, heap_size, keeps}
use Rattle.ms_host.specs.Shows.{area_of, allocation_of, in_area, Lists}
use Rattle.ms_check_valid.proofs.NamePlaces.{same_tests}

-- ---- kinds and areas

abbrev pub kind_of : Area → AllocKind
kind_of Fixed = kind.Fixed
kind_of Heap = kind.Heap
kind_of Stack = kind.Stack

pub own : (a : Area) → area_eq (area_of (kind_of a)) a ≡ true
own Fixed = refl
own Heap = refl
own Stack = refl

pub area_same : (k : AllocKind) → area_eq (area_of k) (area_of k) ≡ true
area_same kind.Fixed = refl
area_same kind.Heap = refl
area_same kind.Stack = refl

-- ---- which accesses are good

pass-on : {A : Type 0} (b : Bool) (a : A) (o : Option A) → is_some o ≡ true → is_some (cond b (Some a) o) ≡ true
pass-on true a o e = refl
pass-on false a o e = e

skipped : {A : Type 0} (b : Bool) (a : A) (o : Option A) → b ≡ false → is_some (cond b (Some a) o) ≡ is_some o
skipped true a o e = absurd (cc)
skipped false a o e = refl

-- what is found in a list is found in the part of its area
found-in : (p : Allocation → Bool) (xs : List Allocation) → is_some (first_that p xs) ≡ true → (k : AllocKind) × (is_some (first_that p (in_area (area_of k) xs)) ≡ true)
found-in p [] e = absurd (cc)
found-in p (a ∷ rest) e = ⊎_elim
    (λ (h : p a ≡ true). (
      kind_of a.area,
      ap (λ (c : Bool). is_some (first_that p (cond c (a ∷ in_area (area_of (kind_of a.area)) rest) (in_area (area_of (kind_of a.area)) rest)))) (own a.area)
          ∙ ap (λ (c : Bool). is_some (if c then Some a else first_that p (in_area (area_of (kind_of a.area)) rest))) h,
    ))
    (λ (h : p a ≡ false).
    let r = found-in p rest (sym (skipped (p a) a (first_that p rest) h) ∙ e) in (r.0, with_front (area_eq (area_of r.0) a.area) a (in_area (area_of r.0) rest) r.1))
    (cases_Bool (p a))
  where
    with_front : (b : Bool) (a : Allocation) (xs : List Allocation) → is_some (first_that p xs) ≡ true → is_some (first_that p (cond b (a ∷ xs) xs)) ≡ true
    with_front true a xs e = pass-on (p a) a (first_that p xs) e
    with_front false a xs e = e

-- and the other way round
found-of : (p : Allocation → Bool) (q : Allocation → Bool) (xs : List Allocation) → is_some (first_that p (filter q xs)) ≡ true → is_some (first_that p xs) ≡ true
found-of p q [] e = absurd (cc)
found-of p q (a ∷ rest) e = by (found-of p q rest) (q a) e
  where
    again : (is_some (first_that p (filter q rest)) ≡ true → is_some (first_that p rest) ≡ true) → (c : Bool) → is_some (if c then Some a else first_that p (filter q rest)) ≡ true → is_some (if c then Some a else first_that p rest) ≡ true
    again more true e = refl
    again more false e = more e

    by : (is_some (first_that p (filter q rest)) ≡ true → is_some (first_that p rest) ≡ true) → (b : Bool) → is_some (first_that p (cond b (a ∷ filter q rest) (filter q rest))) ≡ true → is_some (if p a then Some a else first_that p rest) ≡ true
    by more true e = again more (p a) e
    by more false e = pass-on (p a) a (first_that p rest) (more e)

-- in a table likewise
live-in : (p : Entry → Bool) (t : Allocations) → is_some (find p (listed t)) ≡ true → (k : AllocKind) × (is_some (find p (of_kind k t)) ≡ true)
live-in p t e = ⊎_elim
    (λ (f : is_some (find p (t.fixed ++ t.heap)) ≡ true). ⊎_elim
    (λ (h : is_some (find p t.fixed) ≡ true). (kind.Fixed, h))
    (λ (h : is_some (find p t.heap) ≡ true). (kind.Heap, h))
    (some-or (find p t.fixed) (find p t.heap) (ap is_some (sym (find-append p t.fixed t.heap)) ∙ f)))
    (λ (h : is_some (find p t.stack) ≡ true). (kind.Stack, h))
    (some-or (find p (t.fixed ++ t.heap)) (find p t.stack) (ap is_some (sym (find-append p (t.fixed ++ t.heap) t.stack)) ∙ e))

or-left : (a b : Option Entry) → is_some a ≡ true → is_some (option_or a b) ≡ true
or-left None b e = absurd (cc)
or-left (Some x) b e = refl

or-right : (a b : Option Entry) → is_some b ≡ true → is_some (option_or a b) ≡ true
or-right None b e = e
or-right (Some x) b e = refl

live-of : (p : Entry → Bool) (t : Allocations) (k : AllocKind) → is_some (find p (of_kind k t)) ≡ true → is_some (find p (listed t)) ≡ true
live-of p t kind.Fixed e =
    ap is_some (find-append p (t.fixed ++ t.heap) t.stack) ∙ or-left (find p (t.fixed ++ t.heap)) (find p t.stack) (ap is_some (find-append p t.fixed t.heap) ∙ or-left (find p t.fixed) (find p t.heap) e)
live-of p t kind.Heap e =
    ap is_some (find-append p (t.fixed ++ t.heap) t.stack) ∙ or-left (find p (t.fixed ++ t.heap)) (find p t.stack) (ap is_some (find-append p t.fixed t.heap) ∙ or-right (find p t.fixed) (find p t.heap) e)
live-of p t kind.Stack e = ap is_some (find-append p (t.fixed ++ t.heap) t.stack) ∙ or-right (find p (t.fixed ++ t.heap)) (find p t.stack) e

same-choice : (b : Bool) (x : Allocation) (y : Entry) (o : Option Allocation) (q : Option Entry) → is_some o ≡ is_some q → is_some (if b then Some x else o) ≡ is_some (cond b (Some y) q)
same-choice true x y o q e = refl
same-choice false x y o q e = e

pub covered-same : (addr n : ℕ) (xs : List Entry) → is_some (first_that (covers addr n) (map allocation_of xs)) ≡ is_some (find (has_range addr n) xs)
covered-same addr n [] = refl
covered-same addr n (a ∷ as') =
    same-choice (has_range addr n a) (allocation_of a) a (first_that (covers addr n) (map allocation_of as')) (find (has_range addr n) as') (covered-same addr n as')

or-if : (b c d : Bool) → c ≡ d → (if b then true else c) ≡ (b || d)
or-if true c d e = refl
or-if false c d e = e

-- an access is good in a world where it is good in the table
pub good-same : (t : Allocations) (world : World) (addr n : ℕ) → Lists t world.allocs → is_good world addr n ≡ is_live addr n t
good-same t world addr n lists = or-if (eqb n 0) _ _ (same_tests _ _
    (λ (e : is_some (first_that (covers addr n) world.allocs) ≡ true).
    let r = found-in (covers addr n) world.allocs e in
    live-of (has_range addr n) t r.0 (sym (covered-same addr n (of_kind r.0 t)) ∙ ap (λ (xs : List Allocation). is_some (first_that (covers addr n) xs)) (sym (lists r.0)) ∙ r.1))
    (λ (e : is_some (find (has_range addr n) (listed t)) ≡ true).
    let r = live-in (has_range addr n) t e in
    found-of (covers addr n) (λ a. area_eq (area_of r.0) a.area) world.allocs
    (ap (λ (xs : List Allocation). is_some (first_that (covers addr n) xs)) (lists r.0) ∙ covered-same addr n (of_kind r.0 t) ∙ r.1)))

-- ---- what an area's allocations take

used-in : (area : Area) (xs : List Allocation) → used area xs ≡ used area (in_area area xs)
used-in area [] = refl
used-in area (a ∷ rest) = by (used-in area rest) (area_eq area a.area) refl
  where
    by : used area rest ≡ used area (in_area area rest) → (b : Bool) → area_eq area a.area ≡ b → used area (a ∷ rest) ≡ used area (cond b (a ∷ in_area area rest) (in_area area rest))
    by more true e = ap (λ (n : ℕ). (if area_eq area a.area then room a.size else 0) + n) more
    by more false e =
        let z : 0 + used area rest ≡ used area rest = omega arith in
        ap (λ (c : Bool). (if c then room a.size else 0) + used area rest) e ∙ z ∙ more

row-used : (k : AllocKind) (b : ℕ) (xs : List Entry) → IsRow k b xs → used (area_of k) (map allocation_of xs) ≡ taken_by xs
row-used k b [] r = refl
row-used k b (a ∷ as') r =
    ap (λ (j : AllocKind). (if area_eq (area_of k) (area_of j) then room a.size else 0) + used (area_of k) (map allocation_of as')) r.1
    ∙ ap (λ (c : Bool). (if c then room a.size else 0) + used (area_of k) (map allocation_of as')) (area_same k)
    ∙ ap (λ (n : ℕ). room_taken a.size + n) (row-used k (b + room_taken a.size) as' r.2)

pub used-same : (t : Allocations) (world : World) (k : AllocKind) → IsLaidOut t → Lists t world.allocs → used (area_of k) world.allocs ≡ taken_by (of_kind k t)
used-same t world k laid lists =
    used-in (area_of k) world.allocs ∙ ap (used (area_of k)) (lists k) ∙ row-used k (base_of k) (of_kind k t) (areas t k laid).row

pub base-is : (k : AllocKind) → area_base (area_of k) ≡ base_of k
base-is kind.Fixed = refl
base-is kind.Heap = refl
base-is kind.Stack = refl

pub limit-is : (k : AllocKind) → area_limit (area_of k) ≡ limit_of k
limit-is kind.Fixed = refl
limit-is kind.Heap = refl
limit-is kind.Stack = refl

pub base-same : (t : Allocations) (world : World) (k : AllocKind) → IsLaidOut t → Lists t world.allocs → next_base (area_of k) world ≡ base_after k t
base-same t world k laid lists = ap (λ (n : ℕ). area_base (area_of k) + n) (used-same t world k laid lists) ∙ ap (λ (n : ℕ). n + taken_by (of_kind k t)) (base-is k)

pub fits-same : (t : Allocations) (world : World) (k : AllocKind) (n : ℕ) → IsLaidOut t → Lists t world.allocs → fits (area_of k) n world ≡ leb (taken_by (of_kind k t) + room_taken n) (limit_of k)
fits-same t world k n laid lists = ap (λ (m : ℕ). leb (m + room n) (area_limit (area_of k))) (used-same t world k laid lists) ∙ ap (λ (m : ℕ). leb (taken_by (of_kind k t) + room_taken n) m) (limit-is k)

-- ---- one more allocation

pub made-lists : (t : Allocations) (as' : List Allocation) (k : AllocKind) (n : ℕ) → Lists t as' → Lists (with_made k n t) (as' ++ allocation_of (next_entry k n t) ∷ [])
made-lists t as' k n lists j =
    filter-append (λ a. area_eq (area_of j) a.area) as' (allocation_of (next_entry k n t) ∷ [])
    ∙ ap (λ (xs : List Allocation). xs ++ in_area (area_of j) (allocation_of (next_entry k n t) ∷ [])) (lists j)
    ∙ by j k
  where
    none : (xs : List Allocation) → xs ++ [] ≡ xs
    none [] = refl
    none (x ∷ xs) = ap (λ (ys : List Allocation). x ∷ ys) (none xs)

    by : (j k : AllocKind) → map allocation_of (of_kind j t) ++ in_area (area_of j) (allocation_of (next_entry k n t) ∷ []) ≡ map allocation_of (of_kind j (with_made k n t))
    by kind.Fixed kind.Fixed = sym (map-append allocation_of t.fixed (next_entry kind.Fixed n t ∷ []))
    by kind.Fixed kind.Heap = none (map allocation_of t.fixed)
    by kind.Fixed kind.Stack = none (map allocation_of t.fixed)
    by kind.Heap kind.Fixed = none (map allocation_of t.heap)
    by kind.Heap kind.Heap = sym (map-append allocation_of t.heap (next_entry kind.Heap n t ∷ []))
    by kind.Heap kind.Stack = none (map allocation_of t.heap)
    by kind.Stack kind.Fixed = none (map allocation_of t.stack)
    by kind.Stack kind.Heap = none (map allocation_of t.stack)
    by kind.Stack kind.Stack = sym (map-append allocation_of t.stack (next_entry kind.Stack n t ∷ []))

of-made : (t : Allocations) (k : AllocKind) (n : ℕ) → of_kind k (with_made k n t) ≡ of_kind k t ++ next_entry k n t ∷ []
of-made t kind.Fixed n = refl
of-made t kind.Heap n = refl
of-made t kind.Stack n = refl

-- another area stays
of-other : (t : Allocations) (j k : AllocKind) (n : ℕ) → (of_kind j (with_made k n t) ≡ of_kind j t) ⊎ (j ≡ k)
of-other t kind.Fixed kind.Fixed n = inr refl
of-other t kind.Fixed kind.Heap n = inl refl
of-other t kind.Fixed kind.Stack n = inl refl
of-other t kind.Heap kind.Fixed n = inl refl
of-other t kind.Heap kind.Heap n = inr refl
of-other t kind.Heap kind.Stack n = inl refl
of-other t kind.Stack kind.Fixed n = inl refl
of-other t kind.Stack kind.Heap n = inl refl
of-other t kind.Stack kind.Stack n = inr refl

-- the new bytes are good
pub made-good : (t : Allocations) (k : AllocKind) (n : ℕ) → IsTrue (is_live (base_after k t) n (with_made k n t))
made-good t k n =
    let a : Entry = next_entry k n t in
    let has : has_range a.base n a ≡ true = and_from (leb a.base a.base) (leb (a.base + n) (a.base + n)) (le-leb a.base a.base (omega arith)) (le-leb (a.base + n) (a.base + n) (omega arith)) in
    or-true (eqb n 0) _ (live-of (has_range a.base n) (with_made k n t) k
    (ap (λ (xs : List Entry). is_some (find (has_range a.base n) xs)) (of-made t k n)
    ∙ ap is_some (find-append (has_range a.base n) (of_kind k t) (a ∷ []))
    ∙ or-right (find (has_range a.base n) (of_kind k t)) (find (has_range a.base n) (a ∷ [])) (ap (λ (b : Bool). is_some (cond b (Some a) None)) has)))
  where
    or-true : (b c : Bool) → c ≡ true → (b || c) ≡ true
    or-true true c e = refl
    or-true false c e = e

chosen : (b : Bool) (a : Entry) → is_some (cond b (Some a) None) ≡ true → b ≡ true
chosen true a e = refl
chosen false a e = absurd (cc)

some-live : (t : Allocations) (n x : ℕ) → n ≢ 0 → IsTrue (is_live x n t) → is_some (find (has_range x n) (listed t)) ≡ true
some-live t n x some live = ⊎_elim
    (λ (h : eqb n 0 ≡ true). absurd (some (eqb-true n 0 h)))
    (λ (h : is_some (find (has_range x n) (listed t)) ≡ true). h)
    (or_cases _ _ live)

-- what is good stays good when an allocation is made
pub made-keeps : (t : Allocations) (k : AllocKind) (m x n : ℕ) → IsTrue (is_live x n t) → IsTrue (is_live x n (with_made k m t))
made-keeps t k m x n live = ⊎_elim
    (λ (h : eqb n 0 ≡ true). ap (λ (b : Bool). b || is_some (find (has_range x n) (listed (with_made k m t)))) h)
    (λ (h : is_some (find (has_range x n) (listed t)) ≡ true).
    let r = live-in (has_range x n) t h in
    or_right (eqb n 0) _ (live-of (has_range x n) (with_made k m t) r.0 (⊎_elim
    (λ (e : of_kind r.0 (with_made k m t) ≡ of_kind r.0 t). ap (λ (xs : List Entry). is_some (find (has_range x n) xs)) e ∙ r.1)
    (λ (e : r.0 ≡ k). subst (λ (j : AllocKind). is_some (find (has_range x n) (of_kind j (with_made k m t))) ≡ true) (sym e)
    (ap (λ (xs : List Entry). is_some (find (has_range x n) xs)) (of-made t k m)
    ∙ ap is_some (find-append (has_range x n) (of_kind k t) (next_entry k m t ∷ []))
    ∙ or-left (find (has_range x n) (of_kind k t)) (find (has_range x n) (next_entry k m t ∷ [])) (subst (λ (j : AllocKind). is_some (find (has_range x n) (of_kind j t)) ≡ true) e r.1)))
    (of-other t r.0 k m))))
    (or_cases _ _ live)

-- an address that is live then was live before, or is one of the new bytes
pub made-live : (t : Allocations) (k : AllocKind) (n x : ℕ) → IsTrue (is_live x 1 (with_made k n t)) →
    (IsTrue (is_live x 1 t)) ⊎ ((base_after k t ≤ x) × (x < base_after k t + n))
made-live t k n x live =
    let a : Entry = next_entry k n t in
    let r = live-in (has_range x 1) (with_made k n t) (some-live (with_made k n t) 1 x (omega arith) live) in
    ⊎_elim
    (λ (e : of_kind r.0 (with_made k n t) ≡ of_kind r.0 t). inl (live-of (has_range x 1) t r.0 (ap (λ (xs : List Entry). is_some (find (has_range x 1) xs)) (sym e) ∙ r.1)))
    (λ (e : r.0 ≡ k).
    let found : is_some (option_or (find (has_range x 1) (of_kind k t)) (find (has_range x 1) (a ∷ []))) ≡ true =
    ap is_some (sym (find-append (has_range x 1) (of_kind k t) (a ∷ [])) ∙ ap (find (has_range x 1)) (sym (of-made t k n)))
    ∙ subst (λ (j : AllocKind). is_some (find (has_range x 1) (of_kind j (with_made k n t))) ≡ true) e r.1 in
    ⊎_elim
    (λ (h : is_some (find (has_range x 1) (of_kind k t)) ≡ true). inl (live-of (has_range x 1) t k h))
    (λ (h : is_some (find (has_range x 1) (a ∷ [])) ≡ true).
    let parts : (leb a.base x ≡ true) × (leb (x + 1) (a.base + n) ≡ true) = and_parts (leb a.base x) (leb (x + 1) (a.base + n)) (chosen (has_range x 1 a) a h) in
    inr (leb-true _ _ parts.0, omega (arith, leb-true (x + 1) (a.base + n) parts.1)))
    (some-or _ _ found))
    (of-other t r.0 k n)

-- ---- a block that ended

abbrev end-entry : ℕ → Entry → Entry
end-entry base a = if is_block base a then record a { live = false } else a

abbrev end-alloc : ℕ → Allocation → Allocation
end-alloc base a = if is_heap_block base a then record a { live = false } else a

filter-map : (area : Area) (base : ℕ) (xs : List Allocation) → in_area area (map (end-alloc base) xs) ≡ map (end-alloc base) (in_area area xs)
filter-map area base [] = refl
filter-map area base (a ∷ rest) = by (is_heap_block base a) (area_eq area a.area) refl (filter-map area base rest)
  where
    same : (b : Bool) → (if b then record a { live = false } else a).area ≡ a.area
    same true = refl
    same false = refl

    put : (c : Bool) (x : Allocation) (ys zs : List Allocation) → ys ≡ map (end-alloc base) zs → x ≡ end-alloc base a → cond c (x ∷ ys) ys ≡ map (end-alloc base) (cond c (a ∷ zs) zs)
    put true x ys zs e f = ap (λ (l : List Allocation). x ∷ l) e ∙ ap (λ (y : Allocation). y ∷ map (end-alloc base) zs) f
    put false x ys zs e f = e

    by : (b c : Bool) → area_eq area a.area ≡ c → in_area area (map (end-alloc base) rest) ≡ map (end-alloc base) (in_area area rest) →
        in_area area (map (end-alloc base) (a ∷ rest)) ≡ map (end-alloc base) (in_area area (a ∷ rest))
    by b c e more =
        ap (λ (k : Area). cond (area_eq area k) (end-alloc base a ∷ in_area area (map (end-alloc base) rest)) (in_area area (map (end-alloc base) rest))) (same (is_heap_block base a))
        ∙ put (area_eq area a.area) (end-alloc base a) (in_area area (map (end-alloc base) rest)) (in_area area rest) more refl

heap-ended : (b base : ℕ) (xs : List Entry) → IsRow kind.Heap b xs → map (end-alloc base) (map allocation_of xs) ≡ map allocation_of (map (end-entry base) xs)
heap-ended b base [] r = refl
heap-ended b base (a ∷ rest) r =
    ap (λ (x : Allocation). x ∷ map (end-alloc base) (map allocation_of rest)) (one (ap (λ (k : AllocKind). a.live && area_eq Heap (area_of k) && eqb a.base base) r.1 ∙ through a.live (eqb a.base base)))
    ∙ ap (λ (l : List Allocation). allocation_of (end-entry base a) ∷ l) (heap-ended (b + room_taken a.size) base rest r.2)
  where
    two : (c : Bool) → (if c then record (allocation_of a) { live = false } else allocation_of a) ≡ allocation_of (if c then record a { live = false } else a)
    two true = refl
    two false = refl

    through : (c d : Bool) → (c && true && d) ≡ (c && d)
    through true d = refl
    through false d = refl

    one : is_heap_block base (allocation_of a) ≡ is_block base a → end-alloc base (allocation_of a) ≡ allocation_of (end-entry base a)
    one e = ap (λ (d : Bool). if d then record (allocation_of a) { live = false } else allocation_of a) e ∙ two (is_block base a)

other-ended : (k : AllocKind) (b base : ℕ) (xs : List Entry) → area_eq Heap (area_of k) ≡ false → IsRow k b xs → map (end-alloc base) (map allocation_of xs) ≡ map allocation_of xs
other-ended k b base [] other r = refl
other-ended k b base (a ∷ rest) other r =
    ap (λ (c : Bool). (if c then record (allocation_of a) { live = false } else allocation_of a) ∷ map (end-alloc base) (map allocation_of rest))
    (ap (λ (j : AllocKind). a.live && area_eq Heap (area_of j) && eqb a.base base) r.1 ∙ ap (λ (c : Bool). a.live && c && eqb a.base base) other ∙ no a.live (eqb a.base base))
    ∙ ap (λ (l : List Allocation). allocation_of a ∷ l) (other-ended k (b + room_taken a.size) base rest other r.2)
  where
    no : (c d : Bool) → (c && false && d) ≡ false
    no true d = refl
    no false d = refl

pub ended-lists : (t : Allocations) (as' : List Allocation) (base : ℕ) → IsLaidOut t → Lists t as' → Lists (with_ended base t) (map (end-alloc base) as')
ended-lists t as' base laid lists k = filter-map (area_of k) base as' ∙ ap (map (end-alloc base)) (lists k) ∙ by k
  where
    by : (k : AllocKind) → map (end-alloc base) (map allocation_of (of_kind k t)) ≡ map allocation_of (of_kind k (with_ended base t))
    by kind.Fixed = other-ended kind.Fixed _ base t.fixed refl laid.fixed.row
    by kind.Heap = heap-ended _ base t.heap laid.heap.row
    by kind.Stack = other-ended kind.Stack _ base t.stack refl laid.stack.row

-- ---- fewer allocations of the stack

filter-both : (area : Area) (q : Allocation → Bool) (xs : List Allocation) → in_area area (filter q xs) ≡ filter q (in_area area xs)
filter-both area q [] = refl
filter-both area q (a ∷ rest) = by (q a) (area_eq area a.area) refl refl (filter-both area q rest)
  where
    by : (b c : Bool) → q a ≡ b → area_eq area a.area ≡ c → in_area area (filter q rest) ≡ filter q (in_area area rest) →
        in_area area (cond b (a ∷ filter q rest) (filter q rest)) ≡ filter q (cond c (a ∷ in_area area rest) (in_area area rest))
    by true true e f more = ap (λ (d : Bool). cond d (a ∷ in_area area (filter q rest)) (in_area area (filter q rest))) f ∙ ap (λ (l : List Allocation). a ∷ l) more
        ∙ ap (λ (d : Bool). cond d (a ∷ filter q (in_area area rest)) (filter q (in_area area rest))) (sym e)
    by true false e f more = ap (λ (d : Bool). cond d (a ∷ in_area area (filter q rest)) (in_area area (filter q rest))) f ∙ more
    by false true e f more = more ∙ ap (λ (d : Bool). cond d (a ∷ filter q (in_area area rest)) (filter q (in_area area rest))) (sym e)
    by false false e f more = more

abbrev below : ℕ → Entry → Bool
below mark a = not (leb mark a.base)

stack-kept : (b mark : ℕ) (xs : List Entry) → IsRow kind.Stack b xs → filter (keeps mark) (map allocation_of xs) ≡ map allocation_of (filter (below mark) xs)
stack-kept b mark [] r = refl
stack-kept b mark (a ∷ rest) r =
    ap (λ (k : AllocKind). cond (not (area_eq Stack (area_of k) && leb mark a.base)) (allocation_of a ∷ filter (keeps mark) (map allocation_of rest)) (filter (keeps mark) (map allocation_of rest))) r.1
    ∙ put (below mark a) (stack-kept (b + room_taken a.size) mark rest r.2)
  where
    put : (c : Bool) → filter (keeps mark) (map allocation_of rest) ≡ map allocation_of (filter (below mark) rest) →
        cond c (allocation_of a ∷ filter (keeps mark) (map allocation_of rest)) (filter (keeps mark) (map allocation_of rest)) ≡ map allocation_of (cond c (a ∷ filter (below mark) rest) (filter (below mark) rest))
    put true more = ap (λ (l : List Allocation). allocation_of a ∷ l) more
    put false more = more

other-kept : (k : AllocKind) (b mark : ℕ) (xs : List Entry) → area_eq Stack (area_of k) ≡ false → IsRow k b xs → filter (keeps mark) (map allocation_of xs) ≡ map allocation_of xs
other-kept k b mark [] other r = refl
other-kept k b mark (a ∷ rest) other r =
    ap (λ (c : Bool). cond (not (c && leb mark a.base)) (allocation_of a ∷ filter (keeps mark) (map allocation_of rest)) (filter (keeps mark) (map allocation_of rest)))
    (ap (λ (j : AllocKind). area_eq Stack (area_of j)) r.1 ∙ other)
    ∙ ap (λ (l : List Allocation). allocation_of a ∷ l) (other-kept k (b + room_taken a.size) mark rest other r.2)

pub kept-lists : (t : Allocations) (as' : List Allocation) (mark : ℕ) → IsLaidOut t → Lists t as' → Lists (without_from mark t) (filter (keeps mark) as')
kept-lists t as' mark laid lists k = filter-both (area_of k) (keeps mark) as' ∙ ap (filter (keeps mark)) (lists k) ∙ by k
  where
    by : (k : AllocKind) → filter (keeps mark) (map allocation_of (of_kind k t)) ≡ map allocation_of (of_kind k (without_from mark t))
    by kind.Fixed = other-kept kind.Fixed _ mark t.fixed refl laid.fixed.row
    by kind.Heap = other-kept kind.Heap _ mark t.heap refl laid.heap.row
    by kind.Stack = stack-kept _ mark t.stack laid.stack.row

-- ---- live heap blocks

heap-first : (p : Allocation → Bool) (area : Area) (xs : List Allocation) → ((a : Allocation) → p a ≡ true → area_eq area a.area ≡ true) → first_that p xs ≡ first_that p (in_area area xs)
heap-first p area [] only = refl
heap-first p area (a ∷ rest) only = by (p a) (area_eq area a.area) refl refl (heap-first p area rest only)
  where
    by : (b c : Bool) → p a ≡ b → area_eq area a.area ≡ c → first_that p rest ≡ first_that p (in_area area rest) →
        (if b then Some a else first_that p rest) ≡ first_that p (cond c (a ∷ in_area area rest) (in_area area rest))
    by true true e f more = ap (λ (d : Bool). if d then Some a else first_that p (in_area area rest)) (sym e)
    by true false e f more = absurd (cc (only a e, f))
    by false true e f more = more ∙ ap (λ (d : Bool). if d then Some a else first_that p (in_area area rest)) (sym e)
    by false false e f more = more

pub heap-size-same : (t : Allocations) (world : World) (base : ℕ) → IsLaidOut t → Lists t world.allocs → heap_size world base ≡ block_size base t
heap-size-same t world base laid lists =
    ap (option_map (λ a. a.size)) (heap-first (is_heap_block base) Heap world.allocs in-heap ∙ ap (first_that (is_heap_block base)) (lists kind.Heap))
    ∙ in-row _ t.heap laid.heap.row
  where
    in-heap : (a : Allocation) → is_heap_block base a ≡ true → area_eq Heap a.area ≡ true
    in-heap a e = (and_parts a.live (area_eq Heap a.area) (and_parts (a.live && area_eq Heap a.area) (eqb a.base base) e).0).1

    through : (c d : Bool) → (c && true && d) ≡ (c && d)
    through true d = refl
    through false d = refl

    same : (c : Bool) (a : Entry) (o : Option Allocation) (q : Option Entry) → option_map (λ (b : Allocation). b.size) o ≡ option_map (λ (b : Entry). b.size) q →
        option_map (λ (b : Allocation). b.size) (if c then Some (allocation_of a) else o) ≡ option_map (λ (b : Entry). b.size) (cond c (Some a) q)
    same true a o q e = refl
    same false a o q e = e

    in-row : (b : ℕ) (xs : List Entry) → IsRow kind.Heap b xs → option_map (λ (a : Allocation). a.size) (first_that (is_heap_block base) (map allocation_of xs)) ≡ option_map (λ (a : Entry). a.size) (find (is_block base) xs)
    in-row b [] r = refl
    in-row b (a ∷ rest) r =
        ap (λ (c : Bool). option_map (λ (x : Allocation). x.size) (if c then Some (allocation_of a) else first_that (is_heap_block base) (map allocation_of rest)))
        (ap (λ (k : AllocKind). a.live && area_eq Heap (area_of k) && eqb a.base base) r.1 ∙ through a.live (eqb a.base base))
        ∙ same (is_block base a) a _ _ (in-row (b + room_taken a.size) rest r.2)

-- ---- what is live later was live before

pub ended-live : (t : Allocations) (base x : ℕ) → IsTrue (is_live x 1 (with_ended base t)) → IsTrue (is_live x 1 t)
ended-live t base x live =
    let r = live-in (has_range x 1) (with_ended base t) (some-live (with_ended base t) 1 x (omega arith) live) in
    live-of (has_range x 1) t r.0 (by r.0 r.1)
  where
    weaker : (b c : Bool) (a : Entry) → (if b then record a { live = false } else a).live && c ≡ true → a.live && c ≡ true
    weaker true c a e = absurd (cc e)
    weaker false c a e = e

    row : (xs : List Entry) → is_some (find (has_range x 1) (map (end-entry base) xs)) ≡ true → is_some (find (has_range x 1) xs) ≡ true
    row [] e = absurd (cc)
    row (a ∷ rest) e = one (is_block base a) (row rest) e
      where
        one : (b : Bool) → (is_some (find (has_range x 1) (map (end-entry base) rest)) ≡ true → is_some (find (has_range x 1) rest) ≡ true) →
            is_some (find (has_range x 1) ((if b then record a { live = false } else a) ∷ map (end-entry base) rest)) ≡ true → is_some (cond (has_range x 1 a) (Some a) (find (has_range x 1) rest)) ≡ true
        one true more e = pass-on (has_range x 1 a) a (find (has_range x 1) rest) (more e)
        one false more e = keep (has_range x 1 a) more e
          where
            keep : (c : Bool) → (is_some (find (has_range x 1) (map (end-entry base) rest)) ≡ true → is_some (find (has_range x 1) rest) ≡ true) →
                is_some (cond c (Some a) (find (has_range x 1) (map (end-entry base) rest))) ≡ true → is_some (cond c (Some a) (find (has_range x 1) rest)) ≡ true
            keep true more e = refl
            keep false more e = more e

    by : (k : AllocKind) → is_some (find (has_range x 1) (of_kind k (with_ended base t))) ≡ true → is_some (find (has_range x 1) (of_kind k t)) ≡ true
    by kind.Fixed e = e
    by kind.Heap e = row t.heap e
    by kind.Stack e = e

pub kept-live : (t : Allocations) (mark x : ℕ) → IsTrue (is_live x 1 (without_from mark t)) → IsTrue (is_live x 1 t)
kept-live t mark x live =
    let r = live-in (has_range x 1) (without_from mark t) (some-live (without_from mark t) 1 x (omega arith) live) in
    live-of (has_range x 1) t r.0 (by r.0 r.1)
  where
    row : (xs : List Entry) → is_some (find (has_range x 1) (filter (below mark) xs)) ≡ true → is_some (find (has_range x 1) xs) ≡ true
    row [] e = absurd (cc)
    row (a ∷ rest) e = one (below mark a) (has_range x 1 a) (row rest) refl e
      where
        one : (b c : Bool) → (is_some (find (has_range x 1) (filter (below mark) rest)) ≡ true → is_some (find (has_range x 1) rest) ≡ true) → has_range x 1 a ≡ c →
            is_some (find (has_range x 1) (cond b (a ∷ filter (below mark) rest) (filter (below mark) rest))) ≡ true → is_some (cond c (Some a) (find (has_range x 1) rest)) ≡ true
        one b true more f e = refl
        one true false more f e = more (ap (λ (d : Bool). is_some (cond d (Some a) (find (has_range x 1) (filter (below mark) rest)))) (sym f) ∙ e)
        one false false more f e = more e

    by : (k : AllocKind) → is_some (find (has_range x 1) (of_kind k (without_from mark t))) ≡ true → is_some (find (has_range x 1) (of_kind k t)) ≡ true
    by kind.Fixed e = e
    by kind.Heap e = e
    by kind.Stack e = row t.stack e

-- ---- parts of good ranges

pub shorter-live : (t : Allocations) (x n k : ℕ) → k ≤ n → IsTrue (is_live x n t) → IsTrue (is_live x k t)
shorter-live t x n k le live = ⊎_elim
    (λ (h : eqb n 0 ≡ true). let none : k ≡ 0 = omega (arith, eqb-true n 0 h) in ap (λ (j : ℕ). eqb j 0 || is_some (find (has_range x j) (listed t))) none)
    (λ (h : is_some (find (has_range x n) (listed t)) ≡ true). or_right (eqb k 0) _ (found-too (listed t) h))
    (or_cases _ _ live)
  where
    weaker : (a : Entry) → has_range x n a ≡ true → has_range x k a ≡ true
    weaker a e =
        let parts : (a.live && leb a.base x ≡ true) × (leb (x + n) (a.base + a.size) ≡ true) = and_parts _ _ e in
        and_from _ _ parts.0 (le-leb (x + k) (a.base + a.size) (omega (arith, le, leb-true (x + n) (a.base + a.size) parts.1)))

    found-too : (xs : List Entry) → is_some (find (has_range x n) xs) ≡ true → is_some (find (has_range x k) xs) ≡ true
    found-too [] e = absurd (cc)
    found-too (a ∷ rest) e = ⊎_elim
        (λ (h : has_range x n a ≡ true). ap (λ (c : Bool). is_some (cond c (Some a) (find (has_range x k) rest))) (weaker a h))
        (λ (h : has_range x n a ≡ false). pass-on (has_range x k a) a (find (has_range x k) rest) (found-too rest (sym (skipped (has_range x n a) a (find (has_range x n) rest) h) ∙ e)))
        (cases_Bool (has_range x n a))

-- a live heap block's bytes are good
pub block-live : (t : Allocations) (base size : ℕ) → block_size base t ≡ Some size → IsTrue (is_live base size t)
block-live t base size e = or_right (eqb size 0) _ (live-of (has_range base size) t kind.Heap (row t.heap e))
  where
    full : (a : Entry) → is_block base a ≡ true → a.size ≡ size → has_range base size a ≡ true
    full a b s =
        let parts : (a.live ≡ true) × (eqb a.base base ≡ true) = and_parts _ _ b in
        and_from _ _ (and_from _ _ parts.0 (le-leb a.base base (omega (arith, eqb-true a.base base parts.1)))) (le-leb (base + size) (a.base + a.size) (omega (arith, eqb-true a.base base parts.1, s)))

    some-is : (x y : ℕ) → Some x ≡ Some y → x ≡ y
    some-is x y e = cc

    row : (xs : List Entry) → option_map (λ (a : Entry). a.size) (find (is_block base) xs) ≡ Some size → is_some (find (has_range base size) xs) ≡ true
    row [] e = absurd (cc)
    row (a ∷ rest) e = one (is_block base a) refl (row rest) e
      where
        one : (b : Bool) → is_block base a ≡ b → (option_map (λ (a : Entry). a.size) (find (is_block base) rest) ≡ Some size → is_some (find (has_range base size) rest) ≡ true) →
            option_map (λ (a : Entry). a.size) (cond b (Some a) (find (is_block base) rest)) ≡ Some size → is_some (cond (has_range base size a) (Some a) (find (has_range base size) rest)) ≡ true
        one true h more e = ap (λ (c : Bool). is_some (cond c (Some a) (find (has_range base size) rest))) (full a h (some-is a.size size e))
        one false h more e = pass-on (has_range base size a) a (find (has_range base size) rest) (more e)

-- where no live heap block begins, none ends
map-none : (p : Allocation → Bool) (f : Allocation → Allocation) (xs : List Allocation) → is_some (first_that p xs) ≡ false → map (λ a. if p a then f a else a) xs ≡ xs
map-none p f [] e = refl
map-none p f (a ∷ rest) e = one (p a) (map-none p f rest) e
  where
    one : (b : Bool) → (is_some (first_that p rest) ≡ false → map (λ a. if p a then f a else a) rest ≡ rest) → is_some (if b then Some a else first_that p rest) ≡ false →
        (if b then f a else a) ∷ map (λ a. if p a then f a else a) rest ≡ a ∷ rest
    one true more e = absurd (cc)
    one false more e = ap (λ (l : List Allocation). a ∷ l) (more e)

pub no-block : (world : World) (base : ℕ) → heap_size world base ≡ None → map (end-alloc base) world.allocs ≡ world.allocs
no-block world base e = map-none (is_heap_block base) (λ a. record a { live = false }) world.allocs (none (first_that (is_heap_block base) world.allocs) e)
  where
    none : (o : Option Allocation) → option_map (λ (a : Allocation). a.size) o ≡ None → is_some o ≡ false
    none None e = refl
    none (Some a) e = absurd (cc)
