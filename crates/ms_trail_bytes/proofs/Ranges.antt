-- Live ranges lie within the areas of memory.
use Rattle.std.proofs.Common.{◌≡◌, ◌≤◌, ◌<◌, ◌+◌, ◌^◌, ℕ, zero, suc, Bool, true, false, leb, ◌&&◌, ◌||◌, List, [], ◌∷◌, ◌++◌, cond, Some, is_some, option_map, eqb, ◌⊎◌, inl, inr, refl, sym, ap, ◌∙◌, arith, true≢false}
use Rattle.std.specs.List.{find}
use Rattle.std.proofs.lemmas.Bool.{leb-true, eqb-true, ne_eqb, and_parts}
use Rattle.std.proofs.lemmas.List.Folds.{find-append}
use Rattle.ms_alloc.specs.declared.kinds.AllocKind.{AllocKind}
use Rattle.ms_alloc.specs.declared.kinds.AllocKind.TheVariants.{Fixed, Heap, Stack}
use Rattle.ms_alloc.specs.declared.allocations.Allocation.{Allocation}
use Rattle.ms_alloc.specs.Layout.{room, area_base, area_limit}
use Rattle.ms_alloc.specs.Allocations.{Allocations, IsRow, IsArea, IsLaidOut, used, next_base, listed, covers, is_good, is_block, heap_size}
use Rattle.ms_alloc.proofs.Rows.{size-le}
use Rattle.ms_trail_bytes.specs.Shading.{IsRange}
use Rattle.ms_planes.proofs.Reaches.{some-or}

-- in a row of allocations
row_range : (kind : AllocKind) (base : ℕ) (xs : List Allocation) → IsRow kind base xs → (addr n : ℕ) → is_some (find (covers addr n) xs) ≡ true → (base ≤ addr) × (addr + n ≤ base + used xs)
row_range kind base [] row addr n e = absurd (true≢false (sym e))
row_range kind base (a ∷ xs) row addr n e = by_test (covers addr n a) refl (λ found. row_range kind (base + room a.size) xs row.2 addr n found) e
  where
    by_test : (b : Bool) → covers addr n a ≡ b → (is_some (find (covers addr n) xs) ≡ true → (base + room a.size ≤ addr) × (addr + n ≤ base + room a.size + used xs))
        → is_some (cond b (Some a) (find (covers addr n) xs)) ≡ true → (base ≤ addr) × (addr + n ≤ base + (room a.size + used xs))
    by_test true is further found =
        let parts = and_parts (a.live && leb a.base addr) (leb (addr + n) (a.base + a.size)) is in
        let low = leb-true a.base addr (and_parts a.live (leb a.base addr) parts.0).1 in
        let high = leb-true (addr + n) (a.base + a.size) parts.1 in
        (omega (arith, low, row.0), omega (arith, high, row.0, size-le a.size))
    by_test false is further found =
        let later = further found in
        (omega (arith, later.0), omega (arith, later.1))

area_range : (kind : AllocKind) (xs : List Allocation) (limit base : ℕ) → area_base kind ≡ base → area_limit kind ≡ limit → 0x700000000000 ≤ base → base + limit < 2 ^ 48 → limit ≤ 2 ^ 26 → IsArea kind xs → (addr n : ℕ)
    → is_some (find (covers addr n) xs) ≡ true → IsRange addr n
area_range kind xs limit base begins ends low high few area addr n found =
    let r = row_range kind (area_base kind) xs area.row addr n found in
    record { low = omega (arith, r.0, begins, low); high = omega (arith, r.1, begins, ends, high, area.within); few = omega (arith, r.0, r.1, ends, few, area.within) }

pub live_range : (t : Allocations) → IsLaidOut t → (addr n : ℕ) → 0 < n → is_good addr n t ≡ true → IsRange addr n
live_range t laid addr n some good =
    by_area
    (sym (ap (λ (b : Bool). b || is_some (find (covers addr n) (listed t))) (ne_eqb n 0 (λ e. omega (arith, some, e)))) ∙ good)
  where
    lower : is_some (find (covers addr n) (t.fixed ++ t.heap)) ≡ true → IsRange addr n
    lower e = by_half (some-or (find (covers addr n) t.fixed) (find (covers addr n) t.heap) (sym (ap is_some (find-append (covers addr n) t.fixed t.heap)) ∙ e))
      where
        by_half : (is_some (find (covers addr n) t.fixed) ≡ true) ⊎ (is_some (find (covers addr n) t.heap) ≡ true) → IsRange addr n
        by_half (inl h) = area_range Fixed t.fixed (2 ^ 24) 0x700000000000 refl refl (omega arith) (omega arith) (omega arith) laid.fixed addr n h
        by_half (inr h) = area_range Heap t.heap (2 ^ 26) 0x710000000000 refl refl (omega arith) (omega arith) (omega arith) laid.heap addr n h

    by_area : is_some (find (covers addr n) (listed t)) ≡ true → IsRange addr n
    by_area e = by_half (some-or (find (covers addr n) (t.fixed ++ t.heap)) (find (covers addr n) t.stack) (sym (ap is_some (find-append (covers addr n) (t.fixed ++ t.heap) t.stack)) ∙ e))
      where
        by_half : (is_some (find (covers addr n) (t.fixed ++ t.heap)) ≡ true) ⊎ (is_some (find (covers addr n) t.stack) ≡ true) → IsRange addr n
        by_half (inl h) = lower h
        by_half (inr h) = area_range Stack t.stack (2 ^ 20) 0x720000000000 refl refl (omega arith) (omega arith) (omega arith) laid.stack addr n h

pub live_small : (t : Allocations) → IsLaidOut t → (addr n : ℕ) → is_good addr n t ≡ true → n ≤ 2 ^ 26
live_small t laid addr zero good = omega arith
live_small t laid addr (suc n) good = (live_range t laid addr (suc n) (omega arith) good).few

-- a heap block begins below the next one
room_some : (n : ℕ) → 0 < room n
room_some n = omega arith

row_below : (kind : AllocKind) (from : ℕ) (xs : List Allocation) → IsRow kind from xs → (base size : ℕ) → option_map (λ (a : Allocation). a.size) (find (is_block base) xs) ≡ Some size → base < from + used xs
row_below kind from [] row base size e = absurd (cc)
row_below kind from (a ∷ xs) row base size e = by_test (is_block base a) refl (λ found. row_below kind (from + room a.size) xs row.2 base size found) e
  where
    by_test : (b : Bool) → is_block base a ≡ b → (option_map (λ (x : Allocation). x.size) (find (is_block base) xs) ≡ Some size → base < from + room a.size + used xs)
        → option_map (λ (x : Allocation). x.size) (cond b (Some a) (find (is_block base) xs)) ≡ Some size → base < from + (room a.size + used xs)
    by_test true is further found = let same : a.base ≡ base = eqb-true a.base base (and_parts a.live (eqb a.base base) is).1 in omega (arith, same, row.0, room_some a.size)
    by_test false is further found = let later = further found in omega (arith, later)

pub block_below : (t : Allocations) → IsLaidOut t → (base size : ℕ) → heap_size base t ≡ Some size → base < next_base Heap t
block_below t laid base size e = row_below Heap (area_base Heap) t.heap laid.heap.row base size e
