-- The bytes that the allocations of an area take.
use Rattle.std.proofs.Common.{◌≡◌, ℕ, ◌+◌, ◌*◌, ◌/◌, ◌%◌, ◌≤◌, max, List, [], ◌∷◌, ◌++◌, map, filter, Bool, true, false, not, ◌&&◌, leb, refl, sym, ap, ap₂, subst, arith, if◌then◌else◌}
use Rattle.ms_ir.specs.Areas.{Area, Fixed, Heap, Stack, area_eq, room}
use Rattle.ms_runs.specs.World.{Allocation}
use Rattle.ms_runs.specs.Memory.{used, is_heap_block, keeps}

-- one allocation more
pub used_push : (area : Area) (xs : List Allocation) (a : Allocation) → used area (xs ++ a ∷ []) ≡ used area xs + (if area_eq area a.area then room a.size else 0)
used_push area [] a = omega arith
used_push area (x ∷ xs) a = omega (arith, used_push area xs a)

-- a block that is ended keeps its room
pub used_ended : (p : ℕ) (xs : List Allocation) → used Heap (map (λ a. if is_heap_block p a then record a { live = false } else a) xs) ≡ used Heap xs
used_ended p [] = refl
used_ended p (x ∷ xs) = ap₂ (λ m n. m + n) (by_test (is_heap_block p x)) (used_ended p xs)
  where
    by_test : (t : Bool) → (if area_eq Heap (if t then record x { live = false } else x).area then room (if t then record x { live = false } else x).size else 0) ≡ (if area_eq Heap x.area then room x.size else 0)
    by_test true = refl
    by_test false = refl

-- a return takes allocations of the stack alone
pub used_kept : (mark : ℕ) (xs : List Allocation) → used Heap (filter (keeps mark) xs) ≡ used Heap xs
used_kept mark [] = refl
used_kept mark (x ∷ xs) = by_area x.area refl (used_kept mark xs)
  where
    by_area : (a : Area) → x.area ≡ a → used Heap (filter (keeps mark) xs) ≡ used Heap xs
        → used Heap (if not (area_eq Stack x.area && leb mark x.base) then x ∷ filter (keeps mark) xs else filter (keeps mark) xs) ≡ (if area_eq Heap x.area then room x.size else 0) + used Heap xs
    by_area Heap e h =
        subst (λ a. used Heap (if not (area_eq Stack a && leb mark x.base) then x ∷ filter (keeps mark) xs else filter (keeps mark) xs) ≡ (if area_eq Heap x.area then room x.size else 0) + used Heap xs) (sym e)
        (ap (λ n. (if area_eq Heap x.area then room x.size else 0) + n) h)
    by_area Fixed e h =
        subst (λ a. used Heap (if not (area_eq Stack a && leb mark x.base) then x ∷ filter (keeps mark) xs else filter (keeps mark) xs) ≡ (if area_eq Heap x.area then room x.size else 0) + used Heap xs) (sym e)
        (ap (λ n. (if area_eq Heap x.area then room x.size else 0) + n) h)
    by_area Stack e h = by_mark (leb mark x.base)
      where
        none : (if area_eq Heap x.area then room x.size else 0) ≡ 0
        none = ap (λ a. if area_eq Heap a then room x.size else 0) e

        by_mark : (t : Bool) → used Heap (if not (area_eq Stack x.area && t) then x ∷ filter (keeps mark) xs else filter (keeps mark) xs) ≡ (if area_eq Heap x.area then room x.size else 0) + used Heap xs
        by_mark true =
            subst (λ a. used Heap (if not (area_eq Stack a && true) then x ∷ filter (keeps mark) xs else filter (keeps mark) xs) ≡ (if area_eq Heap x.area then room x.size else 0) + used Heap xs) (sym e)
            (omega (arith, none, h))
        by_mark false =
            subst (λ a. used Heap (if not (area_eq Stack a && false) then x ∷ filter (keeps mark) xs else filter (keeps mark) xs) ≡ (if area_eq Heap x.area then room x.size else 0) + used Heap xs) (sym e)
            (ap (λ n. (if area_eq Heap x.area then room x.size else 0) + n) h)

-- each allocation takes whole cells, and no fewer bytes than it has
pub room_whole : (n : ℕ) → (room n % 16 ≡ 0) × (n ≤ room n)
room_whole n = whole (max n 1) (greater n)
  where
    greater : (n : ℕ) → n ≤ max n 1
    greater n = omega arith

    whole : (k : ℕ) → n ≤ k → ((k + 15) / 16 * 16 % 16 ≡ 0) × (n ≤ (k + 15) / 16 * 16)
    whole k l = (omega arith, omega (arith, l))
