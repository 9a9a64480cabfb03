-- Blocks of the heap, and blocks that are moved.
use Rattle.std.proofs.Common.{◌≡◌, ℕ, zero, suc, ◌+◌, ◌-◌, ◌%◌, ◌^◌, ◌<◌, ◌≤◌, min, List, [], ◌∷◌, ◌++◌, map, All, Bool, true, false, ◌&&◌, eqb, leb, ltb, Some, None, option_map, is_some, refl, sym, ap, ap₂, ◌∙◌, subst, arith, if◌then◌else◌, true≢false}
use Rattle.std.proofs.lemmas.Bool.{eqb-true, ne_eqb, le-leb, leb-true, and_parts}
use Rattle.std.proofs.lemmas.List.Elements.{All-tail}
use Rattle.ms_bits.specs.Completion.{Agrees}
use Rattle.ms_bits.specs.Maps.{within, bytes_at, string_within, first_nonzero}
use Rattle.ms_ir.specs.Areas.{Heap}
use Rattle.ms_runs.specs.World.{Allocation, World}
use Rattle.ms_ir.specs.Areas.{area_eq, room}
use Rattle.ms_runs.specs.Memory.{fits, next_base, first_that, covers, is_good, is_heap_block, heap_size, end_block, copy_bytes, copy_shadow, make_unset}
use Rattle.ms_runs.specs.Origins.{poison, first_in_string}
use Rattle.ms_runs.specs.LowEqual.{LowWorld}
use Rattle.ms_runs_fills_laws.specs.Placed.{IsPlaced, HeapPlaced}
use Rattle.ms_runs_fills_laws.proofs.Worlds.{Unseen, unseen_of, other, BytesAlike, poisoned_low}
use Rattle.ms_runs_fills_laws.proofs.Checks.{byte_same, string_unchanged}
use Rattle.ms_bits_laws.proofs.MapLemmas.{within-true}
use Rattle.ms_runs_good_laws.proofs.ExternalEffects.{room_above}

pub head_of : (P : Allocation → Type 0) (a : Allocation) (xs : List Allocation) → All P (a ∷ xs) → P a
head_of P a xs h = h 0 a (omega arith)

some_same : (u v : ℕ) → Some u ≡ Some v → u ≡ v
some_same u v e = grind arith

room_some : (n : ℕ) → 1 ≤ room n
room_some n = omega arith

-- where a live heap block stands
pub heap_found : (top p : ℕ) (xs : List Allocation) → All (IsPlaced top) xs → (old : ℕ) → option_map (λ a. a.size) (first_that (is_heap_block p) xs) ≡ Some old → (1 ≤ p) × (p + room old ≤ top)
heap_found top p [] h old e = grind arith
heap_found top p (a ∷ xs) h old e = by_test (is_heap_block p a) refl e (heap_found top p xs (All-tail (IsPlaced top) a xs h) old)
  where
    by_test : (t : Bool) → is_heap_block p a ≡ t → option_map (λ a. a.size) (if t then Some a else first_that (is_heap_block p) xs) ≡ Some old
        → (option_map (λ a. a.size) (first_that (is_heap_block p) xs) ≡ Some old → (1 ≤ p) × (p + room old ≤ top)) → (1 ≤ p) × (p + room old ≤ top)
    by_test false f g rest = rest g
    by_test true f g rest =
        let outer = and_parts (a.live && area_eq Heap a.area) (eqb a.base p) f in
        let inner = and_parts a.live (area_eq Heap a.area) outer.0 in
        let base = eqb-true a.base p outer.1 in
        let here = head_of (IsPlaced top) a xs h inner.1 in
        let size : a.size ≡ old = some_same a.size old g in
        (subst (λ k. 1 ≤ k) base here.0, subst (λ k. p + room k ≤ top) size (subst (λ k. k + room a.size ≤ top) base here.1))

-- no block of the heap stands at 0
pub none_at_zero : (w : World) → HeapPlaced w → (p old : ℕ) → p ≡ 0 → heap_size w p ≡ Some old → ⊥
none_at_zero w h p old z e = omega (arith, z, (heap_found (next_base Heap w) p w.allocs h old e).0)

-- a block's size
pub size_found : (p : ℕ) (xs : List Allocation) → All (λ a. a.size ≤ 2 ^ 26) xs → (old : ℕ) → option_map (λ a. a.size) (first_that (is_heap_block p) xs) ≡ Some old → old ≤ 2 ^ 26
size_found p [] h old e = grind arith
size_found p (a ∷ xs) h old e = by_test (is_heap_block p a) e (size_found p xs (All-tail (λ a. a.size ≤ 2 ^ 26) a xs h) old)
  where
    by_test : (t : Bool) → option_map (λ a. a.size) (if t then Some a else first_that (is_heap_block p) xs) ≡ Some old
        → (option_map (λ a. a.size) (first_that (is_heap_block p) xs) ≡ Some old → old ≤ 2 ^ 26) → old ≤ 2 ^ 26
    by_test false g rest = rest g
    by_test true g rest = subst (λ k. k ≤ 2 ^ 26) (some_same a.size old g) (head_of (λ a. a.size ≤ 2 ^ 26) a xs h)

-- no allocation has more bytes than the greatest
none_covers : (addr n : ℕ) (xs : List Allocation) → All (λ a. a.size ≤ 2 ^ 26) xs → 2 ^ 26 < n → is_some (first_that (covers addr n) xs) ≡ false
none_covers addr n [] h l = refl
none_covers addr n (a ∷ xs) h l = by_test (covers addr n a) refl (none_covers addr n xs (All-tail (λ a. a.size ≤ 2 ^ 26) a xs h) l)
  where
    by_test : (t : Bool) → covers addr n a ≡ t → is_some (first_that (covers addr n) xs) ≡ false → is_some (if t then Some a else first_that (covers addr n) xs) ≡ false
    by_test false e rest = rest
    by_test true e rest =
        let outer = and_parts (a.live && leb a.base addr) (leb (addr + n) (a.base + a.size)) e in
        let inner = and_parts a.live (leb a.base addr) outer.0 in
        absurd (omega (arith, leb-true a.base addr inner.1, leb-true (addr + n) (a.base + a.size) outer.1, head_of (λ a. a.size ≤ 2 ^ 26) a xs h, l))

pub too_many : (w : World) → All (λ a. a.size ≤ 2 ^ 26) w.allocs → (addr n : ℕ) → 2 ^ 26 < n → is_good w addr n ≡ false
too_many w h addr n l = ap (λ t. if t then true else is_some (first_that (covers addr n) w.allocs)) (ne_eqb n 0 (λ e. omega (arith, l, e))) ∙ none_covers addr n w.allocs h l

-- ---- a block that is moved

within_true : (a n x : ℕ) → within a n x ≡ true → (a ≤ x) × (x < a + n)
within_true a n x e = let both = and_parts (leb a x) (ltb x (a + n)) e in (leb-true a x both.0, leb-true (suc x) (a + n) both.1)

within_false : (a n x : ℕ) → within a n x ≡ false → a ≤ x → x < a + n → ⊥
within_false a n x e l g = true≢false (sym (within-true a n x l g) ∙ e)

found_mapped : (f : Allocation → Bool) (g : Allocation → Allocation) (xs : List Allocation) (a : Allocation) → f (g a) ≡ true → is_some (first_that f (map g (xs ++ a ∷ []))) ≡ true
found_mapped f g [] a e = ap (λ t. is_some (if t then Some (g a) else None)) e
found_mapped f g (x ∷ xs) a e = by_test (f (g x)) (found_mapped f g xs a e)
  where
    by_test : (t : Bool) → is_some (first_that f (map g (xs ++ a ∷ []))) ≡ true → is_some (if t then Some (g x) else first_that f (map g (xs ++ a ∷ []))) ≡ true
    by_test true r = refl
    by_test false r = r

module _ (fill others : List ℕ) (p old n root : ℕ) (w : World) (b : Unseen) (h : BytesAlike w b) (fit : fits Heap n w ≡ true) (before : p + room old ≤ next_base Heap w) (few : old ≤ 2 ^ 26) where
  q : ℕ
  q = next_base Heap w

  -- the world after a block became another one
  abbrev pub reallocated_world : World
  reallocated_world = end_block p (copy_shadow (next_base Heap w) p (min old n) (copy_bytes (next_base Heap w) p (min old n) (make_unset fill Heap n w)))

  -- the same under the other fill
  abbrev pub reallocated_other : World
  reallocated_other = end_block p (copy_shadow (next_base Heap w) p (min old n) (copy_bytes (next_base Heap w) p (min old n) (make_unset others Heap n (other w b))))

  start : (next_base Heap w + old) % 2 ^ 64 ≡ next_base Heap w + old
  start = small (next_base Heap w) old (omega (arith, leb-true _ _ fit)) few
    where
      small : (x y : ℕ) → x < 2 ^ 63 → y ≤ 2 ^ 26 → (x + y) % 2 ^ 64 ≡ x + y
      small x y l g = omega (arith, l, g)

  -- one byte: t says that it is copied, u that it is made anew, and v that its source is
  one_byte : (x : ℕ) → within (next_base Heap w + old) (n - old) x ≡ false → (t u v : Bool) → within (next_base Heap w) (min old n) x ≡ t → within (next_base Heap w) n x ≡ u
      → within (next_base Heap w) n (p + (x - next_base Heap w)) ≡ v → (m m' k k' : ℕ)
      → Agrees 8 (if t then (if v then 0 else w.shadow (p + (x - next_base Heap w))) else (if u then 0 else w.shadow x))
      (if t then (if v then m else (if v then 0 else w.bytes (p + (x - next_base Heap w)))) else (if u then k else (if u then 0 else w.bytes x)))
      (if t then (if v then m' else (if v then 0 else b.bytes (p + (x - next_base Heap w)))) else (if u then k' else (if u then 0 else b.bytes x)))
  one_byte x out true u true e f g m m' k k' =
      let both = within_true (next_base Heap w) (min old n) x e in
      let source = within_true (next_base Heap w) n (p + (x - next_base Heap w)) g in
      absurd (omega (arith, both.0, both.1, source.0, before, room_above old))
  one_byte x out true u false e f g m m' k k' = h.0 (p + (x - next_base Heap w))
  one_byte x out false false v e f g m m' k k' = h.0 x
  one_byte x out false true v e f g m m' k k' =
      let made = within_true (next_base Heap w) n x f in
      absurd (by_place (next_base Heap w) made.0 made.1 (λ l. within_false (next_base Heap w) (min old n) x e made.0 l) (within_false (next_base Heap w + old) (n - old) x out))
    where
      by_place : (q : ℕ) → q ≤ x → x < q + n → (x < q + min old n → ⊥) → (q + old ≤ x → x < q + old + (n - old) → ⊥) → ⊥
      by_place q l g c d = below (λ k. c (omega (arith, k, g))) (λ k. d k (omega (arith, l, g, k)))
        where
          below : (x < q + old → ⊥) → (q + old ≤ x → ⊥) → ⊥
          below c d = grind arith

  new_stands : is_heap_block p (record { base = next_base Heap w; size = n; area = Heap; live = true }) ≡ false
  new_stands = ne_eqb (next_base Heap w) p (λ e. omega (arith, e, before, room_some old))

  tail_good : old < n → is_good reallocated_world (next_base Heap w + old) (n - old) ≡ true
  tail_good l =
      by_test (eqb (n - old) 0)
      (found_mapped (covers (next_base Heap w + old) (n - old)) (λ a. if is_heap_block p a then record a { live = false } else a) w.allocs (record { base = next_base Heap w; size = n; area = Heap; live = true })
      (ap (λ t. covers (next_base Heap w + old) (n - old) (if t then record { base = next_base Heap w; size = n; area = Heap; live = false } else record { base = next_base Heap w; size = n; area = Heap; live = true })) new_stands
      ∙ ap₂ (λ t u. t && u) (le-leb (next_base Heap w) (next_base Heap w + old) (omega arith)) (le-leb (next_base Heap w + old + (n - old)) (next_base Heap w + n) (omega (arith, l)))))
    where
      by_test : (t : Bool) → is_some (first_that (covers (next_base Heap w + old) (n - old)) reallocated_world.allocs) ≡ true → (if t then true else is_some (first_that (covers (next_base Heap w + old) (n - old)) reallocated_world.allocs)) ≡ true
      by_test true r = refl
      by_test false r = r

  pub reallocated_low : LowWorld (poison (next_base Heap w) old n root reallocated_world) (poison (next_base Heap w) old n root reallocated_other)
  reallocated_low =
      poisoned_low (next_base Heap w) old n root reallocated_world (unseen_of reallocated_other)
      (λ x e. one_byte x (sym (ap (λ k. within k (n - old) x) start) ∙ e) (within (next_base Heap w) (min old n) x) (within (next_base Heap w) n x) (within (next_base Heap w) n (p + (x - next_base Heap w))) refl refl refl _ _ _ _) h.1
      (λ l. ap (λ k. is_good reallocated_world k (n - old)) start ∙ tail_good l)

-- ---- bytes that were checked

module _ (w : World) (b : Unseen) (h : BytesAlike w b) (l : (a : ℕ) → w.bytes a < 256) (g : (a : ℕ) → b.bytes a < 256) where
  none_some : (u : ℕ) → Some u ≡ None → ⊥
  none_some u e = grind arith

  pub bytes_checked : (n a : ℕ) → first_nonzero w.shadow a n ≡ None → bytes_at w.bytes a n ≡ bytes_at b.bytes a n
  bytes_checked zero a e = refl
  bytes_checked (suc n) a e = by_test (eqb (w.shadow a) 0) refl e (bytes_checked n (a + 1))
    where
      by_test : (t : Bool) → eqb (w.shadow a) 0 ≡ t → (if t then first_nonzero w.shadow (a + 1) n else Some a) ≡ None
          → (first_nonzero w.shadow (a + 1) n ≡ None → bytes_at w.bytes (a + 1) n ≡ bytes_at b.bytes (a + 1) n) → (w.bytes a ∷ bytes_at w.bytes (a + 1) n) ≡ (b.bytes a ∷ bytes_at b.bytes (a + 1) n)
      by_test true f z rest = ap₂ (λ x xs. x ∷ xs) (byte_same w b h l g a (eqb-true (w.shadow a) 0 f)) (rest z)
      by_test false f z rest = absurd (none_some a z)

  pub string_checked : (n a : ℕ) → first_in_string w a n ≡ None → string_within w.bytes a n ≡ string_within b.bytes a n
  string_checked n a e = string_unchanged w b h l g n a e
