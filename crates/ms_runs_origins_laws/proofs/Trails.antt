-- Trails that lead back, and where allocations stand.
use Rattle.std.proofs.Common.{◌≡◌, ℕ, zero, suc, ◌+◌, ◌-◌, ◌/◌, ◌%◌, ◌<◌, ◌≤◌, ◌⊎◌, inl, inr, List, [], ◌∷◌, ◌++◌, length, All, Bool, true, false, ◌&&◌, eqb, leb, ltb, Option, Some, None, slice_get, is_some, refl, sym, ap, ap₂, ◌∙◌, subst, arith, true≢false, if◌then◌else◌}
use Rattle.std.proofs.lemmas.Bool.{and_parts, leb-true, ltb-true, eqb-true, le-leb}
use Rattle.std.proofs.lemmas.List.Elements.{All-head, All-tail}
use Rattle.ms_bits.specs.Maps.{within, touches}
use Rattle.ms_runs.specs.declared.runs.Origin.{Origin}
use Rattle.ms_runs.specs.declared.runs.Origin.TheVariants.{Root, Chain}
use Rattle.ms_ir.specs.Areas.{Area, Heap, Stack, area_eq, area_base, room}
use Rattle.ms_runs.specs.World.{Allocation, World}
use Rattle.ms_runs.specs.Memory.{used, next_base, first_that, covers, is_good}
use Rattle.ms_runs.specs.Origins.{trail_within}
use Rattle.ms_runs_good_laws.specs.Reached.{LeadsBack}
use Rattle.ms_runs_good_laws.proofs.Rooms.{room_whole}

-- ---- trails

-- what is found in a list is found at the same place of a longer one
found_before : {A : Type 0} (xs ys : List A) (k : ℕ) (x : A) → slice_get xs k ≡ Some x → slice_get (xs ++ ys) k ≡ Some x
found_before [] ys k x e = grind arith
found_before (y ∷ xs) ys zero x e = e
found_before (y ∷ xs) ys (suc k) x e = found_before xs ys k x e

-- what is put last is found there
pub found_last : {A : Type 0} (xs : List A) (x : A) (k : ℕ) → k ≡ length xs → slice_get (xs ++ x ∷ []) k ≡ Some x
found_last [] x zero e = refl
found_last [] x (suc k) e = absurd (omega (arith, e))
found_last (y ∷ xs) x zero e = absurd (omega (arith, e))
found_last (y ∷ xs) x (suc k) e = found_last xs x k (omega (arith, e))

module _ (site root : ℕ → Type 0) where
  -- a trail that leads back stays one with more moves and more pairs
  pub more_back : (n k : ℕ) → n ≤ k → (roots : ℕ) (pairs more : List (ℕ × ℕ)) (id : ℕ) → LeadsBack site root (trail_within n roots pairs id) → LeadsBack site root (trail_within k roots (pairs ++ more) id)
  more_back zero k l roots pairs more id h = absurd h
  more_back (suc n) zero l roots pairs more id h = absurd (omega (arith, l))
  more_back (suc n) (suc k) l roots pairs more id h = by_tests (eqb id 0) (leb id roots) (slice_get pairs (id - roots - 1)) refl h (λ old g. more_back n k (omega (arith, l)) roots pairs more old g)
    where
      by_tests : (t u : Bool) (o : Option (ℕ × ℕ)) → slice_get pairs (id - roots - 1) ≡ o
          → LeadsBack site root (if t then [] else if u then Root id ∷ [] else elim o [ Some p ↦ Chain p.0 p.1 ∷ trail_within n roots pairs p.0 | None ↦ [] ])
          → ((old : ℕ) → LeadsBack site root (trail_within n roots pairs old) → LeadsBack site root (trail_within k roots (pairs ++ more) old))
          → LeadsBack site root (if t then [] else if u then Root id ∷ [] else elim (slice_get (pairs ++ more) (id - roots - 1)) [ Some p ↦ Chain p.0 p.1 ∷ trail_within k roots (pairs ++ more) p.0 | None ↦ [] ])
      by_tests true u o e h later = absurd h
      by_tests false true o e h later = h
      by_tests false false None e h later = absurd h
      by_tests false false (Some p) e h later =
          subst (λ q. LeadsBack site root (elim q [ Some r ↦ Chain r.0 r.1 ∷ trail_within k roots (pairs ++ more) r.0 | None ↦ [] ])) (sym (found_before pairs more (id - roots - 1) p e)) (h.0, later p.0 h.1)

  -- and it is the same
  pub same_trail : (n k : ℕ) → n ≤ k → (roots : ℕ) (pairs more : List (ℕ × ℕ)) (id : ℕ) → LeadsBack site root (trail_within n roots pairs id) → trail_within k roots (pairs ++ more) id ≡ trail_within n roots pairs id
  same_trail zero k l roots pairs more id h = absurd h
  same_trail (suc n) zero l roots pairs more id h = absurd (omega (arith, l))
  same_trail (suc n) (suc k) l roots pairs more id h = by_tests (eqb id 0) (leb id roots) (slice_get pairs (id - roots - 1)) refl h (λ old g. same_trail n k (omega (arith, l)) roots pairs more old g)
    where
      by_tests : (t u : Bool) (o : Option (ℕ × ℕ)) → slice_get pairs (id - roots - 1) ≡ o
          → LeadsBack site root (if t then [] else if u then Root id ∷ [] else elim o [ Some p ↦ Chain p.0 p.1 ∷ trail_within n roots pairs p.0 | None ↦ [] ])
          → ((old : ℕ) → LeadsBack site root (trail_within n roots pairs old) → trail_within k roots (pairs ++ more) old ≡ trail_within n roots pairs old)
          → (if t then [] else if u then Root id ∷ [] else elim (slice_get (pairs ++ more) (id - roots - 1)) [ Some p ↦ Chain p.0 p.1 ∷ trail_within k roots (pairs ++ more) p.0 | None ↦ [] ])
          ≡ (if t then [] else if u then Root id ∷ [] else elim o [ Some p ↦ Chain p.0 p.1 ∷ trail_within n roots pairs p.0 | None ↦ [] ])
      by_tests true u o e h later = absurd h
      by_tests false true o e h later = refl
      by_tests false false None e h later = absurd h
      by_tests false false (Some p) e h later =
          ap (λ q. elim q [ Some r ↦ Chain r.0 r.1 ∷ trail_within k roots (pairs ++ more) r.0 | None ↦ [] ]) (found_before pairs more (id - roots - 1) p e)
          ∙ ap (λ l. Chain p.0 p.1 ∷ l) (later p.0 h.1)

-- what leads back to some roots over some sites leads back to more over more
pub back_weaker : (site root site' root' : ℕ → Type 0) → ((at : ℕ) → site at → site' at) → ((id : ℕ) → root id → root' id) → (os : List Origin) → LeadsBack site root os → LeadsBack site' root' os
back_weaker site root site' root' s r [] h = absurd h
back_weaker site root site' root' s r (Root id ∷ []) h = r id h
back_weaker site root site' root' s r (Root id ∷ o ∷ rest) h = absurd h
back_weaker site root site' root' s r (Chain old at ∷ rest) h = (s at h.0, back_weaker site root site' root' s r rest h.1)

-- ---- where allocations stand

-- the allocation of n bytes that is made next in an area
abbrev pub next_block : Area → ℕ → World → Allocation
next_block area n w = record { base = next_base area w; size = n; area = area; live = true }

-- an allocation ends before the next block of the heap would begin, or is one of the stack
abbrev pub Apart : ℕ → Allocation → Type 0
Apart top a = (a.base + a.size ≤ top) ⊎ (area_base Stack ≤ a.base)

-- an address isn't among those at which blocks of the heap will begin
abbrev pub Clear : World → ℕ → Type 0
Clear w x = next_base Heap w ≤ x → x < area_base Stack → ⊥

found_holds : (test : Allocation → Bool) (P : Allocation → Type 0) (xs : List Allocation) → All P xs → is_some (first_that test xs) ≡ true → (a : Allocation) × (test a ≡ true) × P a
found_holds test P [] h e = absurd (true≢false (sym e))
found_holds test P (x ∷ xs) h e = by_test (test x) refl e (found_holds test P xs (All-tail P x xs h))
  where
    by_test : (t : Bool) → test x ≡ t → is_some (if t then Some x else first_that test xs) ≡ true
        → (is_some (first_that test xs) ≡ true → (a : Allocation) × (test a ≡ true) × P a) → (a : Allocation) × (test a ≡ true) × P a
    by_test true f g later = (x, f, All-head P x xs h)
    by_test false f g later = later g

-- the addresses of a range
pub inside : (a n x : ℕ) → within a n x ≡ true → (a ≤ x) × (x < a + n)
inside a n x e = let parts = and_parts (leb a x) (ltb x (a + n)) e in (leb-true a x parts.0, ltb-true x (a + n) parts.1)

-- a good range lies apart from where blocks of the heap will begin
pub good_clear : (w : World) → All (Apart (next_base Heap w)) w.allocs → (a n x : ℕ) → is_good w a n ≡ true → within a n x ≡ true → Clear w x
good_clear w placed a n x good e = by_test (eqb n 0) refl good
  where
    at : (a ≤ x) × (x < a + n)
    at = inside a n x e

    apart : (b : Allocation) → covers a n b ≡ true → Apart (next_base Heap w) b → Clear w x
    apart b c (inl l) low high =
        let parts = and_parts (b.live && leb b.base a) (leb (a + n) (b.base + b.size)) c in
        omega (arith, leb-true (a + n) (b.base + b.size) parts.1, at.1, l, low)
    apart b c (inr l) low high =
        let parts = and_parts (b.live && leb b.base a) (leb (a + n) (b.base + b.size)) c in
        omega (arith, leb-true b.base a (and_parts b.live (leb b.base a) parts.0).1, at.0, l, high)

    by_test : (t : Bool) → eqb n 0 ≡ t → (if t then true else is_some (first_that (covers a n) w.allocs)) ≡ true → Clear w x
    by_test true z g = absurd (omega (arith, at.0, at.1, eqb-true n 0 z))
    by_test false z g = let found = found_holds (covers a n) (Apart (next_base Heap w)) w.allocs placed g in apart found.0 found.1 found.2

-- one byte of a good range is good
pub good_byte : (w : World) (a n k : ℕ) → is_good w a n ≡ true → k < n → is_good w (a + k) 1 ≡ true
good_byte w a n k good l = by_test (eqb n 0) refl good
  where
    one : (xs : List Allocation) → is_some (first_that (covers a n) xs) ≡ true → is_some (first_that (covers (a + k) 1) xs) ≡ true
    one [] e = e
    one (x ∷ xs) e = by_both (covers a n x) (covers (a + k) 1 x) (λ c. smaller c) e (one xs)
      where
        smaller : covers a n x ≡ true → covers (a + k) 1 x ≡ true
        smaller c =
            let parts = and_parts (x.live && leb x.base a) (leb (a + n) (x.base + x.size)) c in
            let front = and_parts x.live (leb x.base a) parts.0 in
            ap₂ (λ t u. t && u) (ap₂ (λ t u. t && u) front.0 (le-leb x.base (a + k) (omega (arith, leb-true x.base a front.1)))) (le-leb (a + k + 1) (x.base + x.size) (omega (arith, leb-true (a + n) (x.base + x.size) parts.1, l)))

        by_both : (t u : Bool) → (t ≡ true → u ≡ true) → is_some (if t then Some x else first_that (covers a n) xs) ≡ true
            → (is_some (first_that (covers a n) xs) ≡ true → is_some (first_that (covers (a + k) 1) xs) ≡ true) → is_some (if u then Some x else first_that (covers (a + k) 1) xs) ≡ true
        by_both t true f g later = refl
        by_both true false f g later = absurd (true≢false (sym (f refl)))
        by_both false false f g later = later g

    by_test : (t : Bool) → eqb n 0 ≡ t → (if t then true else is_some (first_that (covers a n) w.allocs)) ≡ true → is_some (first_that (covers (a + k) 1) w.allocs) ≡ true
    by_test true z g = absurd (omega (arith, l, eqb-true n 0 z))
    by_test false z g = one w.allocs g

-- so the next block of the heap begins at a whole cell
used_whole : (xs : List Allocation) → used Heap xs % 16 ≡ 0
used_whole [] = refl
used_whole (x ∷ xs) = by_test (area_eq Heap x.area) (used_whole xs) (room_whole x.size).0
  where
    by_test : (t : Bool) → used Heap xs % 16 ≡ 0 → room x.size % 16 ≡ 0 → ((if t then room x.size else 0) + used Heap xs) % 16 ≡ 0
    by_test true e h = both (room x.size) (used Heap xs) h e
      where
        both : (a b : ℕ) → a % 16 ≡ 0 → b % 16 ≡ 0 → (a + b) % 16 ≡ 0
        both a b e h = omega (arith, e, h)
    by_test false e h = none (used Heap xs) e
      where
        none : (b : ℕ) → b % 16 ≡ 0 → (0 + b) % 16 ≡ 0
        none b e = omega (arith, e)

-- an address in a cell that a new block of the heap touches lies in the block's room
pub touched_room : (w : World) (n x : ℕ) → touches (next_base Heap w) n (x / 4) ≡ true → (next_base Heap w ≤ x) × (x < next_base Heap w + room n)
touched_room w n x e =
    let parts = and_parts (ltb 0 n && leb (next_base Heap w / 4) (x / 4)) (leb (x / 4) ((next_base Heap w + n - 1) / 4)) e in
    let front = and_parts (ltb 0 n) (leb (next_base Heap w / 4) (x / 4)) parts.0 in
    let whole = room_whole n in
    bounds (used Heap w.allocs) (room n) (used_whole w.allocs) whole.0 whole.1 (ltb-true 0 n front.0) (leb-true _ _ front.1) (leb-true _ _ parts.1)
  where
    bounds : (u r : ℕ) → u % 16 ≡ 0 → r % 16 ≡ 0 → n ≤ r → 0 < n → (area_base Heap + u) / 4 ≤ x / 4 → x / 4 ≤ (area_base Heap + u + n - 1) / 4 → (area_base Heap + u ≤ x) × (x < area_base Heap + u + r)
    bounds u r e h l p q g = (omega (arith, e, q), omega (arith, e, h, l, p, g))
