-- Worlds in which origins lead back, and what keeps them so.
use Rattle.std.proofs.Common.{◌≡◌, ℕ, zero, suc, ◌+◌, ◌-◌, ◌/◌, ◌%◌, ◌^◌, ◌<◌, ◌≤◌, ◌⊎◌, inl, inr, ⊎_elim, List, [], ◌∷◌, ◌++◌, map, filter, length, get_or, All, Contains, Bool, true, false, not, ◌&&◌, ◌||◌, eqb, leb, ltb, Option, Some, None, slice_get, is_some, refl, sym, ap, ap₂, ◌∙◌, subst, arith, add-one, true≢false, if◌then◌else◌}
use Rattle.std.proofs.lemmas.Bool.{and_parts, or_parts, leb-true, ltb-true, eqb-true, eqb-false, ltb-false, le-leb, eq-eqb, ne_eqb}
use Rattle.std.proofs.lemmas.List.{length-append}
use Rattle.std.proofs.lemmas.List.Elements.{All-push, All-map, All-filter, All-weaker}
use Rattle.ms_bits.specs.Maps.{within, touches, with_cell, copied_cells, byte_of}
use Rattle.ms_runs.specs.declared.runs.Origin.TheVariants.{Root, Chain}
use Rattle.ms_runs.specs.declared.runs.Report.{Report}
use Rattle.ms_ir.specs.Areas.{Area, Heap, Stack, area_base, area_limit, room}
use Rattle.ms_runs.specs.World.{Allocation, World, Setting}
use Rattle.ms_runs.specs.Memory.{used, fits, next_base, first_that, covers, is_good, is_heap_block, local_area, end_block, end_blocks, set_shadow, set_cells, copy_shadow, make, make_unset, keeps}
use Rattle.ms_runs.specs.Control.{Frame, release, given_back}
use Rattle.ms_runs.specs.Origins.{trail_within, pair_index, Chained, keeps_old, chain, poison, unpoison, copy_planes, fill_planes, mark_cells, store_origin}
use Rattle.ms_runs_good_laws.specs.Reached.{LeadsBack}
use Rattle.ms_runs_good_laws.proofs.Rooms.{used_push, used_ended, used_kept, room_whole}
use Rattle.ms_runs_good_laws.proofs.WorldChanges.{pair_found}
use Rattle.ms_runs_origins_laws.proofs.Trails.{more_back, same_trail, found_last, Apart, Clear, inside, good_clear, good_byte, touched_room, next_block}

-- ---- what holds

-- an origin's trail leads back, where such pairs stand
abbrev pub Back : (site root : ℕ → Type 0) → (roots : ℕ) → List (ℕ × ℕ) → ℕ → Type 0
Back site root roots pairs id = LeadsBack site root (trail_within (length pairs + 1) roots pairs id)

-- each byte with a poisoned bit, but for some that are free, has an origin that leads back in its cell; each pair leads
-- back; where blocks of the heap will begin no byte has a poisoned bit, and no allocation stands; each report leads back, and shows its origin's trail
pub record BackedParts (site root told : ℕ → Type 0) (roots : ℕ) (free : ℕ → Type 0) (allocs : List Allocation) (shadow origins : ℕ → ℕ) (pairs : List (ℕ × ℕ)) (reports : List Report) : Type 0 where
  pub cells : (x : ℕ) → ¬ (shadow x ≡ 0) → free x ⊎ Back site root roots pairs (origins (x / 4))
  pub pairs_back : (k : ℕ) → k < length pairs → Back site root roots pairs (roots + 1 + k)
  pub fresh : (x : ℕ) → area_base Heap + used Heap allocs ≤ x → x < area_base Stack → shadow x ≡ 0
  pub placed : All (Apart (area_base Heap + used Heap allocs)) allocs
  pub reports_back : (r : Report) → Contains reports r → LeadsBack site told r.chain × (trail_within (length pairs + 1) roots pairs r.origin ≡ r.chain)

-- all origins of a world lead back, but for those of bytes that are free
abbrev pub Backed : (site root told : ℕ → Type 0) → (roots : ℕ) → (free : ℕ → Type 0) → World → Type 0
Backed site root told roots free w = BackedParts site root told roots free w.allocs w.shadow w.origins w.pairs w.reports

-- no byte is free
abbrev pub NoneFree : ℕ → Type 0
NoneFree x = ⊥

-- of n bytes from an address on, those that are live and whose byte of the mask isn't 0
abbrev pub Pending : ℕ → ℕ → ℕ → List Allocation → ℕ → Type 0
Pending n a mask allocs x = (k : ℕ) × (k < n) × (x ≡ a + k) × (byte_of mask k ≡ 0 → ⊥) × (is_some (first_that (covers x 1) allocs) ≡ true)

raised : (top more : ℕ) → top ≤ more → (xs : List Allocation) → All (Apart top) xs → All (Apart more) xs
raised top more l xs h = All-weaker (Apart top) (Apart more) (λ a. one a) xs h
  where
    one : (a : Allocation) → Apart top a → Apart more a
    one a (inl k) = inl (omega (arith, k, l))
    one a (inr k) = inr k

found_new : (f : Allocation → Bool) (xs : List Allocation) (a : Allocation) → f a ≡ true → is_some (first_that f (xs ++ a ∷ [])) ≡ true
found_new f [] a e = ap (λ t. is_some (if t then Some a else None)) e
found_new f (x ∷ xs) a e = by_test (f x) (found_new f xs a e)
  where
    by_test : (t : Bool) → is_some (first_that f (xs ++ a ∷ [])) ≡ true → is_some (if t then Some x else first_that f (xs ++ a ∷ [])) ≡ true
    by_test true r = refl
    by_test false r = r

ended_pairs : (ps : List ℕ) (w : World) → (end_blocks ps w).pairs ≡ w.pairs
ended_pairs [] w = refl
ended_pairs (p ∷ ps) w = ended_pairs ps (end_block p w)

-- what a return takes back leaves the chained origins
pub given_back_pairs : {V : Type 0} (frame : Frame V) (w : World) → (given_back frame w).pairs ≡ w.pairs
given_back_pairs frame w = ended_pairs frame.heap (if eqb frame.mark 0 then w else release frame.mark w) ∙ by_mark (eqb frame.mark 0)
  where
    by_mark : (t : Bool) → (if t then w else release frame.mark w).pairs ≡ w.pairs
    by_mark true = refl
    by_mark false = refl

module _ (site root told : ℕ → Type 0) (roots : ℕ) where
  -- more bytes are free
  pub freer : (f g : ℕ → Type 0) → ((x : ℕ) → f x → g x) → (w : World) → Backed site root told roots f w → Backed site root told roots g w
  freer f g h w b = record { cells = λ x n. ⊎_elim (λ e. inl (h x e)) (λ e. inr e) (b.cells x n); pairs_back = b.pairs_back; fresh = b.fresh; placed = b.placed; reports_back = b.reports_back }

  -- ---- shadow that becomes 0, and ranges with one origin

  -- bytes without a poisoned bit need no origin
  pub zeroed : (free : ℕ → Type 0) (a n : ℕ) (new : ℕ → ℕ) → ((k : ℕ) → new k ≡ 0) → (w : World) → Backed site root told roots free w → Backed site root told roots free (set_shadow a n new w)
  zeroed free a n new zeros w b = record {
    cells = λ x ne. cell x (within a n x) ne;
    pairs_back = b.pairs_back;
    fresh = λ x l g. none x l g (within a n x);
    placed = b.placed;
    reports_back = b.reports_back;
  }
    where
      cell : (x : ℕ) (t : Bool) → ¬ ((if t then new (x - a) else w.shadow x) ≡ 0) → free x ⊎ Back site root roots w.pairs (w.origins (x / 4))
      cell x true ne = absurd (ne (zeros (x - a)))
      cell x false ne = b.cells x ne

      none : (x : ℕ) → next_base Heap w ≤ x → x < area_base Stack → (t : Bool) → (if t then new (x - a) else w.shadow x) ≡ 0
      none x l g true = zeros (x - a)
      none x l g false = b.fresh x l g

  touched : (a n x : ℕ) → within a n x ≡ true → touches a n (x / 4) ≡ true
  touched a n x h =
      let parts = and_parts (leb a x) (ltb x (a + n)) h in
      grind (arith, parts.0, parts.1)

  -- a range gets shadow and an origin that leads back; what was free in cells that it touches is free no more
  pub ranged : (free : ℕ → Type 0) (a n : ℕ) (new : ℕ → ℕ) (origin : ℕ) (w : World) → Back site root roots w.pairs origin → ((x : ℕ) → within a n x ≡ true → Clear w x)
      → ((x : ℕ) → free x → touches a n (x / 4) ≡ true) → Backed site root told roots free w → Backed site root told roots NoneFree (set_cells a n origin (set_shadow a n new w))
  ranged free a n new origin w back clear covered b = record {
    cells = λ x ne. inr (cell x (within a n x) (touches a n (x / 4)) (touched a n x) refl ne);
    pairs_back = b.pairs_back;
    fresh = λ x l g. none x l g (within a n x) refl;
    placed = b.placed;
    reports_back = b.reports_back;
  }
    where
      cell : (x : ℕ) (t u : Bool) → (t ≡ true → u ≡ true) → touches a n (x / 4) ≡ u → ¬ ((if t then new (x - a) else w.shadow x) ≡ 0) → Back site root roots w.pairs (if u then origin else w.origins (x / 4))
      cell x t true e f ne = back
      cell x true false e f ne = absurd (true≢false (sym (e refl)))
      cell x false false e f ne = ⊎_elim (λ h. absurd (true≢false (sym (covered x h) ∙ f))) (λ h. h) (b.cells x ne)

      none : (x : ℕ) → next_base Heap w ≤ x → x < area_base Stack → (t : Bool) → within a n x ≡ t → (if t then new (x - a) else w.shadow x) ≡ 0
      none x l g true e = absurd (clear x e l g)
      none x l g false e = b.fresh x l g

  -- bytes that are poisoned with an origin that leads back
  pub poisoned : (a from to origin : ℕ) (w : World) → Back site root roots w.pairs origin → Backed site root told roots NoneFree w → Backed site root told roots NoneFree (poison a from to origin w)
  poisoned a from to origin w back b = by_test (ltb from to && is_good w ((a + from) % 2 ^ 64) (to - from)) refl
    where
      by_test : (t : Bool) → (ltb from to && is_good w ((a + from) % 2 ^ 64) (to - from)) ≡ t
          → Backed site root told roots NoneFree (if t then set_cells ((a + from) % 2 ^ 64) (to - from) origin (set_shadow ((a + from) % 2 ^ 64) (to - from) (λ k. 255) w) else w)
      by_test true e =
          ranged NoneFree ((a + from) % 2 ^ 64) (to - from) (λ k. 255) origin w back
          (λ x i. good_clear w b.placed ((a + from) % 2 ^ 64) (to - from) x (and_parts (ltb from to) (is_good w ((a + from) % 2 ^ 64) (to - from)) e).1 i) (λ x h. absurd h) b
      by_test false e = b

  -- bytes that are not poisoned any more
  pub unpoisoned : (a n : ℕ) (w : World) → Backed site root told roots NoneFree w → Backed site root told roots NoneFree (unpoison a n w)
  unpoisoned a n w b = by_test (is_good w a n)
    where
      by_test : (t : Bool) → Backed site root told roots NoneFree (if t then set_shadow a n (λ k. 0) w else w)
      by_test true = zeroed NoneFree a n (λ k. 0) (λ k. refl) w b
      by_test false = b

  -- ---- copies

  module _ (holds : ℕ → Type 0) (shadow old : ℕ → ℕ) (backs : (x : ℕ) → ¬ (shadow x ≡ 0) → holds (old (x / 4))) where
    put_cell : (to from : ℕ) (cells : ℕ → ℕ) (c : ℕ) → holds (cells c) → holds ((if eqb (shadow from) 0 then cells else with_cell cells to (old (from / 4))) c)
    put_cell to from cells c h = by_test (eqb (shadow from) 0) refl (eqb c (to / 4))
      where
        by_test : (t : Bool) → eqb (shadow from) 0 ≡ t → (u : Bool) → holds ((if t then cells else (λ cell. if eqb cell (to / 4) then old (from / 4) else cells cell)) c)
        by_test true e u = h
        by_test false e u = inner (eqb c (to / 4))
          where
            inner : (u : Bool) → holds (if u then old (from / 4) else cells c)
            inner true = backs from (eqb-false (shadow from) 0 e)
            inner false = h

    copies_stay : (n to from : ℕ) (cells : ℕ → ℕ) (c : ℕ) → holds (cells c) → holds (copied_cells shadow old to from n cells c)
    copies_stay zero to from cells c h = h
    copies_stay (suc n) to from cells c h = copies_stay n (to + 1) (from + 1) (if eqb (shadow from) 0 then cells else with_cell cells to (old (from / 4))) c (put_cell to from cells c h)

    copies_put : (n k to from : ℕ) (cells : ℕ → ℕ) → k < n → ¬ (shadow (from + k) ≡ 0) → holds (copied_cells shadow old to from n cells ((to + k) / 4))
    copies_put zero k to from cells l ne = absurd (omega (arith, l))
    copies_put (suc n) zero to from cells l ne =
        copies_stay n (to + 1) (from + 1) (if eqb (shadow from) 0 then cells else with_cell cells to (old (from / 4))) ((to + 0) / 4) (first (eqb (shadow from) 0) refl)
      where
        same : (x : ℕ) → x + 0 ≡ x
        same x = omega arith

        first : (t : Bool) → eqb (shadow from) 0 ≡ t → holds ((if t then cells else (λ cell. if eqb cell (to / 4) then old (from / 4) else cells cell)) ((to + 0) / 4))
        first true e = absurd (ne (ap shadow (same from) ∙ eqb-true (shadow from) 0 e))
        first false e = subst (λ t. holds (if t then old (from / 4) else cells ((to + 0) / 4))) (sym (eq-eqb ((to + 0) / 4) (to / 4) (ap (λ x. x / 4) (same to)))) (backs from (eqb-false (shadow from) 0 e))
    copies_put (suc n) (suc k) to from cells l ne =
        subst (λ x. holds (copied_cells shadow old (to + 1) (from + 1) n (if eqb (shadow from) 0 then cells else with_cell cells to (old (from / 4))) (x / 4))) (next to)
        (copies_put n k (to + 1) (from + 1) (if eqb (shadow from) 0 then cells else with_cell cells to (old (from / 4))) (omega (arith, l)) (λ e. ne (ap shadow (sym (next from)) ∙ e)))
      where
        next : (x : ℕ) → x + 1 + k ≡ x + suc k
        next x = omega arith

  -- a copy takes an origin along with each byte that has a poisoned bit
  pub copied_back : (to from n : ℕ) (w : World) → ((x : ℕ) → within to n x ≡ true → Clear w x) → Backed site root told roots NoneFree w → Backed site root told roots NoneFree (copy_shadow to from n w)
  copied_back to from n w clear b = record {
    cells = λ x ne. inr (cell x (within to n x) refl ne);
    pairs_back = b.pairs_back;
    fresh = λ x l g. none x l g (within to n x) refl;
    placed = b.placed;
    reports_back = b.reports_back;
  }
    where
      backs : (x : ℕ) → ¬ (w.shadow x ≡ 0) → Back site root roots w.pairs (w.origins (x / 4))
      backs x ne = ⊎_elim (λ h. absurd h) (λ h. h) (b.cells x ne)

      cell : (x : ℕ) (t : Bool) → within to n x ≡ t → ¬ ((if t then w.shadow (from + (x - to)) else w.shadow x) ≡ 0) → Back site root roots w.pairs (copied_cells w.shadow w.origins to from n w.origins (x / 4))
      cell x true e ne =
          let at = inside to n x e in
          subst (λ y. Back site root roots w.pairs (copied_cells w.shadow w.origins to from n w.origins (y / 4))) (whole at.0)
          (copies_put (Back site root roots w.pairs) w.shadow w.origins backs n (x - to) to from w.origins (omega (arith, at.0, at.1)) ne)
        where
          whole : to ≤ x → to + (x - to) ≡ x
          whole l = omega (arith, l)
      cell x false e ne = copies_stay (Back site root roots w.pairs) w.shadow w.origins backs n to from w.origins (x / 4) (backs x ne)

      none : (x : ℕ) → next_base Heap w ≤ x → x < area_base Stack → (t : Bool) → within to n x ≡ t → (if t then w.shadow (from + (x - to)) else w.shadow x) ≡ 0
      none x l g true e = absurd (clear x e l g)
      none x l g false e = b.fresh x l g

  -- the same, where both ranges are good
  pub planes_copied : (to from n : ℕ) (w : World) → Backed site root told roots NoneFree w → Backed site root told roots NoneFree (copy_planes to from n w)
  planes_copied to from n w b = by_test (is_good w to n && is_good w from n) refl
    where
      by_test : (t : Bool) → (is_good w to n && is_good w from n) ≡ t → Backed site root told roots NoneFree (if t then copy_shadow to from n w else w)
      by_test true e = copied_back to from n w (λ x i. good_clear w b.placed to n x (and_parts (is_good w to n) (is_good w from n) e).0 i) b
      by_test false e = b

  -- ---- allocations

  -- a block of the heap, where no byte of its cells has a poisoned bit
  pub made_heap : (n : ℕ) (w : World) → fits Heap n w ≡ true → Backed site root told roots NoneFree w → Backed site root told roots NoneFree (make Heap n w)
  made_heap n w fit b = record {
    cells = λ x ne. inr (cell x (within (next_base Heap w) n x) (touches (next_base Heap w) n (x / 4)) refl ne);
    pairs_back = b.pairs_back;
    fresh = λ x l g. none x (within (next_base Heap w) n x) (omega (arith, l, more)) g;
    placed = All-push (Apart (area_base Heap + used Heap (w.allocs ++ next_block Heap n w ∷ []))) w.allocs (next_block Heap n w) (raised (next_base Heap w) (area_base Heap + used Heap (w.allocs ++ next_block Heap n w ∷ [])) (omega (arith, more)) w.allocs b.placed)
        (inl (omega (arith, more, (room_whole n).1)));
    reports_back = b.reports_back;
  }
    where
      more : used Heap (w.allocs ++ next_block Heap n w ∷ []) ≡ used Heap w.allocs + room n
      more = used_push Heap w.allocs (next_block Heap n w)

      below : next_base Heap w + room n ≤ area_base Stack
      below = omega (arith, leb-true (used Heap w.allocs + room n) (area_limit Heap) fit)

      cell : (x : ℕ) (t u : Bool) → touches (next_base Heap w) n (x / 4) ≡ u → ¬ ((if t then 0 else w.shadow x) ≡ 0) → Back site root roots w.pairs (if u then 0 else w.origins (x / 4))
      cell x true u e ne = absurd (ne refl)
      cell x false true e ne = let at = touched_room w n x e in absurd (ne (b.fresh x at.0 (omega (arith, at.1, below))))
      cell x false false e ne = ⊎_elim (λ h. absurd h) (λ h. h) (b.cells x ne)

      none : (x : ℕ) (t : Bool) → next_base Heap w ≤ x → x < area_base Stack → (if t then 0 else w.shadow x) ≡ 0
      none x true l g = refl
      none x false l g = b.fresh x l g

  -- room on the stack, all of whose cells are to be poisoned
  made_stack : (n : ℕ) (w : World) → Backed site root told roots NoneFree w → Backed site root told roots (λ x. touches (next_base Stack w) n (x / 4) ≡ true) (make Stack n w)
  made_stack n w b = record {
    cells = λ x ne. cell x (within (next_base Stack w) n x) (touches (next_base Stack w) n (x / 4)) refl ne;
    pairs_back = b.pairs_back;
    fresh = λ x l g. none x (within (next_base Stack w) n x) (omega (arith, l, same)) g;
    placed = All-push (Apart (area_base Heap + used Heap (w.allocs ++ next_block Stack n w ∷ []))) w.allocs (next_block Stack n w) (raised (next_base Heap w) (area_base Heap + used Heap (w.allocs ++ next_block Stack n w ∷ [])) (omega (arith, same)) w.allocs b.placed) (inr (omega arith));
    reports_back = b.reports_back;
  }
    where
      same : used Heap (w.allocs ++ next_block Stack n w ∷ []) ≡ used Heap w.allocs + 0
      same = used_push Heap w.allocs (next_block Stack n w)

      cell : (x : ℕ) (t u : Bool) → touches (next_base Stack w) n (x / 4) ≡ u → ¬ ((if t then 0 else w.shadow x) ≡ 0) → (touches (next_base Stack w) n (x / 4) ≡ true) ⊎ Back site root roots w.pairs (if u then 0 else w.origins (x / 4))
      cell x t true e ne = inl e
      cell x true false e ne = absurd (ne refl)
      cell x false false e ne = ⊎_elim (λ h. absurd h) (λ h. inr h) (b.cells x ne)

      none : (x : ℕ) (t : Bool) → next_base Heap w ≤ x → x < area_base Stack → (if t then 0 else w.shadow x) ≡ 0
      none x true l g = refl
      none x false l g = b.fresh x l g

  -- room of which no byte lies where blocks of the heap will begin, and all of whose cells are to be poisoned, gets an origin
  room_backed : (area : Area) (fill : List ℕ) (n origin : ℕ) (w : World) → (next_base area w + 0) % 2 ^ 64 ≡ next_base area w
      → ((x : ℕ) → next_base area w ≤ x → x < next_base area w + n → Clear (make_unset fill area n w) x) → Back site root roots w.pairs origin
      → Backed site root told roots (λ x. touches (next_base area w) n (x / 4) ≡ true) (make area n w)
      → Backed site root told roots NoneFree (poison (next_base area w) 0 n origin (make_unset fill area n w))
  room_backed area fill n origin w start clear back b =
      subst (Backed site root told roots NoneFree) (sym (ap₂ (λ p k. if ltb 0 n && is_good made p k then set_cells p k origin (set_shadow p k (λ j. 255) made) else made) start whole))
      (by_tests (ltb 0 n) refl)
    where
      made : World
      made = make_unset fill area n w

      whole : n - 0 ≡ n
      whole = omega arith

      good : is_good (make_unset fill area n w) (next_base area w) n ≡ true
      good = by_size (eqb n 0)
          (found_new (covers (next_base area w) n) w.allocs (next_block area n w)
          (ap₂ (λ t u. t && u) (le-leb (next_base area w) (next_base area w) (omega arith)) (le-leb (next_base area w + n) (next_base area w + n) (omega arith))))
        where
          by_size : (t : Bool) → is_some (first_that (covers (next_base area w) n) (w.allocs ++ next_block area n w ∷ [])) ≡ true
              → (if t then true else is_some (first_that (covers (next_base area w) n) (w.allocs ++ next_block area n w ∷ []))) ≡ true
          by_size true h = refl
          by_size false h = h

      by_tests : (t : Bool) → ltb 0 n ≡ t
          → Backed site root told roots NoneFree (if t && is_good (make_unset fill area n w) (next_base area w) n then set_cells (next_base area w) n origin (set_shadow (next_base area w) n (λ j. 255) (make_unset fill area n w)) else make_unset fill area n w)
      by_tests true e =
          subst (λ g. Backed site root told roots NoneFree (if g then set_cells (next_base area w) n origin (set_shadow (next_base area w) n (λ j. 255) (make_unset fill area n w)) else make_unset fill area n w)) (sym good)
          (ranged (λ x. touches (next_base area w) n (x / 4) ≡ true) (next_base area w) n (λ j. 255) origin (make_unset fill area n w) back
          (λ x i. let at = inside (next_base area w) n x i in clear x at.0 at.1) (λ x h. h) b)
      by_tests false e =
          freer (λ x. touches (next_base area w) n (x / 4) ≡ true) NoneFree
          (λ x h. true≢false (sym (and_parts (ltb 0 n) (leb (next_base area w / 4) (x / 4)) (and_parts (ltb 0 n && leb (next_base area w / 4) (x / 4)) (leb (x / 4) ((next_base area w + n - 1) / 4)) h).0).0 ∙ e))
          (make_unset fill area n w) b

  stack_room : (fill : List ℕ) (n origin : ℕ) (w : World) → fits Stack n w ≡ true → Back site root roots w.pairs origin → Backed site root told roots NoneFree w
      → Backed site root told roots NoneFree (poison (next_base Stack w) 0 n origin (make_unset fill Stack n w))
  stack_room fill n origin w fit back b =
      room_backed Stack fill n origin w (omega (arith, leb-true (used Stack w.allocs + room n) (area_limit Stack) fit)) (λ x l k m g. omega (arith, l, g)) back (made_stack n w b)

  heap_room : (fill : List ℕ) (n origin : ℕ) (w : World) → fits Heap n w ≡ true → Back site root roots w.pairs origin → Backed site root told roots NoneFree w
      → Backed site root told roots NoneFree (poison (next_base Heap w) 0 n origin (make_unset fill Heap n w))
  heap_room fill n origin w fit back b =
      room_backed Heap fill n origin w (omega (arith, leb-true (used Heap w.allocs + room n) (area_limit Heap) fit)) (λ x l k m g. omega (arith, k, m, more, (room_whole n).1)) back
      (freer NoneFree (λ x. touches (next_base Heap w) n (x / 4) ≡ true) (λ x h. absurd h) (make Heap n w) (made_heap n w fit b))
    where
      more : used Heap (w.allocs ++ next_block Heap n w ∷ []) ≡ used Heap w.allocs + room n
      more = used_push Heap w.allocs (next_block Heap n w)

  -- 'alloca': its bytes get its own origin
  pub made_room : (fill : List ℕ) (n origin : ℕ) (w : World) → fits (local_area w) n w ≡ true → Back site root roots w.pairs origin → Backed site root told roots NoneFree w
      → Backed site root told roots NoneFree (poison (next_base (local_area w) w) 0 n origin (make_unset fill (local_area w) n w))
  made_room fill n origin w fit back b = by_turn (eqb w.turn 0) fit
    where
      by_turn : (t : Bool) → fits (if t then Stack else Heap) n w ≡ true
          → Backed site root told roots NoneFree (poison (next_base (if t then Stack else Heap) w) 0 n origin (make_unset fill (if t then Stack else Heap) n w))
      by_turn true f = stack_room fill n origin w f back b
      by_turn false f = heap_room fill n origin w f back b

  -- a block that is ended
  pub ended_back : (p : ℕ) (w : World) → Backed site root told roots NoneFree w → Backed site root told roots NoneFree (end_block p w)
  ended_back p w b = record {
    cells = b.cells;
    pairs_back = b.pairs_back;
    fresh = λ x l g. b.fresh x (omega (arith, l, used_ended p w.allocs)) g;
    placed = subst (λ top. All (Apart (area_base Heap + top)) (map (λ a. if is_heap_block p a then record a { live = false } else a) w.allocs)) (sym (used_ended p w.allocs))
        (All-map (Apart (next_base Heap w)) (λ a. if is_heap_block p a then record a { live = false } else a) w.allocs (λ k d l. one (is_heap_block p (get_or w.allocs k d)) (get_or w.allocs k d) (b.placed k d l)));
    reports_back = b.reports_back;
  }
    where
      one : (t : Bool) (a : Allocation) → Apart (next_base Heap w) a → Apart (next_base Heap w) (if t then record a { live = false } else a)
      one true a h = h
      one false a h = h

  -- the stack taken back at a return
  released_back : (mark : ℕ) (w : World) → Backed site root told roots NoneFree w → Backed site root told roots NoneFree (release mark w)
  released_back mark w b = record {
    cells = b.cells;
    pairs_back = b.pairs_back;
    fresh = λ x l g. b.fresh x (omega (arith, l, used_kept mark w.allocs)) g;
    placed = subst (λ top. All (Apart (area_base Heap + top)) (filter (keeps mark) w.allocs)) (sym (used_kept mark w.allocs)) (All-filter (keeps mark) (Apart (next_base Heap w)) w.allocs b.placed);
    reports_back = b.reports_back;
  }

  all_ended_back : (ps : List ℕ) (w : World) → Backed site root told roots NoneFree w → Backed site root told roots NoneFree (end_blocks ps w)
  all_ended_back [] w b = b
  all_ended_back (p ∷ ps) w b = all_ended_back ps (end_block p w) (ended_back p w b)

  -- what a return takes back
  pub given_back_backed : {V : Type 0} (frame : Frame V) (w : World) → Backed site root told roots NoneFree w → Backed site root told roots NoneFree (given_back frame w)
  given_back_backed frame w b = all_ended_back frame.heap (if eqb frame.mark 0 then w else release frame.mark w) (by_mark (eqb frame.mark 0))
    where
      by_mark : (t : Bool) → Backed site root told roots NoneFree (if t then w else release frame.mark w)
      by_mark true = b
      by_mark false = released_back frame.mark w b

  -- ---- pairs

  longer : (pairs more : List (ℕ × ℕ)) (id : ℕ) → Back site root roots pairs id → Back site root roots (pairs ++ more) id
  longer pairs more id h = more_back site root (length pairs + 1) (length (pairs ++ more) + 1) (omega (arith, length-append pairs more)) roots pairs more id h

  newest : (pairs : List (ℕ × ℕ)) (old at : ℕ) → site at → Back site root roots pairs old → Back site root roots (pairs ++ (old, at) ∷ []) (roots + 1 + length pairs)
  newest pairs old at here h =
      subst (λ n. LeadsBack site root (trail_within n roots (pairs ++ (old, at) ∷ []) (roots + 1 + length pairs))) (sym (add-one (length (pairs ++ (old, at) ∷ []))))
      (step (eqb (roots + 1 + length pairs) 0) (leb (roots + 1 + length pairs) roots) (slice_get (pairs ++ (old, at) ∷ []) (roots + 1 + length pairs - roots - 1))
      (ne_eqb (roots + 1 + length pairs) 0 (λ e. omega (arith, e))) above (found_last pairs (old, at) (roots + 1 + length pairs - roots - 1) (omega arith))
      (more_back site root (length pairs + 1) (length (pairs ++ (old, at) ∷ [])) (omega (arith, length-append pairs ((old, at) ∷ []))) roots pairs ((old, at) ∷ []) old h))
    where
      above : leb (roots + 1 + length pairs) roots ≡ false
      above = by_test (leb (roots + 1 + length pairs) roots) refl
        where
          by_test : (t : Bool) → leb (roots + 1 + length pairs) roots ≡ t → t ≡ false
          by_test true e = absurd (omega (arith, leb-true (roots + 1 + length pairs) roots e))
          by_test false e = refl

      step : (t u : Bool) (o : Option (ℕ × ℕ)) → t ≡ false → u ≡ false → o ≡ Some (old, at) → LeadsBack site root (trail_within (length (pairs ++ (old, at) ∷ [])) roots (pairs ++ (old, at) ∷ []) old)
          → LeadsBack site root (if t then [] else if u then Root (roots + 1 + length pairs) ∷ [] else elim o [
            | Some p ↦ Chain p.0 p.1 ∷ trail_within (length (pairs ++ (old, at) ∷ [])) roots (pairs ++ (old, at) ∷ []) p.0
            | None ↦ []
          ])
      step true u o e f g k = absurd (true≢false e)
      step false true o e f g k = absurd (true≢false f)
      step false false o e f g k =
          subst (λ q. LeadsBack site root (elim q [ Some p ↦ Chain p.0 p.1 ∷ trail_within (length (pairs ++ (old, at) ∷ [])) roots (pairs ++ (old, at) ∷ []) p.0 | None ↦ [] ])) (sym g) (here, k)

-- what a chained origin leaves
module _ (site root told : ℕ → Type 0) (s : Setting) where
  -- the chained origin and its world, by the tests that decide
  abbrev chosen : Bool → Option ℕ → ℕ → ℕ → World → Chained
  chosen t o old at w =
      if t then record { id = old; world = w } else
      elim o [
        | Some k ↦ record { id = s.roots + 1 + k; world = w }
        | None ↦ record { id = s.roots + 1 + length w.pairs; world = record w { pairs = w.pairs ++ (old, at) ∷ [] } }
      ]

  -- a pair changes no allocation
  pub chain_allocs : (old at : ℕ) (w : World) → (chain s old at w).world.allocs ≡ w.allocs
  chain_allocs old at w = by_tests (keeps_old s w old) (pair_index w.pairs old at)
    where
      by_tests : (t : Bool) (o : Option ℕ) → (chosen t o old at w).world.allocs ≡ w.allocs
      by_tests true o = refl
      by_tests false (Some k) = refl
      by_tests false None = refl

  -- what leads back goes on to
  pub chain_grows : (old at : ℕ) (w : World) (id : ℕ) → Back site root s.roots w.pairs id → Back site root s.roots (chain s old at w).world.pairs id
  chain_grows old at w id h = by_tests (keeps_old s w old) (pair_index w.pairs old at)
    where
      by_tests : (t : Bool) (o : Option ℕ) → Back site root s.roots (chosen t o old at w).world.pairs id
      by_tests true o = h
      by_tests false (Some k) = h
      by_tests false None = longer site root told s.roots w.pairs ((old, at) ∷ []) id h

  -- and so does the new origin, at a site that is reached
  pub chain_back : (free : ℕ → Type 0) (old at : ℕ) (w : World) → site at → Back site root s.roots w.pairs old → Backed site root told s.roots free w
      → Back site root s.roots (chain s old at w).world.pairs (chain s old at w).id
  chain_back free old at w here h b = by_tests (keeps_old s w old) (pair_index w.pairs old at) refl
    where
      by_tests : (t : Bool) (o : Option ℕ) → pair_index w.pairs old at ≡ o → Back site root s.roots (chosen t o old at w).world.pairs (chosen t o old at w).id
      by_tests true o e = h
      by_tests false (Some k) e = b.pairs_back k (pair_found w.pairs old at k e)
      by_tests false None e = newest site root told s.roots w.pairs old at here h

  -- and the world with its pair
  pub chain_world : (free : ℕ → Type 0) (old at : ℕ) (w : World) → site at → Back site root s.roots w.pairs old → Backed site root told s.roots free w → Backed site root told s.roots free (chain s old at w).world
  chain_world free old at w here h b = by_tests (keeps_old s w old) (pair_index w.pairs old at)
    where
      by_tests : (t : Bool) (o : Option ℕ) → Backed site root told s.roots free (chosen t o old at w).world
      by_tests true o = b
      by_tests false (Some k) = b
      by_tests false None = record {
        cells = λ x ne. ⊎_elim (λ e. inl e) (λ e. inr (longer site root told s.roots w.pairs ((old, at) ∷ []) (w.origins (x / 4)) e)) (b.cells x ne);
        pairs_back = λ k l. last k (omega (arith, l, length-append w.pairs ((old, at) ∷ [])));
        fresh = b.fresh;
        placed = b.placed;
        reports_back = λ r within.
            let told_back = b.reports_back r within in (
              told_back.0,
              same_trail site told (length w.pairs + 1) (length (w.pairs ++ (old, at) ∷ []) + 1) (omega (arith, length-append w.pairs ((old, at) ∷ []))) s.roots w.pairs ((old, at) ∷ []) r.origin
                  (subst (LeadsBack site told) (sym told_back.1) told_back.0) ∙ told_back.1,
            );
      }
        where
          last : (k : ℕ) → k < length w.pairs + 1 → Back site root s.roots (w.pairs ++ (old, at) ∷ []) (s.roots + 1 + k)
          last k l = by_place (ltb k (length w.pairs)) refl
            where
              by_place : (t : Bool) → ltb k (length w.pairs) ≡ t → Back site root s.roots (w.pairs ++ (old, at) ∷ []) (s.roots + 1 + k)
              by_place true e = longer site root told s.roots w.pairs ((old, at) ∷ []) (s.roots + 1 + k) (b.pairs_back k (ltb-true k (length w.pairs) e))
              by_place false e = subst (λ j. Back site root s.roots (w.pairs ++ (old, at) ∷ []) (s.roots + 1 + j)) (same k (ltb-false k (length w.pairs) e) l) (newest site root told s.roots w.pairs old at here h)
                where
                  same : (k : ℕ) → length w.pairs ≤ k → k < length w.pairs + 1 → length w.pairs ≡ k
                  same k p q = omega (arith, p, q)

  -- ---- marks of cells

  marked : (n a mask origin : ℕ) (w : World) → Back site root s.roots w.pairs origin → Backed site root told s.roots (Pending n a mask w.allocs) w → Backed site root told s.roots NoneFree (mark_cells n a mask origin w)
  marked zero a mask origin w back b = freer site root told s.roots (Pending zero a mask w.allocs) NoneFree (λ x h. omega (arith, h.1)) w b
  marked (suc n) a mask origin w back b =
      by_test (eqb (mask % 256) 0 || not (is_good w a 1)) refl
      (λ c. marked n (a + 1) (mask / 256) origin w back c) (λ c. marked n (a + 1) (mask / 256) origin (record w { origins = with_cell w.origins a origin }) back c)
    where
      start : (x : ℕ) → x + 0 ≡ x
      start x = omega arith

      next : (j : ℕ) → a + suc j ≡ a + 1 + j
      next j = omega arith

      stays : (t u : Bool) → (t || not u) ≡ true → (t ≡ true → ⊥) → (u ≡ false → ⊥) → ⊥
      stays true u e f g = f refl
      stays false true e f g = true≢false (sym e)
      stays false false e f g = g refl

      -- with no mark for the first byte, it wasn't pending
      later : (eqb (mask % 256) 0 || not (is_good w a 1)) ≡ true → (x k : ℕ) → k < suc n → x ≡ a + k → (byte_of mask k ≡ 0 → ⊥) → is_some (first_that (covers x 1) w.allocs) ≡ true → Pending n (a + 1) (mask / 256) w.allocs x
      later e x zero l h ne live =
          absurd (stays (eqb (mask % 256) 0) (is_good w a 1) e (λ z. ne (eqb-true (mask % 256) 0 z))
          (λ z. true≢false (sym (sym (ap (λ y. is_some (first_that (covers y 1) w.allocs)) (h ∙ start a)) ∙ live) ∙ z)))
      later e x (suc j) l h ne live = (j, omega (arith, l), h ∙ next j, ne, live)

      either : (x : ℕ) (t : Bool) → Back site root s.roots w.pairs (w.origins (x / 4)) → Back site root s.roots w.pairs (if t then origin else w.origins (x / 4))
      either x true h = back
      either x false h = h

      put : (x k : ℕ) → k < suc n → x ≡ a + k → (byte_of mask k ≡ 0 → ⊥) → is_some (first_that (covers x 1) w.allocs) ≡ true
          → Pending n (a + 1) (mask / 256) w.allocs x ⊎ Back site root s.roots w.pairs (with_cell w.origins a origin (x / 4))
      put x zero l h ne live = inr (subst (λ t. Back site root s.roots w.pairs (if t then origin else w.origins (x / 4))) (sym (eq-eqb (x / 4) (a / 4) (ap (λ y. y / 4) (h ∙ start a)))) back)
      put x (suc j) l h ne live = inl (j, omega (arith, l), h ∙ next j, ne, live)

      by_test : (t : Bool) → (eqb (mask % 256) 0 || not (is_good w a 1)) ≡ t
          → (Backed site root told s.roots (Pending n (a + 1) (mask / 256) w.allocs) w → Backed site root told s.roots NoneFree (mark_cells n (a + 1) (mask / 256) origin w))
          → (Backed site root told s.roots (Pending n (a + 1) (mask / 256) w.allocs) (record w { origins = with_cell w.origins a origin })
          → Backed site root told s.roots NoneFree (mark_cells n (a + 1) (mask / 256) origin (record w { origins = with_cell w.origins a origin })))
          → Backed site root told s.roots NoneFree (mark_cells n (a + 1) (mask / 256) origin (if t then w else record w { origins = with_cell w.origins a origin }))
      by_test true e same put_on = same (freer site root told s.roots (Pending (suc n) a mask w.allocs) (Pending n (a + 1) (mask / 256) w.allocs) (λ x h. later e x h.0 h.1 h.2 h.3 h.4) w b)
      by_test false e same put_on = put_on (record {
        cells = λ x ne. ⊎_elim (λ h. put x h.0 h.1 h.2 h.3 h.4) (λ h. inr (either x (eqb (x / 4) (a / 4)) h)) (b.cells x ne);
        pairs_back = b.pairs_back;
        fresh = b.fresh;
        placed = b.placed;
        reports_back = b.reports_back;
      })

  -- marks add no pair
  pub mark_pairs : (n a mask origin : ℕ) (w : World) → (mark_cells n a mask origin w).pairs ≡ w.pairs
  mark_pairs zero a mask origin w = refl
  mark_pairs (suc n) a mask origin w =
      mark_pairs n (a + 1) (mask / 256) origin (if eqb (mask % 256) 0 || not (is_good w a 1) then w else record w { origins = with_cell w.origins a origin }) ∙ by_test (eqb (mask % 256) 0 || not (is_good w a 1))
    where
      by_test : (t : Bool) → (if t then w else record w { origins = with_cell w.origins a origin }).pairs ≡ w.pairs
      by_test true = refl
      by_test false = refl

  -- ---- stores and fills

  no_byte : (k : ℕ) → byte_of 0 k ≡ 0
  no_byte zero = refl
  no_byte (suc k) = no_byte k

  -- what leads back goes on to after a store
  pub store_grows : (a mask origin at : ℕ) (w : World) (id : ℕ) → Back site root s.roots w.pairs id → Back site root s.roots (store_origin s a mask origin at w).pairs id
  store_grows a mask origin at w id h = by_test (eqb mask 0)
    where
      by_test : (t : Bool) → Back site root s.roots (if t then w else mark_cells 8 a mask (chain s origin at w).id (chain s origin at w).world).pairs id
      by_test true = h
      by_test false =
          subst (λ ps. Back site root s.roots ps id) (sym (mark_pairs 8 a mask (chain s origin at w).id (chain s origin at w).world)) (chain_grows origin at w id h)

  -- the shadow of a store of at most 8 bytes, and the origins of those with a poisoned bit
  pub stored : (a n mask origin at : ℕ) (w : World) → is_good w a n ≡ true → n ≤ 8 → site at → (¬ (mask ≡ 0) → Back site root s.roots w.pairs origin) → Backed site root told s.roots NoneFree w
      → Backed site root told s.roots NoneFree (store_origin s a mask origin at (set_shadow a n (byte_of mask) w))
  stored a n mask origin at w good few here word b = by_test (eqb mask 0) refl
    where
      pending : Backed site root told s.roots (Pending 8 a mask w.allocs) (set_shadow a n (byte_of mask) w)
      pending = record {
        cells = λ x ne. cell x (within a n x) refl ne;
        pairs_back = b.pairs_back;
        fresh = λ x l g. none x l g (within a n x) refl;
        placed = b.placed;
        reports_back = b.reports_back;
      }
        where
          whole : (x : ℕ) → a ≤ x → a + (x - a) ≡ x
          whole x l = omega (arith, l)

          cell : (x : ℕ) (t : Bool) → within a n x ≡ t → ¬ ((if t then byte_of mask (x - a) else w.shadow x) ≡ 0) → Pending 8 a mask w.allocs x ⊎ Back site root s.roots w.pairs (w.origins (x / 4))
          cell x true e ne =
              let in_it = inside a n x e in
              inl (
                x - a,
                omega (arith, in_it.0, in_it.1, few),
                sym (whole x in_it.0),
                ne,
                subst (λ y. is_some (first_that (covers y 1) w.allocs) ≡ true) (whole x in_it.0) (good_byte w a n (x - a) good (omega (arith, in_it.0, in_it.1))),
              )
          cell x false e ne = ⊎_elim (λ h. absurd h) (λ h. inr h) (b.cells x ne)

          none : (x : ℕ) → next_base Heap w ≤ x → x < area_base Stack → (t : Bool) → within a n x ≡ t → (if t then byte_of mask (x - a) else w.shadow x) ≡ 0
          none x l g true e = absurd (good_clear w b.placed a n x good e l g)
          none x l g false e = b.fresh x l g

      by_test : (t : Bool) → eqb mask 0 ≡ t
          → Backed site root told s.roots NoneFree (if t then set_shadow a n (byte_of mask) w else mark_cells 8 a mask (chain s origin at (set_shadow a n (byte_of mask) w)).id (chain s origin at (set_shadow a n (byte_of mask) w)).world)
      by_test true e = zeroed site root told s.roots NoneFree a n (byte_of mask) (λ k. ap (λ m. byte_of m k) (eqb-true mask 0 e) ∙ no_byte k) w b
      by_test false e =
          let back = word (eqb-false mask 0 e) in
          let c = chain s origin at (set_shadow a n (byte_of mask) w) in
          marked 8 a mask c.id c.world (chain_back (Pending 8 a mask w.allocs) origin at (set_shadow a n (byte_of mask) w) here back pending)
          (subst (λ xs. Backed site root told s.roots (Pending 8 a mask xs) c.world) (sym (chain_allocs origin at (set_shadow a n (byte_of mask) w)))
          (chain_world (Pending 8 a mask w.allocs) origin at (set_shadow a n (byte_of mask) w) here back pending))

  -- what leads back goes on to after a fill
  pub fill_grows : (a n mask origin at : ℕ) (w : World) (id : ℕ) → Back site root s.roots w.pairs id → Back site root s.roots (fill_planes s a n mask origin at w).pairs id
  fill_grows a n mask origin at w id h = by_tests (not (is_good w a n)) (eqb (mask % 256) 0 || eqb n 0)
    where
      by_tests : (t u : Bool) → Back site root s.roots (if t then w else if u then set_shadow a n (λ k. 0) w
          else set_cells a n (chain s origin at w).id (set_shadow a n (λ k. mask % 256) (chain s origin at w).world)).pairs id
      by_tests true u = h
      by_tests false true = h
      by_tests false false = chain_grows origin at w id h

  -- bytes that are filled with one byte and its shadow
  pub filled : (a n mask origin at : ℕ) (w : World) → site at → (¬ (mask ≡ 0) → Back site root s.roots w.pairs origin) → Backed site root told s.roots NoneFree w → Backed site root told s.roots NoneFree (fill_planes s a n mask origin at w)
  filled a n mask origin at w here word b = by_tests (is_good w a n) (eqb (mask % 256) 0 || eqb n 0) refl refl
    where
      by_tests : (t u : Bool) → is_good w a n ≡ t → (eqb (mask % 256) 0 || eqb n 0) ≡ u → Backed site root told s.roots NoneFree (if not t then w else if u then set_shadow a n (λ k. 0) w
          else set_cells a n (chain s origin at w).id (set_shadow a n (λ k. mask % 256) (chain s origin at w).world))
      by_tests false u e f = b
      by_tests true true e f = zeroed site root told s.roots NoneFree a n (λ k. 0) (λ k. refl) w b
      by_tests true false e f =
          let some : ¬ (mask ≡ 0) = λ z. eqb-false (mask % 256) 0 (or_parts (eqb (mask % 256) 0) (eqb n 0) f).0 (none mask z) in
          let c = chain s origin at w in
          ranged site root told s.roots NoneFree a n (λ k. mask % 256) c.id c.world (chain_back NoneFree origin at w here (word some) b)
          (λ x i. subst (λ xs. (area_base Heap + used Heap xs ≤ x) → x < area_base Stack → ⊥) (sym (chain_allocs origin at w)) (good_clear w b.placed a n x e i)) (λ x h. absurd h)
          (chain_world NoneFree origin at w here (word some) b)
        where
          none : (m : ℕ) → m ≡ 0 → m % 256 ≡ 0
          none m z = omega (arith, z)
