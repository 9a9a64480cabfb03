-- The bytes that an instruction poisons are those that it is said to write, and come from what was poisoned.
use Rattle.std.proofs.Common.{◌≡◌, ◌≢◌, ℕ, zero, suc, ◌+◌, ◌-◌, ◌*◌, ◌/◌, ◌%◌, ◌^◌, ◌<◌, ◌≤◌, min, List, [], ◌∷◌, ◌++◌, map, length, take, drop, get_or, Bool, true, false, true≢false, not, ◌&&◌, ◌||◌, eqb, leb, ltb, Option, Some, None, unwrap_or, is_some, Result, Ok, Err, refl, sym, ap, ap₂, ◌∙◌, subst, arith, if◌then◌else◌, ◌⊎◌, inl, inr}
use Rattle.std.specs.Prelude.{option_map}
use Rattle.std.proofs.Math.Nat.{zero-mod, mod-eq_of_lt}
use Rattle.std.proofs.lemmas.Bool.{and_parts, leb-true, ltb-true}
use Rattle.std.proofs.lemmas.Option.{same_Some, none-some}
use Rattle.ms_bits.specs.declared.traps.Trap.{Trap}
use Rattle.ms_bits.specs.declared.traps.Trap.TheVariants as trap
use Rattle.ms_bits.specs.Maps.{within, with_range, byte_of, bytes_at, copied, with_cell}
use Rattle.ms_bits_laws.proofs.MapLemmas.{range_inside}
use Rattle.ms_ir.specs.declared.syntax.Name.{Name}
use Rattle.ms_ir.specs.declared.syntax.Ty.{Ty}
use Rattle.ms_ir.specs.declared.syntax.Operand.{Operand}
use Rattle.ms_ir.specs.declared.syntax.Op.{Op}
use Rattle.ms_ir.specs.declared.syntax.Op.TheVariants as op
use Rattle.ms_runs.specs.declared.runs.Report.{Report}
use Rattle.ms_ir.specs.declared.calls.External.{External}
use Rattle.ms_ir.specs.declared.calls.External.TheVariants.{Malloc, Calloc, Realloc, Free, Memcpy, Memmove, Memset, Memcmp, Strlen, Putchar, Puts, Getchar, Read, Write, Exit, Abort, LlvmMemcpy, LlvmMemmove, LlvmMemset, LifetimeStart, LifetimeEnd, Printf, LlvmTrap, LlvmAssume, LlvmObjectSize, PthreadCreate, PthreadJoin, SchedYield, Word}
use Rattle.ms_bits.specs.declared.word_functions.WordFn.{WordFn}
use Rattle.ms_bits.specs.declared.word_functions.WordWidth.{WordWidth}
use Rattle.ms_bits.specs.WordFunctions.{bits_of, word_answer}
use Rattle.ms_ir.specs.Layout.{stored_size, size_in}
use Rattle.ms_ir.specs.Signatures.{is_thread_call}
use Rattle.ms_runs_good_laws.proofs.ThreadsApart.{NoThread}
use Rattle.ms_ir.specs.Areas.{Heap, area_eq, room}
use Rattle.ms_runs.specs.World.{Allocation, World, Setting, Here, Effect, Gives, Does, Ends, traps, stuck, word, gives}
use Rattle.ms_runs.specs.Memory.{used, local_area, fits, next_base, first_that, is_good, is_heap_block, heap_size, end_block, set_bytes, set_shadow, set_cells, store_number, copy_bytes, copy_shadow, make_unset, make_bytes}
use Rattle.ms_runs.specs.Origins.{Chained, keeps_old, pair_index, chain, poison, unpoison, copy_planes, fill_planes, mark_cells, store_origin}
use Rattle.ms_ir.specs.Instructions.{makes_unset, external_named, is_root}
use Rattle.ms_runs.specs.Externals.{malloc, reallocated, realloc, where_good, string_at, printed, next_byte, minus_one, external, formatted, prints}
use Rattle.ms_runs.specs.Act.{act, alloca}
use Rattle.ms_runs.specs.Poisoned.{Poisoned}
use Rattle.ms_runs.specs.Masks.{word_at}
use Rattle.ms_runs.specs.Shadow.{external_planes, callee_planes, planes}
use Rattle.ms_trail_moves.specs.declared.moves.Source.{Source}
use Rattle.ms_trail_moves.specs.declared.moves.Source.TheVariants.{Root, Byte}
use Rattle.ms_trail_moves.specs.Sources.{source_at}
use Rattle.ms_trail_moves.specs.Written.{Written, Filled, Copied, made, external_written, callee_written, written}
use Rattle.ms_trail_laws.proofs.ByteRuns.{NoByte, AllSound, Covered}

-- ---- maps

range_or : (map : ℕ → ℕ) (p n : ℕ) (new : ℕ → ℕ) (a : ℕ) → (with_range map p n new a ≡ map a) ⊎ ((p ≤ a) × (a < p + n))
range_or map p n new a = by_test (within p n a) refl
  where
    by_test : (t : Bool) → within p n a ≡ t → ((if t then new (a - p) else map a) ≡ map a) ⊎ ((p ≤ a) × (a < p + n))
    by_test true e = let h = and_parts (leb p a) (ltb a (p + n)) e in inr (leb-true p a h.0, ltb-true a (p + n) h.1)
    by_test false e = inl refl

-- inside it is what is put there
range_at : (map : ℕ → ℕ) (p n : ℕ) (new : ℕ → ℕ) (a : ℕ) → p ≤ a → a < p + n → with_range map p n new a ≡ new (a - p)
range_at map p n new a l g =
    let e : p + (a - p) ≡ a = omega (arith, l) in
    ap (with_range map p n new) (sym e) ∙ range_inside map p n new (a - p) (omega (arith, l, g))

-- where zeros are put, all else is as before
zeroed_same : (map : ℕ → ℕ) (p n a : ℕ) → with_range map p n (λ k. 0) a ≢ 0 → with_range map p n (λ k. 0) a ≡ map a
zeroed_same map p n a h = by_test (within p n a) h
  where
    by_test : (t : Bool) → (if t then 0 else map a) ≢ 0 → (if t then 0 else map a) ≡ map a
    by_test true g = absurd (g refl)
    by_test false g = refl

pub zeroed : (map : ℕ → ℕ) (p n a : ℕ) → with_range map p n (λ k. 0) a ≢ 0 → map a ≢ 0
zeroed map p n a h = λ z. h (zeroed_same map p n a h ∙ z)

pub byte_of_zero : (k : ℕ) → byte_of 0 k ≡ 0
byte_of_zero zero = refl
byte_of_zero (suc k) = byte_of_zero k

-- ---- origins leave shadow

chain_shadow : (s : Setting) (old site : ℕ) (w : World) → (chain s old site w).world.shadow ≡ w.shadow
chain_shadow s old site w = by_test (keeps_old s w old) (pair_index w.pairs old site)
  where
    by_test : (t : Bool) (o : Option ℕ)
        → (let c : Chained = (if t then (record { id = old; world = w }) else
        elim o [
          | Some k ↦ record { id = s.roots + 1 + k; world = w }
          | None ↦ record { id = s.roots + 1 + length w.pairs; world = record w { pairs = w.pairs ++ (old, site) ∷ [] } }
        ]) in c.world.shadow)
        ≡ w.shadow
    by_test true o = refl
    by_test false (Some k) = refl
    by_test false None = refl

mark_shadow : (n a mask origin : ℕ) (w : World) → (mark_cells n a mask origin w).shadow ≡ w.shadow
mark_shadow zero a mask origin w = refl
mark_shadow (suc n) a mask origin w = mark_shadow n (a + 1) (mask / 256) origin _ ∙ by_test (eqb (mask % 256) 0 || not (is_good w a 1))
  where
    by_test : (t : Bool) → (if t then w else record w { origins = with_cell w.origins a origin }).shadow ≡ w.shadow
    by_test true = refl
    by_test false = refl

store_shadow : (s : Setting) (a mask origin site : ℕ) (w : World) → (store_origin s a mask origin site w).shadow ≡ w.shadow
store_shadow s a mask origin site w = by_test (eqb mask 0)
  where
    by_test : (t : Bool) → (if t then w else mark_cells 8 a mask (chain s origin site w).id (chain s origin site w).world).shadow ≡ w.shadow
    by_test true = refl
    by_test false = mark_shadow 8 a mask (chain s origin site w).id (chain s origin site w).world ∙ chain_shadow s origin site w

-- ---- a heap block has room among those used

used_has : (xs : List Allocation) (p old : ℕ) → option_map (λ a. a.size) (first_that (is_heap_block p) xs) ≡ Some old → room old ≤ used Heap xs
used_has [] p old e = absurd (none-some old e)
used_has (x ∷ xs) p old e = by_test (is_heap_block p x) refl e (used_has xs p old)
  where
    by_test : (t : Bool) → is_heap_block p x ≡ t → option_map (λ a. a.size) (if t then Some x else first_that (is_heap_block p) xs) ≡ Some old
        → (option_map (λ a. a.size) (first_that (is_heap_block p) xs) ≡ Some old → room old ≤ used Heap xs)
        → room old ≤ (if area_eq Heap x.area then room x.size else 0) + used Heap xs
    by_test true f g rest =
        let parts = and_parts (x.live && area_eq Heap x.area) (eqb x.base p) f in
        let heap = (and_parts x.live (area_eq Heap x.area) parts.0).1 in
        let size : x.size ≡ old = same_Some x.size old g in
        let counted : (if area_eq Heap x.area then room x.size else 0) ≡ room old = ap₂ (λ t n. if t then room n else 0) heap size in
        omega (arith, counted)
    by_test false f g rest = omega (arith, rest g)

-- ---- what is written

pub record Memory (P : Source → Type 0) (S T : ℕ → ℕ) (ws : List Written) : Type 0 where
  pub sound : AllSound P T ws
  pub covers : (a : ℕ) → T a ≢ 0 → (T a ≡ S a) ⊎ Covered ws a

module _ (P : Source → Type 0) where
  nothing : (S T : ℕ → ℕ) → ((a : ℕ) → T a ≢ 0 → T a ≡ S a) → Memory P S T []
  nothing S T h = record { sound = tt; covers = λ a n. inl (h a n) }

  made_memory : (S : ℕ → ℕ) (u : World) (a from to root : ℕ) → P (Root root) → ((x : ℕ) → u.shadow x ≢ 0 → u.shadow x ≡ S x) → Memory P S (poison a from to root u).shadow (made (poison a from to root u) a from to root)
  made_memory S u a from to root its h = by_test (ltb from to && is_good u ((a + from) % 2 ^ 64) (to - from)) refl
    where
      in_range : (x : ℕ) → with_range u.shadow ((a + from) % 2 ^ 64) (to - from) (λ k. 255) x ≢ 0 → (with_range u.shadow ((a + from) % 2 ^ 64) (to - from) (λ k. 255) x ≡ S x) ⊎ Covered (Filled ((a + from) % 2 ^ 64) (to - from) (Root root) ∷ []) x
      in_range x m = on (range_or u.shadow ((a + from) % 2 ^ 64) (to - from) (λ k. 255) x)
        where
          on : (with_range u.shadow ((a + from) % 2 ^ 64) (to - from) (λ k. 255) x ≡ u.shadow x) ⊎ (((a + from) % 2 ^ 64 ≤ x) × (x < (a + from) % 2 ^ 64 + (to - from)))
              → (with_range u.shadow ((a + from) % 2 ^ 64) (to - from) (λ k. 255) x ≡ S x) ⊎ Covered (Filled ((a + from) % 2 ^ 64) (to - from) (Root root) ∷ []) x
          on (inl e) = inl (e ∙ h x (λ z. m (e ∙ z)))
          on (inr r) = inr (inl r)

      by_test : (t : Bool) → (ltb from to && is_good u ((a + from) % 2 ^ 64) (to - from)) ≡ t
          → Memory P S
          (if t then set_cells ((a + from) % 2 ^ 64) (to - from) root (set_shadow ((a + from) % 2 ^ 64) (to - from) (λ k. 255) u) else u).shadow
          (if ltb from to && is_good (if t then set_cells ((a + from) % 2 ^ 64) (to - from) root (set_shadow ((a + from) % 2 ^ 64) (to - from) (λ k. 255) u) else u) ((a + from) % 2 ^ 64) (to - from)
          then Filled ((a + from) % 2 ^ 64) (to - from) (Root root) ∷ [] else [])
      by_test true e =
          subst (λ c. Memory P S (with_range u.shadow ((a + from) % 2 ^ 64) (to - from) (λ k. 255)) (if c then Filled ((a + from) % 2 ^ 64) (to - from) (Root root) ∷ [] else [])) (sym e)
          (record { sound = ((tt, (λ x l g m. its)), tt); covers = in_range })
      by_test false e =
          subst (λ c. Memory P S u.shadow (if c then Filled ((a + from) % 2 ^ 64) (to - from) (Root root) ∷ [] else [])) (sym e) (nothing S u.shadow h)

  copied_memory : (S : ℕ → ℕ) (to from n : ℕ) → ((b : ℕ) → S b ≢ 0 → P (Byte b)) → Memory P S (copied S to from n) (Copied to n from ∷ [])
  copied_memory S to from n bytes = record {
    sound = ((λ k l m. bytes (from + k) (λ z. m (range_inside S to n (λ j. S (from + j)) k l ∙ z))), tt);
    covers = λ a m. on a m (range_or S to n (λ j. S (from + j)) a);
  }
    where
      on : (a : ℕ) → copied S to from n a ≢ 0 → (copied S to from n a ≡ S a) ⊎ ((to ≤ a) × (a < to + n)) → (copied S to from n a ≡ S a) ⊎ Covered (Copied to n from ∷ []) a
      on a m (inl e) = inl e
      on a m (inr r) = inr (inl r)

  filled_memory : (S : ℕ → ℕ) (p n : ℕ) (new : ℕ → ℕ) (from : Source) → NoByte from → ((k : ℕ) → k < n → new k ≢ 0 → P from) → Memory P S (with_range S p n new) (Filled p n from ∷ [])
  filled_memory S p n new from none h = record {
    sound = ((none, (λ a l g m. h (a - p) (omega (arith, l, g)) (λ z. m (range_at S p n new a l g ∙ z)))), tt);
    covers = λ a m. on a m (range_or S p n new a);
  }
    where
      on : (a : ℕ) → with_range S p n new a ≢ 0 → (with_range S p n new a ≡ S a) ⊎ ((p ≤ a) × (a < p + n)) → (with_range S p n new a ≡ S a) ⊎ Covered (Filled p n from ∷ []) a
      on a m (inl e) = inl e
      on a m (inr r) = inr (inl r)

  module _ (s : Setting) (site root : ℕ) (w : World) (bytes : (b : ℕ) → w.shadow b ≢ 0 → P (Byte b)) (rs : List Report) (blind : ℕ)
      (ps : List Poisoned) (ss : List Source) (comes : (j : ℕ) → (word_at j ps).mask ≢ 0 → P (source_at j ss)) (plain : (j : ℕ) → NoByte (source_at j ss)) where
    -- the world, with reports and a count of blind uses
    abbrev u : World
    u = record w { reports = rs; blind = blind }

    abbrev vs : List ℕ
    vs = map (λ p. p.value) ps

    word_number : (k : ℕ) (qs : List Poisoned) → word k (map (λ p. p.value) qs) ≡ (word_at k qs).value
    word_number k [] = refl
    word_number zero (p ∷ qs) = refl
    word_number (suc k) (p ∷ qs) = word_number k qs

    by_words : (Q : ℕ → ℕ → ℕ → Type 0) → Q (word_at 0 ps).value (word_at 1 ps).value (word_at 2 ps).value → Q (word 0 vs) (word 1 vs) (word 2 vs)
    by_words Q q =
        subst (λ x. Q x (word 1 vs) (word 2 vs)) (sym (word_number 0 ps))
        (subst (λ y. Q (word_at 0 ps).value y (word 2 vs)) (sym (word_number 1 ps))
        (subst (λ z. Q (word_at 0 ps).value (word_at 1 ps).value z) (sym (word_number 2 ps)) q))

    -- ---- externals

    abbrev ExternalAfter : External → ℕ → World → Type 0
    ExternalAfter e v x =
        Memory P w.shadow (external_planes s site root e ps u v x).shadow (external_written root e ps ss w (external_planes s site root e ps u v x))

    abbrev ExternalMemory : External → Effect → Type 0
    ExternalMemory e (Gives v x) = ExternalAfter e v x
    ExternalMemory e (Does x) = ExternalAfter e 0 x
    ExternalMemory e (Ends y x) = Unit {0}
    ExternalMemory e _ = ⊥

    either : (e : External) (t : Bool) (x y : Effect) → ExternalMemory e x → ExternalMemory e y → ExternalMemory e (if t then x else y)
    either e true x y h g = h
    either e false x y h g = g

    where_it_is : (e : External) (a n : ℕ) (x : Effect) → (is_good w a n ≡ true → ExternalMemory e x) → ExternalMemory e (where_good site a n u x)
    where_it_is e a n x h = by_test (is_good w a n) refl
      where
        by_test : (t : Bool) → is_good w a n ≡ t → ExternalMemory e (if t then x else traps trap.BadAddress site u)
        by_test true f = h f
        by_test false f = tt

    same : (S : ℕ → ℕ) → Memory P S S []
    same S = nothing S S (λ a h. refl)

    grown : (n a : ℕ) → (make_unset s.fill Heap n u).shadow a ≢ 0 → (make_unset s.fill Heap n u).shadow a ≡ w.shadow a
    grown n a h = zeroed_same w.shadow (next_base Heap w) n a h

    unpoisoned : (a n : ℕ) (x : World) → x.shadow ≡ w.shadow → Memory P w.shadow (unpoison a n x).shadow []
    unpoisoned a n x e = nothing w.shadow _ (λ b h. by_test (is_good x a n) b h ∙ ap (λ S. S b) e)
      where
        by_test : (t : Bool) (b : ℕ) → (if t then set_shadow a n (λ k. 0) x else x).shadow b ≢ 0 → (if t then set_shadow a n (λ k. 0) x else x).shadow b ≡ x.shadow b
        by_test true b h = zeroed_same x.shadow a n b h
        by_test false b h = refl

    -- a block is made where there is room
    malloc_memory : P (Root root) → ExternalMemory Malloc (malloc s.fill (word_at 0 ps).value u)
    malloc_memory its = by_test (fits Heap (word_at 0 ps).value w) refl
      where
        by_test : (t : Bool) → fits Heap (word_at 0 ps).value w ≡ t
            → ExternalMemory Malloc (if t then Gives (next_base Heap w) (make_unset s.fill Heap (word_at 0 ps).value u) else Gives 0 u)
        by_test true e =
            let x = make_unset s.fill Heap (word_at 0 ps).value u in
            let after = poison (next_base Heap w) 0 (word_at 0 ps).value root x in
            subst (λ c. Memory P w.shadow after.shadow (made after (if c then next_base Heap w else 0) 0 (word_at 0 ps).value root)) (sym e)
            (made_memory w.shadow x (next_base Heap w) 0 (word_at 0 ps).value root its (grown (word_at 0 ps).value))
        by_test false e =
            let after = poison 0 0 (word_at 0 ps).value root u in
            subst (λ c. Memory P w.shadow after.shadow (made after (if c then next_base Heap w else 0) 0 (word_at 0 ps).value root)) (sym e)
            (made_memory w.shadow u 0 0 (word_at 0 ps).value root its (λ x h. refl))

    -- a block that was reallocated: its first bytes are copied, and those from `old` on are made
    covered_made : (after : World) (a from to x : ℕ) → Covered (made after a from to root) x → (a + from) % 2 ^ 64 ≤ x
    covered_made after a from to x h = by_test (ltb from to && is_good after ((a + from) % 2 ^ 64) (to - from)) h
      where
        by_test : (t : Bool) → Covered (if t then Filled ((a + from) % 2 ^ 64) (to - from) (Root root) ∷ [] else []) x → (a + from) % 2 ^ 64 ≤ x
        by_test true (inl i) = i.0
        by_test true (inr i) = absurd i
        by_test false i = absurd i

    moved_memory : P (Root root) → (x : World) (v old n p : ℕ) → v + old < 2 ^ 64 → ((k : ℕ) → k < min old n → x.shadow (v + k) ≢ 0 → P (Byte (p + k)))
        → ((a : ℕ) → x.shadow a ≢ 0 → (x.shadow a ≡ w.shadow a) ⊎ ((v ≤ a) × (a < v + min old n)))
        → Memory P w.shadow (poison v old n root x).shadow (Copied v (min old n) p ∷ made (poison v old n root x) v old n root)
    moved_memory its x v old n p low inside outside = record { sound = ((λ k l h. from k l h (m.covers (v + k) h)), m.sound); covers = λ a h. on a h (m.covers a h) }
      where
        m : Memory P x.shadow (poison v old n root x).shadow (made (poison v old n root x) v old n root)
        m = made_memory x.shadow x v old n root its (λ a h. refl)

        from : (k : ℕ) → k < min old n → (poison v old n root x).shadow (v + k) ≢ 0
            → ((poison v old n root x).shadow (v + k) ≡ x.shadow (v + k)) ⊎ Covered (made (poison v old n root x) v old n root) (v + k) → P (Byte (p + k))
        from k l h (inl g) = inside k l (λ z. h (g ∙ z))
        from k l h (inr c) = absurd (omega (arith, covered_made (poison v old n root x) v old n (v + k) c, mod-eq_of_lt low, l))

        on : (a : ℕ) → (poison v old n root x).shadow a ≢ 0 → ((poison v old n root x).shadow a ≡ x.shadow a) ⊎ Covered (made (poison v old n root x) v old n root) a
            → ((poison v old n root x).shadow a ≡ w.shadow a) ⊎ Covered (Copied v (min old n) p ∷ made (poison v old n root x) v old n root) a
        on a h (inr c) = inr (inr c)
        on a h (inl e) = either_one (outside a (λ z. h (e ∙ z)))
          where
            either_one : (x.shadow a ≡ w.shadow a) ⊎ ((v ≤ a) × (a < v + min old n))
                → ((poison v old n root x).shadow a ≡ w.shadow a) ⊎ Covered (Copied v (min old n) p ∷ made (poison v old n root x) v old n root) a
            either_one (inl g) = inl (e ∙ g)
            either_one (inr r) = inr (inl r)

    room_has : (n : ℕ) → n ≤ room n
    room_has n = omega arith

    -- the heap ends far below the greatest address
    heap_low : (n : ℕ) → fits Heap n w ≡ true → (used Heap w.allocs ≤ 67108864) × (next_base Heap w + used Heap w.allocs < 2 ^ 64)
    heap_low n e = let h = leb-true (used Heap w.allocs + room n) (2 ^ 26) e in (omega (arith, h), omega (arith, h))

    old_low : (n p : ℕ) → fits Heap n w ≡ true → next_base Heap w + unwrap_or (heap_size w p) 0 < 2 ^ 64
    old_low n p e = by_size (heap_size w p) refl
      where
        by_size : (o : Option ℕ) → heap_size w p ≡ o → next_base Heap w + unwrap_or o 0 < 2 ^ 64
        by_size None f = omega (arith, (heap_low n e).1)
        by_size (Some k) f = omega (arith, (heap_low n e).1, room_has k, used_has w.allocs p k f)

    abbrev old_size : ℕ
    old_size = unwrap_or (heap_size w (word_at 0 ps).value) 0

    abbrev ReallocAfter : ℕ → World → Bool → Type 0
    ReallocAfter v x c =
        Memory P w.shadow (poison v (unwrap_or (heap_size w (word_at 0 ps).value) 0) (word_at 1 ps).value root x).shadow
        ((if c then Copied (next_base Heap w) (min (unwrap_or (heap_size w (word_at 0 ps).value) 0) (word_at 1 ps).value) (word_at 0 ps).value ∷ [] else [])
        ++ made (poison v (unwrap_or (heap_size w (word_at 0 ps).value) 0) (word_at 1 ps).value root x) (if c then next_base Heap w else 0) (unwrap_or (heap_size w (word_at 0 ps).value) 0) (word_at 1 ps).value root)

    refused : P (Root root) → fits Heap (word_at 1 ps).value w ≡ false → ExternalMemory Realloc (Gives 0 u)
    refused its e = subst (ReallocAfter 0 u) (sym e) (made_memory w.shadow u 0 (unwrap_or (heap_size w (word_at 0 ps).value) 0) (word_at 1 ps).value root its (λ x h. refl))

    from_null : P (Root root) → ExternalMemory Realloc (malloc s.fill (word_at 1 ps).value u)
    from_null its = by_test (fits Heap (word_at 1 ps).value w) refl
      where
        by_test : (t : Bool) → fits Heap (word_at 1 ps).value w ≡ t
            → ExternalMemory Realloc (if t then Gives (next_base Heap w) (make_unset s.fill Heap (word_at 1 ps).value u) else Gives 0 u)
        by_test true e =
            subst (ReallocAfter (next_base Heap w) (make_unset s.fill Heap (word_at 1 ps).value u)) (sym e)
            (moved_memory its (make_unset s.fill Heap (word_at 1 ps).value u) (next_base Heap w) (unwrap_or (heap_size w (word_at 0 ps).value) 0) (word_at 1 ps).value (word_at 0 ps).value
            (old_low (word_at 1 ps).value (word_at 0 ps).value e)
            (λ k l h. absurd (h (range_inside w.shadow (next_base Heap w) (word_at 1 ps).value (λ j. 0) k (omega (arith, l)))))
            (λ a h. inl (grown (word_at 1 ps).value a h)))
        by_test false e = refused its e

    -- the world after a move of o bytes
    abbrev moved_world : ℕ → World
    moved_world o =
        end_block (word_at 0 ps).value (copy_shadow (next_base Heap w) (word_at 0 ps).value (min o (word_at 1 ps).value) (copy_bytes (next_base Heap w) (word_at 0 ps).value (min o (word_at 1 ps).value) (make_unset s.fill Heap (word_at 1 ps).value u)))

    from_block : P (Root root) → (o : ℕ) → heap_size w (word_at 0 ps).value ≡ Some o → ExternalMemory Realloc (reallocated s.fill (word_at 0 ps).value o (word_at 1 ps).value u)
    from_block its o size = by_test (fits Heap (word_at 1 ps).value w) refl
      where
        same_size : unwrap_or (heap_size w (word_at 0 ps).value) 0 ≡ o
        same_size = ap (λ z. unwrap_or z 0) size

        by_test : (t : Bool) → fits Heap (word_at 1 ps).value w ≡ t
            → ExternalMemory Realloc
            (if t
            then Gives (next_base Heap w)
            (end_block (word_at 0 ps).value (copy_shadow (next_base Heap w) (word_at 0 ps).value (min o (word_at 1 ps).value) (copy_bytes (next_base Heap w) (word_at 0 ps).value (min o (word_at 1 ps).value) (make_unset s.fill Heap (word_at 1 ps).value u))))
            else Gives 0 u)
        by_test true e =
            subst (ReallocAfter (next_base Heap w) (moved_world o)) (sym e)
            (moved_memory its (moved_world o) (next_base Heap w) (unwrap_or (heap_size w (word_at 0 ps).value) 0) (word_at 1 ps).value (word_at 0 ps).value
            (old_low (word_at 1 ps).value (word_at 0 ps).value e)
            (λ k l h.
            bytes ((word_at 0 ps).value + k)
            (zeroed w.shadow (next_base Heap w) (word_at 1 ps).value ((word_at 0 ps).value + k)
            (λ z. h (range_inside (with_range w.shadow (next_base Heap w) (word_at 1 ps).value (λ j. 0)) (next_base Heap w) (min o (word_at 1 ps).value) (λ j. with_range w.shadow (next_base Heap w) (word_at 1 ps).value (λ i. 0) ((word_at 0 ps).value + j)) k (omega (arith, l, same_size)) ∙ z))))
            (λ a h. on a h (range_or (with_range w.shadow (next_base Heap w) (word_at 1 ps).value (λ j. 0)) (next_base Heap w) (min o (word_at 1 ps).value) (λ j. with_range w.shadow (next_base Heap w) (word_at 1 ps).value (λ i. 0) ((word_at 0 ps).value + j)) a)))
          where
            on : (a : ℕ) → copied (with_range w.shadow (next_base Heap w) (word_at 1 ps).value (λ j. 0)) (next_base Heap w) (word_at 0 ps).value (min o (word_at 1 ps).value) a ≢ 0
                → (copied (with_range w.shadow (next_base Heap w) (word_at 1 ps).value (λ j. 0)) (next_base Heap w) (word_at 0 ps).value (min o (word_at 1 ps).value) a ≡ with_range w.shadow (next_base Heap w) (word_at 1 ps).value (λ j. 0) a)
                ⊎ ((next_base Heap w ≤ a) × (a < next_base Heap w + min o (word_at 1 ps).value))
                → (copied (with_range w.shadow (next_base Heap w) (word_at 1 ps).value (λ j. 0)) (next_base Heap w) (word_at 0 ps).value (min o (word_at 1 ps).value) a ≡ w.shadow a)
                ⊎ ((next_base Heap w ≤ a) × (a < next_base Heap w + min (unwrap_or (heap_size w (word_at 0 ps).value) 0) (word_at 1 ps).value))
            on a h (inl e) = inl (e ∙ zeroed_same w.shadow (next_base Heap w) (word_at 1 ps).value a (λ z. h (e ∙ z)))
            on a h (inr r) = inr (r.0, omega (arith, r.1, same_size))
        by_test false e = refused its e

    realloc_memory : P (Root root) → ExternalMemory Realloc (realloc s.fill site (word_at 0 ps).value (word_at 1 ps).value u)
    realloc_memory its = either Realloc (eqb (word_at 0 ps).value 0) _ _ (from_null its) (by_size (heap_size w (word_at 0 ps).value) refl)
      where
        by_size : (o : Option ℕ) → heap_size w (word_at 0 ps).value ≡ o
            → ExternalMemory Realloc (elim o [ Some old ↦ reallocated s.fill (word_at 0 ps).value old (word_at 1 ps).value u | None ↦ traps trap.BadFree site u ])
        by_size (Some old) e = from_block its old e
        by_size None e = tt

    -- copies, where both ranges are good
    copy_planes_memory : (to from n : ℕ) (x : World) → x.shadow ≡ w.shadow → is_good x to n ≡ true → is_good x from n ≡ true → Memory P w.shadow (copy_planes to from n x).shadow (Copied to n from ∷ [])
    copy_planes_memory to from n x same there here =
        subst (λ t. Memory P w.shadow (if t then copy_shadow to from n x else x).shadow (Copied to n from ∷ [])) (sym (ap₂ (λ a c. a && c) there here))
        (subst (λ S. Memory P w.shadow (copied S to from n) (Copied to n from ∷ [])) (sym same) (copied_memory w.shadow to from n bytes))

    -- `memset` of a value: its low byte is in each
    fill_memory : (a n : ℕ) (x : World) → x.shadow ≡ w.shadow → is_good x a n ≡ true
        → Memory P w.shadow (fill_planes s a n (word_at 1 ps).mask (word_at 1 ps).origin site x).shadow (Filled a n (source_at 1 ss) ∷ [])
    fill_memory a n x same good =
        subst (λ t. Memory P w.shadow (if not t then x else (if eqb ((word_at 1 ps).mask % 256) 0 || eqb n 0 then set_shadow a n (λ k. 0) x else set_cells a n (chain s (word_at 1 ps).origin site x).id (set_shadow a n (λ k. (word_at 1 ps).mask % 256) (chain s (word_at 1 ps).origin site x).world))).shadow (Filled a n (source_at 1 ss) ∷ [])) (sym good) (by_test (eqb ((word_at 1 ps).mask % 256) 0 || eqb n 0) refl)
      where
        by_test : (t : Bool) → (eqb ((word_at 1 ps).mask % 256) 0 || eqb n 0) ≡ t
            → Memory P w.shadow
            (if t then set_shadow a n (λ k. 0) x else
            set_cells a n (chain s (word_at 1 ps).origin site x).id (set_shadow a n (λ k. (word_at 1 ps).mask % 256) (chain s (word_at 1 ps).origin site x).world)).shadow
            (Filled a n (source_at 1 ss) ∷ [])
        by_test true e =
            subst (λ S. Memory P w.shadow (with_range S a n (λ k. 0)) (Filled a n (source_at 1 ss) ∷ [])) (sym same)
            (filled_memory w.shadow a n (λ k. 0) (source_at 1 ss) (plain 1) (λ k l h. absurd (h refl)))
        by_test false e =
            subst (λ S. Memory P w.shadow (with_range S a n (λ k. (word_at 1 ps).mask % 256)) (Filled a n (source_at 1 ss) ∷ [])) (sym (chain_shadow s (word_at 1 ps).origin site x ∙ same))
            (filled_memory w.shadow a n (λ k. (word_at 1 ps).mask % 256) (source_at 1 ss) (plain 1) (λ k l h. comes 1 (λ z. h (ap (λ m. m % 256) z ∙ zero-mod 256))))

    string_memory : (e : External) (o : Option (List ℕ)) (f : List ℕ → Effect) → ((bs : List ℕ) → ExternalMemory e (f bs)) → ExternalMemory e (elim o [ Some bs ↦ f bs | None ↦ traps trap.BadAddress site u ])
    string_memory e (Some bs) f h = h bs
    string_memory e None f h = tt

    -- the world after `read` took bytes
    abbrev took : ℕ → ℕ → World
    took a n = record (set_bytes a (length (take n w.input)) (λ k. get_or (take n w.input) k 0) u) { input = drop n w.input }

    word_memory : (f : WordFn) (n : WordWidth) (r : Result ℕ Trap) → ExternalMemory (Word f n) (gives site r u)
    word_memory f n (Ok v) = same w.shadow
    word_memory f n (Err t) = tt

    prints_memory : (r : Result (List ℕ) Trap) → ExternalMemory Printf (prints site r u)
    prints_memory (Ok bs) = either Printf (leb (length w.output + length bs) 1048576) _ _ (same w.shadow) tt
    prints_memory (Err t) = tt

    pub external_memory : (e : External) (ts : List Ty) → is_thread_call e ≡ false → (makes_unset (Some e) ≡ true → P (Root root)) → ExternalMemory e (external s site e ts vs u)
    external_memory Malloc ts alone own = subst (λ n. ExternalMemory Malloc (malloc s.fill n u)) (sym (word_number 0 ps)) (malloc_memory (own refl))
    external_memory Calloc ts alone own =
        either Calloc (ltb (word 0 vs * word 1 vs) (2 ^ 64) && fits Heap (word 0 vs * word 1 vs) u) _ _
        (nothing w.shadow _ (λ a h. zeroed_same w.shadow (next_base Heap w) (word 0 vs * word 1 vs) a h)) (same w.shadow)
    external_memory Realloc ts alone own =
        by_words (λ x y z. ExternalMemory Realloc (realloc s.fill site x y u)) (realloc_memory (own refl))
    external_memory Free ts alone own = either Free (eqb (word 0 vs) 0) _ _ (same w.shadow) (either Free (is_some (heap_size u (word 0 vs))) _ _ (same w.shadow) tt)
    external_memory Memcpy ts alone own =
        by_words (λ x y z. ExternalMemory Memcpy (where_good site x z u (where_good site y z u (Gives x (copy_bytes x y z u)))))
        (where_it_is Memcpy (word_at 0 ps).value (word_at 2 ps).value _ (λ e. where_it_is Memcpy (word_at 1 ps).value (word_at 2 ps).value _ (λ f. copy_planes_memory (word_at 0 ps).value (word_at 1 ps).value (word_at 2 ps).value (copy_bytes (word_at 0 ps).value (word_at 1 ps).value (word_at 2 ps).value u) refl e f)))
    external_memory Memmove ts alone own =
        by_words (λ x y z. ExternalMemory Memmove (where_good site x z u (where_good site y z u (Gives x (copy_bytes x y z u)))))
        (where_it_is Memmove (word_at 0 ps).value (word_at 2 ps).value _ (λ e. where_it_is Memmove (word_at 1 ps).value (word_at 2 ps).value _ (λ f. copy_planes_memory (word_at 0 ps).value (word_at 1 ps).value (word_at 2 ps).value (copy_bytes (word_at 0 ps).value (word_at 1 ps).value (word_at 2 ps).value u) refl e f)))
    external_memory Memset ts alone own =
        by_words (λ x y z. ExternalMemory Memset (where_good site x z u (Gives x (set_bytes x z (λ k. y % 256) u))))
        (where_it_is Memset (word_at 0 ps).value (word_at 2 ps).value _ (λ e. fill_memory (word_at 0 ps).value (word_at 2 ps).value (set_bytes (word_at 0 ps).value (word_at 2 ps).value (λ k. (word_at 1 ps).value % 256) u) refl e))
    external_memory Memcmp ts alone own = where_it_is Memcmp (word 0 vs) (word 2 vs) _ (λ e. where_it_is Memcmp (word 1 vs) (word 2 vs) _ (λ f. same w.shadow))
    external_memory Strlen ts alone own = string_memory Strlen (string_at u (word 0 vs)) (λ bs. Gives (length bs) u) (λ bs. same w.shadow)
    external_memory Putchar ts alone own = either Putchar (leb (length w.output + length (word 0 vs % 256 ∷ [])) 1048576) _ _ (same w.shadow) tt
    external_memory Puts ts alone own = string_memory Puts (string_at u (word 0 vs)) (λ bs. printed site (bs ++ 10 ∷ []) (Gives 1) u) (λ bs. either Puts (leb (length w.output + length (bs ++ 10 ∷ [])) 1048576) _ _ (same w.shadow) tt)
    external_memory Getchar ts alone own = by_input w.input
      where
        by_input : (bs : List ℕ) → ExternalMemory Getchar (next_byte bs u)
        by_input [] = same w.shadow
        by_input (b ∷ bs) = same w.shadow
    external_memory Read ts alone own =
        where_it_is Read (word 1 vs) (word 2 vs) _ (λ e. either Read (eqb (word 0 vs) 0) _ _ (unpoisoned (word_at 1 ps).value (length (take (word 2 vs) w.input)) (took (word 1 vs) (word 2 vs)) refl) (unpoisoned (word_at 1 ps).value (minus_one 64) u refl))
    external_memory Write ts alone own =
        where_it_is Write (word 1 vs) (word 2 vs) _ (λ e. either Write (eqb (word 0 vs) 1) _ _
        (either Write (leb (length w.output + length (bytes_at w.bytes (word 1 vs) (word 2 vs))) 1048576) _ _ (same w.shadow) tt) (same w.shadow))
    external_memory Exit ts alone own = tt
    external_memory Abort ts alone own = tt
    external_memory LlvmMemcpy ts alone own =
        by_words (λ x y z. ExternalMemory LlvmMemcpy (where_good site x z u (where_good site y z u (Does (copy_bytes x y z u)))))
        (where_it_is LlvmMemcpy (word_at 0 ps).value (word_at 2 ps).value _ (λ e. where_it_is LlvmMemcpy (word_at 1 ps).value (word_at 2 ps).value _ (λ f. copy_planes_memory (word_at 0 ps).value (word_at 1 ps).value (word_at 2 ps).value (copy_bytes (word_at 0 ps).value (word_at 1 ps).value (word_at 2 ps).value u) refl e f)))
    external_memory LlvmMemmove ts alone own =
        by_words (λ x y z. ExternalMemory LlvmMemmove (where_good site x z u (where_good site y z u (Does (copy_bytes x y z u)))))
        (where_it_is LlvmMemmove (word_at 0 ps).value (word_at 2 ps).value _ (λ e. where_it_is LlvmMemmove (word_at 1 ps).value (word_at 2 ps).value _ (λ f. copy_planes_memory (word_at 0 ps).value (word_at 1 ps).value (word_at 2 ps).value (copy_bytes (word_at 0 ps).value (word_at 1 ps).value (word_at 2 ps).value u) refl e f)))
    external_memory LlvmMemset ts alone own =
        by_words (λ x y z. ExternalMemory LlvmMemset (where_good site x z u (Does (set_bytes x z (λ k. y % 256) u))))
        (where_it_is LlvmMemset (word_at 0 ps).value (word_at 2 ps).value _ (λ e. fill_memory (word_at 0 ps).value (word_at 2 ps).value (set_bytes (word_at 0 ps).value (word_at 2 ps).value (λ k. (word_at 1 ps).value % 256) u) refl e))
    external_memory LifetimeStart ts alone own =
        by_words (λ x y z. ExternalMemory LifetimeStart (where_good site y x u (Does (make_bytes s.fill y x u))))
        (where_it_is LifetimeStart (word_at 1 ps).value (word_at 0 ps).value _ (λ e. made_memory w.shadow (make_bytes s.fill (word_at 1 ps).value (word_at 0 ps).value u) (word_at 1 ps).value 0 (word_at 0 ps).value root (own refl) (λ a h. refl)))
    external_memory LifetimeEnd ts alone own = same w.shadow
    external_memory LlvmTrap ts alone own = tt
    external_memory LlvmAssume ts alone own = either LlvmAssume (eqb (word 0 vs) 0) _ _ tt (same w.shadow)
    external_memory LlvmObjectSize ts alone own = same w.shadow
    external_memory PthreadCreate ts alone own = absurd (true≢false alone)
    external_memory PthreadJoin ts alone own = absurd (true≢false alone)
    external_memory SchedYield ts alone own = same w.shadow
    external_memory Printf ts alone own = prints_memory (formatted u ts vs)
    external_memory (Word f n) ts alone own = word_memory f n (word_answer f (bits_of n) (word 0 vs) (word 1 vs) (word 2 vs))

    -- ---- instructions

    abbrev OpAfter : Op → ℕ → World → Type 0
    OpAfter o v x = Memory P w.shadow (planes s site root o ps u v x).shadow (written s root o ps ss w (planes s site root o ps u v x))

    -- what an instruction that writes memory comes to
    abbrev pub OpMemory : Op → Effect → Type 0
    OpMemory o (Gives v x) = OpAfter o v x
    OpMemory o (Does x) = OpAfter o 0 x
    OpMemory o (Ends y x) = Unit {0}
    OpMemory o _ = ⊥

    pub alloca_memory : P (Root root) → (here : Here) (t c : Ty) (a : Operand) → OpMemory (op.Alloca t c a) (act s here (op.Alloca t c a) vs u)
    alloca_memory its here t c a =
        subst (λ k. OpMemory (op.Alloca t c a) (alloca s here.site (size_in s.types t * k) u)) (sym (word_number 0 ps)) (by_test (fits (local_area u) (size_in s.types t * (word_at 0 ps).value) u))
      where
        by_test : (g : Bool)
            → OpMemory (op.Alloca t c a)
            (if g then Gives (next_base (local_area w) w) (make_unset s.fill (local_area u) (size_in s.types t * (word_at 0 ps).value) u) else traps trap.Stack here.site u)
        by_test true =
            made_memory w.shadow (make_unset s.fill (local_area u) (size_in s.types t * (word_at 0 ps).value) u) (next_base (local_area w) w) 0 (size_in s.types t * (word_at 0 ps).value) root its
            (λ x h. zeroed_same w.shadow (next_base (local_area w) w) (size_in s.types t * (word_at 0 ps).value) x h)
        by_test false = tt

    pub stored_memory : (here : Here) (t : Ty) (v a : Operand) → OpMemory (op.Store t v a) (act s here (op.Store t v a) vs u)
    stored_memory here t v a = by_test (is_good u (word 1 vs) (stored_size t))
      where
        by_test : (g : Bool) → OpMemory (op.Store t v a) (if g then Does (store_number (word 1 vs) (stored_size t) (word 0 vs) u) else traps trap.BadAddress here.site u)
        by_test true =
            let x = set_shadow (word_at 1 ps).value (stored_size t) (byte_of (word_at 0 ps).mask) (store_number (word 1 vs) (stored_size t) (word 0 vs) u) in
            subst (λ T. Memory P w.shadow T (Filled (word_at 1 ps).value (stored_size t) (source_at 0 ss) ∷ [])) (sym (store_shadow s (word_at 1 ps).value (word_at 0 ps).mask (word_at 0 ps).origin site x))
            (filled_memory w.shadow (word_at 1 ps).value (stored_size t) (byte_of (word_at 0 ps).mask) (source_at 0 ss) (plain 0)
            (λ k l h. comes 0 (λ z. h (ap (λ m. byte_of m k) z ∙ byte_of_zero k))))
        by_test false = tt

    abbrev CalleeAfter : Option External → ℕ → World → Type 0
    CalleeAfter c v x = Memory P w.shadow (callee_planes s site root c ps u v x).shadow (callee_written root c ps ss w (callee_planes s site root c ps u v x))

    abbrev CalleeMemory : Option External → Effect → Type 0
    CalleeMemory c (Gives v x) = CalleeAfter c v x
    CalleeMemory c (Does x) = CalleeAfter c 0 x
    CalleeMemory c (Ends y x) = Unit {0}
    CalleeMemory c _ = ⊥

    -- a call of an external, or of nothing
    pub called_memory : (r : Option Ty) (x : Name) (args : List (Ty × Operand)) (o : Option External) → external_named s.func x ≡ o → NoThread o → (is_root s.func (op.Call r x args) ≡ true → P (Root root))
        → OpMemory (op.Call r x args) (elim o [ Some e ↦ external s site e (map (λ a. a.0) args) vs u | None ↦ Ends stuck u ])
    called_memory r x args (Some e) f alone its =
        subst (λ c. CalleeMemory c (external s site e (map (λ a. a.0) args) vs u)) (sym f) (external_memory e (map (λ a. a.0) args) alone (λ m. its (ap makes_unset f ∙ m)))
    called_memory r x args None f alone its = tt
