-- No instruction reads a byte that isn't live.
use Rattle.std.proofs.Common.{◌≡◌, ℕ, zero, suc, ◌+◌, ◌-◌, ◌*◌, ◌^◌, ◌%◌, ◌<◌, ◌≤◌, List, [], ◌∷◌, ◌++◌, map, min, length, take, drop, get_or, leb, ltb, eqb, Bool, true, false, ◌&&◌, Option, Some, None, option_map, is_some, unwrap_or, Result, Ok, Err, refl, sym, ap, ◌∙◌, subst, arith, if◌then◌else◌}
use Rattle.std.proofs.lemmas.Bool.{le-leb, leb-true, lt-ltb, eqb-true, and_parts, and_from}
use Rattle.std.proofs.lemmas.Option.{same_Some}
use Rattle.ms_bits.specs.declared.traps.Trap.{Trap}
use Rattle.ms_bits.specs.declared.traps.Trap.TheVariants as trap
use Rattle.ms_bits.specs.WordFunctions.{bits_of, word_answer}
use Rattle.ms_bits.specs.Fill.{made_byte}
use Rattle.ms_bits.specs.Maps.{within, with_range, byte_of, bytes_at, string_within}
use Rattle.ms_bits_laws.proofs.MapLemmas.{same_number}
use Rattle.ms_ir.specs.Areas.{Area, Heap, area_eq}
use Rattle.ms_ir.specs.Layout.{width_of, stored_size, size_in}
use Rattle.ms_ir.specs.Instructions.{external_named}
use Rattle.ms_ir.specs.declared.syntax.Op.{Op}
use Rattle.ms_ir.specs.declared.syntax.Op.TheVariants as op
use Rattle.ms_ir.specs.declared.syntax.Ty.{Ty}
use Rattle.ms_ir.specs.declared.calls.External.{External}
use Rattle.ms_ir.specs.declared.calls.External.TheVariants.{Malloc, Calloc, Realloc, Free, Memcpy, Memmove, Memset, Memcmp, Strlen, Putchar, Puts, Getchar, Read, Write, Exit, Abort, LlvmMemcpy, LlvmMemmove, LlvmMemset, LifetimeStart, LifetimeEnd, Printf, LlvmTrap, LlvmAssume, LlvmObjectSize, PthreadCreate, PthreadJoin, SchedYield, Word}
use Rattle.ms_runs.specs.Threads.{fiber_limit, thread_at, has_ended, join_answer}
use Rattle.ms_runs.specs.World.{Allocation, World, Setting, Here, Effect, Gives, Enters, Ends, traps, stuck, word, gives}
use Rattle.ms_runs.specs.Memory.{fits, next_base, local_area, first_that, covers, is_good, block_of, is_heap_block, heap_size, end_block, make, make_unset, make_bytes, set_bytes, copy_bytes, copy_shadow, bytes_left}
use Rattle.std.specs.Prelude.{zip}
use Rattle.ms_runs.specs.Formats.{cut_of, with_arguments, shown, all_shown}
use Rattle.ms_runs.specs.Externals.{malloc, reallocated, realloc, where_good, printed, next_byte, formatted, prints, external, string_at, output_limit, compared, taken}
use Rattle.ms_runs.specs.Act.{act}
use Rattle.ms_runs_laws.specs.Inside.{has_byte, AgreesLive, SameReached, SameAnswer}
use Rattle.ms_runs_laws.proofs.Inside.{within_parts, good_is_live, drop_front, drop_mapped, fresh}

-- what `printf` prints, given the string at each address
format_by : (ℕ → Option (List ℕ)) → List Ty → List ℕ → Result (List ℕ) Trap
format_by strings types words =
    elim (strings (word 0 words)) [
      | Some format ↦ all_shown (cut_of format).bad (map (shown strings) (with_arguments (cut_of format).pieces (zip (drop 1 types) (drop 1 words))))
      | None ↦ Err trap.BadAddress
    ]

-- ---- maps

drop_all : (xs : List Allocation) → drop (length xs) xs ≡ []
drop_all [] = refl
drop_all (x ∷ xs) = drop_all xs

drop_changed : (f : Allocation → Allocation) (xs : List Allocation) → drop (length xs) (map f xs) ≡ []
drop_changed f [] = refl
drop_changed f (x ∷ xs) = drop_changed f xs

none_made : (bs : List Allocation) → bs ≡ [] → (x : ℕ) → is_some (first_that (has_byte x) bs) ≡ true → ⊥
none_made [] e x h = absurd cc
none_made (c ∷ bs) e x h = absurd cc

is_there : (o : Option Allocation) → (o ≡ None → ⊥) → is_some o ≡ true
is_there None h = absurd (h refl)
is_there (Some b) h = refl

-- two maps of bytes whose range of n from a on holds the same
ranges : (old other : ℕ → ℕ) (a n : ℕ) (new new' : ℕ → ℕ) → ((k : ℕ) → k < n → new k ≡ new' k) → (x : ℕ) → (within a n x ≡ false → old x ≡ other x) → with_range old a n new x ≡ with_range other a n new' x
ranges old other a n new new' same x out = by_test (within a n x) refl
  where
    by_test : (t : Bool) → within a n x ≡ t → (if t then new (x - a) else old x) ≡ (if t then new' (x - a) else other x)
    by_test true e = let p = within_parts a n x e in same (x - a) (omega (arith, p.0, p.1))
    by_test false e = out e

shifted : (a k : ℕ) (old other : ℕ → ℕ) → old (a + (k + 1)) ≡ other (a + (k + 1)) → old (a + 1 + k) ≡ other (a + 1 + k)
shifted a k old other h = let e : a + (k + 1) ≡ a + 1 + k = omega arith in subst (λ x. old x ≡ other x) e h

at_first : (a : ℕ) (old other : ℕ → ℕ) → old (a + 0) ≡ other (a + 0) → old a ≡ other a
at_first a old other h = let e : a + 0 ≡ a = omega arith in subst (λ x. old x ≡ other x) e h

same_list : (n a : ℕ) (old other : ℕ → ℕ) → ((k : ℕ) → k < n → old (a + k) ≡ other (a + k)) → bytes_at old a n ≡ bytes_at other a n
same_list zero a old other h = refl
same_list (suc n) a old other h = λ i. at_first a old other (h 0 (omega arith)) i ∷ same_list n (a + 1) old other (λ k l. shifted a k old other (h (k + 1) (omega (arith, l)))) i

same_string : (n a : ℕ) (old other : ℕ → ℕ) → ((k : ℕ) → k < n → old (a + k) ≡ other (a + k)) → string_within old a n ≡ string_within other a n
same_string zero a old other h = refl
same_string (suc n) a old other h =
    λ i. if eqb (at_first a old other (h 0 (omega arith)) i) 0 then Some [] else option_map (λ rest. at_first a old other (h 0 (omega arith)) i ∷ rest) (same_string n (a + 1) old other (λ k l. shifted a k old other (h (k + 1) (omega (arith, l)))) i)

differ : true ≡ false → ⊥
differ d = absurd cc

has_within : (x : ℕ) (c : Allocation) → has_byte x c ≡ true → within c.base c.size x ≡ true
has_within x c h =
    let p = and_parts (leb c.base x) (leb (x + 1) (c.base + c.size)) h in
    let high : x + 1 ≤ c.base + c.size = leb-true (x + 1) (c.base + c.size) p.1 in
    and_from _ _ p.0 (lt-ltb x (c.base + c.size) (omega (arith, high)))

-- a block's bytes are live
block_live : (p old k : ℕ) (bs : List Allocation) → k < old → option_map (λ a. a.size) (first_that (is_heap_block p) bs) ≡ Some old → first_that (covers (p + k) 1) bs ≡ None → ⊥
block_live p old k [] l size none = absurd cc
block_live p old k (c ∷ bs) l size none = by_block (λ s n. block_live p old k bs l s n) (is_heap_block p c) refl (covers (p + k) 1 c) refl size none
  where
    by_block : (option_map (λ a. a.size) (first_that (is_heap_block p) bs) ≡ Some old → first_that (covers (p + k) 1) bs ≡ None → ⊥) → (t : Bool) → is_heap_block p c ≡ t → (u : Bool) → covers (p + k) 1 c ≡ u
        → option_map (λ a. a.size) (if t then Some c else first_that (is_heap_block p) bs) ≡ Some old → (if u then Some c else first_that (covers (p + k) 1) bs) ≡ None → ⊥
    by_block rest t e true f s n = absurd cc
    by_block rest true e false f s n =
        let outer = and_parts (c.live && area_eq Heap c.area) (eqb c.base p) e in
        let inner = and_parts c.live (area_eq Heap c.area) outer.0 in
        let at : c.base ≡ p = eqb-true c.base p outer.1 in
        let size : c.size ≡ old = same_Some c.size old s in
        differ (sym (and_from _ _ (and_from _ _ inner.0 (le-leb c.base (p + k) (omega (arith, at)))) (le-leb (p + k + 1) (c.base + c.size) (omega (arith, at, size, l)))) ∙ f)
    by_block rest false e false f s n = rest s n

-- the bytes up to an allocation's end are live
left_live : (a k : ℕ) (bs : List Allocation) → k < unwrap_or (option_map (λ c. c.base + c.size - a) (first_that (covers a 1) bs)) 0 → first_that (covers (a + k) 1) bs ≡ None → ⊥
left_live a k [] l none = omega (arith, l)
left_live a k (c ∷ bs) l none = by_block (λ s n. left_live a k bs s n) (covers a 1 c) refl (covers (a + k) 1 c) refl l none
  where
    by_block : (k < unwrap_or (option_map (λ c. c.base + c.size - a) (first_that (covers a 1) bs)) 0 → first_that (covers (a + k) 1) bs ≡ None → ⊥) → (t : Bool) → covers a 1 c ≡ t → (u : Bool) → covers (a + k) 1 c ≡ u
        → k < unwrap_or (option_map (λ c. c.base + c.size - a) (if t then Some c else first_that (covers a 1) bs)) 0 → (if u then Some c else first_that (covers (a + k) 1) bs) ≡ None → ⊥
    by_block rest t e true f s n = absurd cc
    by_block rest true e false f s n =
        let outer = and_parts (c.live && leb c.base a) (leb (a + 1) (c.base + c.size)) e in
        let inner = and_parts c.live (leb c.base a) outer.0 in
        let low : c.base ≤ a = leb-true c.base a inner.1 in
        differ (sym (and_from _ _ (and_from _ _ inner.0 (le-leb c.base (a + k) (omega (arith, low)))) (le-leb (a + k + 1) (c.base + c.size) (omega (arith, s)))) ∙ f)
    by_block rest false e false f s n = rest s n

module _ (w : World) (b : ℕ → ℕ) (alike : AgreesLive w b) where
  -- the world with the other bytes
  abbrev v : World
  v = record w { bytes = b }

  good_same : (a n : ℕ) → is_good w a n ≡ true → (k : ℕ) → k < n → w.bytes (a + k) ≡ b (a + k)
  good_same a n good k l = alike (a + k) (is_there (block_of w (a + k)) (λ none. good_is_live w a n (a + k) good (omega arith) (omega (arith, l)) none))

  -- no allocation is made
  unmade : (u z : World) → u.allocs ≡ w.allocs → record u { bytes = z.bytes } ≡ z → ((x : ℕ) → is_some (block_of w x) ≡ true → u.bytes x ≡ z.bytes x) → SameReached w u z
  unmade u z e others live = record { others = others; live = live; made = λ x h. absurd (none_made (drop (length w.allocs) u.allocs) (ap (drop (length w.allocs)) e ∙ drop_all w.allocs) x h) }

  ended_same : (p : ℕ) → SameReached w (end_block p w) (end_block p (record w { bytes = b }))
  ended_same p = record {
    others = refl;
    live = alike;
    made = λ x h. absurd (none_made (drop (length w.allocs) (map (λ a. if is_heap_block p a then record a { live = false } else a) w.allocs)) (drop_changed (λ a. if is_heap_block p a then record a { live = false } else a) w.allocs) x h);
  }

  itself : SameReached w w (record w { bytes = b })
  itself = unmade w (record w { bytes = b }) refl refl alike

  either : (t : Bool) (e x f y : Effect) → (t ≡ true → SameAnswer w e f) → SameAnswer w x y → SameAnswer w (if t then e else x) (if t then f else y)
  either true e x f y h g = h refl
  either false e x f y h g = g

  where_same : (site a n : ℕ) (e f : Effect) → (is_good w a n ≡ true → SameAnswer w e f) → SameAnswer w (where_good site a n w e) (where_good site a n (record w { bytes = b }) f)
  where_same site a n e f h = either (is_good w a n) e _ f _ h (refl, itself)

  -- a range that is written
  wrote : (a n : ℕ) (new new' : ℕ → ℕ) → ((k : ℕ) → k < n → new k ≡ new' k) → (x : ℕ) → is_some (block_of w x) ≡ true → with_range w.bytes a n new x ≡ with_range b a n new' x
  wrote a n new new' same x live = ranges w.bytes b a n new new' same x (λ out. alike x live)

  copied_same : (to from n : ℕ) → is_good w from n ≡ true → SameReached w (copy_bytes to from n w) (copy_bytes to from n (record w { bytes = b }))
  copied_same to from n good = unmade _ _ refl refl (wrote to n (λ k. w.bytes (from + k)) (λ k. b (from + k)) (good_same from n good))

  set_same : (a n : ℕ) (new : ℕ → ℕ) → SameReached w (set_bytes a n new w) (set_bytes a n new (record w { bytes = b }))
  set_same a n new = unmade _ _ refl refl (wrote a n new new (λ k l. refl))

  -- ---- allocations that are made

  -- in a fresh allocation
  made_in : (area : Area) (n x : ℕ) → is_some (first_that (has_byte x) (fresh area n w ∷ [])) ≡ true → within (next_base area w) n x ≡ false → ⊥
  made_in area n x h out = by_byte (has_byte x (fresh area n w)) refl h
    where
      by_byte : (t : Bool) → has_byte x (fresh area n w) ≡ t → is_some (if t then Some (fresh area n w) else None) ≡ true → ⊥
      by_byte true e k = differ (sym (has_within x (fresh area n w) e) ∙ out)
      by_byte false e k = absurd cc

  make_same : (area : Area) (n : ℕ) → SameReached w (make area n w) (make area n (record w { bytes = b }))
  make_same area n = record {
    others = refl;
    live = wrote (next_base area w) n (λ k. 0) (λ k. 0) (λ k l. refl);
    made = λ x h. ranges w.bytes b (next_base area w) n (λ k. 0) (λ k. 0) (λ k l. refl) x (λ out. absurd (made_in area n x (subst (λ bs. is_some (first_that (has_byte x) bs) ≡ true) (drop_front w.allocs (fresh area n w ∷ [])) h) out));
  }

  unset_same : (fill : List ℕ) (area : Area) (n : ℕ) → SameReached w (make_unset fill area n w) (make_unset fill area n (record w { bytes = b }))
  unset_same fill area n = record {
    others = refl;
    live = λ x l. ranges (make area n w).bytes (make area n (record w { bytes = b })).bytes (next_base area w) n (λ k. made_byte fill (w.made + k)) (λ k. made_byte fill (w.made + k)) (λ k l. refl) x
        (λ out. (make_same area n).live x l);
    made = λ x h. ranges (make area n w).bytes (make area n (record w { bytes = b })).bytes (next_base area w) n (λ k. made_byte fill (w.made + k)) (λ k. made_byte fill (w.made + k)) (λ k l. refl) x
        (λ out. absurd (made_in area n x (subst (λ bs. is_some (first_that (has_byte x) bs) ≡ true) (drop_front w.allocs (fresh area n w ∷ [])) h) out));
  }

  -- ---- externals

  malloc_same : (fill : List ℕ) (n : ℕ) → SameAnswer w (malloc fill n w) (malloc fill n (record w { bytes = b }))
  malloc_same fill n = either (fits Heap n w) _ _ _ _ (λ t. (refl, unset_same fill Heap n)) (refl, itself)

  reallocated_same : (fill : List ℕ) (p old n : ℕ) → heap_size w p ≡ Some old → SameAnswer w (reallocated fill p old n w) (reallocated fill p old n (record w { bytes = b }))
  reallocated_same fill p old n size = either (fits Heap n w) _ _ _ _ (λ t. (refl, moved)) (refl, itself)
    where
      still : (x : ℕ) (t : Bool) → is_some (first_that (has_byte x) ((if t then record (fresh Heap n w) { live = false } else fresh Heap n w) ∷ [])) ≡ true → is_some (first_that (has_byte x) (fresh Heap n w ∷ [])) ≡ true
      still x true h = by_byte (has_byte x (fresh Heap n w)) h
        where
          by_byte : (t : Bool) → is_some (if t then Some (record (fresh Heap n w) { live = false }) else None) ≡ true → is_some (if t then Some (fresh Heap n w) else None) ≡ true
          by_byte true k = refl
          by_byte false k = absurd cc
      still x false h = h

      back : (x : ℕ) → is_some (first_that (has_byte x) (drop (length w.allocs) (map (λ a. if is_heap_block p a then record a { live = false } else a) (w.allocs ++ fresh Heap n w ∷ [])))) ≡ true
          → is_some (first_that (has_byte x) (drop (length w.allocs) (w.allocs ++ fresh Heap n w ∷ []))) ≡ true
      back x h =
          subst (λ bs. is_some (first_that (has_byte x) bs) ≡ true) (sym (drop_front w.allocs (fresh Heap n w ∷ [])))
          (still x (is_heap_block p (fresh Heap n w)) (subst (λ bs. is_some (first_that (has_byte x) bs) ≡ true) (drop_mapped (λ a. if is_heap_block p a then record a { live = false } else a) w.allocs (fresh Heap n w)) h))

      source : (k : ℕ) → k < min old n → (make_unset fill Heap n w).bytes (p + k) ≡ (make_unset fill Heap n (record w { bytes = b })).bytes (p + k)
      source k l = (unset_same fill Heap n).live (p + k) (is_there (block_of w (p + k)) (λ none. block_live p old k w.allocs (omega (arith, l)) size none))

      moved : SameReached w (end_block p (copy_shadow (next_base Heap w) p (min old n) (copy_bytes (next_base Heap w) p (min old n) (make_unset fill Heap n w))))
          (end_block p (copy_shadow (next_base Heap w) p (min old n) (copy_bytes (next_base Heap w) p (min old n) (make_unset fill Heap n (record w { bytes = b })))))
      moved = record {
        others = refl;
        live = λ x l. ranges (make_unset fill Heap n w).bytes (make_unset fill Heap n (record w { bytes = b })).bytes (next_base Heap w) (min old n)
            (λ k. (make_unset fill Heap n w).bytes (p + k)) (λ k. (make_unset fill Heap n (record w { bytes = b })).bytes (p + k)) source x (λ out. (unset_same fill Heap n).live x l);
        made = λ x h. ranges (make_unset fill Heap n w).bytes (make_unset fill Heap n (record w { bytes = b })).bytes (next_base Heap w) (min old n)
            (λ k. (make_unset fill Heap n w).bytes (p + k)) (λ k. (make_unset fill Heap n (record w { bytes = b })).bytes (p + k)) source x (λ out. (unset_same fill Heap n).made x (back x h));
      }

  realloc_same : (fill : List ℕ) (site p n : ℕ) → SameAnswer w (realloc fill site p n w) (realloc fill site p n (record w { bytes = b }))
  realloc_same fill site p n = either (eqb p 0) _ _ _ _ (λ t. malloc_same fill n) (by_size (heap_size w p) refl)
    where
      by_size : (o : Option ℕ) → heap_size w p ≡ o
          → SameAnswer w (elim o [ Some old ↦ reallocated fill p old n w | None ↦ traps trap.BadFree site w ]) (elim o [ Some old ↦ reallocated fill p old n (record w { bytes = b }) | None ↦ traps trap.BadFree site (record w { bytes = b }) ])
      by_size (Some old) e = reallocated_same fill p old n e
      by_size None e = (refl, itself)

  -- ---- strings

  strings : (a : ℕ) → string_at w a ≡ string_at (record w { bytes = b }) a
  strings a = same_string (bytes_left w a) a w.bytes b (λ k l. alike (a + k) (is_there (block_of w (a + k)) (λ none. left_live a k w.allocs l none)))

  on_string : (a site : ℕ) (f g : List ℕ → Effect) → ((bs : List ℕ) → SameAnswer w (f bs) (g bs))
      → SameAnswer w (elim (string_at w a) [ Some bs ↦ f bs | None ↦ traps trap.BadAddress site w ]) (elim (string_at (record w { bytes = b }) a) [ Some bs ↦ g bs | None ↦ traps trap.BadAddress site (record w { bytes = b }) ])
  on_string a site f g h =
      subst (λ o. SameAnswer w (elim (string_at w a) [ Some bs ↦ f bs | None ↦ traps trap.BadAddress site w ]) (elim o [ Some bs ↦ g bs | None ↦ traps trap.BadAddress site (record w { bytes = b }) ]))
      (strings a) (by_string (string_at w a))
    where
      by_string : (o : Option (List ℕ)) → SameAnswer w (elim o [ Some bs ↦ f bs | None ↦ traps trap.BadAddress site w ]) (elim o [ Some bs ↦ g bs | None ↦ traps trap.BadAddress site (record w { bytes = b }) ])
      by_string (Some bs) = h bs
      by_string None = (refl, itself)

  printed_same : (site : ℕ) (bs : List ℕ) (x : ℕ) → SameAnswer w (printed site bs (Gives x) w) (printed site bs (Gives x) (record w { bytes = b }))
  printed_same site bs x = either (leb (length w.output + length bs) output_limit) _ _ _ _ (λ t. (refl, unmade _ _ refl refl alike)) (refl, itself)

  next_same : (bs : List ℕ) → SameAnswer w (next_byte bs w) (next_byte bs (record w { bytes = b }))
  next_same [] = (refl, itself)
  next_same (c ∷ bs) = (refl, unmade _ _ refl refl alike)

  taken_same : (a n : ℕ) → SameAnswer w (taken a n w) (taken a n (record w { bytes = b }))
  taken_same a n = (refl, unmade _ _ refl refl (wrote a (length (take n w.input)) (λ k. get_or (take n w.input) k 0) (λ k. get_or (take n w.input) k 0) (λ k l. refl)))

  lists : (a n : ℕ) → is_good w a n ≡ true → bytes_at w.bytes a n ≡ bytes_at b a n
  lists a n good = same_list n a w.bytes b (good_same a n good)

  prints_same : (site : ℕ) (r : Result (List ℕ) Trap) → SameAnswer w (prints site r w) (prints site r (record w { bytes = b }))
  prints_same site (Ok bs) = printed_same site bs (length bs)
  prints_same site (Err t) = (refl, itself)

  same_format : (ts : List Ty) (vs : List ℕ) → formatted w ts vs ≡ formatted (record w { bytes = b }) ts vs
  unfolding format_by
  same_format ts vs = λ i. format_by (λ a. strings a i) ts vs

  gives_same : (site : ℕ) (r : Result ℕ Trap) → SameAnswer w (gives site r w) (gives site r (record w { bytes = b }))
  gives_same site (Ok x) = (refl, itself)
  gives_same site (Err t) = (refl, itself)

  external_same : (s : Setting) (site : ℕ) (e : External) (ts : List Ty) (vs : List ℕ) → SameAnswer w (external s site e ts vs w) (external s site e ts vs (record w { bytes = b }))
  external_same s site Malloc ts vs = malloc_same s.fill (word 0 vs)
  external_same s site Calloc ts vs = either (ltb (word 0 vs * word 1 vs) (2 ^ 64) && fits Heap (word 0 vs * word 1 vs) w) _ _ _ _ (λ t. (refl, make_same Heap (word 0 vs * word 1 vs))) (refl, itself)
  external_same s site Realloc ts vs = realloc_same s.fill site (word 0 vs) (word 1 vs)
  external_same s site Free ts vs = either (eqb (word 0 vs) 0) _ _ _ _ (λ t. itself) (either (is_some (heap_size w (word 0 vs))) _ _ _ _ (λ t. ended_same (word 0 vs)) (refl, itself))
  external_same s site Memcpy ts vs = where_same site (word 0 vs) (word 2 vs) _ _ (λ t. where_same site (word 1 vs) (word 2 vs) _ _ (λ good. (refl, copied_same (word 0 vs) (word 1 vs) (word 2 vs) good)))
  external_same s site Memmove ts vs = where_same site (word 0 vs) (word 2 vs) _ _ (λ t. where_same site (word 1 vs) (word 2 vs) _ _ (λ good. (refl, copied_same (word 0 vs) (word 1 vs) (word 2 vs) good)))
  external_same s site Memset ts vs = where_same site (word 0 vs) (word 2 vs) _ _ (λ t. (refl, set_same (word 0 vs) (word 2 vs) (λ k. word 1 vs % 256)))
  external_same s site Memcmp ts vs =
      where_same site (word 0 vs) (word 2 vs) _ _ (λ good. where_same site (word 1 vs) (word 2 vs) _ _ (λ too.
      ((λ i. compared (lists (word 0 vs) (word 2 vs) good i) (lists (word 1 vs) (word 2 vs) too i)), itself)))
  external_same s site Strlen ts vs = on_string (word 0 vs) site (λ bs. Gives (length bs) w) (λ bs. Gives (length bs) (record w { bytes = b })) (λ bs. (refl, itself))
  external_same s site Putchar ts vs = printed_same site (word 0 vs % 256 ∷ []) (word 0 vs % 256)
  external_same s site Puts ts vs = on_string (word 0 vs) site (λ bs. printed site (bs ++ 10 ∷ []) (Gives 1) w) (λ bs. printed site (bs ++ 10 ∷ []) (Gives 1) (record w { bytes = b })) (λ bs. printed_same site (bs ++ 10 ∷ []) 1)
  external_same s site Getchar ts vs = next_same w.input
  external_same s site Read ts vs = where_same site (word 1 vs) (word 2 vs) _ _ (λ good. either (eqb (word 0 vs) 0) _ _ _ _ (λ t. taken_same (word 1 vs) (word 2 vs)) (refl, itself))
  external_same s site Write ts vs =
      where_same site (word 1 vs) (word 2 vs) _ _ (λ good. either (eqb (word 0 vs) 1) _ _ _ _
      (λ t. subst (λ bs. SameAnswer w (printed site (bytes_at w.bytes (word 1 vs) (word 2 vs)) (Gives (word 2 vs)) w) (printed site bs (Gives (word 2 vs)) (record w { bytes = b })))
      (lists (word 1 vs) (word 2 vs) good) (printed_same site (bytes_at w.bytes (word 1 vs) (word 2 vs)) (word 2 vs))) (refl, itself))
  external_same s site Exit ts vs = (refl, itself)
  external_same s site Abort ts vs = (refl, itself)
  external_same s site LlvmMemcpy ts vs = where_same site (word 0 vs) (word 2 vs) _ _ (λ t. where_same site (word 1 vs) (word 2 vs) _ _ (λ good. copied_same (word 0 vs) (word 1 vs) (word 2 vs) good))
  external_same s site LlvmMemmove ts vs = where_same site (word 0 vs) (word 2 vs) _ _ (λ t. where_same site (word 1 vs) (word 2 vs) _ _ (λ good. copied_same (word 0 vs) (word 1 vs) (word 2 vs) good))
  external_same s site LlvmMemset ts vs = where_same site (word 0 vs) (word 2 vs) _ _ (λ t. set_same (word 0 vs) (word 2 vs) (λ k. word 1 vs % 256))
  external_same s site LifetimeStart ts vs =
      where_same site (word 1 vs) (word 0 vs) _ _ (λ t. unmade (make_bytes s.fill (word 1 vs) (word 0 vs) w) (make_bytes s.fill (word 1 vs) (word 0 vs) (record w { bytes = b })) refl refl
      (wrote (word 1 vs) (word 0 vs) (λ k. made_byte s.fill (w.made + k)) (λ k. made_byte s.fill (w.made + k)) (λ k l. refl)))
  external_same s site LifetimeEnd ts vs = itself
  external_same s site LlvmTrap ts vs = (refl, itself)
  external_same s site LlvmAssume ts vs = either (eqb (word 0 vs) 0) _ _ _ _ (λ t. (refl, itself)) itself
  external_same s site LlvmObjectSize ts vs = (refl, itself)
  external_same s site PthreadCreate ts vs =
      either (leb fiber_limit (length w.threads + 1)) _ _ _ _ (λ t. (refl, itself))
      (where_same site (word 0 vs) 8 _ _ (λ good. (refl, unmade _ _ refl refl (wrote (word 0 vs) 8 (byte_of (length w.threads + 1)) (byte_of (length w.threads + 1)) (λ k l. refl)))))
  external_same s site PthreadJoin ts vs =
      either (eqb (join_answer w.turn (word 0 vs) w.threads) 0) _ _ _ _
      (λ t. either (has_ended (thread_at (word 0 vs) w.threads)) _ _ _ _
      (λ ended. either (eqb (word 1 vs) 0) _ _ _ _ (λ null. (refl, unmade _ _ refl refl alike))
      (where_same site (word 1 vs) 8 _ _ (λ good. (refl, unmade _ _ refl refl (wrote (word 1 vs) 8 (byte_of (w.answers (word 0 vs))) (byte_of (w.answers (word 0 vs))) (λ k l. refl))))))
      (refl, itself))
      (refl, itself)
  external_same s site SchedYield ts vs = (refl, itself)
  external_same s site (Word f n) ts vs = gives_same site (word_answer f (bits_of n) (word 0 vs) (word 1 vs) (word 2 vs))
  external_same s site Printf ts vs =
      subst (λ (r : Result (List ℕ) Trap). SameAnswer w (prints site (formatted w ts vs) w) (prints site r (record w { bytes = b }))) (same_format ts vs) (prints_same site (formatted w ts vs))

  -- ---- instructions

  call_same : (s : Setting) (site : ℕ) (ts : List Ty) (vs : List ℕ) (o : Option ℕ) (e : Option External)
      → SameAnswer w (elim o [ Some f ↦ Enters f w | None ↦ elim e [ Some x ↦ external s site x ts vs w | None ↦ Ends stuck w ] ])
      (elim o [ Some f ↦ Enters f (record w { bytes = b }) | None ↦ elim e [ Some x ↦ external s site x ts vs (record w { bytes = b }) | None ↦ Ends stuck (record w { bytes = b }) ] ])
  call_same s site ts vs (Some f) e = (refl, itself)
  call_same s site ts vs None (Some x) = external_same s site x ts vs
  call_same s site ts vs None None = (refl, itself)

  pub act_same : (s : Setting) (h : Here) (o : Op) (vs : List ℕ) → SameAnswer w (act s h o vs w) (act s h o vs (record w { bytes = b }))
  act_same s h (op.Binary o f t x y) vs = gives_same h.site _
  act_same s h (op.Icmp p f t x y) vs = gives_same h.site _
  act_same s h (op.Cast o f t x u) vs = gives_same h.site _
  act_same s h (op.Select c t x y) vs = (refl, itself)
  act_same s h (op.Freeze t x) vs = (refl, itself)
  act_same s h (op.Phi t edges) vs = (refl, itself)
  act_same s h (op.Alloca t u c) vs = either (fits (local_area w) (size_in s.types t * word 0 vs) w) _ _ _ _ (λ k. (refl, unset_same s.fill (local_area w) (size_in s.types t * word 0 vs))) (refl, itself)
  act_same s h (op.Load t x) vs =
      either (is_good w (word 0 vs) (stored_size t)) _ _ _ _
      (λ good. (ap (λ n. n % 2 ^ width_of t) (same_number (stored_size t) (word 0 vs) (word 0 vs) w.bytes b (good_same (word 0 vs) (stored_size t) good)), itself)) (refl, itself)
  act_same s h (op.Store t x y) vs =
      either (is_good w (word 1 vs) (stored_size t)) _ _ _ _ (λ good. set_same (word 1 vs) (stored_size t) (byte_of (word 0 vs))) (refl, itself)
  act_same s h (op.Gep t x is) vs = (refl, itself)
  act_same s h (op.Call r x args) vs = call_same s h.site (map (λ a. a.0) args) vs (s.func x) (external_named s.func x)
  act_same s h (op.Br to) vs = (refl, itself)
  act_same s h (op.CondBr c to other) vs = (refl, itself)
  act_same s h (op.Switch t x other cases) vs = (refl, itself)
  act_same s h (op.Ret x) vs = either h.main _ _ _ _ (λ k. (refl, itself)) itself
  act_same s h op.Unreachable vs = (refl, itself)
