-- What is known of the world after an external that went on: where its bytes are.
use Rattle.std.proofs.Common.{◌≡◌, ◌≤◌, ◌<◌, ◌+◌, ◌%◌, ℕ, Bool, true, false, ◌&&◌, leb, eqb, min, List, [], ◌∷◌, ◌++◌, map, if◌then◌else◌, Option, Some, None, is_some, unwrap_or, refl, sym, ap, ◌∙◌, arith}
use Rattle.std.proofs.lemmas.Bool.{le-leb, ne_eqb}
use Rattle.ms_bits.specs.declared.traps.Trap.TheVariants as trap
use Rattle.ms_ir.specs.declared.calls.External.{External}
use Rattle.ms_ir.specs.declared.calls.External.TheVariants.{Malloc, Realloc, Memcpy, Memmove, Memset, LlvmMemcpy, LlvmMemmove, LlvmMemset}
use Rattle.ms_ir.specs.declared.syntax.Ty.{Ty}
use Rattle.ms_ir.specs.Areas.{Heap, area_eq}
use Rattle.ms_runs.specs.declared.runs.End.{End}
use Rattle.ms_runs.specs.World.{Allocation, World, Setting, Effect, Gives, Does, Ends, traps, word}
use Rattle.ms_runs.specs.Memory.{fits, next_base, first_that, covers, is_good, is_heap_block, heap_size, end_block, set_bytes, copy_bytes, copy_shadow, make_unset}
use Rattle.ms_runs.specs.Externals.{malloc, reallocated, realloc, where_good, external}
use Rattle.ms_runs.specs.Poisoned.{Poisoned}
use Rattle.ms_runs.specs.Masks.{word_at}
use Rattle.ms_host.specs.Answers.{resumed}
use Rattle.ms_trail_moves.specs.Written.{heap_place}
use Rattle.ms_trail_bytes.specs.Shading.{Facts}
use Rattle.ms_runs_good_laws.proofs.Readings.{word_number}

-- ---- effects that go on

number_of : (a b : ℕ) (y z : World) → Gives a y ≡ Gives b z → b ≡ a
number_of a b y z h = cc

world_of : (a b : ℕ) (y z : World) → Gives a y ≡ Gives b z → y ≡ z
world_of a b y z h = cc

world_done : (y z : World) → Does y ≡ Does z → y ≡ z
world_done y z h = cc

same_given : (v : ℕ) (w : World) (value : Option ℕ) (x : World) → Gives v w ≡ resumed value x → (unwrap_or value 0 ≡ v) × (w ≡ x)
same_given v w (Some n) x e = (number_of v n w x e, world_of v n w x e)
same_given v w None x e = absurd (cc)

same_done : (w : World) (value : Option ℕ) (x : World) → Does w ≡ resumed value x → w ≡ x
same_done w (Some n) x e = absurd (cc)
same_done w None x e = world_done w x e

never : (end : End) (w : World) (value : Option ℕ) (x : World) → Ends end w ≡ resumed value x → ⊥
never end w (Some n) x e = absurd (cc)
never end w None x e = absurd (cc)

good_there : (site a n : ℕ) (w : World) (go : Effect) (value : Option ℕ) (x : World) → where_good site a n w go ≡ resumed value x → (is_good w a n ≡ true) × (go ≡ resumed value x)
good_there site a n w go value x e = by_test (is_good w a n) refl e
  where
    by_test : (b : Bool) → is_good w a n ≡ b → (if b then go else traps trap.BadAddress site w) ≡ resumed value x → (is_good w a n ≡ true) × (go ≡ resumed value x)
    by_test true g h = (g, h)
    by_test false g h = absurd (never _ w value x h)

-- ---- a new block has its bytes

good_if : (w : World) (a k : ℕ) → is_some (first_that (covers a k) w.allocs) ≡ true → is_good w a k ≡ true
good_if w a k h = by_test (eqb k 0)
  where
    by_test : (b : Bool) → (if b then true else is_some (first_that (covers a k) w.allocs)) ≡ true
    by_test true = refl
    by_test false = h

last_there : (passes : Allocation → Bool) (xs : List Allocation) (a : Allocation) → passes a ≡ true → is_some (first_that passes (xs ++ a ∷ [])) ≡ true
last_there passes [] a h = ap (λ (b : Bool). is_some (if b then Some a else None)) h
last_there passes (x ∷ xs) a h = by_test (passes x) (last_there passes xs a h)
  where
    by_test : (b : Bool) → is_some (first_that passes (xs ++ a ∷ [])) ≡ true → is_some (if b then Some x else first_that passes (xs ++ a ∷ [])) ≡ true
    by_test true later = refl
    by_test false later = later

last_changed : (passes : Allocation → Bool) (f : Allocation → Allocation) (xs : List Allocation) (a : Allocation) → passes (f a) ≡ true → is_some (first_that passes (map f (xs ++ a ∷ []))) ≡ true
last_changed passes f [] a h = ap (λ (b : Bool). is_some (if b then Some (f a) else None)) h
last_changed passes f (x ∷ xs) a h = by_test (passes (f x)) (last_changed passes f xs a h)
  where
    by_test : (b : Bool) → is_some (first_that passes (map f (xs ++ a ∷ []))) ≡ true → is_some (if b then Some (f x) else first_that passes (map f (xs ++ a ∷ []))) ≡ true
    by_test true later = refl
    by_test false later = later

abbrev new_block : (base n : ℕ) → Allocation
new_block base n = record { base = base; size = n; area = Heap; live = true }

covers_new : (q k n : ℕ) → k ≤ n → covers q k (new_block q n) ≡ true
covers_new q k n le =
    let low : leb q q ≡ true = le-leb q q (omega arith) in
    let high : leb (q + k) (q + n) ≡ true = le-leb (q + k) (q + n) (omega (arith, le)) in
    (λ j. true && low j && high j)

unset_good : (fill : List ℕ) (n : ℕ) (w : World) (k : ℕ) → k ≤ n → is_good (make_unset fill Heap n w) (next_base Heap w) k ≡ true
unset_good fill n w k le =
    good_if (make_unset fill Heap n w) (next_base Heap w) k (last_there (covers (next_base Heap w) k) w.allocs (new_block (next_base Heap w) n) (covers_new (next_base Heap w) k n le))

-- where an old block ends that stands below it
abbrev ends_at : ℕ → Allocation → Allocation
ends_at p a = if is_heap_block p a then record a { live = false } else a

not_ended : (p q n : ℕ) → p < q → ends_at p (new_block q n) ≡ new_block q n
not_ended p q n lt =
    let other : eqb q p ≡ false = ne_eqb q p (λ e. omega (arith, lt, e)) in
    (λ j. if true && area_eq Heap Heap && other j then record (new_block q n) { live = false } else new_block q n)

moved_good : (fill : List ℕ) (p m n : ℕ) (w : World) (k : ℕ) → p < next_base Heap w → k ≤ n
    → is_good (end_block p (copy_shadow (next_base Heap w) p m (copy_bytes (next_base Heap w) p m (make_unset fill Heap n w)))) (next_base Heap w) k ≡ true
moved_good fill p m n w k lt le =
    let q : ℕ = next_base Heap w in
    good_if (end_block p (copy_shadow q p m (copy_bytes q p m (make_unset fill Heap n w)))) q k
    (last_changed (covers q k) (ends_at p) w.allocs (new_block q n) (ap (covers q k) (not_ended p q n lt) ∙ covers_new q k n le))

-- ---- blocks that are made

malloc_place : (fill : List ℕ) (n : ℕ) (w : World) (value : Option ℕ) (x : World) → malloc fill n w ≡ resumed value x → unwrap_or value 0 ≡ heap_place n w
malloc_place fill n w value x e = by_test (fits Heap n w) e
  where
    by_test : (b : Bool) → (if b then Gives (next_base Heap w) (make_unset fill Heap n w) else Gives 0 w) ≡ resumed value x → unwrap_or value 0 ≡ (if b then next_base Heap w else 0)
    by_test true h = (same_given (next_base Heap w) (make_unset fill Heap n w) value x h).0
    by_test false h = (same_given 0 w value x h).0

malloc_good : (fill : List ℕ) (n : ℕ) (w : World) (value : Option ℕ) (x : World) → malloc fill n w ≡ resumed value x → fits Heap n w ≡ true → (k : ℕ) → k ≤ n → is_good x (unwrap_or value 0) k ≡ true
malloc_good fill n w value x e fit k le =
    let h : Gives (next_base Heap w) (make_unset fill Heap n w) ≡ resumed value x = sym (ap (λ (b : Bool). if b then Gives (next_base Heap w) (make_unset fill Heap n w) else Gives 0 w) fit) ∙ e in
    let g = same_given (next_base Heap w) (make_unset fill Heap n w) value x h in
    ap (λ (z : World). is_good z (unwrap_or value 0) k) (sym g.1) ∙ ap (λ (a : ℕ). is_good (make_unset fill Heap n w) a k) g.0 ∙ unset_good fill n w k le

module _ (fill : List ℕ) (p old n : ℕ) (w : World) (value : Option ℕ) (x : World) (e : reallocated fill p old n w ≡ resumed value x) where
  abbrev moved : World
  moved = end_block p (copy_shadow (next_base Heap w) p (min old n) (copy_bytes (next_base Heap w) p (min old n) (make_unset fill Heap n w)))

  moved_place : unwrap_or value 0 ≡ heap_place n w
  moved_place = by_test (fits Heap n w) e
    where
      by_test : (b : Bool) → (if b then Gives (next_base Heap w) moved else Gives 0 w) ≡ resumed value x → unwrap_or value 0 ≡ (if b then next_base Heap w else 0)
      by_test true h = (same_given (next_base Heap w) moved value x h).0
      by_test false h = (same_given 0 w value x h).0

  moved_there : p < next_base Heap w → fits Heap n w ≡ true → (k : ℕ) → k ≤ n → is_good x (unwrap_or value 0) k ≡ true
  moved_there lt fit k le =
      let h : Gives (next_base Heap w) moved ≡ resumed value x = sym (ap (λ (b : Bool). if b then Gives (next_base Heap w) moved else Gives 0 w) fit) ∙ e in
      let g = same_given (next_base Heap w) moved value x h in
      ap (λ (z : World). is_good z (unwrap_or value 0) k) (sym g.1) ∙ ap (λ (a : ℕ). is_good moved a k) g.0 ∙ moved_good fill p (min old n) n w k lt le

-- a block of n bytes that was allocated or reallocated
abbrev IsBlock : (n : ℕ) → World → Option ℕ → World → Type 0
IsBlock n w value x = (unwrap_or value 0 ≡ heap_place n w) × (fits Heap n w ≡ true → (k : ℕ) → k ≤ n → is_good x (unwrap_or value 0) k ≡ true)

realloc_block : (fill : List ℕ) (site p n : ℕ) (w : World) (value : Option ℕ) (x : World) → ((old : ℕ) → heap_size w p ≡ Some old → p < next_base Heap w) → realloc fill site p n w ≡ resumed value x → IsBlock n w value x
realloc_block fill site p n w value x low e = by_null (eqb p 0) e
  where
    by_size : (o : Option ℕ) → heap_size w p ≡ o → elim o as (λ z. Effect) [ Some old ↦ reallocated fill p old n w | None ↦ traps trap.BadFree site w ] ≡ resumed value x → IsBlock n w value x
    by_size None is h = absurd (never _ w value x h)
    by_size (Some old) is h = (moved_place fill p old n w value x h, moved_there fill p old n w value x h (low old is))

    by_null : (b : Bool) → (if b then malloc fill n w else elim (heap_size w p) as (λ z. Effect) [ Some old ↦ reallocated fill p old n w | None ↦ traps trap.BadFree site w ]) ≡ resumed value x → IsBlock n w value x
    by_null true h = (malloc_place fill n w value x h, malloc_good fill n w value x h)
    by_null false h = by_size (heap_size w p) refl h

-- ---- by the externals

module _ (s : Setting) (site : ℕ) (types : List Ty) (ps : List Poisoned) (w : World) (value : Option ℕ) (x after : World) (alike : (a n : ℕ) → is_good after a n ≡ is_good x a n)
    (low : (old : ℕ) → heap_size w (word_at 0 ps).value ≡ Some old → (word_at 0 ps).value < next_base Heap w) where
  abbrev vs : List ℕ
  vs = map (λ p. p.value) ps

  -- bytes that were good are good after it
  good_still : ((a n : ℕ) → is_good x a n ≡ is_good w a n) → (i j : ℕ) → is_good w (word i vs) (word j vs) ≡ true → is_good after (word_at i ps).value (word_at j ps).value ≡ true
  good_still kept i j good =
      alike (word_at i ps).value (word_at j ps).value ∙ kept (word_at i ps).value (word_at j ps).value ∙ (λ k. is_good w (sym (word_number i ps) k) (sym (word_number j ps) k)) ∙ good

  copied_still : (v : ℕ) → where_good site (word 0 vs) (word 2 vs) w (where_good site (word 1 vs) (word 2 vs) w (Gives v (copy_bytes (word 0 vs) (word 1 vs) (word 2 vs) w))) ≡ resumed value x
      → (is_good after (word_at 0 ps).value (word_at 2 ps).value ≡ true) × (is_good after (word_at 1 ps).value (word_at 2 ps).value ≡ true)
  copied_still v e =
      let one = good_there site (word 0 vs) (word 2 vs) w (where_good site (word 1 vs) (word 2 vs) w (Gives v (copy_bytes (word 0 vs) (word 1 vs) (word 2 vs) w))) value x e in
      let two = good_there site (word 1 vs) (word 2 vs) w (Gives v (copy_bytes (word 0 vs) (word 1 vs) (word 2 vs) w)) value x one.1 in
      let same : copy_bytes (word 0 vs) (word 1 vs) (word 2 vs) w ≡ x = (same_given v (copy_bytes (word 0 vs) (word 1 vs) (word 2 vs) w) value x two.1).1 in
      (good_still (λ a n. ap (λ (z : World). is_good z a n) (sym same)) 0 2 one.0, good_still (λ a n. ap (λ (z : World). is_good z a n) (sym same)) 1 2 two.0)

  copied_done : where_good site (word 0 vs) (word 2 vs) w (where_good site (word 1 vs) (word 2 vs) w (Does (copy_bytes (word 0 vs) (word 1 vs) (word 2 vs) w))) ≡ resumed value x
      → (is_good after (word_at 0 ps).value (word_at 2 ps).value ≡ true) × (is_good after (word_at 1 ps).value (word_at 2 ps).value ≡ true)
  copied_done e =
      let one = good_there site (word 0 vs) (word 2 vs) w (where_good site (word 1 vs) (word 2 vs) w (Does (copy_bytes (word 0 vs) (word 1 vs) (word 2 vs) w))) value x e in
      let two = good_there site (word 1 vs) (word 2 vs) w (Does (copy_bytes (word 0 vs) (word 1 vs) (word 2 vs) w)) value x one.1 in
      let same : copy_bytes (word 0 vs) (word 1 vs) (word 2 vs) w ≡ x = same_done (copy_bytes (word 0 vs) (word 1 vs) (word 2 vs) w) value x two.1 in
      (good_still (λ a n. ap (λ (z : World). is_good z a n) (sym same)) 0 2 one.0, good_still (λ a n. ap (λ (z : World). is_good z a n) (sym same)) 1 2 two.0)

  pub facts : (e : External) → external s site e types vs w ≡ resumed value x → Facts e ps w (unwrap_or value 0) after
  facts Malloc e = malloc_place s.fill (word 0 vs) w value x e ∙ ap (λ n. heap_place n w) (word_number 0 ps)
  facts Realloc e =
      let h : realloc s.fill site (word_at 0 ps).value (word_at 1 ps).value w ≡ resumed value x = (λ j. realloc s.fill site (sym (word_number 0 ps) j) (sym (word_number 1 ps) j) w) ∙ e in
      let block = realloc_block s.fill site (word_at 0 ps).value (word_at 1 ps).value w value x low h in
      let most : min (unwrap_or (heap_size w (word_at 0 ps).value) 0) (word_at 1 ps).value ≤ (word_at 1 ps).value = omega arith in
      (block.0, λ fit. alike (unwrap_or value 0) (min (unwrap_or (heap_size w (word_at 0 ps).value) 0) (word_at 1 ps).value) ∙ block.1 fit (min (unwrap_or (heap_size w (word_at 0 ps).value) 0) (word_at 1 ps).value) most)
  facts Memcpy e = copied_still (word 0 vs) e
  facts Memmove e = copied_still (word 0 vs) e
  facts LlvmMemcpy e = copied_done e
  facts LlvmMemmove e = copied_done e
  facts Memset e =
      let one = good_there site (word 0 vs) (word 2 vs) w (Gives (word 0 vs) (set_bytes (word 0 vs) (word 2 vs) (λ k. word 1 vs % 256) w)) value x e in
      let same : set_bytes (word 0 vs) (word 2 vs) (λ k. word 1 vs % 256) w ≡ x = (same_given (word 0 vs) (set_bytes (word 0 vs) (word 2 vs) (λ k. word 1 vs % 256) w) value x one.1).1 in
      good_still (λ a n. ap (λ (z : World). is_good z a n) (sym same)) 0 2 one.0
  facts LlvmMemset e =
      let one = good_there site (word 0 vs) (word 2 vs) w (Does (set_bytes (word 0 vs) (word 2 vs) (λ k. word 1 vs % 256) w)) value x e in
      let same : set_bytes (word 0 vs) (word 2 vs) (λ k. word 1 vs % 256) w ≡ x = same_done (set_bytes (word 0 vs) (word 2 vs) (λ k. word 1 vs % 256) w) value x one.1 in
      good_still (λ a n. ap (λ (z : World). is_good z a n) (sym same)) 0 2 one.0
  facts k e = tt
