-- No instruction changes a byte that isn't live.
use Rattle.std.proofs.Common.{◌≡◌, ℕ, zero, suc, ◌+◌, ◌-◌, ◌*◌, ◌^◌, ◌%◌, ◌≤◌, List, [], ◌∷◌, ◌++◌, map, min, length, take, drop, get_or, leb, ltb, eqb, Bool, true, false, ◌&&◌, Option, Some, None, is_some, Result, Ok, Err, refl, sym, ◌∙◌, subst, arith, if◌then◌else◌}
use Rattle.std.proofs.lemmas.Bool.{le-leb, leb-true, ltb-true, lt-ltb, eqb-true, and_parts, and_from}
use Rattle.ms_bits.specs.declared.traps.Trap.{Trap}
use Rattle.ms_bits.specs.declared.traps.Trap.TheVariants as trap
use Rattle.ms_bits.specs.WordFunctions.{bits_of, word_answer}
use Rattle.ms_bits.specs.Fill.{made_byte}
use Rattle.ms_bits.specs.Maps.{within, with_range, byte_of, bytes_at}
use Rattle.ms_ir.specs.Areas.{Area, Heap}
use Rattle.ms_ir.specs.Layout.{stored_size, size_in}
use Rattle.ms_ir.specs.Instructions.{external_named}
use Rattle.ms_ir.specs.declared.syntax.Op.{Op}
use Rattle.ms_ir.specs.declared.syntax.Op.TheVariants as op
use Rattle.ms_ir.specs.declared.syntax.Ty.{Ty}
use Rattle.ms_ir.specs.declared.calls.External.{External}
use Rattle.ms_ir.specs.declared.calls.External.TheVariants.{Malloc, Calloc, Realloc, Free, Memcpy, Memmove, Memset, Memcmp, Strlen, Putchar, Puts, Getchar, Read, Write, Exit, Abort, LlvmMemcpy, LlvmMemmove, LlvmMemset, LifetimeStart, LifetimeEnd, Printf, LlvmTrap, LlvmAssume, LlvmObjectSize, PthreadCreate, PthreadJoin, SchedYield, Word}
use Rattle.ms_runs.specs.Threads.{fiber_limit, thread_at, has_ended, with_fiber, with_joined, join_answer}
use Rattle.ms_runs.specs.World.{Allocation, World, Setting, Here, Effect, Gives, Enters, Ends, traps, stuck, word, gives}
use Rattle.ms_runs.specs.Memory.{fits, next_base, local_area, first_that, covers, is_good, block_of, is_heap_block, heap_size, end_block, make, make_unset, make_bytes, set_bytes, store_number, copy_bytes, copy_shadow}
use Rattle.ms_runs.specs.Externals.{malloc, reallocated, realloc, where_good, printed, next_byte, formatted, prints, external, string_at, output_limit}
use Rattle.ms_runs.specs.Act.{act}
use Rattle.ms_runs_laws.specs.Inside.{has_byte, StaysInside, InsideAfter}

-- ---- ranges of maps

pub within_parts : (a n x : ℕ) → within a n x ≡ true → (a ≤ x) × (x + 1 ≤ a + n)
within_parts a n x h = let p = and_parts (leb a x) (ltb x (a + n)) h in (leb-true a x p.0, omega (arith, ltb-true x (a + n) p.1))

-- where a place is in no range, the map is as before
outside : (old : ℕ → ℕ) (a n : ℕ) (new : ℕ → ℕ) (x : ℕ) → (within a n x ≡ true → ⊥) → with_range old a n new x ≡ old x
outside old a n new x none = by_test (within a n x) refl
  where
    by_test : (t : Bool) → within a n x ≡ t → (if t then new (x - a) else old x) ≡ old x
    by_test true e = absurd (none e)
    by_test false e = refl

-- ---- live bytes

covered : (a n x : ℕ) (b : Allocation) → a ≤ x → x + 1 ≤ a + n → covers a n b ≡ true → covers x 1 b ≡ true
covered a n x b l g h =
    let outer = and_parts (b.live && leb b.base a) (leb (a + n) (b.base + b.size)) h in
    let inner = and_parts b.live (leb b.base a) outer.0 in
    let low : b.base ≤ a = leb-true b.base a inner.1 in
    let high : a + n ≤ b.base + b.size = leb-true (a + n) (b.base + b.size) outer.1 in
    and_from _ _ (and_from _ _ inner.0 (le-leb b.base x (omega (arith, low, l)))) (le-leb (x + 1) (b.base + b.size) (omega (arith, high, g)))

not_covered : (a n x : ℕ) (bs : List Allocation) → a ≤ x → x + 1 ≤ a + n → first_that (covers x 1) bs ≡ None → first_that (covers a n) bs ≡ None
not_covered a n x [] l g h = refl
not_covered a n x (b ∷ bs) l g h = by_wide (λ k. not_covered a n x bs l g k) (covers a n b) refl (covers x 1 b) refl h
  where
    by_wide : (first_that (covers x 1) bs ≡ None → first_that (covers a n) bs ≡ None) → (t : Bool) → covers a n b ≡ t → (u : Bool) → covers x 1 b ≡ u → (if u then Some b else first_that (covers x 1) bs) ≡ None → (if t then Some b else first_that (covers a n) bs) ≡ None
    by_wide rest true e u f k = let same : u ≡ true = sym f ∙ covered a n x b l g e in absurd (some_none u same k)
      where
        some_none : (u : Bool) → u ≡ true → (if u then Some b else first_that (covers x 1) bs) ≡ None → ⊥
        some_none true s k = absurd cc
        some_none false s k = absurd cc
    by_wide rest false e true f k = absurd cc
    by_wide rest false e false f k = rest k

-- a byte of a good range is live
pub good_is_live : (w : World) (a n x : ℕ) → is_good w a n ≡ true → a ≤ x → x + 1 ≤ a + n → block_of w x ≡ None → ⊥
good_is_live w a n x good l g none = by_test (eqb n 0) refl good
  where
    by_test : (t : Bool) → eqb n 0 ≡ t → (if t then true else is_some (first_that (covers a n) w.allocs)) ≡ true → ⊥
    by_test true e k = omega (arith, eqb-true n 0 e, l, g)
    by_test false e k = none_some (first_that (covers a n) w.allocs) (not_covered a n x w.allocs l g none) k
      where
        none_some : (o : Option Allocation) → o ≡ None → is_some o ≡ true → ⊥
        none_some None e h = absurd cc
        none_some (Some b) e h = absurd cc

-- ---- effects

itself : (w : World) → StaysInside w w
itself w = λ x live made. refl

either : (t : Bool) (w : World) (e x : Effect) → (t ≡ true → InsideAfter w e) → InsideAfter w x → InsideAfter w (if t then e else x)
either true w e x h g = h refl
either false w e x h g = g

-- bytes of a good range change, and no allocation is made
stored : (w u : World) (a n : ℕ) (new : ℕ → ℕ) → is_good w a n ≡ true → ((x : ℕ) → u.bytes x ≡ with_range w.bytes a n new x) → StaysInside w u
stored w u a n new good is = λ x live made.
    is x ∙ outside w.bytes a n new x (λ h. let parts = within_parts a n x h in good_is_live w a n x good parts.0 parts.1 live)

where_stays : (site a n : ℕ) (w : World) (e : Effect) → (is_good w a n ≡ true → InsideAfter w e) → InsideAfter w (where_good site a n w e)
where_stays site a n w e h = either (is_good w a n) w e _ h (itself w)

-- ---- allocations that are made

pub drop_front : (xs bs : List Allocation) → drop (length xs) (xs ++ bs) ≡ bs
drop_front [] bs = refl
drop_front (a ∷ xs) bs = drop_front xs bs

pub drop_mapped : (f : Allocation → Allocation) (xs : List Allocation) (b : Allocation) → drop (length xs) (map f (xs ++ b ∷ [])) ≡ f b ∷ []
drop_mapped f [] b = refl
drop_mapped f (a ∷ xs) b = drop_mapped f xs b

pub not_in : (x : ℕ) (b : Allocation) → first_that (has_byte x) (b ∷ []) ≡ None → within b.base b.size x ≡ true → ⊥
not_in x b none h = by_test (has_byte x b) (let parts = within_parts b.base b.size x h in inside parts.0 parts.1) none
  where
    inside : b.base ≤ x → x + 1 ≤ b.base + b.size → has_byte x b ≡ true
    inside l g = and_from _ _ (le-leb b.base x l) (le-leb (x + 1) (b.base + b.size) g)

    by_test : (t : Bool) → t ≡ true → (if t then Some b else None) ≡ None → ⊥
    by_test true e k = absurd cc
    by_test false e k = absurd cc

-- a new allocation of an area
abbrev pub fresh : Area → ℕ → World → Allocation
fresh area n w = record { base = next_base area w; size = n; area = area; live = true }

make_stays : (area : Area) (n : ℕ) (w : World) → StaysInside w (make area n w)
make_stays area n w = λ x live made.
    outside w.bytes (next_base area w) n (λ k. 0) x (not_in x (fresh area n w) (subst (λ bs. first_that (has_byte x) bs ≡ None) (drop_front w.allocs (fresh area n w ∷ [])) made))

make_unset_stays : (fill : List ℕ) (area : Area) (n : ℕ) (w : World) → StaysInside w (make_unset fill area n w)
make_unset_stays fill area n w = λ x live made.
    let none = not_in x (fresh area n w) (subst (λ bs. first_that (has_byte x) bs ≡ None) (drop_front w.allocs (fresh area n w ∷ [])) made) in
    outside (make area n w).bytes (next_base area w) n (λ k. made_byte fill (w.made + k)) x none
    ∙ outside w.bytes (next_base area w) n (λ k. 0) x none

-- ---- externals

malloc_stays : (fill : List ℕ) (n : ℕ) (w : World) → InsideAfter w (malloc fill n w)
malloc_stays fill n w = either (fits Heap n w) w _ _ (λ t. make_unset_stays fill Heap n w) (itself w)

reallocated_stays : (fill : List ℕ) (p old n : ℕ) (w : World) → InsideAfter w (reallocated fill p old n w)
reallocated_stays fill p old n w = either (fits Heap n w) w _ _ (λ t. moved) (itself w)
  where
    ended : Allocation → Allocation
    ended a = if is_heap_block p a then record a { live = false } else a

    unset : World
    unset = make_unset fill Heap n w

    still : (x : ℕ) (t : Bool) → first_that (has_byte x) ((if t then record (fresh Heap n w) { live = false } else fresh Heap n w) ∷ []) ≡ None → first_that (has_byte x) (fresh Heap n w ∷ []) ≡ None
    still x true h = by_byte (has_byte x (fresh Heap n w)) h
      where
        by_byte : (t : Bool) → (if t then Some (record (fresh Heap n w) { live = false }) else None) ≡ None → (if t then Some (fresh Heap n w) else None) ≡ None
        by_byte true k = absurd cc
        by_byte false k = refl
    still x false h = h

    narrow : (q k x : ℕ) → k ≤ n → within q k x ≡ true → within q n x ≡ true
    narrow q k x l h = let p = within_parts q k x h in and_from _ _ (le-leb q x p.0) (lt-ltb x (q + n) (omega (arith, l, p.1)))

    moved : StaysInside w (end_block p (copy_shadow (next_base Heap w) p (min old n) (copy_bytes (next_base Heap w) p (min old n) (make_unset fill Heap n w))))
    moved = λ x live made.
        let there = still x (is_heap_block p (fresh Heap n w)) (subst (λ bs. first_that (has_byte x) bs ≡ None) (drop_mapped (λ a. if is_heap_block p a then record a { live = false } else a) w.allocs (fresh Heap n w)) made) in
        let none = not_in x (fresh Heap n w) there in
        outside (make_unset fill Heap n w).bytes (next_base Heap w) (min old n) (λ k. (make_unset fill Heap n w).bytes (p + k)) x (λ h. none (narrow (next_base Heap w) (min old n) x (omega arith) h))
        ∙ outside (make Heap n w).bytes (next_base Heap w) n (λ k. made_byte fill (w.made + k)) x none
        ∙ outside w.bytes (next_base Heap w) n (λ k. 0) x none

realloc_stays : (fill : List ℕ) (site p n : ℕ) (w : World) → InsideAfter w (realloc fill site p n w)
realloc_stays fill site p n w = either (eqb p 0) w _ _ (λ t. malloc_stays fill n w) (by_size (heap_size w p))
  where
    by_size : (o : Option ℕ) → InsideAfter w (elim o [ Some old ↦ reallocated fill p old n w | None ↦ traps trap.BadFree site w ])
    by_size (Some old) = reallocated_stays fill p old n w
    by_size None = itself w

string_stays : (w : World) (o : Option (List ℕ)) (f : List ℕ → Effect) (site : ℕ) → ((bs : List ℕ) → InsideAfter w (f bs)) → InsideAfter w (elim o [ Some bs ↦ f bs | None ↦ traps trap.BadAddress site w ])
string_stays w (Some bs) f site h = h bs
string_stays w None f site h = itself w

printed_stays : (site : ℕ) (bs : List ℕ) (v : ℕ) (w : World) → InsideAfter w (printed site bs (Gives v) w)
printed_stays site bs v w = either (leb (length w.output + length bs) output_limit) w _ _ (λ t x live made. refl) (itself w)

next_stays : (bs : List ℕ) (w : World) → InsideAfter w (next_byte bs w)
next_stays [] w = itself w
next_stays (b ∷ bs) w = λ x live made. refl

-- fewer bytes than a good range has
few_good : (w : World) (a n k : ℕ) → k ≤ n → is_good w a n ≡ true → (x : ℕ) → block_of w x ≡ None → within a k x ≡ true → ⊥
few_good w a n k l good x live h = let parts = within_parts a k x h in good_is_live w a n x good parts.0 (omega (arith, l, parts.1)) live

took : (bs : List ℕ) (n : ℕ) → length (take n bs) ≤ n
took bs zero = omega arith
took [] (suc n) = omega arith
took (b ∷ bs) (suc n) = omega (arith, took bs n)

prints_stays : (site : ℕ) (r : Result (List ℕ) Trap) (w : World) → InsideAfter w (prints site r w)
prints_stays site (Ok bs) w = printed_stays site bs (length bs) w
prints_stays site (Err t) w = itself w

gives_stays : (site : ℕ) (r : Result ℕ Trap) (w : World) → InsideAfter w (gives site r w)
gives_stays site (Ok v) w = itself w
gives_stays site (Err t) w = itself w

external_stays : (s : Setting) (site : ℕ) (e : External) (ts : List Ty) (vs : List ℕ) (w : World) → InsideAfter w (external s site e ts vs w)
external_stays s site Malloc ts vs w = malloc_stays s.fill (word 0 vs) w
external_stays s site Calloc ts vs w = either (ltb (word 0 vs * word 1 vs) (2 ^ 64) && fits Heap (word 0 vs * word 1 vs) w) w _ _ (λ t. make_stays Heap (word 0 vs * word 1 vs) w) (itself w)
external_stays s site Realloc ts vs w = realloc_stays s.fill site (word 0 vs) (word 1 vs) w
external_stays s site Free ts vs w = either (eqb (word 0 vs) 0) w _ _ (λ t. itself w) (either (is_some (heap_size w (word 0 vs))) w _ _ (λ t x live made. refl) (itself w))
external_stays s site Memcpy ts vs w = where_stays site (word 0 vs) (word 2 vs) w _ (λ good. where_stays site (word 1 vs) (word 2 vs) w _ (λ t. stored w (copy_bytes (word 0 vs) (word 1 vs) (word 2 vs) w) (word 0 vs) (word 2 vs) (λ k. w.bytes (word 1 vs + k)) good (λ x. refl)))
external_stays s site Memmove ts vs w = where_stays site (word 0 vs) (word 2 vs) w _ (λ good. where_stays site (word 1 vs) (word 2 vs) w _ (λ t. stored w (copy_bytes (word 0 vs) (word 1 vs) (word 2 vs) w) (word 0 vs) (word 2 vs) (λ k. w.bytes (word 1 vs + k)) good (λ x. refl)))
external_stays s site Memset ts vs w = where_stays site (word 0 vs) (word 2 vs) w _ (λ good. stored w (set_bytes (word 0 vs) (word 2 vs) (λ k. word 1 vs % 256) w) (word 0 vs) (word 2 vs) (λ k. word 1 vs % 256) good (λ x. refl))
external_stays s site Memcmp ts vs w = where_stays site (word 0 vs) (word 2 vs) w _ (λ good. where_stays site (word 1 vs) (word 2 vs) w _ (λ t. itself w))
external_stays s site Strlen ts vs w = string_stays w (string_at w (word 0 vs)) (λ bs. Gives (length bs) w) site (λ bs. itself w)
external_stays s site Putchar ts vs w = printed_stays site (word 0 vs % 256 ∷ []) (word 0 vs % 256) w
external_stays s site Puts ts vs w = string_stays w (string_at w (word 0 vs)) (λ bs. printed site (bs ++ 10 ∷ []) (Gives 1) w) site (λ bs. printed_stays site (bs ++ 10 ∷ []) 1 w)
external_stays s site Getchar ts vs w = next_stays w.input w
external_stays s site Read ts vs w =
    where_stays site (word 1 vs) (word 2 vs) w _ (λ good. either (eqb (word 0 vs) 0) w _ _
    (λ t x live made. outside w.bytes (word 1 vs) (length (take (word 2 vs) w.input)) (λ k. get_or (take (word 2 vs) w.input) k 0) x (few_good w (word 1 vs) (word 2 vs) (length (take (word 2 vs) w.input)) (took w.input (word 2 vs)) good x live)) (itself w))
external_stays s site Write ts vs w = where_stays site (word 1 vs) (word 2 vs) w _ (λ good. either (eqb (word 0 vs) 1) w _ _ (λ t. printed_stays site (bytes_at w.bytes (word 1 vs) (word 2 vs)) (word 2 vs) w) (itself w))
external_stays s site Exit ts vs w = itself w
external_stays s site Abort ts vs w = itself w
external_stays s site LlvmMemcpy ts vs w = where_stays site (word 0 vs) (word 2 vs) w _ (λ good. where_stays site (word 1 vs) (word 2 vs) w _ (λ t. stored w (copy_bytes (word 0 vs) (word 1 vs) (word 2 vs) w) (word 0 vs) (word 2 vs) (λ k. w.bytes (word 1 vs + k)) good (λ x. refl)))
external_stays s site LlvmMemmove ts vs w = where_stays site (word 0 vs) (word 2 vs) w _ (λ good. where_stays site (word 1 vs) (word 2 vs) w _ (λ t. stored w (copy_bytes (word 0 vs) (word 1 vs) (word 2 vs) w) (word 0 vs) (word 2 vs) (λ k. w.bytes (word 1 vs + k)) good (λ x. refl)))
external_stays s site LlvmMemset ts vs w = where_stays site (word 0 vs) (word 2 vs) w _ (λ good. stored w (set_bytes (word 0 vs) (word 2 vs) (λ k. word 1 vs % 256) w) (word 0 vs) (word 2 vs) (λ k. word 1 vs % 256) good (λ x. refl))
external_stays s site LifetimeStart ts vs w = where_stays site (word 1 vs) (word 0 vs) w _ (λ good. stored w (make_bytes s.fill (word 1 vs) (word 0 vs) w) (word 1 vs) (word 0 vs) (λ k. made_byte s.fill (w.made + k)) good (λ x. refl))
external_stays s site LifetimeEnd ts vs w = itself w
external_stays s site LlvmTrap ts vs w = itself w
external_stays s site LlvmAssume ts vs w = either (eqb (word 0 vs) 0) w _ _ (λ t. itself w) (itself w)
external_stays s site LlvmObjectSize ts vs w = itself w
external_stays s site PthreadCreate ts vs w =
    either (leb fiber_limit (length w.threads + 1)) w _ _ (λ t. itself w)
    (where_stays site (word 0 vs) 8 w _
    (λ good. stored w (store_number (word 0 vs) 8 (length w.threads + 1) (with_fiber (word 2 vs) (word 3 vs) w)) (word 0 vs) 8 (byte_of (length w.threads + 1)) good (λ x. refl)))
external_stays s site PthreadJoin ts vs w =
    either (eqb (join_answer w.turn (word 0 vs) w.threads) 0) w _ _
    (λ t. either (has_ended (thread_at (word 0 vs) w.threads)) w _ _
    (λ ended. either (eqb (word 1 vs) 0) w _ _ (λ null x live made. refl)
    (where_stays site (word 1 vs) 8 w _ (λ good. stored w (store_number (word 1 vs) 8 (w.answers (word 0 vs)) (with_joined (word 0 vs) w)) (word 1 vs) 8 (byte_of (w.answers (word 0 vs))) good (λ x. refl))))
    (itself w))
    (itself w)
external_stays s site SchedYield ts vs w = itself w
external_stays s site Printf ts vs w = prints_stays site (formatted w ts vs) w
external_stays s site (Word f n) ts vs w = gives_stays site (word_answer f (bits_of n) (word 0 vs) (word 1 vs) (word 2 vs)) w

-- ---- instructions

call_stays : (s : Setting) (site : ℕ) (ts : List Ty) (vs : List ℕ) (w : World) (o : Option ℕ) (e : Option External)
    → InsideAfter w (elim o [ Some f ↦ Enters f w | None ↦ elim e [ Some x ↦ external s site x ts vs w | None ↦ Ends stuck w ] ])
call_stays s site ts vs w (Some f) e = itself w
call_stays s site ts vs w None (Some x) = external_stays s site x ts vs w
call_stays s site ts vs w None None = itself w

pub act_stays : (s : Setting) (h : Here) (o : Op) (vs : List ℕ) (w : World) → InsideAfter w (act s h o vs w)
act_stays s h (op.Binary o f t a b) vs w = gives_stays h.site _ w
act_stays s h (op.Icmp p f t a b) vs w = gives_stays h.site _ w
act_stays s h (op.Cast o f t a u) vs w = gives_stays h.site _ w
act_stays s h (op.Alloca t u c) vs w = either (fits (local_area w) (size_in s.types t * word 0 vs) w) w _ _ (λ k. make_unset_stays s.fill (local_area w) (size_in s.types t * word 0 vs) w) (itself w)
act_stays s h (op.Load t a) vs w = either (is_good w (word 0 vs) (stored_size t)) w _ _ (λ k. itself w) (itself w)
act_stays s h (op.Store t v a) vs w = either (is_good w (word 1 vs) (stored_size t)) w _ _ (λ good. stored w (store_number (word 1 vs) (stored_size t) (word 0 vs) w) (word 1 vs) (stored_size t) (byte_of (word 0 vs)) good (λ x. refl)) (itself w)
act_stays s h (op.Call r x args) vs w = call_stays s h.site (map (λ a. a.0) args) vs w (s.func x) (external_named s.func x)
act_stays s h (op.Ret v) vs w = either h.main w _ _ (λ k. itself w) (itself w)
act_stays s h o vs w = itself w
