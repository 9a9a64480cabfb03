-- What instructions leave of worlds in which origins lead back.
use Rattle.std.proofs.Common.{◌≡◌, ◌⊎◌, inl, inr, ℕ, ◌+◌, ◌-◌, ◌*◌, ◌%◌, ◌^◌, ◌<◌, ◌≤◌, min, List, [], ◌∷◌, ◌++◌, map, length, Bool, true, false, not, ◌&&◌, eqb, leb, ltb, Option, Some, None, unwrap_or, is_some, slice_get, true≢false, Result, Ok, Err, refl, sym, ap, subst, arith, add-one, if◌then◌else◌}
use Rattle.std.proofs.lemmas.Bool.{and_parts, ne_eqb, le-leb}
use Rattle.ms_bits.specs.declared.traps.Trap.{Trap}
use Rattle.ms_bits.specs.declared.traps.Trap.TheVariants as trap
use Rattle.ms_bits.specs.WordFunctions.{bits_of, word_answer}
use Rattle.ms_bits.specs.Maps.{byte_of, bytes_at}
use Rattle.ms_ir.specs.declared.syntax.Name.{Name}
use Rattle.ms_ir.specs.declared.syntax.Ty.{Ty}
use Rattle.ms_ir.specs.declared.syntax.Op.{Op}
use Rattle.ms_ir.specs.declared.syntax.Op.TheVariants as op
use Rattle.ms_ir.specs.declared.calls.External.{External}
use Rattle.ms_ir.specs.declared.calls.External.TheVariants.{Malloc, Calloc, Realloc, Free, Memcpy, Memmove, Memset, Memcmp, Strlen, Putchar, Puts, Getchar, Read, Write, Exit, Abort, LlvmMemcpy, LlvmMemmove, LlvmMemset, LifetimeStart, LifetimeEnd, Printf, LlvmTrap, LlvmAssume, LlvmObjectSize, PthreadCreate, PthreadJoin, SchedYield, Word}
use Rattle.ms_runs.specs.declared.runs.Origin.TheVariants.{Root, Chain}
use Rattle.ms_ir.specs.Layout.{stored_size, size_in}
use Rattle.ms_ir.specs.Areas.{Heap, area_base, room}
use Rattle.ms_runs.specs.World.{World, Setting, Here, Effect, Gives, Does, Goes, Enters, Leaves, Ends, traps, stuck, word, gives}
use Rattle.ms_runs.specs.Memory.{used, fits, next_base, local_area, is_good, heap_size, store_number, set_shadow, set_cells, copy_bytes, copy_shadow, make_unset}
use Rattle.ms_ir.specs.Instructions.{external_named, is_root, makes_unset}
use Rattle.ms_runs.specs.Externals.{malloc, reallocated, realloc, where_good, string_at, output_limit, printed, next_byte, external, formatted, prints, joined, join}
use Rattle.ms_runs.specs.Act.{act, alloca, store}
use Rattle.ms_runs.specs.Origins.{trail_within, poison, unpoison, copy_planes, store_origin, thread_result}
use Rattle.ms_runs.specs.Poisoned.{Poisoned}
use Rattle.ms_runs.specs.Masks.{word_at}
use Rattle.ms_runs.specs.Shadow.{external_planes, callee_planes, planes}
use Rattle.ms_runs_good_laws.specs.Reached.{LeadsBack}
use Rattle.ms_runs_good_laws.proofs.Rooms.{used_push, room_whole}
use Rattle.ms_runs_good_laws.proofs.Readings.{word_number}
use Rattle.ms_ir.specs.Written.{targets}
use Rattle.ms_runs_origins_laws.proofs.Trails.{inside, next_block}
use Rattle.ms_runs_origins_laws.proofs.Worlds.{Back, Backed, NoneFree, poisoned, unpoisoned, planes_copied, copied_back, made_heap, made_room, ended_back, stored, store_grows, filled, fill_grows}
use Rattle.ms_runs.specs.Threads.{fiber_limit, thread_at, has_ended, with_joined, join_answer}
use Rattle.ms_runs_good_laws.proofs.ThreadsApart.{NoThread, CallsNoThread}

-- ---- words

-- a word with a poisoned bit has an origin that leads back
abbrev pub WordBack : (site root : ℕ → Type 0) → (roots : ℕ) → List (ℕ × ℕ) → Poisoned → Type 0
WordBack site root roots pairs p = ¬ (p.mask ≡ 0) → Back site root roots pairs p.origin

-- each of some words has such an origin
abbrev pub WordsBack : (site root : ℕ → Type 0) → (roots : ℕ) → List (ℕ × ℕ) → List Poisoned → Type 0
WordsBack site root roots pairs ps = (k : ℕ) → WordBack site root roots pairs (word_at k ps)

-- a root leads back to itself
pub root_back : (site root : ℕ → Type 0) (roots id : ℕ) → 0 < id → id ≤ roots → root id → (pairs : List (ℕ × ℕ)) → Back site root roots pairs id
root_back site root roots id some few h pairs =
    subst (λ n. LeadsBack site root (trail_within n roots pairs id)) (sym (add-one (length pairs)))
    (step (eqb id 0) (leb id roots) (slice_get pairs (id - roots - 1)) (ne_eqb id 0 (λ e. omega (arith, e, some))) (le-leb id roots few))
  where
    step : (t u : Bool) (o : Option (ℕ × ℕ)) → t ≡ false → u ≡ true
        → LeadsBack site root (if t then [] else if u then Root id ∷ [] else elim o [ Some p ↦ Chain p.0 p.1 ∷ trail_within (length pairs) roots pairs p.0 | None ↦ [] ])
    step true u o e f = absurd (true≢false e)
    step false true o e f = h
    step false false o e f = absurd (true≢false (sym f))

-- what a store writes has at most 8 bytes
abbrev pub SmallStore : Op → Type 0
SmallStore (op.Store t v a) = stored_size t ≤ 8
SmallStore o = Unit {0}

-- an external is a join
abbrev pub is_join : External → Bool
is_join PthreadJoin = true
is_join e = false

-- ---- worlds after an instruction, before its shadow is set

module _ (site root told : ℕ → Type 0) (s : Setting) where
  -- what fibers answered has origins that lead back
  abbrev pub AnswersBack : World → Type 0
  AnswersBack w = (k : ℕ) → ¬ (w.answer_masks k ≡ 0) → Back site root s.roots w.pairs (w.answer_origins k)

  -- an operation is no thread call, or what fibers answered leads back
  abbrev pub Quiet : (Name → Option ℕ) → Op → World → Type 0
  Quiet func o w = CallsNoThread func o ⊎ AnswersBack w

  -- a world in which all origins lead back
  abbrev pub Good : World → Type 0
  Good w = Backed site root told s.roots NoneFree w

  -- a world whose pairs are the same, and which is good where the one before is
  abbrev pub Kept : World → World → Type 0
  Kept w u = (u.pairs ≡ w.pairs) × (Good w → Good u)

  -- origins that lead back go on to lead back, and the world is good where the one before is
  abbrev pub Grown : World → World → Type 0
  Grown w u = ((id : ℕ) → Back site root s.roots w.pairs id → Back site root s.roots u.pairs id) × (Good w → Good u)

  -- an effect that leaves such a world, or the one before where the run ends
  abbrev pub KeptAfter : World → Effect → Type 0
  KeptAfter w (Gives v u) = Kept w u
  KeptAfter w (Does u) = Kept w u
  KeptAfter w (Goes x u) = ⊥
  KeptAfter w (Enters f u) = ⊥
  KeptAfter w (Leaves u) = ⊥
  KeptAfter w (Ends e u) = u ≡ w

  -- the same of an effect with what it does to shadow and origins; a jump tells that the instruction jumps
  abbrev pub GrownAfter : Type 0 → World → (ℕ → World → World) → Effect → Type 0
  GrownAfter jumps w after (Gives v u) = Grown w (after v u)
  GrownAfter jumps w after (Does u) = Grown w (after 0 u)
  GrownAfter jumps w after (Goes x u) = (u ≡ w) × jumps
  GrownAfter jumps w after (Enters f u) = u ≡ w
  GrownAfter jumps w after (Leaves u) = u ≡ w
  GrownAfter jumps w after (Ends e u) = u ≡ w

  itself : (w : World) → Kept w w
  itself w = (refl, λ b. b)

  grown_itself : (w : World) → Grown w w
  grown_itself w = (λ id h. h, λ b. b)

  then_grown : (jumps : Type 0) (w : World) (after : ℕ → World → World) (e : Effect) → KeptAfter w e → ((v : ℕ) (u : World) → u.pairs ≡ w.pairs → Grown u (after v u)) → GrownAfter jumps w after e
  then_grown jumps w after (Gives v u) h g = let more = g v u h.0 in (λ id b. more.0 id (subst (λ ps. Back site root s.roots ps id) (sym h.0) b), λ b. more.1 (h.1 b))
  then_grown jumps w after (Does u) h g = let more = g 0 u h.0 in (λ id b. more.0 id (subst (λ ps. Back site root s.roots ps id) (sym h.0) b), λ b. more.1 (h.1 b))
  then_grown jumps w after (Goes x u) h g = absurd h
  then_grown jumps w after (Enters f u) h g = absurd h
  then_grown jumps w after (Leaves u) h g = absurd h
  then_grown jumps w after (Ends e u) h g = h

  either_after : (t : Bool) (w : World) (e x : Effect) → (t ≡ true → KeptAfter w e) → KeptAfter w x → KeptAfter w (if t then e else x)
  either_after true w e x h g = h refl
  either_after false w e x h g = g

  -- ---- externals

  malloc_kept : (fill : List ℕ) (n : ℕ) (w : World) → KeptAfter w (malloc fill n w)
  malloc_kept fill n w = either_after (fits Heap n w) w _ _ (λ e. (refl, λ b. made_heap site root told s.roots n w e b)) (itself w)

  reallocated_kept : (fill : List ℕ) (p old n : ℕ) (w : World) → KeptAfter w (reallocated fill p old n w)
  reallocated_kept fill p old n w = either_after (fits Heap n w) w _ _
      (λ e. (
        refl,
        λ b. ended_back site root told s.roots p (copy_shadow (next_base Heap w) p (min old n) (copy_bytes (next_base Heap w) p (min old n) (make_unset fill Heap n w)))
            (copied_back site root told s.roots (next_base Heap w) p (min old n) (copy_bytes (next_base Heap w) p (min old n) (make_unset fill Heap n w)) (λ x i l g. clear x (inside (next_base Heap w) (min old n) x i).1 l)
            (made_heap site root told s.roots n w e b)),
      )) (itself w)
    where
      top : used Heap (w.allocs ++ next_block Heap n w ∷ []) ≡ used Heap w.allocs + room n
      top = used_push Heap w.allocs (next_block Heap n w)

      clear : (x : ℕ) → x < next_base Heap w + min old n → area_base Heap + used Heap (w.allocs ++ next_block Heap n w ∷ []) ≤ x → ⊥
      clear x l g = omega (arith, l, g, top, (room_whole n).1)

  realloc_kept : (fill : List ℕ) (site p n : ℕ) (w : World) → KeptAfter w (realloc fill site p n w)
  realloc_kept fill at p n w = either_after (eqb p 0) w _ _ (λ e. malloc_kept fill n w) (by_size (heap_size w p))
    where
      by_size : (o : Option ℕ) → KeptAfter w (elim o [ Some old ↦ reallocated fill p old n w | None ↦ traps trap.BadFree at w ])
      by_size (Some old) = reallocated_kept fill p old n w
      by_size None = refl

  string_kept : (w : World) (o : Option (List ℕ)) (f : List ℕ → Effect) (at : ℕ) → ((bs : List ℕ) → KeptAfter w (f bs)) → KeptAfter w (elim o [ Some bs ↦ f bs | None ↦ traps trap.BadAddress at w ])
  string_kept w (Some bs) f at h = h bs
  string_kept w None f at h = refl

  printed_kept : (at : ℕ) (bs : List ℕ) (v : ℕ) (w : World) → KeptAfter w (printed at bs (Gives v) w)
  printed_kept at bs v w = either_after (leb (length w.output + length bs) output_limit) w _ _ (λ e. (refl, λ b. b)) refl

  next_kept : (bs : List ℕ) (w : World) → KeptAfter w (next_byte bs w)
  next_kept [] w = itself w
  next_kept (b ∷ bs) w = (refl, λ h. h)

  good_kept : (at a n : ℕ) (w : World) (e : Effect) → KeptAfter w e → KeptAfter w (where_good at a n w e)
  good_kept at a n w e h = either_after (is_good w a n) w _ _ (λ g. h) refl

  prints_kept : (at : ℕ) (r : Result (List ℕ) Trap) (w : World) → KeptAfter w (prints at r w)
  prints_kept at (Ok bs) w = printed_kept at bs (length bs) w
  prints_kept at (Err t) w = refl

  answers_kept : (at : ℕ) (r : Result ℕ Trap) (w : World) → KeptAfter w (gives at r w)
  answers_kept at (Ok v) w = itself w
  answers_kept at (Err t) w = refl

  external_kept : (at : ℕ) (e : External) (ts : List Ty) (vs : List ℕ) (w : World) → KeptAfter w (external s at e ts vs w)
  external_kept at Malloc ts vs w = malloc_kept s.fill (word 0 vs) w
  external_kept at Calloc ts vs w = either_after (ltb (word 0 vs * word 1 vs) (2 ^ 64) && fits Heap (word 0 vs * word 1 vs) w) w _ _
      (λ e. (refl, λ b. made_heap site root told s.roots (word 0 vs * word 1 vs) w (and_parts (ltb (word 0 vs * word 1 vs) (2 ^ 64)) (fits Heap (word 0 vs * word 1 vs) w) e).1 b)) (itself w)
  external_kept at Realloc ts vs w = realloc_kept s.fill at (word 0 vs) (word 1 vs) w
  external_kept at Free ts vs w = either_after (eqb (word 0 vs) 0) w _ _ (λ e. itself w) (either_after (is_some (heap_size w (word 0 vs))) w _ _ (λ e. (refl, λ b. ended_back site root told s.roots (word 0 vs) w b)) refl)
  external_kept at Memcpy ts vs w = good_kept at (word 0 vs) (word 2 vs) w _ (good_kept at (word 1 vs) (word 2 vs) w _ (refl, λ b. b))
  external_kept at Memmove ts vs w = good_kept at (word 0 vs) (word 2 vs) w _ (good_kept at (word 1 vs) (word 2 vs) w _ (refl, λ b. b))
  external_kept at Memset ts vs w = good_kept at (word 0 vs) (word 2 vs) w _ (refl, λ b. b)
  external_kept at Memcmp ts vs w = good_kept at (word 0 vs) (word 2 vs) w _ (good_kept at (word 1 vs) (word 2 vs) w _ (itself w))
  external_kept at Strlen ts vs w = string_kept w (string_at w (word 0 vs)) (λ bs. Gives (length bs) w) at (λ bs. itself w)
  external_kept at Putchar ts vs w = printed_kept at (word 0 vs % 256 ∷ []) (word 0 vs % 256) w
  external_kept at Puts ts vs w = string_kept w (string_at w (word 0 vs)) (λ bs. printed at (bs ++ 10 ∷ []) (Gives 1) w) at (λ bs. printed_kept at (bs ++ 10 ∷ []) 1 w)
  external_kept at Getchar ts vs w = next_kept w.input w
  external_kept at Read ts vs w = good_kept at (word 1 vs) (word 2 vs) w _ (either_after (eqb (word 0 vs) 0) w _ _ (λ e. (refl, λ b. b)) (itself w))
  external_kept at Write ts vs w = good_kept at (word 1 vs) (word 2 vs) w _ (either_after (eqb (word 0 vs) 1) w _ _ (λ e. printed_kept at (bytes_at w.bytes (word 1 vs) (word 2 vs)) (word 2 vs) w) (itself w))
  external_kept at Exit ts vs w = refl
  external_kept at Abort ts vs w = refl
  external_kept at LlvmMemcpy ts vs w = good_kept at (word 0 vs) (word 2 vs) w _ (good_kept at (word 1 vs) (word 2 vs) w _ (refl, λ b. b))
  external_kept at LlvmMemmove ts vs w = good_kept at (word 0 vs) (word 2 vs) w _ (good_kept at (word 1 vs) (word 2 vs) w _ (refl, λ b. b))
  external_kept at LlvmMemset ts vs w = good_kept at (word 0 vs) (word 2 vs) w _ (refl, λ b. b)
  external_kept at LifetimeStart ts vs w = good_kept at (word 1 vs) (word 0 vs) w _ (refl, λ b. b)
  external_kept at LifetimeEnd ts vs w = itself w
  external_kept at LlvmTrap ts vs w = refl
  external_kept at LlvmAssume ts vs w = either_after (eqb (word 0 vs) 0) w _ _ (λ e. refl) (itself w)
  external_kept at LlvmObjectSize ts vs w = itself w
  external_kept at PthreadCreate ts vs w = either_after (leb fiber_limit (length w.threads + 1)) w _ _ (λ e. itself w) (good_kept at (word 0 vs) 8 w _ (refl, λ b. b))
  external_kept at PthreadJoin ts vs w =
      either_after (eqb (join_answer w.turn (word 0 vs) w.threads) 0) w _ _
      (λ e. either_after (has_ended (thread_at (word 0 vs) w.threads)) w _ _ (λ f. either_after (eqb (word 1 vs) 0) w _ _ (λ g. (refl, λ b. b)) (good_kept at (word 1 vs) 8 w _ (refl, λ b. b))) refl)
      (itself w)
  external_kept at SchedYield ts vs w = itself w
  external_kept at Printf ts vs w = prints_kept at (formatted w ts vs) w
  external_kept at (Word f n) ts vs w = answers_kept at (word_answer f (bits_of n) (word 0 vs) (word 1 vs) (word 2 vs)) w

  -- ---- shadow and origins after it

  same_pairs : (w u : World) → u.pairs ≡ w.pairs → (id : ℕ) → Back site root s.roots w.pairs id → Back site root s.roots u.pairs id
  same_pairs w u e id b = subst (λ ps. Back site root s.roots ps id) (sym e) b

  poison_grown : (a from to origin : ℕ) (w : World) → ((pairs : List (ℕ × ℕ)) → Back site root s.roots pairs origin) → Grown w (poison a from to origin w)
  poison_grown a from to origin w own = (same_pairs w (poison a from to origin w) (by_test (ltb from to && is_good w ((a + from) % 2 ^ 64) (to - from))), λ b. poisoned site root told s.roots a from to origin w (own w.pairs) b)
    where
      by_test : (t : Bool) → (if t then set_cells ((a + from) % 2 ^ 64) (to - from) origin (set_shadow ((a + from) % 2 ^ 64) (to - from) (λ k. 255) w) else w).pairs ≡ w.pairs
      by_test true = refl
      by_test false = refl

  copy_grown : (to from n : ℕ) (w : World) → Grown w (copy_planes to from n w)
  copy_grown to from n w = (same_pairs w (copy_planes to from n w) (by_test (is_good w to n && is_good w from n)), λ b. planes_copied site root told s.roots to from n w b)
    where
      by_test : (t : Bool) → (if t then copy_shadow to from n w else w).pairs ≡ w.pairs
      by_test true = refl
      by_test false = refl

  unpoison_grown : (a n : ℕ) (w : World) → Grown w (unpoison a n w)
  unpoison_grown a n w = (same_pairs w (unpoison a n w) (by_test (is_good w a n)), λ b. unpoisoned site root told s.roots a n w b)
    where
      by_test : (t : Bool) → (if t then set_shadow a n (λ k. 0) w else w).pairs ≡ w.pairs
      by_test true = refl
      by_test false = refl

  module _ (at own : ℕ) (here : site at) (ps : List Poisoned) where
    -- what a join stores where the word goes that the fiber answered
    result_grown : (a id v : ℕ) (w : World) → AnswersBack w → Grown w (thread_result s a id v at w)
    result_grown a id v w back = by_test (eqb v 0 && not (eqb a 0) && is_good w a 8 && has_ended (thread_at id w.threads)) refl
      where
        by_test : (t : Bool) → (eqb v 0 && not (eqb a 0) && is_good w a 8 && has_ended (thread_at id w.threads)) ≡ t
            → Grown w (if t then store_origin s a (w.answer_masks id) (w.answer_origins id) at (set_shadow a 8 (byte_of (w.answer_masks id)) w) else w)
        by_test true e =
            let good = and_parts (eqb v 0 && not (eqb a 0)) (is_good w a 8) (and_parts (eqb v 0 && not (eqb a 0) && is_good w a 8) (has_ended (thread_at id w.threads)) e).0 in (
              store_grows site root told s a (w.answer_masks id) (w.answer_origins id) at (set_shadow a 8 (byte_of (w.answer_masks id)) w),
              λ b. stored site root told s a 8 (w.answer_masks id) (w.answer_origins id) at w good.1 (omega arith) here (back id) b,
            )
        by_test false e = grown_itself w

    either_grown : (jumps : Type 0) (w : World) (after : ℕ → World → World) (t : Bool) (e x : Effect) → GrownAfter jumps w after e → GrownAfter jumps w after x → GrownAfter jumps w after (if t then e else x)
    either_grown jumps w after true e x h g = h
    either_grown jumps w after false e x h g = g

    join_grown : (jumps : Type 0) (id r : ℕ) (w : World) (a k : ℕ) → AnswersBack w → GrownAfter jumps w (λ v u. thread_result s a k v at u) (join at id r w)
    join_grown jumps id r w a k back =
        let after : ℕ → World → World = λ v u. thread_result s a k v at u in
        either_grown jumps w after (eqb (join_answer w.turn id w.threads) 0) _ (Gives (join_answer w.turn id w.threads) w)
        (either_grown jumps w after (has_ended (thread_at id w.threads)) (joined at id r w) (traps trap.Deadlock at w)
        (either_grown jumps w after (eqb r 0) (Gives 0 (with_joined id w)) _ (result_grown a k 0 (with_joined id w) back)
        (either_grown jumps w after (is_good w r 8) (Gives 0 (store_number r 8 (w.answers id) (with_joined id w))) (traps trap.BadAddress at w)
        (result_grown a k 0 (store_number r 8 (w.answers id) (with_joined id w)) back) refl)) refl)
        (result_grown a k (join_answer w.turn id w.threads) w back)

    external_grown : (e : External) (before : World) (v : ℕ) (w : World) → (makes_unset (Some e) ≡ true → (pairs : List (ℕ × ℕ)) → Back site root s.roots pairs own)
        → WordsBack site root s.roots w.pairs ps → is_join e ≡ false → Grown w (external_planes s at own e ps before v w)
    external_grown Malloc before v w is words plain = poison_grown v 0 (word_at 0 ps).value own w (is refl)
    external_grown Realloc before v w is words plain = poison_grown v (unwrap_or (heap_size before (word_at 0 ps).value) 0) (word_at 1 ps).value own w (is refl)
    external_grown Memcpy before v w is words plain = copy_grown (word_at 0 ps).value (word_at 1 ps).value (word_at 2 ps).value w
    external_grown Memmove before v w is words plain = copy_grown (word_at 0 ps).value (word_at 1 ps).value (word_at 2 ps).value w
    external_grown Memset before v w is words plain = (
      fill_grows site root told s (word_at 0 ps).value (word_at 2 ps).value (word_at 1 ps).mask (word_at 1 ps).origin at w,
      filled site root told s (word_at 0 ps).value (word_at 2 ps).value (word_at 1 ps).mask (word_at 1 ps).origin at w here (words 1),
    )
    external_grown Read before v w is words plain = unpoison_grown (word_at 1 ps).value v w
    external_grown LlvmMemcpy before v w is words plain = copy_grown (word_at 0 ps).value (word_at 1 ps).value (word_at 2 ps).value w
    external_grown LlvmMemmove before v w is words plain = copy_grown (word_at 0 ps).value (word_at 1 ps).value (word_at 2 ps).value w
    external_grown LlvmMemset before v w is words plain = (
      fill_grows site root told s (word_at 0 ps).value (word_at 2 ps).value (word_at 1 ps).mask (word_at 1 ps).origin at w,
      filled site root told s (word_at 0 ps).value (word_at 2 ps).value (word_at 1 ps).mask (word_at 1 ps).origin at w here (words 1),
    )
    external_grown LifetimeStart before v w is words plain = poison_grown (word_at 1 ps).value 0 (word_at 0 ps).value own w (is refl)
    external_grown PthreadCreate before v w is words plain = unpoison_grown (word_at 0 ps).value (if eqb v 0 then 8 else 0) w
    external_grown PthreadJoin before v w is words plain = absurd (true≢false plain)
    external_grown e before v w is words plain = grown_itself w

    -- ---- instructions

    module _ (jumps : Type 0) where
      call_grown : (h : Here) (types : List Ty) (f : Option ℕ) (e : Option External) (w : World) → (makes_unset e ≡ true → (pairs : List (ℕ × ℕ)) → Back site root s.roots pairs own) → WordsBack site root s.roots w.pairs ps → NoThread e ⊎ AnswersBack w
          → GrownAfter jumps w (λ v u. callee_planes s at own e ps w v u) (elim f [ Some g ↦ Enters g w | None ↦ elim e [ Some x ↦ external s at x types (map (λ p. p.value) ps) w | None ↦ Ends stuck w ] ])
      call_grown h types (Some g) e w is words plain = refl
      call_grown h types None None w is words plain = refl
      call_grown h types None (Some PthreadJoin) w is words (inl plain) = absurd (true≢false plain)
      call_grown h types None (Some PthreadJoin) w is words (inr back) =
          join_grown jumps (word 0 (map (λ p. p.value) ps)) (word 1 (map (λ p. p.value) ps)) w (word_at 1 ps).value (word_at 0 ps).value back
      call_grown h types None (Some x) w is words plain =
          then_grown jumps w (λ v u. external_planes s at own x ps w v u) (external s at x types (map (λ p. p.value) ps) w) (external_kept at x types (map (λ p. p.value) ps) w)
          (λ v u e. external_grown x w v u is (subst (λ pairs. WordsBack site root s.roots pairs ps) (sym e) words) refl)

      gives_grown : (r : Result ℕ Trap) (w : World) → GrownAfter jumps w (λ v u. u) (gives at r w)
      gives_grown (Ok v) w = grown_itself w
      gives_grown (Err t) w = refl

      alloca_grown : (n k : ℕ) → k ≡ n → (w : World) → ((pairs : List (ℕ × ℕ)) → Back site root s.roots pairs own) → GrownAfter jumps w (λ v u. poison v 0 n own u) (alloca s at k w)
      alloca_grown n k e w is = subst (λ j. GrownAfter jumps w (λ v u. poison v 0 n own u) (alloca s at j w)) (sym e) (by_test (fits (local_area w) n w) refl)
        where
          by_test : (t : Bool) → fits (local_area w) n w ≡ t → GrownAfter jumps w (λ v u. poison v 0 n own u) (if t then Gives (next_base (local_area w) w) (make_unset s.fill (local_area w) n w) else traps trap.Stack at w)
          by_test true f = ((poison_grown (next_base (local_area w) w) 0 n own (make_unset s.fill (local_area w) n w) is).0, λ b. made_room site root told s.roots s.fill n own w f (is w.pairs) b)
          by_test false f = refl

      load_grown : (t : Bool) (v : ℕ) (w : World) → GrownAfter jumps w (λ v u. u) (if t then Gives v w else traps trap.BadAddress at w)
      load_grown true v w = grown_itself w
      load_grown false v w = refl

      store_grown : (t : Ty) (a k : ℕ) → k ≡ a → (x : ℕ) (w : World) → stored_size t ≤ 8 → WordsBack site root s.roots w.pairs ps
          → GrownAfter jumps w (λ v u. store_origin s a (word_at 0 ps).mask (word_at 0 ps).origin at (set_shadow a (stored_size t) (byte_of (word_at 0 ps).mask) u)) (store at k t x w)
      store_grown t a k e x w few words =
          subst (λ j. GrownAfter jumps w (λ v u. store_origin s a (word_at 0 ps).mask (word_at 0 ps).origin at (set_shadow a (stored_size t) (byte_of (word_at 0 ps).mask) u)) (store at j t x w)) (sym e) (by_test (is_good w a (stored_size t)) refl)
        where
          by_test : (g : Bool) → is_good w a (stored_size t) ≡ g
              → GrownAfter jumps w (λ v u. store_origin s a (word_at 0 ps).mask (word_at 0 ps).origin at (set_shadow a (stored_size t) (byte_of (word_at 0 ps).mask) u)) (if g then Does (store_number a (stored_size t) x w) else traps trap.BadAddress at w)
          by_test true f = (
            store_grows site root told s a (word_at 0 ps).mask (word_at 0 ps).origin at (set_shadow a (stored_size t) (byte_of (word_at 0 ps).mask) (store_number a (stored_size t) x w)),
            λ b. stored site root told s a (stored_size t) (word_at 0 ps).mask (word_at 0 ps).origin at (store_number a (stored_size t) x w) f few here (words 0) b,
          )
          by_test false f = refl

      returns_grown : (t : Bool) (x y : Effect) (w : World) (after : ℕ → World → World) → GrownAfter jumps w after x → GrownAfter jumps w after y → GrownAfter jumps w after (if t then x else y)
      returns_grown true x y w after h g = h
      returns_grown false x y w after h g = g

    some_name : (x : Name) (xs : List Name) → (x ∷ xs) ≡ [] → ⊥
    some_name x xs e = grind arith

    -- an instruction, with its shadow
    pub op_grown : (h : Here) → (o : Op) → SmallStore o → (is_root s.func o ≡ true → (pairs : List (ℕ × ℕ)) → Back site root s.roots pairs own) → (w : World) → WordsBack site root s.roots w.pairs ps → Quiet s.func o w
        → GrownAfter (¬ (targets o ≡ [])) w (λ v u. planes s at own o ps w v u) (act s (record h { site = at }) o (map (λ p. p.value) ps) w)
    op_grown h (op.Binary o f t a b) small is w words plain = gives_grown (¬ (targets (op.Binary o f t a b) ≡ [])) _ w
    op_grown h (op.Icmp p f t a b) small is w words plain = gives_grown (¬ (targets (op.Icmp p f t a b) ≡ [])) _ w
    op_grown h (op.Cast o f t a u) small is w words plain = gives_grown (¬ (targets (op.Cast o f t a u) ≡ [])) _ w
    op_grown h (op.Select c t a b) small is w words plain = grown_itself w
    op_grown h (op.Freeze t a) small is w words plain = grown_itself w
    op_grown h (op.Phi t edges) small is w words plain = refl
    op_grown h (op.Alloca t u c) small is w words plain = alloca_grown (¬ (targets (op.Alloca t u c) ≡ [])) (size_in s.types t * (word_at 0 ps).value) (size_in s.types t * word 0 (map (λ p. p.value) ps)) (ap (λ k. size_in s.types t * k) (word_number 0 ps)) w (is refl)
    op_grown h (op.Load t a) small is w words plain = load_grown (¬ (targets (op.Load t a) ≡ [])) (is_good w (word 0 (map (λ p. p.value) ps)) (stored_size t)) _ w
    op_grown h (op.Store t v a) small is w words plain = store_grown (¬ (targets (op.Store t v a) ≡ [])) t (word_at 1 ps).value (word 1 (map (λ p. p.value) ps)) (word_number 1 ps) (word 0 (map (λ p. p.value) ps)) w small words
    op_grown h (op.Gep t a ix) small is w words plain = grown_itself w
    op_grown h (op.Call r x args) small is w words plain = call_grown (¬ (targets (op.Call r x args) ≡ [])) h (map (λ a. a.0) args) (s.func x) (external_named s.func x) w is words plain
    op_grown h (op.Br to) small is w words plain = (refl, λ e. some_name to [] e)
    op_grown h (op.CondBr c to other) small is w words plain = (refl, λ e. some_name to (other ∷ []) e)
    op_grown h (op.Switch t v other cases) small is w words plain = (refl, λ e. some_name other (map (λ c. c.1) cases) e)
    op_grown h (op.Ret v) small is w words plain = returns_grown (¬ (targets (op.Ret v) ≡ [])) h.main _ _ w (λ v u. u) refl refl
    op_grown h op.Unreachable small is w words plain = refl
