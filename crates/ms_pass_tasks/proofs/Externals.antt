-- What stands after a call of an external: its operands still hold their words, where none is the call's result.
use Rattle.std.proofs.Common.{◌≡◌, ◌≢◌, ℕ, zero, suc, ◌+◌, ◌%◌, ◌^◌, ◌<◌, ◌≤◌, List, [], ◌∷◌, refl, sym, ap, ◌∙◌, subst, arith, Bool, true, false, Option, Some, None, Result, Ok, Err}
use Rattle.std.specs.Prelude.{◌*◌, ◌/◌, ◌++◌, ◌&&◌, ◌||◌, not, max, if◌then◌else◌, map, take, length, get_or, eqb, leb, ltb, option_map, unwrap_or}
use Rattle.std.proofs.Math.Path.{ap₂}
use Rattle.std.proofs.Math.Nat.{mod-eq_of_lt}
use Rattle.std.proofs.Math.Pow.{pow_mono}
use Rattle.ms_ir.specs.declared.syntax.Name.{Name}
use Rattle.ms_ir.specs.declared.syntax.Ty.{Ty, Int}
use Rattle.ms_ir.specs.declared.syntax.Operand.{Operand}
use Rattle.ms_ir.specs.declared.syntax.Operand.TheVariants as operand
use Rattle.ms_ir.specs.declared.calls.External.{External}
use Rattle.ms_ir.specs.declared.calls.External.TheVariants.{Malloc, Calloc, Realloc, Memcpy, Memmove, Memset, Memcmp, Strlen, Putchar, Puts, Getchar, Read, Write, LlvmMemcpy, LlvmMemmove, LlvmMemset, LifetimeStart, Printf, LlvmObjectSize, PthreadCreate, PthreadJoin, SchedYield, Word}
use Rattle.ms_bits.specs.WordFunctions.{bits_of, word_answer}
use Rattle.ms_bits.specs.declared.traps.Trap.{Trap}
use Rattle.ms_bits.specs.declared.traps.Trap.TheVariants as trap
use Rattle.ms_bits.specs.Maps.{bytes_at, byte_of}
use Rattle.ms_runs.specs.Externals.{minus_one, malloc, reallocated, where_good, string_at, printed, taken, next_byte, external, output_limit, formatted, prints, joined}
use Rattle.ms_ir.specs.Layout.{width_of}
use Rattle.ms_runs.specs.World.{Allocation, Thread, World, Setting, Here, Effect, Gives, traps, word, result, gives}
use Rattle.ms_ir.specs.Areas.{Heap}
use Rattle.ms_runs.specs.Memory.{heap_size, fits, used, next_base, is_good, first_that, is_heap_block, set_shadow, set_cells, copy_shadow}
use Rattle.ms_runs.specs.Origins.{chain, poison, unpoison, copy_planes, fill_planes, store_origin, thread_result}
use Rattle.ms_ir.specs.Instructions.{one_undef, count_undefs, makes_unset}
use Rattle.ms_runs.specs.Control.{read_all, with_value}
use Rattle.ms_runs.specs.Act.{operand_word}
use Rattle.ms_runs.specs.Poisoned.{Poisoned}
use Rattle.ms_runs.specs.Masks.{word_at}
use Rattle.ms_runs.specs.Shadow.{read_poisoned, external_planes}
use Rattle.ms_runs.specs.Threads.{fiber_limit, thread_at, has_ended, join_of, join_answer}
use Rattle.ms_pass_tasks.specs.Tasks.{msan_name, Task}
use Rattle.ms_pass_tasks.specs.Meaning.{Went, do_tasks, evaluate}
use Rattle.ms_pass_tasks.specs.Environments.{Env, Tracked, tracked, tracked_at, mask_of, widened}
use Rattle.ms_pass_tasks.specs.Known.{Apart, KnownOperands, external_widths, is_void, HasResult, AllApart}
use Rattle.ms_pass_tasks.specs.PlaneTasks.{external_tasks, copy_task, fill_task}
use Rattle.ms_pass_tasks.specs.Match.{Matches, RangedValues, ArePlaced, SavedSize}
use Rattle.ms_pass_tasks.specs.InstructionLaw.{after_result, GoesOn}
use Rattle.ms_pass_tasks.proofs.InsertedNames.{with_other}
use Rattle.ms_pass_tasks.proofs.OperandWords.{ap₃, word_less, Holds, tracked_holds}
use Rattle.ms_pass_tasks.proofs.CheckTasks.{widened_word, whole}
use Rattle.ms_pass_tasks.proofs.PlaneTasks.{Alike, poison_alike, chain_alike, origin_alike}
use Rattle.ms_pass_tasks.proofs.WordExprs.{made_bytes}

word_apart : (s : Setting) (values : Name → Poisoned) (x : Name) (p : Poisoned) (root : ℕ) (t : Ty) (o : Operand) → Apart x o
    → read_poisoned s (with_value values x p) root t o ≡ read_poisoned s values root t o
word_apart s values x p root t (operand.Local y) apart = λ i. record {
  value = (ap (λ q. q.value % 2 ^ width_of t) (with_other values x y p apart)) i;
  mask = (ap (λ q. q.mask % 2 ^ width_of t) (with_other values x y p apart)) i;
  origin = (ap (λ q. q.origin) (with_other values x y p apart)) i;
}
word_apart s values x p root t _ apart = refl

pub words_apart : (s : Setting) (values : Name → Poisoned) (r : Option Name) (p : Poisoned) (os : List (Ty × Operand)) (root : ℕ) → AllApart r os
    → read_all (read_poisoned s (after_result values r p)) os root ≡ read_all (read_poisoned s values) os root
words_apart s values None p os root a = refl
words_apart s values (Some x) p [] root a = refl
words_apart s values (Some x) p (o ∷ os) root a =
    ap₂ (λ q qs. q ∷ qs) (word_apart s values x p root o.0 o.1 a.0) (words_apart s values (Some x) p os (root + one_undef o.1) a.1)

-- ---- what an external comes to

absurd_if : (b : Bool) (e f : Effect) → (GoesOn e → ⊥) → (GoesOn f → ⊥) → GoesOn (if b then e else f) → ⊥
absurd_if true e f p q g = p g
absurd_if false e f p q g = q g

absurd_malloc : (fill : List ℕ) (n : ℕ) (w : World) → GoesOn (malloc fill n w) → ⊥
absurd_malloc fill n w = absurd_if (fits Heap n w) (Gives _ _) (Gives 0 w) (λ g. g) (λ g. g)

absurd_reallocated : (fill : List ℕ) (site p n : ℕ) (w : World) (o : Option ℕ) → GoesOn (elim o [ Some old ↦ reallocated fill p old n w | None ↦ traps trap.BadFree site w ]) → ⊥
absurd_reallocated fill site p n w None g = g
absurd_reallocated fill site p n w (Some old) g = absurd_if (fits Heap n w) (Gives _ _) (Gives 0 w) (λ g. g) (λ g. g) g

absurd_printed : (site : ℕ) (bs : List ℕ) (k : ℕ) (w : World) → GoesOn (printed site bs (Gives k) w) → ⊥
absurd_printed site bs k w = absurd_if (leb (length w.output + length bs) output_limit) (Gives k _) (traps trap.Output site w) (λ g. g) (λ g. g)

absurd_text : (site : ℕ) (o : Option (List ℕ)) (f : List ℕ → Effect) (w : World) → ((bs : List ℕ) → GoesOn (f bs) → ⊥) → GoesOn (elim o [ Some bs ↦ f bs | None ↦ traps trap.BadAddress site w ]) → ⊥
absurd_text site None f w h g = g
absurd_text site (Some bs) f w h g = h bs g

absurd_byte : (bs : List ℕ) (w : World) → GoesOn (next_byte bs w) → ⊥
absurd_byte [] w g = g
absurd_byte (b ∷ bs) w g = g

absurd_good : (site a n : ℕ) (w : World) (e : Effect) → (GoesOn e → ⊥) → GoesOn (where_good site a n w e) → ⊥
absurd_good site a n w e p = absurd_if (is_good w a n) e (traps trap.BadAddress site w) p (λ g. g)

absurd_prints : (site : ℕ) (r : Result (List ℕ) Trap) (w : World) → GoesOn (prints site r w) → ⊥
absurd_prints site (Ok bs) w g = absurd_printed site bs (length bs) w g
absurd_prints site (Err t) w g = g

absurd_gives : (site : ℕ) (r : Result ℕ Trap) (w : World) → GoesOn (gives site r w) → ⊥
absurd_gives site (Ok v) w g = g
absurd_gives site (Err t) w g = g

-- an external that answers something goes on with nothing else
pub external_goes : (s : Setting) (site : ℕ) (e : External) (types : List Ty) (words : List ℕ) (w : World) → is_void e ≡ false → GoesOn (external s site e types words w) → ⊥
external_goes s site Malloc types words w v g = absurd_malloc s.fill (word 0 words) w g
external_goes s site Calloc types words w v g =
    absurd_if (ltb (word 0 words * word 1 words) (2 ^ 64) && fits Heap (word 0 words * word 1 words) w) (Gives _ _) (Gives 0 w) (λ g. g) (λ g. g) g
external_goes s site Realloc types words w v g =
    absurd_if (eqb (word 0 words) 0) (malloc s.fill (word 1 words) w) _ (absurd_malloc s.fill (word 1 words) w) (absurd_reallocated s.fill site (word 0 words) (word 1 words) w (heap_size w (word 0 words))) g
external_goes s site Memcpy types words w v g = absurd_good site (word 0 words) (word 2 words) w _ (absurd_good site (word 1 words) (word 2 words) w (Gives _ _) (λ g. g)) g
external_goes s site Memmove types words w v g = absurd_good site (word 0 words) (word 2 words) w _ (absurd_good site (word 1 words) (word 2 words) w (Gives _ _) (λ g. g)) g
external_goes s site Memset types words w v g = absurd_good site (word 0 words) (word 2 words) w (Gives _ _) (λ g. g) g
external_goes s site Memcmp types words w v g = absurd_good site (word 0 words) (word 2 words) w _ (absurd_good site (word 1 words) (word 2 words) w (Gives _ _) (λ g. g)) g
external_goes s site Strlen types words w v g = absurd_text site (string_at w (word 0 words)) (λ bs. Gives (length bs) w) w (λ bs g. g) g
external_goes s site Putchar types words w v g = absurd_printed site (word 0 words % 256 ∷ []) (word 0 words % 256) w g
external_goes s site Puts types words w v g = absurd_text site (string_at w (word 0 words)) (λ bs. printed site (bs ++ 10 ∷ []) (Gives 1) w) w (λ bs. absurd_printed site (bs ++ 10 ∷ []) 1 w) g
external_goes s site Getchar types words w v g = absurd_byte w.input w g
external_goes s site Read types words w v g =
    absurd_good site (word 1 words) (word 2 words) w _ (absurd_if (eqb (word 0 words) 0) (taken (word 1 words) (word 2 words) w) (Gives _ w) (λ g. g) (λ g. g)) g
external_goes s site Write types words w v g =
    absurd_good site (word 1 words) (word 2 words) w _
    (absurd_if (eqb (word 0 words) 1) (printed site (bytes_at w.bytes (word 1 words) (word 2 words)) (Gives (word 2 words)) w) (Gives _ w) (absurd_printed site _ _ w) (λ g. g)) g
external_goes s site Printf types words w v g = absurd_prints site (formatted w types words) w g
external_goes s site (Word f n) types words w v g = absurd_gives site (word_answer f (bits_of n) (word 0 words) (word 1 words) (word 2 words)) w g
external_goes s site LlvmObjectSize types words w v g = g
external_goes s site PthreadCreate types words w v g =
    absurd_if (leb fiber_limit (length w.threads + 1)) (Gives 11 w) _ (λ h. h) (absurd_good site (word 0 words) 8 w (Gives _ _) (λ h. h)) g
external_goes s site PthreadJoin types words w v g =
    absurd_if (eqb (join_answer w.turn (word 0 words) w.threads) 0) _ (Gives _ w)
    (absurd_if (has_ended (thread_at (word 0 words) w.threads)) (joined site (word 0 words) (word 1 words) w) (traps trap.Deadlock site w)
    (absurd_if (eqb (word 1 words) 0) (Gives 0 _) _ (λ h. h) (absurd_good site (word 1 words) 8 w (Gives 0 _) (λ h. h))) (λ h. h))
    (λ h. h) g
external_goes s site SchedYield types words w v g = g
external_goes s site _ types words w v g = absurd (grind arith)

-- what makes an answer fit its bits, where it is looked at afterwards
abbrev pub IsSmall : External → ℕ → Type 0
IsSmall Malloc v = v < 2 ^ 64
IsSmall Realloc v = v < 2 ^ 64
IsSmall Read v = v < 2 ^ 64
IsSmall PthreadCreate v = v < 2 ^ 32
IsSmall PthreadJoin v = v < 2 ^ 32
IsSmall _ v = Unit {0}

-- what is given is a number of 64 bits
abbrev GivesLess : Effect → Type 0
GivesLess (Gives v w) = v < 2 ^ 64
GivesLess _ = Unit {0}

heap_less : (n : ℕ) (w : World) (b : Bool) → fits Heap n w ≡ b → (u z : World) → GivesLess (if b then Gives (next_base Heap w) u else Gives 0 z)
heap_less n w true e u z = let all : used Heap w.allocs + (max n 1 + 15) / 16 * 16 ≤ 2 ^ 26 = grind arith in omega (arith, all)
heap_less n w false e u z = omega arith

less_if : (b : Bool) (e f : Effect) → GivesLess e → GivesLess f → GivesLess (if b then e else f)
less_if true e f p q = p
less_if false e f p q = q

less_reallocated : (fill : List ℕ) (site p n : ℕ) (w : World) (o : Option ℕ) → GivesLess (elim o [ Some old ↦ reallocated fill p old n w | None ↦ traps trap.BadFree site w ])
less_reallocated fill site p n w None = tt
less_reallocated fill site p n w (Some old) = heap_less n w (fits Heap n w) refl _ _

take_less : (n : ℕ) (l : List ℕ) → length (take n l) ≤ n
take_less zero l = omega arith
take_less (suc n) [] = omega arith
take_less (suc n) (x ∷ l) = let r = take_less n l in omega (arith, r)

-- what is given is a number of 32 bits
abbrev GivesShort : Effect → Type 0
GivesShort (Gives v w) = v < 2 ^ 32
GivesShort _ = Unit {0}

short_if : (b : Bool) (e f : Effect) → GivesShort e → GivesShort f → GivesShort (if b then e else f)
short_if true e f p q = p
short_if false e f p q = q

short_good : (site a n v : ℕ) (w u : World) → v < 2 ^ 32 → GivesShort (where_good site a n w (Gives v u))
short_good site a n v w u l = short_if (is_good w a n) (Gives v u) (traps trap.BadAddress site w) l tt

join_short : (own id : ℕ) (threads : List Thread) → join_answer own id threads < 2 ^ 32
join_short own id threads = by_test (eqb id own) (thread_at id threads)
  where
    by_joined : (t : Bool) → (if t then 3 else 0) < 2 ^ 32
    by_joined true = omega arith
    by_joined false = omega arith

    by_test : (t : Bool) (o : Option Thread) → (if t then 35 else join_of o) < 2 ^ 32
    by_test true o = omega arith
    by_test false None = omega arith
    by_test false (Some t) = by_joined t.joined

pub answers_less : (s : Setting) (site : ℕ) (e : External) (types : List Ty) (words : List ℕ) (w : World) → word 2 words < 2 ^ 64 → (v : ℕ) (u : World) → external s site e types words w ≡ Gives v u → IsSmall e v
answers_less s site Malloc types words w l v u h = subst GivesLess h (heap_less (word 0 words) w (fits Heap (word 0 words) w) refl _ _)
answers_less s site Realloc types words w l v u h =
    subst GivesLess h (less_if (eqb (word 0 words) 0) (malloc s.fill (word 1 words) w) _ (heap_less (word 1 words) w (fits Heap (word 1 words) w) refl _ _)
    (less_reallocated s.fill site (word 0 words) (word 1 words) w (heap_size w (word 0 words))))
answers_less s site Read types words w l v u h =
    subst GivesLess h (less_if (is_good w (word 1 words) (word 2 words)) _ (traps trap.BadAddress site w)
    (less_if (eqb (word 0 words) 0) (taken (word 1 words) (word 2 words) w) (Gives (minus_one 64) w)
    (let r = take_less (word 2 words) w.input in omega (arith, r, l)) (omega arith)) tt)
answers_less s site PthreadCreate types words w l v u h =
    subst GivesShort h (short_if (leb fiber_limit (length w.threads + 1)) (Gives 11 w) _ (omega arith) (short_good site (word 0 words) 8 0 w _ (omega arith)))
answers_less s site PthreadJoin types words w l v u h =
    subst GivesShort h (short_if (eqb (join_answer w.turn (word 0 words) w.threads) 0) _ (Gives _ w)
    (short_if (has_ended (thread_at (word 0 words) w.threads)) (joined site (word 0 words) (word 1 words) w) (traps trap.Deadlock site w)
    (short_if (eqb (word 1 words) 0) (Gives 0 _) _ (omega arith) (short_good site (word 1 words) 8 0 w _ (omega arith))) tt)
    (join_short w.turn (word 0 words) w.threads))
answers_less s site _ types words w l v u h = tt

-- the size of a block of a ranged world
pub block_less : (allocs : List Allocation) (p : ℕ) → ArePlaced allocs → unwrap_or (option_map (λ a. a.size) (first_that (is_heap_block p) allocs)) 0 < 2 ^ 64
block_less [] p r = omega arith
block_less (a ∷ rest) p r = by_test (is_heap_block p a) (block_less rest p r.1)
  where
    by_test : (b : Bool) → unwrap_or (option_map (λ a. a.size) (first_that (is_heap_block p) rest)) 0 < 2 ^ 64
        → unwrap_or (option_map (λ a. a.size) (if b then Some a else first_that (is_heap_block p) rest)) 0 < 2 ^ 64
    by_test true h = let q = r.0.to in omega (arith, q)
    by_test false h = h

-- ---- what doesn't show

copy_alike : (to from n : ℕ) (w : World) → Alike w (copy_planes to from n w)
copy_alike to from n w e = by_good (is_good w to n && is_good w from n)
  where
    by_good : (b : Bool) → result e w ≡ result e (if b then copy_shadow to from n w else w)
    by_good true = refl
    by_good false = refl

unpoison_alike : (a n : ℕ) (w : World) → Alike w (unpoison a n w)
unpoison_alike a n w e = by_good (is_good w a n)
  where
    by_good : (b : Bool) → result e w ≡ result e (if b then set_shadow a n (λ k. 0) w else w)
    by_good true = refl
    by_good false = refl

fill_alike : (s : Setting) (a n mask o site : ℕ) (w : World) → Alike w (fill_planes s a n mask o site w)
fill_alike s a n mask o site w e = by_good (is_good w a n) (eqb (mask % 256) 0 || eqb n 0)
  where
    by_good : (b c : Bool) → result e w ≡ result e (if not b then w else (if c then set_shadow a n (λ k. 0) w else (let z = chain s o site w in set_cells a n z.id (set_shadow a n (λ k. mask % 256) z.world))))
    by_good true true = refl
    by_good true false = chain_alike s o site w e
    by_good false c = refl

thread_alike : (s : Setting) (a id v site : ℕ) (w : World) → Alike w (thread_result s a id v site w)
thread_alike s a id v site w e = by_answer (eqb v 0 && not (eqb a 0) && is_good w a 8 && has_ended (thread_at id w.threads))
  where
    by_answer : (b : Bool) → result e w ≡ result e (if b then store_origin s a (w.answer_masks id) (w.answer_origins id) site (set_shadow a 8 (byte_of (w.answer_masks id)) w) else w)
    by_answer true = origin_alike s a (w.answer_masks id) (w.answer_origins id) site (set_shadow a 8 (byte_of (w.answer_masks id)) w) e
    by_answer false = refl

pub planes_alike : (s : Setting) (site root : ℕ) (x : External) (ps : List Poisoned) (before : World) (v : ℕ) (w : World) → Alike w (external_planes s site root x ps before v w)
planes_alike s site root Malloc ps before v w e = poison_alike v 0 (word_at 0 ps).value root w e
planes_alike s site root Realloc ps before v w e = poison_alike v (unwrap_or (heap_size before (word_at 0 ps).value) 0) (word_at 1 ps).value root w e
planes_alike s site root Memcpy ps before v w e = copy_alike (word_at 0 ps).value (word_at 1 ps).value (word_at 2 ps).value w e
planes_alike s site root Memmove ps before v w e = copy_alike (word_at 0 ps).value (word_at 1 ps).value (word_at 2 ps).value w e
planes_alike s site root LlvmMemcpy ps before v w e = copy_alike (word_at 0 ps).value (word_at 1 ps).value (word_at 2 ps).value w e
planes_alike s site root LlvmMemmove ps before v w e = copy_alike (word_at 0 ps).value (word_at 1 ps).value (word_at 2 ps).value w e
planes_alike s site root Memset ps before v w e = fill_alike s (word_at 0 ps).value (word_at 2 ps).value (word_at 1 ps).mask (word_at 1 ps).origin site w e
planes_alike s site root LlvmMemset ps before v w e = fill_alike s (word_at 0 ps).value (word_at 2 ps).value (word_at 1 ps).mask (word_at 1 ps).origin site w e
planes_alike s site root Read ps before v w e = unpoison_alike (word_at 1 ps).value v w e
planes_alike s site root LifetimeStart ps before v w e = poison_alike (word_at 1 ps).value 0 (word_at 0 ps).value root w e
planes_alike s site root PthreadCreate ps before v w e = unpoison_alike (word_at 0 ps).value (if eqb v 0 then 8 else 0) w e
planes_alike s site root PthreadJoin ps before v w e = thread_alike s (word_at 1 ps).value (word_at 0 ps).value v site w e
planes_alike s site root _ ps before v w e = refl

-- ---- the tasks

fill_origin : (s : Setting) (a n mask o p site : ℕ) (w : World) → (mask ≢ 0 → o ≡ p) → fill_planes s a n mask o site w ≡ fill_planes s a n mask p site w
fill_origin s a n zero o p site w e = refl
fill_origin s a n (suc k) o p site w e = ap (λ x. fill_planes s a n (suc k) x site w) (e (λ z. grind arith))

module _ (s : Setting) (at : Here) (site root saved : ℕ) (ls : site < 2 ^ 32) (v : ℕ) (names : Name → ℕ) (cells : ℕ → ℕ) (ts : List Tracked) (ps : List Poisoned)
    (holds : (k : ℕ) → Holds s names (tracked_at k ts) (word_at k ps)) where
  -- tasks leave the words, and lead from one world to another
  abbrev Sets : List Task → World → World → Type 0
  Sets l w z = do_tasks s at l (record { names = names; slots = cells }) w ≡ Went (record { names = names; slots = cells }) z

  address : (k : ℕ) → width_of (tracked_at k ts).ty ≡ 64 → operand_word s names 64 (tracked_at k ts).operand ≡ (word_at k ps).value
  address k e = ap (λ w. operand_word s names w (tracked_at k ts).operand) (sym e) ∙ (holds k).value

  copied_done : width_of (tracked_at 0 ts).ty ≡ 64 → width_of (tracked_at 1 ts).ty ≡ 64 → width_of (tracked_at 2 ts).ty ≡ 64 → (w : World)
      → Sets (copy_task (tracked_at 0 ts) (tracked_at 1 ts) (tracked_at 2 ts)) w (copy_planes (word_at 0 ps).value (word_at 1 ps).value (word_at 2 ps).value w)
  copied_done a b c w = ap (λ z. Went (record { names = names; slots = cells }) z) (ap₃ (λ i j l. copy_planes i j l w) (address 0 a) (address 1 b) (address 2 c))

  filled_done : width_of (tracked_at 0 ts).ty ≡ 64 → width_of (tracked_at 1 ts).ty ≤ 64 → width_of (tracked_at 2 ts).ty ≡ 64 → (w : World)
      → Sets (fill_task site (tracked_at 0 ts) (tracked_at 1 ts) (tracked_at 2 ts)) w (fill_planes s (word_at 0 ps).value (word_at 2 ps).value (word_at 1 ps).mask (word_at 1 ps).origin site w)
  filled_done a b d w =
      let c = tracked_at 1 ts in
      let mask : evaluate s names (widened (width_of c.ty) (mask_of c)) (Int 64) ≡ (word_at 1 ps).mask =
      widened_word s names (width_of c.ty) c.mask ∙ whole (width_of c.ty) _ b (word_less s names (width_of c.ty) c.mask) ∙ (holds 1).mask in
      ap (λ z. Went (record { names = names; slots = cells }) z)
      (ap₃ (λ i j l. fill_planes s i j l (operand_word s names 32 c.origin) (site % 2 ^ 32) w) (address 0 a) (address 2 d) mask
      ∙ ap (λ i. fill_planes s (word_at 0 ps).value (word_at 2 ps).value (word_at 1 ps).mask (operand_word s names 32 c.origin) i w) (mod-eq_of_lt ls)
      ∙ fill_origin s (word_at 0 ps).value (word_at 2 ps).value (word_at 1 ps).mask (operand_word s names 32 c.origin) (word_at 1 ps).origin site w (holds 1).origin)

  -- the planes of an external are set as in the shadow run
  pub external_done : (r : Option Name) (e : External) → (makes_unset (Some e) ≡ true → root < 2 ^ 32) → (types : List Ty) → ((k : ℕ) → width_of (tracked_at k ts).ty ≡ get_or (external_widths e types) k 64) → HasResult e r
      → ((x : Name) → r ≡ Some x → names x ≡ v) → IsSmall e v
      → (before w : World) → SavedSize (Some e) saved ps before names → unwrap_or (heap_size before (word_at 0 ps).value) 0 < 2 ^ 64
      → Sets (external_tasks site root saved r e ts) w (external_planes s site root e ps before v w)
  external_done (Some x) Malloc lr types k hr rs small before w old less =
      ap (λ z. Went (record { names = names; slots = cells }) z) (ap₃ (λ i j l. poison i 0 j l w) (ap (λ n. n % 2 ^ 64) (rs x refl) ∙ mod-eq_of_lt small) (address 0 (k 0)) (mod-eq_of_lt (lr refl)))
  external_done (Some x) Realloc lr types k hr rs small before w old less =
      ap (λ z. Went (record { names = names; slots = cells }) z)
      (ap₃ (λ i j l. poison i (names (msan_name saved) % 2 ^ 64) j l w) (ap (λ n. n % 2 ^ 64) (rs x refl) ∙ mod-eq_of_lt small) (address 1 (k 1)) (mod-eq_of_lt (lr refl))
      ∙ ap (λ i. poison v i (word_at 1 ps).value root w) (ap (λ n. n % 2 ^ 64) old ∙ mod-eq_of_lt less))
  external_done (Some x) Read lr types k hr rs small before w old less =
      ap (λ z. Went (record { names = names; slots = cells }) z) (ap₂ (λ i j. unpoison i j w) (address 1 (k 1)) (ap (λ n. n % 2 ^ 64) (rs x refl) ∙ mod-eq_of_lt small))
  external_done (Some x) PthreadCreate lr types k hr rs small before w old less =
      ap (λ z. Went (record { names = names; slots = cells }) z) (ap₂ (λ i j. unpoison i j w) (address 0 (k 0)) (made_bytes s names x v (rs x refl) small))
  external_done (Some x) PthreadJoin lr types k hr rs small before w old less =
      ap (λ z. Went (record { names = names; slots = cells }) z)
      (ap₃ (λ i j l. thread_result s i j l (site % 2 ^ 32) w) (address 1 (k 1)) (address 0 (k 0)) (ap (λ n. n % 2 ^ 32) (rs x refl) ∙ mod-eq_of_lt small)
      ∙ ap (λ i. thread_result s (word_at 1 ps).value (word_at 0 ps).value v i w) (mod-eq_of_lt ls))
  external_done None Malloc lr types k hr rs small before w old less = absurd (grind arith)
  external_done None Realloc lr types k hr rs small before w old less = absurd (grind arith)
  external_done None Read lr types k hr rs small before w old less = absurd (grind arith)
  external_done None PthreadCreate lr types k hr rs small before w old less = absurd (grind arith)
  external_done None PthreadJoin lr types k hr rs small before w old less = absurd (grind arith)
  external_done r LifetimeStart lr types k hr rs small before w old less =
      ap (λ z. Went (record { names = names; slots = cells }) z) (ap₃ (λ i j l. poison i 0 j l w) (address 1 (k 1)) (address 0 (k 0)) (mod-eq_of_lt (lr refl)))
  external_done r Memcpy lr types k hr rs small before w old less = copied_done (k 0) (k 1) (k 2) w
  external_done r Memmove lr types k hr rs small before w old less = copied_done (k 0) (k 1) (k 2) w
  external_done r LlvmMemcpy lr types k hr rs small before w old less = copied_done (k 0) (k 1) (k 2) w
  external_done r LlvmMemmove lr types k hr rs small before w old less = copied_done (k 0) (k 1) (k 2) w
  external_done r Memset lr types k hr rs small before w old less = filled_done (k 0) (let q = k 1 in omega (arith, q)) (k 2) w
  external_done r LlvmMemset lr types k hr rs small before w old less = filled_done (k 0) (let q = k 1 in omega (arith, q)) (k 2) w
  external_done r _ lr types k hr rs small before w old less = refl

-- what stands for operands after a call, where none is the result
pub holds_after : (s : Setting) (env : Env) (size : ℕ) (values : Name → Poisoned) (r : Option Name) (p : Poisoned) (names : Name → ℕ) → Matches env (after_result values r p) names → RangedValues (after_result values r p)
    → (os : List (Ty × Operand)) (root : ℕ) → AllApart r os → KnownOperands env size os → root + count_undefs os < 2 ^ 32
    → (k : ℕ) → Holds s names (tracked_at k (tracked env root os)) (word_at k (read_all (read_poisoned s values) os root))
holds_after s env size values r p names m rv os root a known few k =
    subst (λ l. Holds s names (tracked_at k (tracked env root os)) (word_at k l)) (words_apart s values r p os root a)
    (tracked_holds s env size (after_result values r p) names m rv os root known few k)

-- ---- the operands of a call

pub width_at : (env : Env) (root : ℕ) (os : List (Ty × Operand)) (k : ℕ) → width_of (tracked_at k (tracked env root os)).ty ≡ get_or (map (λ a. width_of a.0) os) k 64
width_at env root [] k = refl
width_at env root (o ∷ os) zero = refl
width_at env root (o ∷ os) (suc k) = width_at env (root + one_undef o.1) os k

pub value_less : (s : Setting) (env : Env) (size : ℕ) (values : Name → Poisoned) (os : List (Ty × Operand)) (root : ℕ) → KnownOperands env size os → (k : ℕ)
    → word k (map (λ p. p.value) (read_all (read_poisoned s values) os root)) < 2 ^ 64
value_less s env size values [] root known k = omega arith
value_less s env size values (o ∷ os) root known zero =
    let l = word_less s (λ x. (values x).value) (width_of o.0) o.1 in
    let m : 2 ^ width_of o.0 ≤ 2 ^ 64 = pow_mono known.0 in
    omega (arith, l, m)
value_less s env size values (o ∷ os) root known (suc k) = value_less s env size values os (root + one_undef o.1) known.2 k
