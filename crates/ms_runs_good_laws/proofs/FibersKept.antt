-- No external but the thread calls, and no runtime function, changes what a world has of fibers.
use Rattle.std.proofs.Common.{◌≡◌, ℕ, zero, suc, ◌+◌, ◌-◌, ◌*◌, ◌/◌, ◌%◌, ◌^◌, List, [], ◌∷◌, ◌++◌, length, Bool, true, false, not, ◌&&◌, ◌||◌, eqb, leb, ltb, Option, Some, None, is_some, Result, Ok, Err, refl, ◌∙◌, true≢false, if◌then◌else◌, bit_xor}
use Rattle.ms_bits.specs.declared.traps.Trap.{Trap}
use Rattle.ms_bits.specs.Maps.{bytes_at, first_nonzero, with_cell, byte_of}
use Rattle.ms_bits.specs.WordFunctions.{bits_of, word_answer}
use Rattle.ms_bits.specs.Arithmetic.{binary_of}
use Rattle.ms_bits.specs.Conversions.{compare_of, cast_of}
use Rattle.ms_ir.specs.declared.syntax.Ty.{Ty}
use Rattle.ms_ir.specs.declared.syntax.Op.{Op}
use Rattle.ms_ir.specs.declared.syntax.Op.TheVariants as op
use Rattle.ms_ir.specs.declared.calls.External.{External}
use Rattle.ms_ir.specs.declared.calls.External.TheVariants.{Malloc, Calloc, Realloc, Free, Memcpy, Memmove, Memset, Memcmp, Strlen, Putchar, Puts, Getchar, Read, Write, Exit, Abort, LlvmMemcpy, LlvmMemmove, LlvmMemset, LifetimeStart, LifetimeEnd, Printf, LlvmTrap, LlvmAssume, LlvmObjectSize, PthreadCreate, PthreadJoin, SchedYield, Word}
use Rattle.ms_ir.specs.declared.calls.RuntimeFn.{RuntimeFn}
use Rattle.ms_ir.specs.declared.calls.RuntimeFn.TheVariants.{Check, CheckMemory, CheckString, Blind, Poison, Unpoison, Copy, Fill, StoreOrigin, LoadOrigin, Size, CheckFormat, ThreadResult, Move}
use Rattle.ms_ir.specs.Signatures.{is_thread_call}
use Rattle.ms_ir.specs.Areas.{Heap}
use Rattle.ms_ir.specs.Names.{lookup, runtime_functions, slots}
use Rattle.ms_ir.specs.Layout.{width_of, stored_size, size_in}
use Rattle.ms_runs.specs.declared.runs.Report.{Report}
use Rattle.ms_runs.specs.World.{World, Setting, Effect, Gives, Does, Goes, Enters, Leaves, Ends, word, gives, Here}
use Rattle.ms_runs.specs.Threads.{fibers_of, thread_at, has_ended}
use Rattle.ms_runs.specs.Memory.{fits, is_good, heap_size, bytes_left, set_shadow, local_area}
use Rattle.ms_runs.specs.Externals.{malloc, reallocated, where_good, string_at, printed, prints, formatted, next_byte, external}
use Rattle.ms_runs.specs.Origins.{Chained, trail, pair_index, keeps_old, chain, is_hidden, add_report, check, check_byte, first_in_string, check_string, asks_string_at, count_blind, poison, unpoison, copy_planes, fill_planes, mark_cells, store_origin, thread_result}
use Rattle.ms_runs.specs.Runtime.{runtime}
use Rattle.ms_runs.specs.Act.{truth}
use Rattle.ms_runs.specs.Plain.{act_marked, in_slots, shadow_bits}

-- the world after an effect
abbrev pub world_of : Effect → World
world_of (Gives v w) = w
world_of (Does w) = w
world_of (Goes x w) = w
world_of (Enters f w) = w
world_of (Leaves w) = w
world_of (Ends e w) = w

-- a world has what another has of fibers
pub record Same (w v : World) : Type 0 where
  pub same : fibers_of v ≡ fibers_of w

-- and so has an effect's
pub record Kept (w : World) (e : Effect) : Type 0 where
  pub kept : fibers_of (world_of e) ≡ fibers_of w

pub by_if : (w : World) (t : Bool) {x y : Effect} → Kept w x → Kept w y → Kept w (if t then x else y)
by_if w true p q = p
by_if w false p q = q

by_option : (w : World) {A : Type 0} (a : Option A) {f : A → Effect} {y : Effect} → ((x : A) → Kept w (f x)) → Kept w y → Kept w (elim a as (λ z. Effect) [ Some x ↦ f x | None ↦ y ])
by_option w (Some x) p q = p x
by_option w None p q = q

-- ---- externals

given : (site : ℕ) (r : Result ℕ Trap) (w : World) → Kept w (gives site r w)
given site (Ok v) w = record { kept = refl }
given site (Err t) w = record { kept = refl }

good : (site a n : ℕ) (w : World) {x : Effect} → Kept w x → Kept w (where_good site a n w x)
good site a n w p = by_if w (is_good w a n) p (record { kept = refl })

by_malloc : (fill : List ℕ) (n : ℕ) (w : World) → Kept w (malloc fill n w)
by_malloc fill n w = by_if w (fits Heap n w) (record { kept = refl }) (record { kept = refl })

by_realloc : (fill : List ℕ) (p old n : ℕ) (w : World) → Kept w (reallocated fill p old n w)
by_realloc fill p old n w = by_if w (fits Heap n w) (record { kept = refl }) (record { kept = refl })

by_print : (site v : ℕ) (bs : List ℕ) (w : World) → Kept w (printed site bs (Gives v) w)
by_print site v bs w = by_if w (leb (length w.output + length bs) 1048576) (record { kept = refl }) (record { kept = refl })

by_prints : (site : ℕ) (r : Result (List ℕ) Trap) (w : World) → Kept w (prints site r w)
by_prints site (Ok bs) w = by_print site (length bs) bs w
by_prints site (Err t) w = record { kept = refl }

by_next : (bs : List ℕ) (w : World) → Kept w (next_byte bs w)
by_next [] w = record { kept = refl }
by_next (b ∷ bs) w = record { kept = refl }

pub external_keeps : (s : Setting) (site : ℕ) (e : External) (ts : List Ty) (vs : List ℕ) (w : World) → is_thread_call e ≡ false → Kept w (external s site e ts vs w)
external_keeps s site Malloc ts vs w one = by_malloc s.fill (word 0 vs) w
external_keeps s site Calloc ts vs w one = by_if w (ltb (word 0 vs * word 1 vs) (2 ^ 64) && fits Heap (word 0 vs * word 1 vs) w) (record { kept = refl }) (record { kept = refl })
external_keeps s site Realloc ts vs w one =
    by_if w (eqb (word 0 vs) 0) (by_malloc s.fill (word 1 vs) w) (by_option w (heap_size w (word 0 vs)) (λ old. by_realloc s.fill (word 0 vs) old (word 1 vs) w) (record { kept = refl }))
external_keeps s site Free ts vs w one = by_if w (eqb (word 0 vs) 0) (record { kept = refl }) (by_if w (is_some (heap_size w (word 0 vs))) (record { kept = refl }) (record { kept = refl }))
external_keeps s site Memcpy ts vs w one = good site (word 0 vs) (word 2 vs) w (good site (word 1 vs) (word 2 vs) w (record { kept = refl }))
external_keeps s site Memmove ts vs w one = good site (word 0 vs) (word 2 vs) w (good site (word 1 vs) (word 2 vs) w (record { kept = refl }))
external_keeps s site Memset ts vs w one = good site (word 0 vs) (word 2 vs) w (record { kept = refl })
external_keeps s site Memcmp ts vs w one = good site (word 0 vs) (word 2 vs) w (good site (word 1 vs) (word 2 vs) w (record { kept = refl }))
external_keeps s site Strlen ts vs w one = by_option w (string_at w (word 0 vs)) (λ bs. record { kept = refl }) (record { kept = refl })
external_keeps s site Putchar ts vs w one = by_print site (word 0 vs % 256) (word 0 vs % 256 ∷ []) w
external_keeps s site Puts ts vs w one = by_option w (string_at w (word 0 vs)) (λ bs. by_print site 1 (bs ++ 10 ∷ []) w) (record { kept = refl })
external_keeps s site Getchar ts vs w one = by_next w.input w
external_keeps s site Read ts vs w one = good site (word 1 vs) (word 2 vs) w (by_if w (eqb (word 0 vs) 0) (record { kept = refl }) (record { kept = refl }))
external_keeps s site Write ts vs w one =
    good site (word 1 vs) (word 2 vs) w (by_if w (eqb (word 0 vs) 1) (by_print site (word 2 vs) (bytes_at w.bytes (word 1 vs) (word 2 vs)) w) (record { kept = refl }))
external_keeps s site Exit ts vs w one = record { kept = refl }
external_keeps s site Abort ts vs w one = record { kept = refl }
external_keeps s site LlvmMemcpy ts vs w one = good site (word 0 vs) (word 2 vs) w (good site (word 1 vs) (word 2 vs) w (record { kept = refl }))
external_keeps s site LlvmMemmove ts vs w one = good site (word 0 vs) (word 2 vs) w (good site (word 1 vs) (word 2 vs) w (record { kept = refl }))
external_keeps s site LlvmMemset ts vs w one = good site (word 0 vs) (word 2 vs) w (record { kept = refl })
external_keeps s site LifetimeStart ts vs w one = good site (word 1 vs) (word 0 vs) w (record { kept = refl })
external_keeps s site LifetimeEnd ts vs w one = record { kept = refl }
external_keeps s site LlvmTrap ts vs w one = record { kept = refl }
external_keeps s site LlvmAssume ts vs w one = by_if w (eqb (word 0 vs) 0) (record { kept = refl }) (record { kept = refl })
external_keeps s site LlvmObjectSize ts vs w one = record { kept = refl }
external_keeps s site PthreadCreate ts vs w one = absurd (true≢false one)
external_keeps s site PthreadJoin ts vs w one = absurd (true≢false one)
external_keeps s site SchedYield ts vs w one = absurd (true≢false one)
external_keeps s site Printf ts vs w one = by_prints site (formatted w ts vs) w
external_keeps s site (Word f n) ts vs w one = given site (word_answer f (bits_of n) (word 0 vs) (word 1 vs) (word 2 vs)) w

-- ---- shadow, origins, reports and blind uses

either : (w : World) (t : Bool) {x y : World} → Same w x → Same w y → Same w (if t then x else y)
either w true p q = p
either w false p q = q

chain_same : (s : Setting) (old site : ℕ) (w : World) → Same w (chain s old site w).world
chain_same s old site w = by_tests (keeps_old s w old) (pair_index w.pairs old site)
  where
    by_tests : (t : Bool) (o : Option ℕ)
        → Same w (if t then record { id = old; world = w } else
        elim o as (λ z. Chained) [
          | Some k ↦ record { id = s.roots + 1 + k; world = w }
          | None ↦ record { id = s.roots + 1 + length w.pairs; world = record w { pairs = w.pairs ++ (old, site) ∷ [] } }
        ]).world
    by_tests true o = record { same = refl }
    by_tests false (Some k) = record { same = refl }
    by_tests false None = record { same = refl }

mark_same : (n a mask origin : ℕ) (w v : World) → Same w v → Same w (mark_cells n a mask origin v)
mark_same zero a mask origin w v h = h
mark_same (suc n) a mask origin w v h =
    mark_same n (a + 1) (mask / 256) origin w
    (if eqb (mask % 256) 0 || not (is_good v a 1) then v else record v { origins = with_cell v.origins a origin })
    (either w (eqb (mask % 256) 0 || not (is_good v a 1)) h (record { same = h.same }))

fill_same : (s : Setting) (a n mask origin site : ℕ) (w : World) → Same w (fill_planes s a n mask origin site w)
fill_same s a n mask origin site w =
    either w (not (is_good w a n)) (record { same = refl })
    (either w (eqb (mask % 256) 0 || eqb n 0) (record { same = refl }) (record { same = (chain_same s origin site w).same }))

store_same : (s : Setting) (a mask origin site : ℕ) (w : World) → Same w (store_origin s a mask origin site w)
store_same s a mask origin site w =
    let chained = chain s origin site w in
    either w (eqb mask 0) (record { same = refl }) (mark_same 8 a mask chained.id w chained.world (chain_same s origin site w))

does : (w v : World) → Same w v → Kept w (Does v)
does w v h = record { kept = h.same }

by_report : (s : Setting) (r : Report) (w : World) → Kept w (add_report s r w)
by_report s r w = by_if w (is_hidden s r w) (record { kept = refl }) (by_if w (leb s.limit (length (w.reports ++ r ∷ []))) (record { kept = refl }) (record { kept = refl }))

by_check : (s : Setting) (mask width origin kind part site : ℕ) (w : World) → Kept w (check s mask width origin kind part site w)
by_check s mask width origin kind part site w =
    by_if w (eqb mask 0) (record { kept = refl })
    (by_report s (record { site = site; kind = kind; part = part; width = width; mask = mask; origin = origin; chain = trail s w origin }) w)

by_byte : (s : Setting) (kind site start : ℕ) (o : Option ℕ) (w : World) → Kept w (check_byte s kind site start o w)
by_byte s kind site start None w = record { kept = refl }
by_byte s kind site start (Some x) w = by_check s (w.shadow x) 8 (w.origins (x / 4)) kind (x - start) site w

by_string : (s : Setting) (a site : ℕ) (w : World) → Kept w (check_string s a site w)
by_string s a site w = by_byte s 10 site a (first_in_string w a (bytes_left w a)) w

pub runtime_keeps : (s : Setting) (f : RuntimeFn) (vs : List ℕ) (w : World) → Kept w (runtime s f vs w)
runtime_keeps s Check vs w = by_check s (word 0 vs) (word 1 vs) (word 2 vs) (word 3 vs) (word 4 vs) (word 5 vs) w
runtime_keeps s CheckMemory vs w =
    by_if w (is_good w (word 0 vs) (word 1 vs)) (by_byte s (word 2 vs) (word 3 vs) (word 0 vs) (first_nonzero w.shadow (word 0 vs) (word 1 vs)) w) (record { kept = refl })
runtime_keeps s CheckString vs w = by_string s (word 0 vs) (word 1 vs) w
runtime_keeps s Blind vs w = does w (count_blind (word 0 vs) w) (either w (eqb (word 0 vs) 0) (record { same = refl }) (record { same = refl }))
runtime_keeps s Poison vs w =
    does w (poison (word 0 vs) (word 1 vs) (word 2 vs) (word 3 vs) w)
    (either w (ltb (word 1 vs) (word 2 vs) && is_good w ((word 0 vs + word 1 vs) % 2 ^ 64) (word 2 vs - word 1 vs)) (record { same = refl }) (record { same = refl }))
runtime_keeps s Unpoison vs w = does w (unpoison (word 0 vs) (word 1 vs) w) (either w (is_good w (word 0 vs) (word 1 vs)) (record { same = refl }) (record { same = refl }))
runtime_keeps s Copy vs w =
    does w (copy_planes (word 0 vs) (word 1 vs) (word 2 vs) w)
    (either w (is_good w (word 0 vs) (word 2 vs) && is_good w (word 1 vs) (word 2 vs)) (record { same = refl }) (record { same = refl }))
runtime_keeps s Fill vs w = does w (fill_planes s (word 0 vs) (word 1 vs) (word 2 vs) (word 3 vs) (word 4 vs) w) (fill_same s (word 0 vs) (word 1 vs) (word 2 vs) (word 3 vs) (word 4 vs) w)
runtime_keeps s StoreOrigin vs w = does w (store_origin s (word 0 vs) (word 1 vs) (word 2 vs) (word 3 vs) w) (store_same s (word 0 vs) (word 1 vs) (word 2 vs) (word 3 vs) w)
runtime_keeps s LoadOrigin vs w = record { kept = refl }
runtime_keeps s Size vs w = record { kept = refl }
runtime_keeps s CheckFormat vs w = by_if w (asks_string_at w (word 0 vs) (word 1 vs)) (by_string s (word 2 vs) (word 3 vs) w) (record { kept = refl })
runtime_keeps s ThreadResult vs w =
    let a = word 0 vs in let mask = w.answer_masks (word 1 vs) in
    does w (thread_result s a (word 1 vs) (word 2 vs) (word 3 vs) w)
    (either w (eqb (word 2 vs) 0 && not (eqb a 0) && is_good w a 8 && has_ended (thread_at (word 1 vs) w.threads))
    (record { same = (store_same s a mask (w.answer_origins (word 1 vs)) (word 3 vs) (set_shadow a 8 (byte_of mask) w)).same }) (record { same = refl }))
runtime_keeps s (Move k) vs w = record { kept = refl }

-- ---- marked instructions

by_truth : (site : ℕ) (r : Result Bool Trap) (w : World) → Kept w (gives site (truth r) w)
by_truth site (Ok b) w = record { kept = refl }
by_truth site (Err t) w = record { kept = refl }

pub marked_keeps : (s : Setting) (h : Here) (o : Op) (vs : List ℕ) (cells : ℕ → ℕ) (w : World) → Kept w (act_marked s h o vs cells w)
marked_keeps s h (op.Binary o flags t a b) vs cells w = given h.site (binary_of o flags (width_of t) (word 0 vs) (word 1 vs)) w
marked_keeps s h (op.Icmp p flags t a b) vs cells w = by_truth h.site (compare_of p flags (width_of t) (word 0 vs) (word 1 vs)) w
marked_keeps s h (op.Cast o flags t a u) vs cells w = given h.site (cast_of o flags (width_of t) (word 0 vs) (width_of u)) w
marked_keeps s h (op.Select c t a b) vs cells w = record { kept = refl }
marked_keeps s h (op.Freeze t a) vs cells w = record { kept = refl }
marked_keeps s h (op.Phi t edges) vs cells w = record { kept = refl }
marked_keeps s h (op.Alloca t u count) vs cells w = by_if w (fits (local_area w) (size_in s.types t * word 0 vs) w) (record { kept = refl }) (record { kept = refl })
marked_keeps s h (op.Load t a) vs cells w =
    by_if w (in_slots (word 0 vs) (stored_size t) slots) (record { kept = refl }) (by_if w (is_good w (bit_xor (word 0 vs) shadow_bits) (stored_size t)) (record { kept = refl }) (record { kept = refl }))
marked_keeps s h (op.Store t v a) vs cells w =
    by_if w (in_slots (word 1 vs) (stored_size t) slots) (record { kept = refl }) (by_if w (is_good w (bit_xor (word 1 vs) shadow_bits) (stored_size t)) (record { kept = refl }) (record { kept = refl }))
marked_keeps s h (op.Gep t base is) vs cells w = record { kept = refl }
marked_keeps s h (op.Call ret callee args) vs cells w = by_option w (lookup runtime_functions callee) (λ f. runtime_keeps s f vs w) (record { kept = refl })
marked_keeps s h (op.Br to) vs cells w = record { kept = refl }
marked_keeps s h (op.CondBr c to other) vs cells w = record { kept = refl }
marked_keeps s h (op.Switch t v other cases) vs cells w = record { kept = refl }
marked_keeps s h (op.Ret v) vs cells w = by_if w h.main (record { kept = refl }) (record { kept = refl })
marked_keeps s h op.Unreachable vs cells w = record { kept = refl }
