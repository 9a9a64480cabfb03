-- No step makes less of what is counted of a world's reports and blind uses, where one more of either makes none less.
use Rattle.std.proofs.Common.{◌≡◌, ℕ, zero, suc, ◌+◌, ◌-◌, ◌*◌, ◌/◌, ◌%◌, ◌^◌, List, [], ◌∷◌, ◌++◌, length, map, Bool, true, false, not, ◌&&◌, ◌||◌, eqb, leb, ltb, Option, Some, None, is_some, Result, Ok, Err, refl, ◌∙◌, if◌then◌else◌, bit_xor, ◌<◌, ◌≤◌, sym, ap, ap₂, arith}
use Rattle.ms_bits.specs.declared.traps.Trap.{Trap}
use Rattle.ms_bits.specs.Maps.{bytes_at, first_nonzero, with_cell, byte_of}
use Rattle.ms_bits.specs.WordFunctions.{bits_of, word_answer}
use Rattle.ms_bits.specs.Arithmetic.{binary_of}
use Rattle.ms_bits.specs.Conversions.{compare_of, cast_of}
use Rattle.ms_ir.specs.declared.syntax.Ty.{Ty}
use Rattle.ms_ir.specs.declared.syntax.Op.{Op}
use Rattle.ms_ir.specs.declared.syntax.Op.TheVariants as op
use Rattle.ms_ir.specs.declared.calls.External.{External}
use Rattle.ms_ir.specs.declared.calls.External.TheVariants.{Malloc, Calloc, Realloc, Free, Memcpy, Memmove, Memset, Memcmp, Strlen, Putchar, Puts, Getchar, Read, Write, Exit, Abort, LlvmMemcpy, LlvmMemmove, LlvmMemset, LifetimeStart, LifetimeEnd, Printf, LlvmTrap, LlvmAssume, LlvmObjectSize, PthreadCreate, PthreadJoin, SchedYield, Word}
use Rattle.ms_ir.specs.declared.calls.RuntimeFn.{RuntimeFn}
use Rattle.ms_ir.specs.declared.calls.RuntimeFn.TheVariants.{Check, CheckMemory, CheckString, Blind, Poison, Unpoison, Copy, Fill, StoreOrigin, LoadOrigin, Size, CheckFormat, ThreadResult, Move}
use Rattle.ms_ir.specs.Areas.{Heap}
use Rattle.ms_ir.specs.Names.{lookup, runtime_functions, slots}
use Rattle.ms_ir.specs.Layout.{width_of, stored_size, size_in}
use Rattle.ms_runs.specs.declared.runs.Report.{Report}
use Rattle.ms_runs.specs.World.{World, Setting, Effect, Gives, Does, Goes, Enters, Leaves, Ends, word, gives, Here}
use Rattle.ms_runs.specs.Threads.{fiber_limit, thread_at, has_ended, join_answer}
use Rattle.ms_runs.specs.Memory.{fits, is_good, heap_size, bytes_left, set_shadow, local_area}
use Rattle.ms_runs.specs.Externals.{malloc, reallocated, where_good, string_at, printed, prints, formatted, next_byte, external}
use Rattle.ms_runs.specs.Origins.{Chained, trail, pair_index, keeps_old, chain, is_hidden, add_report, check, check_byte, first_in_string, check_string, asks_string_at, count_blind, poison, unpoison, copy_planes, fill_planes, mark_cells, store_origin, thread_result}
use Rattle.ms_runs.specs.Runtime.{runtime}
use Rattle.ms_runs.specs.Act.{truth, act, plain_reading}
use Rattle.ms_runs.specs.Plain.{PlainState, Stepped, More, Stop, act_marked, slots_after, in_slots, shadow_bits, and_then, plain_state, plain_inst, through, plain_first, plain_step, steps}
use Rattle.ms_runs.specs.Control.{Frame, Outcome, On, Over, here, rest_of, read_all, entered, given_back, keeping, left, release, after_effect, frame_limit}
use Rattle.ms_ir.specs.declared.syntax.Name.{Name}
use Rattle.ms_ir.specs.declared.syntax.Inst.{Inst}
use Rattle.ms_ir.specs.declared.syntax.Module.{Module}
use Rattle.ms_ir.specs.Instructions.{operands, external_named}
use Rattle.ms_runs.specs.declared.runs.End.TheVariants as «end»
use Rattle.ms_bits.specs.declared.traps.Trap.TheVariants as trap
use Rattle.ms_runs.specs.Memory.{end_block, end_blocks}

-- the world after an effect
abbrev pub world_of : Effect → World
world_of (Gives v w) = w
world_of (Does w) = w
world_of (Goes x w) = w
world_of (Enters f w) = w
world_of (Leaves w) = w
world_of (Ends e w) = w

-- the world that a step leads to
abbrev pub stepped_world : Stepped PlainState → World
stepped_world (More c) = c.world
stepped_world (Stop e w) = w

module _ (count : List Report → ℕ → ℕ) (by_one : (rs : List Report) (r : Report) (n : ℕ) → count rs n ≤ count (rs ++ r ∷ []) n) (by_blind : (rs : List Report) (n : ℕ) → count rs n ≤ count rs (n + 1)) where
  -- a world has the reports and the number of blind uses of another
  pub record Same (w v : World) : Type 0 where
    pub same : v.reports ≡ w.reports
    pub blind : v.blind ≡ w.blind

  -- what is counted of a world
  abbrev pub counted : World → ℕ
  counted w = count w.reports w.blind

  -- and an effect's world counts no less
  pub record Kept (w : World) (e : Effect) : Type 0 where
    pub kept : counted w ≤ counted (world_of e)

  itself : (w : World) → counted w ≤ counted w
  itself w = omega arith

  pub by_if : (w : World) (t : Bool) {x y : Effect} → Kept w x → Kept w y → Kept w (if t then x else y)
  by_if w true p q = p
  by_if w false p q = q

  by_option : (w : World) {A : Type 0} (a : Option A) {f : A → Effect} {y : Effect} → ((x : A) → Kept w (f x)) → Kept w y → Kept w (elim a as (λ z. Effect) [ Some x ↦ f x | None ↦ y ])
  by_option w (Some x) p q = p x
  by_option w None p q = q

  -- ---- externals

  given : (site : ℕ) (r : Result ℕ Trap) (w : World) → Kept w (gives site r w)
  given site (Ok v) w = record { kept = itself w }
  given site (Err t) w = record { kept = itself w }

  good : (site a n : ℕ) (w : World) {x : Effect} → Kept w x → Kept w (where_good site a n w x)
  good site a n w p = by_if w (is_good w a n) p (record { kept = itself w })

  by_malloc : (fill : List ℕ) (n : ℕ) (w : World) → Kept w (malloc fill n w)
  by_malloc fill n w = by_if w (fits Heap n w) (record { kept = itself w }) (record { kept = itself w })

  by_realloc : (fill : List ℕ) (p old n : ℕ) (w : World) → Kept w (reallocated fill p old n w)
  by_realloc fill p old n w = by_if w (fits Heap n w) (record { kept = itself w }) (record { kept = itself w })

  by_print : (site v : ℕ) (bs : List ℕ) (w : World) → Kept w (printed site bs (Gives v) w)
  by_print site v bs w = by_if w (leb (length w.output + length bs) 1048576) (record { kept = itself w }) (record { kept = itself w })

  by_prints : (site : ℕ) (r : Result (List ℕ) Trap) (w : World) → Kept w (prints site r w)
  by_prints site (Ok bs) w = by_print site (length bs) bs w
  by_prints site (Err t) w = record { kept = itself w }

  by_next : (bs : List ℕ) (w : World) → Kept w (next_byte bs w)
  by_next [] w = record { kept = itself w }
  by_next (b ∷ bs) w = record { kept = itself w }

  pub external_keeps : (s : Setting) (site : ℕ) (e : External) (ts : List Ty) (vs : List ℕ) (w : World) → Kept w (external s site e ts vs w)
  external_keeps s site Malloc ts vs w = by_malloc s.fill (word 0 vs) w
  external_keeps s site Calloc ts vs w = by_if w (ltb (word 0 vs * word 1 vs) (2 ^ 64) && fits Heap (word 0 vs * word 1 vs) w) (record { kept = itself w }) (record { kept = itself w })
  external_keeps s site Realloc ts vs w =
      by_if w (eqb (word 0 vs) 0) (by_malloc s.fill (word 1 vs) w) (by_option w (heap_size w (word 0 vs)) (λ old. by_realloc s.fill (word 0 vs) old (word 1 vs) w) (record { kept = itself w }))
  external_keeps s site Free ts vs w = by_if w (eqb (word 0 vs) 0) (record { kept = itself w }) (by_if w (is_some (heap_size w (word 0 vs))) (record { kept = itself w }) (record { kept = itself w }))
  external_keeps s site Memcpy ts vs w = good site (word 0 vs) (word 2 vs) w (good site (word 1 vs) (word 2 vs) w (record { kept = itself w }))
  external_keeps s site Memmove ts vs w = good site (word 0 vs) (word 2 vs) w (good site (word 1 vs) (word 2 vs) w (record { kept = itself w }))
  external_keeps s site Memset ts vs w = good site (word 0 vs) (word 2 vs) w (record { kept = itself w })
  external_keeps s site Memcmp ts vs w = good site (word 0 vs) (word 2 vs) w (good site (word 1 vs) (word 2 vs) w (record { kept = itself w }))
  external_keeps s site Strlen ts vs w = by_option w (string_at w (word 0 vs)) (λ bs. record { kept = itself w }) (record { kept = itself w })
  external_keeps s site Putchar ts vs w = by_print site (word 0 vs % 256) (word 0 vs % 256 ∷ []) w
  external_keeps s site Puts ts vs w = by_option w (string_at w (word 0 vs)) (λ bs. by_print site 1 (bs ++ 10 ∷ []) w) (record { kept = itself w })
  external_keeps s site Getchar ts vs w = by_next w.input w
  external_keeps s site Read ts vs w = good site (word 1 vs) (word 2 vs) w (by_if w (eqb (word 0 vs) 0) (record { kept = itself w }) (record { kept = itself w }))
  external_keeps s site Write ts vs w =
      good site (word 1 vs) (word 2 vs) w (by_if w (eqb (word 0 vs) 1) (by_print site (word 2 vs) (bytes_at w.bytes (word 1 vs) (word 2 vs)) w) (record { kept = itself w }))
  external_keeps s site Exit ts vs w = record { kept = itself w }
  external_keeps s site Abort ts vs w = record { kept = itself w }
  external_keeps s site LlvmMemcpy ts vs w = good site (word 0 vs) (word 2 vs) w (good site (word 1 vs) (word 2 vs) w (record { kept = itself w }))
  external_keeps s site LlvmMemmove ts vs w = good site (word 0 vs) (word 2 vs) w (good site (word 1 vs) (word 2 vs) w (record { kept = itself w }))
  external_keeps s site LlvmMemset ts vs w = good site (word 0 vs) (word 2 vs) w (record { kept = itself w })
  external_keeps s site LifetimeStart ts vs w = good site (word 1 vs) (word 0 vs) w (record { kept = itself w })
  external_keeps s site LifetimeEnd ts vs w = record { kept = itself w }
  external_keeps s site LlvmTrap ts vs w = record { kept = itself w }
  external_keeps s site LlvmAssume ts vs w = by_if w (eqb (word 0 vs) 0) (record { kept = itself w }) (record { kept = itself w })
  external_keeps s site LlvmObjectSize ts vs w = record { kept = itself w }
  external_keeps s site PthreadCreate ts vs w = by_if w (leb fiber_limit (length w.threads + 1)) (record { kept = itself w }) (good site (word 0 vs) 8 w (record { kept = itself w }))
  external_keeps s site PthreadJoin ts vs w =
      by_if w (eqb (join_answer w.turn (word 0 vs) w.threads) 0)
      (by_if w (has_ended (thread_at (word 0 vs) w.threads)) (by_if w (eqb (word 1 vs) 0) (record { kept = itself w }) (good site (word 1 vs) 8 w (record { kept = itself w }))) (record { kept = itself w }))
      (record { kept = itself w })
  external_keeps s site SchedYield ts vs w = record { kept = itself w }
  external_keeps s site Printf ts vs w = by_prints site (formatted w ts vs) w
  external_keeps s site (Word f n) ts vs w = given site (word_answer f (bits_of n) (word 0 vs) (word 1 vs) (word 2 vs)) w

  -- ---- shadow, origins, reports and blind uses

  either : (w : World) (t : Bool) {x y : World} → Same w x → Same w y → Same w (if t then x else y)
  either w true p q = p
  either w false p q = q

  chain_same : (s : Setting) (old site : ℕ) (w : World) → Same w (chain s old site w).world
  chain_same s old site w = by_tests (keeps_old s w old) (pair_index w.pairs old site)
    where
      by_tests : (t : Bool) (o : Option ℕ)
          → Same w (if t then record { id = old; world = w } else
          elim o as (λ z. Chained) [
            | Some k ↦ record { id = s.roots + 1 + k; world = w }
            | None ↦ record { id = s.roots + 1 + length w.pairs; world = record w { pairs = w.pairs ++ (old, site) ∷ [] } }
          ]).world
      by_tests true o = record { same = refl; blind = refl }
      by_tests false (Some k) = record { same = refl; blind = refl }
      by_tests false None = record { same = refl; blind = refl }

  mark_same : (n a mask origin : ℕ) (w v : World) → Same w v → Same w (mark_cells n a mask origin v)
  mark_same zero a mask origin w v h = h
  mark_same (suc n) a mask origin w v h =
      mark_same n (a + 1) (mask / 256) origin w
      (if eqb (mask % 256) 0 || not (is_good v a 1) then v else record v { origins = with_cell v.origins a origin })
      (either w (eqb (mask % 256) 0 || not (is_good v a 1)) h (record { same = h.same; blind = h.blind }))

  fill_same : (s : Setting) (a n mask origin site : ℕ) (w : World) → Same w (fill_planes s a n mask origin site w)
  fill_same s a n mask origin site w =
      either w (not (is_good w a n)) (record { same = refl; blind = refl })
      (either w (eqb (mask % 256) 0 || eqb n 0) (record { same = refl; blind = refl }) (record { same = (chain_same s origin site w).same; blind = (chain_same s origin site w).blind }))

  store_same : (s : Setting) (a mask origin site : ℕ) (w : World) → Same w (store_origin s a mask origin site w)
  store_same s a mask origin site w =
      let chained = chain s origin site w in
      either w (eqb mask 0) (record { same = refl; blind = refl }) (mark_same 8 a mask chained.id w chained.world (chain_same s origin site w))

  does : (w v : World) → Same w v → Kept w (Does v)
  does w v h = let e : counted v ≡ counted w = ap₂ count h.same h.blind in record { kept = omega (arith, e) }

  by_report : (s : Setting) (r : Report) (w : World) → Kept w (add_report s r w)
  by_report s r w =
      by_if w (is_hidden s r w) (record { kept = itself w })
      (by_if w (leb s.limit (length (w.reports ++ r ∷ []))) (record { kept = by_one w.reports r w.blind }) (record { kept = by_one w.reports r w.blind }))

  by_check : (s : Setting) (mask width origin kind part site : ℕ) (w : World) → Kept w (check s mask width origin kind part site w)
  by_check s mask width origin kind part site w =
      by_if w (eqb mask 0) (record { kept = itself w })
      (by_report s (record { site = site; kind = kind; part = part; width = width; mask = mask; origin = origin; chain = trail s w origin }) w)

  by_byte : (s : Setting) (kind site start : ℕ) (o : Option ℕ) (w : World) → Kept w (check_byte s kind site start o w)
  by_byte s kind site start None w = record { kept = itself w }
  by_byte s kind site start (Some x) w = by_check s (w.shadow x) 8 (w.origins (x / 4)) kind (x - start) site w

  by_string : (s : Setting) (a site : ℕ) (w : World) → Kept w (check_string s a site w)
  by_string s a site w = by_byte s 10 site a (first_in_string w a (bytes_left w a)) w

  pub runtime_keeps : (s : Setting) (f : RuntimeFn) (vs : List ℕ) (w : World) → Kept w (runtime s f vs w)
  runtime_keeps s Check vs w = by_check s (word 0 vs) (word 1 vs) (word 2 vs) (word 3 vs) (word 4 vs) (word 5 vs) w
  runtime_keeps s CheckMemory vs w =
      by_if w (is_good w (word 0 vs) (word 1 vs)) (by_byte s (word 2 vs) (word 3 vs) (word 0 vs) (first_nonzero w.shadow (word 0 vs) (word 1 vs)) w) (record { kept = itself w })
  runtime_keeps s CheckString vs w = by_string s (word 0 vs) (word 1 vs) w
  runtime_keeps s Blind vs w = by_test (eqb (word 0 vs) 0)
    where
      by_test : (t : Bool) → Kept w (Does (if t then w else record w { blind = w.blind + 1 }))
      by_test true = record { kept = itself w }
      by_test false = record { kept = by_blind w.reports w.blind }
  runtime_keeps s Poison vs w =
      does w (poison (word 0 vs) (word 1 vs) (word 2 vs) (word 3 vs) w)
      (either w (ltb (word 1 vs) (word 2 vs) && is_good w ((word 0 vs + word 1 vs) % 2 ^ 64) (word 2 vs - word 1 vs)) (record { same = refl; blind = refl }) (record { same = refl; blind = refl }))
  runtime_keeps s Unpoison vs w = does w (unpoison (word 0 vs) (word 1 vs) w) (either w (is_good w (word 0 vs) (word 1 vs)) (record { same = refl; blind = refl }) (record { same = refl; blind = refl }))
  runtime_keeps s Copy vs w =
      does w (copy_planes (word 0 vs) (word 1 vs) (word 2 vs) w)
      (either w (is_good w (word 0 vs) (word 2 vs) && is_good w (word 1 vs) (word 2 vs)) (record { same = refl; blind = refl }) (record { same = refl; blind = refl }))
  runtime_keeps s Fill vs w = does w (fill_planes s (word 0 vs) (word 1 vs) (word 2 vs) (word 3 vs) (word 4 vs) w) (fill_same s (word 0 vs) (word 1 vs) (word 2 vs) (word 3 vs) (word 4 vs) w)
  runtime_keeps s StoreOrigin vs w = does w (store_origin s (word 0 vs) (word 1 vs) (word 2 vs) (word 3 vs) w) (store_same s (word 0 vs) (word 1 vs) (word 2 vs) (word 3 vs) w)
  runtime_keeps s LoadOrigin vs w = record { kept = itself w }
  runtime_keeps s Size vs w = record { kept = itself w }
  runtime_keeps s CheckFormat vs w = by_if w (asks_string_at w (word 0 vs) (word 1 vs)) (by_string s (word 2 vs) (word 3 vs) w) (record { kept = itself w })
  runtime_keeps s ThreadResult vs w =
      let a = word 0 vs in let mask = w.answer_masks (word 1 vs) in
      does w (thread_result s a (word 1 vs) (word 2 vs) (word 3 vs) w)
      (either w (eqb (word 2 vs) 0 && not (eqb a 0) && is_good w a 8 && has_ended (thread_at (word 1 vs) w.threads))
      (let h = store_same s a mask (w.answer_origins (word 1 vs)) (word 3 vs) (set_shadow a 8 (byte_of mask) w) in record { same = h.same; blind = h.blind }) (record { same = refl; blind = refl }))
  runtime_keeps s (Move k) vs w = record { kept = itself w }

  -- ---- marked instructions

  by_truth : (site : ℕ) (r : Result Bool Trap) (w : World) → Kept w (gives site (truth r) w)
  by_truth site (Ok b) w = record { kept = itself w }
  by_truth site (Err t) w = record { kept = itself w }

  pub marked_keeps : (s : Setting) (h : Here) (o : Op) (vs : List ℕ) (cells : ℕ → ℕ) (w : World) → Kept w (act_marked s h o vs cells w)
  marked_keeps s h (op.Binary o flags t a b) vs cells w = given h.site (binary_of o flags (width_of t) (word 0 vs) (word 1 vs)) w
  marked_keeps s h (op.Icmp p flags t a b) vs cells w = by_truth h.site (compare_of p flags (width_of t) (word 0 vs) (word 1 vs)) w
  marked_keeps s h (op.Cast o flags t a u) vs cells w = given h.site (cast_of o flags (width_of t) (word 0 vs) (width_of u)) w
  marked_keeps s h (op.Select c t a b) vs cells w = record { kept = itself w }
  marked_keeps s h (op.Freeze t a) vs cells w = record { kept = itself w }
  marked_keeps s h (op.Phi t edges) vs cells w = record { kept = itself w }
  marked_keeps s h (op.Alloca t u count) vs cells w = by_if w (fits (local_area w) (size_in s.types t * word 0 vs) w) (record { kept = itself w }) (record { kept = itself w })
  marked_keeps s h (op.Load t a) vs cells w =
      by_if w (in_slots (word 0 vs) (stored_size t) slots) (record { kept = itself w }) (by_if w (is_good w (bit_xor (word 0 vs) shadow_bits) (stored_size t)) (record { kept = itself w }) (record { kept = itself w }))
  marked_keeps s h (op.Store t v a) vs cells w =
      by_if w (in_slots (word 1 vs) (stored_size t) slots) (record { kept = itself w }) (by_if w (is_good w (bit_xor (word 1 vs) shadow_bits) (stored_size t)) (record { kept = itself w }) (record { kept = itself w }))
  marked_keeps s h (op.Gep t base is) vs cells w = record { kept = itself w }
  marked_keeps s h (op.Call ret callee args) vs cells w = by_option w (lookup runtime_functions callee) (λ f. runtime_keeps s f vs w) (record { kept = itself w })
  marked_keeps s h (op.Br to) vs cells w = record { kept = itself w }
  marked_keeps s h (op.CondBr c to other) vs cells w = record { kept = itself w }
  marked_keeps s h (op.Switch t v other cases) vs cells w = record { kept = itself w }
  marked_keeps s h (op.Ret v) vs cells w = by_if w h.main (record { kept = itself w }) (record { kept = itself w })
  marked_keeps s h op.Unreachable vs cells w = record { kept = itself w }

  -- ---- unmarked instructions

  pub act_keeps : (s : Setting) (h : Here) (o : Op) (vs : List ℕ) (w : World) → Kept w (act s h o vs w)
  act_keeps s h (op.Binary o flags t a b) vs w = given h.site (binary_of o flags (width_of t) (word 0 vs) (word 1 vs)) w
  act_keeps s h (op.Icmp p flags t a b) vs w = by_truth h.site (compare_of p flags (width_of t) (word 0 vs) (word 1 vs)) w
  act_keeps s h (op.Cast o flags t a u) vs w = given h.site (cast_of o flags (width_of t) (word 0 vs) (width_of u)) w
  act_keeps s h (op.Select c t a b) vs w = record { kept = itself w }
  act_keeps s h (op.Freeze t a) vs w = record { kept = itself w }
  act_keeps s h (op.Phi t edges) vs w = record { kept = itself w }
  act_keeps s h (op.Alloca t u count) vs w = by_if w (fits (local_area w) (size_in s.types t * word 0 vs) w) (record { kept = itself w }) (record { kept = itself w })
  act_keeps s h (op.Load t a) vs w = by_if w (is_good w (word 0 vs) (stored_size t)) (record { kept = itself w }) (record { kept = itself w })
  act_keeps s h (op.Store t v a) vs w = by_if w (is_good w (word 1 vs) (stored_size t)) (record { kept = itself w }) (record { kept = itself w })
  act_keeps s h (op.Gep t base is) vs w = record { kept = itself w }
  act_keeps s h (op.Call ret callee args) vs w =
      by_option w (s.func callee) (λ f. record { kept = itself w })
      (by_option w (external_named s.func callee) (λ e. external_keeps s h.site e (map (λ a. a.0) args) vs w) (record { kept = itself w }))
  act_keeps s h (op.Br to) vs w = record { kept = itself w }
  act_keeps s h (op.CondBr c to other) vs w = record { kept = itself w }
  act_keeps s h (op.Switch t v other cases) vs w = record { kept = itself w }
  act_keeps s h (op.Ret v) vs w = by_if w h.main (record { kept = itself w }) (record { kept = itself w })
  act_keeps s h op.Unreachable vs w = record { kept = itself w }

  -- ---- steps of a plain run

  ended_counts : (bases : List ℕ) (w : World) → counted (end_blocks bases w) ≡ counted w
  ended_counts [] w = refl
  ended_counts (a ∷ rest) w = ended_counts rest (end_block a w)

  back_counts : (frame : Frame ℕ) (w : World) → counted (given_back frame w) ≡ counted w
  back_counts frame w = ended_counts frame.heap (if eqb frame.mark 0 then w else release frame.mark w) ∙ by_mark (eqb frame.mark 0)
    where
      by_mark : (b : Bool) → counted (if b then w else release frame.mark w) ≡ counted w
      by_mark true = refl
      by_mark false = refl

  module _ (s : Setting) (m : Module) where
    left_grows : (cells : ℕ → ℕ) (words : List ℕ) (frame : Frame ℕ) (below : List (Frame ℕ)) (w u : World) → counted w ≤ counted u
        → counted w ≤ counted (stepped_world (plain_state cells (left plain_reading m words frame below u)))
    left_grows cells words frame [] w u le = le
    left_grows cells words frame (caller ∷ below) w u le = let e = back_counts frame u in omega (arith, le, e)

    after_grows : (cells : ℕ → ℕ) (site : ℕ) (x : Option Name) (words : List ℕ) (frame : Frame ℕ) (below : List (Frame ℕ)) (w : World) (e : Effect) → counted w ≤ counted (world_of e)
        → counted w ≤ counted (stepped_world (plain_state cells (after_effect plain_reading s m site x words (λ v w. v) (λ v w. w) frame below e)))
    after_grows cells site x words frame below w (Gives v u) le = le
    after_grows cells site x words frame below w (Does u) le = le
    after_grows cells site x words frame below w (Goes to u) le = le
    after_grows cells site x words frame below w (Enters f u) le = by_depth (leb frame_limit (length below + 1))
      where
        by_depth : (b : Bool)
            → counted w ≤ counted (stepped_world (plain_state cells (if b then Over («end».Trap trap.Depth site) u else On (entered plain_reading m f words u ∷ frame ∷ below) u)))
        by_depth true = le
        by_depth false = le
    after_grows cells site x words frame below w (Leaves u) le = left_grows cells words frame below w u le
    after_grows cells site x words frame below w (Ends e u) le = le

    either_kept : (b : Bool) (w : World) (x y : Effect) → Kept w x → Kept w y → Kept w (if b then x else y)
    either_kept true w x y p q = p
    either_kept false w x y p q = q

    pub inst_counts : (i : Inst) (state : PlainState) (fs : List (Frame ℕ)) → counted state.world ≤ counted (stepped_world (plain_inst s m i state fs))
    inst_counts i state [] = omega arith
    inst_counts i state (frame ∷ below) =
        let at = here s m frame in
        let words = read_all (plain_reading.read s frame.values) (operands i.op) at.root in
        let effect = if i.marked then act_marked s at i.op words state.slots state.world else act s at i.op words state.world in
        after_grows (if i.marked then slots_after i.op words state.slots else state.slots) at.site i.result words (keeping i.op effect frame) below state.world effect
        (either_kept i.marked state.world (act_marked s at i.op words state.slots state.world) (act s at i.op words state.world)
        (marked_keeps s at i.op words state.slots state.world) (act_keeps s at i.op words state.world)).kept

    through_grows : (is : List Inst) (state : PlainState) → counted state.world ≤ counted (stepped_world (through s m is state))
    through_grows [] state = omega arith
    through_grows (i ∷ is) state = by_inst (λ c. through_grows is c) (plain_inst s m i state state.frames) (inst_counts i state state.frames) i.marked
      where
        by_inst : ((c : PlainState) → counted c.world ≤ counted (stepped_world (through s m is c))) → (x : Stepped PlainState) → counted state.world ≤ counted (stepped_world x) → (b : Bool)
            → counted state.world ≤ counted (stepped_world (and_then x (if b then through s m is else More)))
        by_inst rest (More c) le true = omega (arith, le, rest c)
        by_inst rest (More c) le false = le
        by_inst rest (Stop e w) le true = le
        by_inst rest (Stop e w) le false = le

    first_grows : (fs : List (Frame ℕ)) (state : PlainState) → counted state.world ≤ counted (stepped_world (plain_first s m fs state))
    first_grows [] state = omega arith
    first_grows (f ∷ below) state = through_grows (rest_of m f) state

    -- a step counts no less
    pub step_counts : (state : PlainState) → counted state.world ≤ counted (stepped_world (plain_step s m state))
    step_counts state = first_grows state.frames state
