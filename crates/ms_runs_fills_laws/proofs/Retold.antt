-- Instructions don't look at reports: with other reports they do the same, and leave those.
use Rattle.std.proofs.Common.{◌≡◌, ℕ, zero, suc, ◌+◌, ◌-◌, ◌*◌, ◌/◌, ◌%◌, ◌^◌, List, [], ◌∷◌, ◌++◌, Bool, true, false, Option, Some, None, Result, Ok, Err, refl, ap, ap₂, ◌∙◌}
use Rattle.std.specs.Prelude.{if◌then◌else◌, eqb, leb, ltb, length, map, get_or, ◌&&◌, ◌||◌, not, is_some, unwrap_or}
use Rattle.ms_bits.specs.declared.traps.Trap.{Trap}
use Rattle.ms_bits.specs.declared.traps.Trap.TheVariants as trap
use Rattle.ms_ir.specs.declared.syntax.Ty.{Ty}
use Rattle.ms_ir.specs.declared.syntax.Name.{Name}
use Rattle.ms_ir.specs.declared.syntax.Op.{Op}
use Rattle.ms_ir.specs.declared.syntax.Op.TheVariants as op
use Rattle.ms_ir.specs.declared.syntax.Inst.{Inst}
use Rattle.ms_ir.specs.declared.syntax.Module.{Module}
use Rattle.ms_ir.specs.declared.calls.External.{External}
use Rattle.ms_ir.specs.declared.calls.External.TheVariants.{Malloc, Calloc, Realloc, Free, Memcpy, Memmove, Memset, Memcmp, Strlen, Putchar, Puts, Getchar, Read, Write, Exit, Abort, LlvmMemcpy, LlvmMemmove, LlvmMemset, LifetimeStart, LifetimeEnd, Printf, LlvmTrap, LlvmAssume, LlvmObjectSize, PthreadCreate, PthreadJoin, SchedYield, Word}
use Rattle.ms_ir.specs.Areas.{Heap}
use Rattle.ms_ir.specs.Layout.{width_of, stored_size, size_in}
use Rattle.ms_ir.specs.Instructions.{operands, count_undefs, external_named}
use Rattle.ms_bits.specs.WordFunctions.{bits_of, word_answer}
use Rattle.ms_bits.specs.Arithmetic.{binary_of}
use Rattle.ms_bits.specs.Conversions.{compare_of, cast_of}
use Rattle.ms_bits.specs.Maps.{bytes_at, byte_of, with_cell}
use Rattle.ms_runs.specs.declared.runs.End.TheVariants as «end»
use Rattle.ms_runs.specs.declared.runs.Report.{Report}
use Rattle.ms_runs.specs.Threads.{fiber_limit, thread_at, has_ended, join_answer}
use Rattle.ms_runs.specs.World.{World, Setting, Here, Effect, Gives, Does, Goes, Enters, Leaves, Ends, word, gives}
use Rattle.ms_runs.specs.Memory.{local_area, fits, is_good, heap_size, set_shadow, set_cells, copy_shadow, end_block, end_blocks}
use Rattle.ms_runs.specs.Externals.{external, malloc, reallocated, where_good, string_at, printed, next_byte, formatted, prints}
use Rattle.ms_runs.specs.Act.{act, truth}
use Rattle.ms_runs.specs.Origins.{Chained, keeps_old, pair_index, chain, count_blind, poison, unpoison, copy_planes, fill_planes, mark_cells, store_origin, thread_result}
use Rattle.ms_runs.specs.Control.{Frame, Outcome, On, Over, one_on, put, result_at, entered, given_back, release, keeping, after_effect, frame_limit}
use Rattle.ms_runs.specs.Poisoned.{Poisoned, clean}
use Rattle.ms_runs.specs.Masks.{Rules, word_at, result_mask, result_origin}
use Rattle.ms_runs.specs.Shadow.{shadow_reading, external_planes, callee_planes, planes, poisoned_result, shadow_act}

module _ (rs : List Report) where
  -- a world with these reports
  abbrev pub told : World → World
  told w = record w { reports = rs }

  abbrev pub told_effect : Effect → Effect
  told_effect (Gives v w) = Gives v (told w)
  told_effect (Does w) = Does (told w)
  told_effect (Goes x w) = Goes x (told w)
  told_effect (Enters f w) = Enters f (told w)
  told_effect (Leaves w) = Leaves (told w)
  told_effect (Ends e w) = Ends e (told w)

  -- an effect is another one with these reports
  pub record Retold (x y : Effect) : Type 0 where
    pub same : y ≡ told_effect x

  at_if : (t : Bool) {x x' y y' : Effect} → Retold x x' → Retold y y' → Retold (if t then x else y) (if t then x' else y')
  at_if true p q = p
  at_if false p q = q

  at_option : {A : Type 0} (o : Option A) {f f' : A → Effect} {y y' : Effect} → ((a : A) → Retold (f a) (f' a)) → Retold y y'
      → Retold (elim o [ Some a ↦ f a | None ↦ y ]) (elim o [ Some a ↦ f' a | None ↦ y' ])
  at_option (Some a) p q = p a
  at_option None p q = q

  gives_retold : (site : ℕ) (r : Result ℕ Trap) (w : World) → Retold (gives site r w) (gives site r (told w))
  gives_retold site (Ok v) w = (record { same = refl })
  gives_retold site (Err t) w = (record { same = refl })

  malloc_retold : (fill : List ℕ) (n : ℕ) (w : World) → Retold (malloc fill n w) (malloc fill n (told w))
  malloc_retold fill n w = at_if (fits Heap n w) (record { same = refl }) (record { same = refl })

  moved_retold : (fill : List ℕ) (p old n : ℕ) (w : World) → Retold (reallocated fill p old n w) (reallocated fill p old n (told w))
  moved_retold fill p old n w = at_if (fits Heap n w) (record { same = refl }) (record { same = refl })

  good_retold : (site a n : ℕ) (w : World) {x x' : Effect} → Retold x x' → Retold (where_good site a n w x) (where_good site a n (told w) x')
  good_retold site a n w p = at_if (is_good w a n) p (record { same = refl })

  printed_retold : (site v : ℕ) (bs : List ℕ) (w : World) → Retold (printed site bs (Gives v) w) (printed site bs (Gives v) (told w))
  printed_retold site v bs w = at_if (leb (length w.output + length bs) 1048576) (record { same = refl }) (record { same = refl })

  next_retold : (bs : List ℕ) (w : World) → Retold (next_byte bs w) (next_byte bs (told w))
  next_retold [] w = (record { same = refl })
  next_retold (b ∷ bs) w = (record { same = refl })

  prints_retold : (site : ℕ) (r : Result (List ℕ) Trap) (w : World) → Retold (prints site r w) (prints site r (told w))
  prints_retold site (Ok bs) w = printed_retold site (length bs) bs w
  prints_retold site (Err t) w = (record { same = refl })

  external_retold : (s : Setting) (site : ℕ) (e : External) (ts : List Ty) (vs : List ℕ) (w : World) → Retold (external s site e ts vs w) (external s site e ts vs (told w))
  external_retold s site Malloc ts vs w = malloc_retold s.fill (word 0 vs) w
  external_retold s site Calloc ts vs w = at_if (ltb (word 0 vs * word 1 vs) (2 ^ 64) && fits Heap (word 0 vs * word 1 vs) w) (record { same = refl }) (record { same = refl })
  external_retold s site Realloc ts vs w =
      at_if (eqb (word 0 vs) 0) (malloc_retold s.fill (word 1 vs) w) (at_option (heap_size w (word 0 vs)) (λ old. moved_retold s.fill (word 0 vs) old (word 1 vs) w) (record { same = refl }))
  external_retold s site Free ts vs w = at_if (eqb (word 0 vs) 0) (record { same = refl }) (at_if (is_some (heap_size w (word 0 vs))) (record { same = refl }) (record { same = refl }))
  external_retold s site Memcpy ts vs w = good_retold site (word 0 vs) (word 2 vs) w (good_retold site (word 1 vs) (word 2 vs) w (record { same = refl }))
  external_retold s site Memmove ts vs w = good_retold site (word 0 vs) (word 2 vs) w (good_retold site (word 1 vs) (word 2 vs) w (record { same = refl }))
  external_retold s site Memset ts vs w = good_retold site (word 0 vs) (word 2 vs) w (record { same = refl })
  external_retold s site Memcmp ts vs w = good_retold site (word 0 vs) (word 2 vs) w (good_retold site (word 1 vs) (word 2 vs) w (record { same = refl }))
  external_retold s site Strlen ts vs w = at_option (string_at w (word 0 vs)) (λ bs. (record { same = refl })) (record { same = refl })
  external_retold s site Putchar ts vs w = printed_retold site (word 0 vs % 256) (word 0 vs % 256 ∷ []) w
  external_retold s site Puts ts vs w = at_option (string_at w (word 0 vs)) (λ bs. printed_retold site 1 (bs ++ 10 ∷ []) w) (record { same = refl })
  external_retold s site Getchar ts vs w = next_retold w.input w
  external_retold s site Read ts vs w = good_retold site (word 1 vs) (word 2 vs) w (at_if (eqb (word 0 vs) 0) (record { same = refl }) (record { same = refl }))
  external_retold s site Write ts vs w = good_retold site (word 1 vs) (word 2 vs) w (at_if (eqb (word 0 vs) 1) (printed_retold site (word 2 vs) (bytes_at w.bytes (word 1 vs) (word 2 vs)) w) (record { same = refl }))
  external_retold s site Exit ts vs w = (record { same = refl })
  external_retold s site Abort ts vs w = (record { same = refl })
  external_retold s site LlvmMemcpy ts vs w = good_retold site (word 0 vs) (word 2 vs) w (good_retold site (word 1 vs) (word 2 vs) w (record { same = refl }))
  external_retold s site LlvmMemmove ts vs w = good_retold site (word 0 vs) (word 2 vs) w (good_retold site (word 1 vs) (word 2 vs) w (record { same = refl }))
  external_retold s site LlvmMemset ts vs w = good_retold site (word 0 vs) (word 2 vs) w (record { same = refl })
  external_retold s site LifetimeStart ts vs w = good_retold site (word 1 vs) (word 0 vs) w (record { same = refl })
  external_retold s site LifetimeEnd ts vs w = (record { same = refl })
  external_retold s site LlvmTrap ts vs w = (record { same = refl })
  external_retold s site LlvmAssume ts vs w = at_if (eqb (word 0 vs) 0) (record { same = refl }) (record { same = refl })
  external_retold s site LlvmObjectSize ts vs w = (record { same = refl })
  external_retold s site PthreadCreate ts vs w = at_if (leb fiber_limit (length w.threads + 1)) (record { same = refl }) (good_retold site (word 0 vs) 8 w (record { same = refl }))
  external_retold s site PthreadJoin ts vs w =
      at_if (eqb (join_answer w.turn (word 0 vs) w.threads) 0)
      (at_if (has_ended (thread_at (word 0 vs) w.threads)) (at_if (eqb (word 1 vs) 0) (record { same = refl }) (good_retold site (word 1 vs) 8 w (record { same = refl }))) (record { same = refl }))
      (record { same = refl })
  external_retold s site SchedYield ts vs w = (record { same = refl })
  external_retold s site Printf ts vs w = prints_retold site (formatted w ts vs) w
  external_retold s site (Word f n) ts vs w = gives_retold site (word_answer f (bits_of n) (word 0 vs) (word 1 vs) (word 2 vs)) w

  pub act_retold : (s : Setting) (h : Here) (o : Op) (vs : List ℕ) (w : World) → Retold (act s h o vs w) (act s h o vs (told w))
  act_retold s h (op.Binary o f t a b) vs w = gives_retold h.site (binary_of o f (width_of t) (word 0 vs) (word 1 vs)) w
  act_retold s h (op.Icmp p f t a b) vs w = gives_retold h.site (truth (compare_of p f (width_of t) (word 0 vs) (word 1 vs))) w
  act_retold s h (op.Cast o f t a u) vs w = gives_retold h.site (cast_of o f (width_of t) (word 0 vs) (width_of u)) w
  act_retold s h (op.Select c t a b) vs w = (record { same = refl })
  act_retold s h (op.Freeze t a) vs w = (record { same = refl })
  act_retold s h (op.Phi t es) vs w = (record { same = refl })
  act_retold s h (op.Alloca t u c) vs w = at_if (fits (local_area w) (size_in s.types t * word 0 vs) w) (record { same = refl }) (record { same = refl })
  act_retold s h (op.Load t a) vs w = at_if (is_good w (word 0 vs) (stored_size t)) (record { same = refl }) (record { same = refl })
  act_retold s h (op.Store t v a) vs w = at_if (is_good w (word 1 vs) (stored_size t)) (record { same = refl }) (record { same = refl })
  act_retold s h (op.Gep t a is) vs w = (record { same = refl })
  act_retold s h (op.Call r x as') vs w =
      at_option (s.func x) (λ f. (record { same = refl })) (at_option (external_named s.func x) (λ e. external_retold s h.site e (map (λ a. a.0) as') vs w) (record { same = refl }))
  act_retold s h (op.Br to) vs w = (record { same = refl })
  act_retold s h (op.CondBr c to other) vs w = (record { same = refl })
  act_retold s h (op.Switch t v other cases) vs w = (record { same = refl })
  act_retold s h (op.Ret v) vs w = at_if h.main (record { same = refl }) (record { same = refl })
  act_retold s h op.Unreachable vs w = (record { same = refl })

  -- ---- planes

  world_if : (t : Bool) (x y : World) → (if t then told x else told y) ≡ told (if t then x else y)
  world_if true x y = refl
  world_if false x y = refl

  abbrev told_chained : Chained → Chained
  told_chained c = record { id = c.id; world = told c.world }

  -- a chained origin, where it is known whether the old one is kept and which pair there is
  abbrev chained_by : Setting → (old site : ℕ) → World → Bool → Option ℕ → Chained
  chained_by s old site v t o =
      if t then record { id = old; world = v } else
      elim o as (λ z. Chained) [
        | Some k ↦ record { id = s.roots + 1 + k; world = v }
        | None ↦ record { id = s.roots + 1 + length v.pairs; world = record v { pairs = v.pairs ++ (old, site) ∷ [] } }
      ]

  chain_told : (s : Setting) (old site : ℕ) (w : World) → chain s old site (told w) ≡ told_chained (chain s old site w)
  chain_told s old site w = by_tests (keeps_old s w old) (pair_index w.pairs old site)
    where
      by_tests : (t : Bool) (o : Option ℕ) → chained_by s old site (told w) t o ≡ told_chained (chained_by s old site w t o)
      by_tests true o = refl
      by_tests false (Some k) = refl
      by_tests false None = refl

  cells_told : (n a mask origin : ℕ) (w : World) → mark_cells n a mask origin (told w) ≡ told (mark_cells n a mask origin w)
  cells_told zero a mask origin w = refl
  cells_told (suc n) a mask origin w = by_test (eqb (mask % 256) 0 || not (is_good w a 1)) (cells_told n (a + 1) (mask / 256) origin)
    where
      by_test : (t : Bool) → ((v : World) → mark_cells n (a + 1) (mask / 256) origin (told v) ≡ told (mark_cells n (a + 1) (mask / 256) origin v))
          → mark_cells n (a + 1) (mask / 256) origin (if t then told w else record (told w) { origins = with_cell w.origins a origin })
          ≡ told (mark_cells n (a + 1) (mask / 256) origin (if t then w else record w { origins = with_cell w.origins a origin }))
      by_test true rest = rest w
      by_test false rest = rest (record w { origins = with_cell w.origins a origin })

  store_told : (s : Setting) (a mask origin site : ℕ) (w : World) → store_origin s a mask origin site (told w) ≡ told (store_origin s a mask origin site w)
  store_told s a mask origin site w = by_test (eqb mask 0)
    where
      by_test : (t : Bool)
          → (if t then told w else mark_cells 8 a mask (chain s origin site (told w)).id (chain s origin site (told w)).world)
          ≡ told (if t then w else mark_cells 8 a mask (chain s origin site w).id (chain s origin site w).world)
      by_test true = refl
      by_test false =
          ap (λ (c : Chained). mark_cells 8 a mask c.id c.world) (chain_told s origin site w)
          ∙ cells_told 8 a mask (chain s origin site w).id (chain s origin site w).world

  poison_told : (a from to origin : ℕ) (w : World) → poison a from to origin (told w) ≡ told (poison a from to origin w)
  poison_told a from to origin w =
      let p = (a + from) % 2 ^ 64 in let n = to - from in
      world_if (ltb from to && is_good w p n) (set_cells p n origin (set_shadow p n (λ k. 255) w)) w

  unpoison_told : (a n : ℕ) (w : World) → unpoison a n (told w) ≡ told (unpoison a n w)
  unpoison_told a n w = world_if (is_good w a n) (set_shadow a n (λ k. 0) w) w

  copy_told : (to from n : ℕ) (w : World) → copy_planes to from n (told w) ≡ told (copy_planes to from n w)
  copy_told to from n w = world_if (is_good w to n && is_good w from n) (copy_shadow to from n w) w

  abbrev filled_by : (a n mask : ℕ) → Chained → World
  filled_by a n mask c = set_cells a n c.id (set_shadow a n (λ k. mask % 256) c.world)

  fill_told : (s : Setting) (a n mask origin site : ℕ) (w : World) → fill_planes s a n mask origin site (told w) ≡ told (fill_planes s a n mask origin site w)
  fill_told s a n mask origin site w = by_tests (not (is_good w a n)) (eqb (mask % 256) 0 || eqb n 0)
    where
      by_tests : (t u : Bool)
          → (if t then told w else if u then set_shadow a n (λ k. 0) (told w) else filled_by a n mask (chain s origin site (told w)))
          ≡ told (if t then w else if u then set_shadow a n (λ k. 0) w else filled_by a n mask (chain s origin site w))
      by_tests true u = refl
      by_tests false true = refl
      by_tests false false = ap (filled_by a n mask) (chain_told s origin site w)

  abbrev stored_by : Setting → (a id site : ℕ) → World → World
  stored_by s a id site v = store_origin s a (v.answer_masks id) (v.answer_origins id) site (set_shadow a 8 (byte_of (v.answer_masks id)) v)

  result_told : (s : Setting) (a id answer site : ℕ) (w : World) → thread_result s a id answer site (told w) ≡ told (thread_result s a id answer site w)
  result_told s a id answer site w = by_test (eqb answer 0 && not (eqb a 0) && is_good w a 8 && has_ended (thread_at id w.threads))
    where
      by_test : (t : Bool) → (if t then stored_by s a id site (told w) else told w) ≡ told (if t then stored_by s a id site w else w)
      by_test true = store_told s a (w.answer_masks id) (w.answer_origins id) site (set_shadow a 8 (byte_of (w.answer_masks id)) w)
      by_test false = refl

  pub blind_told : (mask : ℕ) (w : World) → count_blind mask (told w) ≡ told (count_blind mask w)
  blind_told mask w = world_if (eqb mask 0) w (record w { blind = w.blind + 1 })

  external_told : (s : Setting) (site root : ℕ) (e : External) (ps : List Poisoned) (before : World) (v : ℕ) (w : World)
      → external_planes s site root e ps (told before) v (told w) ≡ told (external_planes s site root e ps before v w)
  external_told s site root Malloc ps before v w = poison_told v 0 (word_at 0 ps).value root w
  external_told s site root Calloc ps before v w = refl
  external_told s site root Realloc ps before v w = poison_told v (unwrap_or (heap_size before (word_at 0 ps).value) 0) (word_at 1 ps).value root w
  external_told s site root Free ps before v w = refl
  external_told s site root Memcpy ps before v w = copy_told (word_at 0 ps).value (word_at 1 ps).value (word_at 2 ps).value w
  external_told s site root Memmove ps before v w = copy_told (word_at 0 ps).value (word_at 1 ps).value (word_at 2 ps).value w
  external_told s site root Memset ps before v w = fill_told s (word_at 0 ps).value (word_at 2 ps).value (word_at 1 ps).mask (word_at 1 ps).origin site w
  external_told s site root Memcmp ps before v w = refl
  external_told s site root Strlen ps before v w = refl
  external_told s site root Putchar ps before v w = refl
  external_told s site root Puts ps before v w = refl
  external_told s site root Getchar ps before v w = refl
  external_told s site root Read ps before v w = unpoison_told (word_at 1 ps).value v w
  external_told s site root Write ps before v w = refl
  external_told s site root Exit ps before v w = refl
  external_told s site root Abort ps before v w = refl
  external_told s site root LlvmMemcpy ps before v w = copy_told (word_at 0 ps).value (word_at 1 ps).value (word_at 2 ps).value w
  external_told s site root LlvmMemmove ps before v w = copy_told (word_at 0 ps).value (word_at 1 ps).value (word_at 2 ps).value w
  external_told s site root LlvmMemset ps before v w = fill_told s (word_at 0 ps).value (word_at 2 ps).value (word_at 1 ps).mask (word_at 1 ps).origin site w
  external_told s site root LifetimeStart ps before v w = poison_told (word_at 1 ps).value 0 (word_at 0 ps).value root w
  external_told s site root LifetimeEnd ps before v w = refl
  external_told s site root LlvmTrap ps before v w = refl
  external_told s site root LlvmAssume ps before v w = refl
  external_told s site root LlvmObjectSize ps before v w = refl
  external_told s site root PthreadCreate ps before v w = unpoison_told (word_at 0 ps).value (if eqb v 0 then 8 else 0) w
  external_told s site root PthreadJoin ps before v w = result_told s (word_at 1 ps).value (word_at 0 ps).value v site w
  external_told s site root SchedYield ps before v w = refl
  external_told s site root Printf ps before v w = refl
  external_told s site root (Word f n) ps before v w = refl

  callee_told : (s : Setting) (site root : ℕ) (e : Option External) (ps : List Poisoned) (before : World) (v : ℕ) (w : World)
      → callee_planes s site root e ps (told before) v (told w) ≡ told (callee_planes s site root e ps before v w)
  callee_told s site root None ps before v w = refl
  callee_told s site root (Some e) ps before v w = external_told s site root e ps before v w

  planes_told : (s : Setting) (site root : ℕ) (o : Op) (ps : List Poisoned) (before : World) (v : ℕ) (w : World)
      → planes s site root o ps (told before) v (told w) ≡ told (planes s site root o ps before v w)
  planes_told s site root (op.Alloca t u c) ps before v w = poison_told v 0 (size_in s.types t * (word_at 0 ps).value) root w
  planes_told s site root (op.Store t x a) ps before v w =
      store_told s (word_at 1 ps).value (word_at 0 ps).mask (word_at 0 ps).origin site (set_shadow (word_at 1 ps).value (stored_size t) (byte_of (word_at 0 ps).mask) w)
  planes_told s site root (op.Call r x args) ps before v w = callee_told s site root (external_named s.func x) ps before v w
  planes_told s site root _ ps before v w = refl

  -- ---- results and frames

  mask_told : (d : Rules) (o : Op) (ps : List Poisoned) (w : World) → result_mask d o ps (told w) ≡ result_mask d o ps w
  mask_told d (op.Binary o f t a b) ps w = refl
  mask_told d (op.Icmp o f t a b) ps w = refl
  mask_told d (op.Cast o f t a u) ps w = refl
  mask_told d (op.Select c t a b) ps w = refl
  mask_told d (op.Load t a) ps w = refl
  mask_told d (op.Gep t a is) ps w = refl
  mask_told d (op.Call ret callee args) ps w = refl
  mask_told d _ ps w = refl

  origin_told : (o : Op) (ps : List Poisoned) (m : ℕ) (w : World) → result_origin o ps m (told w) ≡ result_origin o ps m w
  origin_told (op.Binary o f t a b) ps m w = refl
  origin_told (op.Icmp o f t a b) ps m w = refl
  origin_told (op.Cast o f t a u) ps m w = refl
  origin_told (op.Select c t a b) ps m w = refl
  origin_told (op.Load t a) ps m w = refl
  origin_told (op.Gep t a is) ps m w = refl
  origin_told (op.Call ret callee args) ps m w = refl
  origin_told _ ps m w = refl

  poisoned_told : (d : Rules) (o : Op) (ps : List Poisoned) (v : ℕ) (w : World) → poisoned_result d o ps v (told w) ≡ poisoned_result d o ps v w
  poisoned_told d o ps v w = λ i. record { value = v; mask = mask_told d o ps w i; origin = (ap (λ m. result_origin o ps m (told w)) (mask_told d o ps w) ∙ origin_told o ps (result_mask d o ps w) w) i }

  abbrev pub told_outcome : Outcome Poisoned → Outcome Poisoned
  told_outcome (On fs w) = On fs (told w)
  told_outcome (Over e w) = Over e (told w)

  ended_told : (bases : List ℕ) (w : World) → end_blocks bases (told w) ≡ told (end_blocks bases w)
  ended_told [] w = refl
  ended_told (a ∷ rest) w = ended_told rest (end_block a w)

  back_told : (frame : Frame Poisoned) (w : World) → given_back frame (told w) ≡ told (given_back frame w)
  back_told frame w = by_mark (eqb frame.mark 0)
    where
      by_mark : (t : Bool) → end_blocks frame.heap (if t then told w else release frame.mark (told w)) ≡ told (end_blocks frame.heap (if t then w else release frame.mark w))
      by_mark true = ended_told frame.heap w
      by_mark false = ended_told frame.heap (release frame.mark w)

  keeping_told : (o : Op) (e : Effect) (frame : Frame Poisoned) → keeping o (told_effect e) frame ≡ keeping o e frame
  keeping_told o (Gives v w) frame = refl
  keeping_told o (Does w) frame = refl
  keeping_told o (Goes x w) frame = refl
  keeping_told o (Enters f w) frame = refl
  keeping_told o (Leaves w) frame = refl
  keeping_told o (Ends e w) frame = refl

  module _ (d : Rules) (s : Setting) (m : Module) where
    moved_told : (site root : ℕ) (x : Option Name) (o : Op) (ps : List Poisoned) (before : World) (frame : Frame Poisoned) (below : List (Frame Poisoned)) (e : Effect)
        → after_effect shadow_reading s m site x ps (poisoned_result d o ps) (planes s site root o ps (told before)) frame below (told_effect e)
        ≡ told_outcome (after_effect shadow_reading s m site x ps (poisoned_result d o ps) (planes s site root o ps before) frame below e)
    moved_told site root None o ps before frame below (Gives v w) = ap (On (one_on frame ∷ below)) (planes_told s site root o ps before v w)
    moved_told site root (Some y) o ps before frame below (Gives v w) = ap₂ (λ (p : Poisoned) (u : World). On (put frame (Some y) p ∷ below) u) (poisoned_told d o ps v w) (planes_told s site root o ps before v w)
    moved_told site root x o ps before frame below (Does w) = ap (On (one_on frame ∷ below)) (planes_told s site root o ps before 0 w)
    moved_told site root x o ps before frame below (Goes to w) = refl
    moved_told site root x o ps before frame below (Enters f w) = by_depth (leb frame_limit (length below + 1))
      where
        by_depth : (t : Bool)
            → (if t then Over («end».Trap trap.Depth site) (told w) else On (entered shadow_reading m f ps (told w) ∷ frame ∷ below) (told w))
            ≡ told_outcome (if t then Over («end».Trap trap.Depth site) w else On (entered shadow_reading m f ps w ∷ frame ∷ below) w)
        by_depth true = refl
        by_depth false = refl
    moved_told site root x o ps before frame [] (Leaves w) = refl
    moved_told site root x o ps before frame (caller ∷ below) (Leaves w) = ap (On (put caller (result_at m caller) (get_or ps 0 clean) ∷ below)) (back_told frame w)
    moved_told site root x o ps before frame below (Ends e w) = refl

    -- an instruction does the same with other reports
    pub shadow_act_told : (i : Inst) (h : Here) (ps : List Poisoned) (frame : Frame Poisoned) (below : List (Frame Poisoned)) (w : World)
        → shadow_act d s m i h ps frame below (told w) ≡ told_outcome (shadow_act d s m i h ps frame below w)
    shadow_act_told i h ps frame below w =
        let vs = map (λ p. p.value) ps in
        let root = h.root + count_undefs (operands i.op) + 1 in
        ap (λ (e : Effect). after_effect shadow_reading s m h.site i.result ps (poisoned_result d i.op ps) (planes s h.site root i.op ps (told w)) (keeping i.op e frame) below e) (act_retold s h i.op vs w).same
        ∙ ap (λ (f : Frame Poisoned). after_effect shadow_reading s m h.site i.result ps (poisoned_result d i.op ps) (planes s h.site root i.op ps (told w)) f below (told_effect (act s h i.op vs w))) (keeping_told i.op (act s h i.op vs w) frame)
        ∙ moved_told h.site root i.result i.op ps w (keeping i.op (act s h i.op vs w) frame) below (act s h i.op vs w)
