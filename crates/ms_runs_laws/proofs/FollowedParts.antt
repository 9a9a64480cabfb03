-- What the plain part of a step looks at: nothing of origins, pairs, reports and the blind count.
use Rattle.std.proofs.Common.{◌≡◌, ℕ, ◌+◌, ◌*◌, ◌%◌, ◌^◌, List, [], ◌∷◌, ◌++◌, Bool, true, false, Option, Some, None, Result, Ok, Err, refl}
use Rattle.std.specs.Prelude.{if◌then◌else◌, eqb, leb, ltb, length, map, ◌&&◌, is_some}
use Rattle.ms_bits.specs.declared.traps.Trap.{Trap}
use Rattle.ms_ir.specs.declared.syntax.Ty.{Ty}
use Rattle.ms_ir.specs.declared.syntax.Op.{Op}
use Rattle.ms_ir.specs.declared.syntax.Op.TheVariants as op
use Rattle.ms_ir.specs.declared.calls.External.{External}
use Rattle.ms_ir.specs.declared.calls.External.TheVariants.{Malloc, Calloc, Realloc, Free, Memcpy, Memmove, Memset, Memcmp, Strlen, Putchar, Puts, Getchar, Read, Write, Exit, Abort, LlvmMemcpy, LlvmMemmove, LlvmMemset, LifetimeStart, LifetimeEnd, Printf, LlvmTrap, LlvmAssume, LlvmObjectSize, PthreadCreate, PthreadJoin, SchedYield, Word}
use Rattle.ms_bits.specs.WordFunctions.{bits_of, word_answer}
use Rattle.ms_ir.specs.Areas.{Heap}
use Rattle.ms_runs.specs.World.{World, Setting, Here, Effect, Gives, Does, Goes, Enters, Leaves, Ends, word, gives}
use Rattle.ms_ir.specs.Layout.{width_of, stored_size, size_in}
use Rattle.ms_bits.specs.Arithmetic.{binary_of}
use Rattle.ms_bits.specs.Conversions.{compare_of, cast_of}
use Rattle.ms_runs.specs.Memory.{local_area, fits, is_good, heap_size}
use Rattle.ms_runs.specs.Threads.{fiber_limit, thread_at, has_ended, join_answer}
use Rattle.ms_bits.specs.Maps.{bytes_at}
use Rattle.ms_ir.specs.Instructions.{external_named}
use Rattle.ms_runs.specs.Externals.{external, malloc, reallocated, where_good, string_at, printed, next_byte, formatted, prints}
use Rattle.ms_runs.specs.Act.{act, truth}
use Rattle.ms_runs_laws.specs.Follows.{light}

abbrev pub light_effect : Effect → Effect
light_effect (Gives v w) = Gives v (light w)
light_effect (Does w) = Does (light w)
light_effect (Goes x w) = Goes x (light w)
light_effect (Enters f w) = Enters f (light w)
light_effect (Leaves w) = Leaves (light w)
light_effect (Ends e w) = Ends e (light w)

-- two effects that look the same
pub record Alike (x y : Effect) : Type 0 where
  pub same : light_effect x ≡ light_effect y

at_if : (t : Bool) {x x' y y' : Effect} → Alike x x' → Alike y y' → Alike (if t then x else y) (if t then x' else y')
at_if true p q = p
at_if false p q = q

at_option : {A : Type 0} (o : Option A) {f f' : A → Effect} {y y' : Effect} → ((a : A) → Alike (f a) (f' a)) → Alike y y'
    → Alike (elim o [ Some a ↦ f a | None ↦ y ]) (elim o [ Some a ↦ f' a | None ↦ y' ])
at_option (Some a) p q = p a
at_option None p q = q

light_gives : (site : ℕ) (r : Result ℕ Trap) (w : World) → Alike (gives site r w) (gives site r (light w))
light_gives site (Ok v) w = (record { same = refl })
light_gives site (Err t) w = (record { same = refl })

light_malloc : (fill : List ℕ) (n : ℕ) (w : World) → Alike (malloc fill n w) (malloc fill n (light w))
light_malloc fill n w = at_if (fits Heap n w) (record { same = refl }) (record { same = refl })

light_moved : (fill : List ℕ) (p old n : ℕ) (w : World) → Alike (reallocated fill p old n w) (reallocated fill p old n (light w))
light_moved fill p old n w = at_if (fits Heap n w) (record { same = refl }) (record { same = refl })

light_good : (site a n : ℕ) (w : World) {x x' : Effect} → Alike x x' → Alike (where_good site a n w x) (where_good site a n (light w) x')
light_good site a n w p = at_if (is_good w a n) p (record { same = refl })

light_printed : (site v : ℕ) (bs : List ℕ) (w : World) → Alike (printed site bs (Gives v) w) (printed site bs (Gives v) (light w))
light_printed site v bs w = at_if (leb (length w.output + length bs) 1048576) (record { same = refl }) (record { same = refl })

light_next : (bs : List ℕ) (w : World) → Alike (next_byte bs w) (next_byte bs (light w))
light_next [] w = (record { same = refl })
light_next (b ∷ bs) w = (record { same = refl })

light_prints : (site : ℕ) (r : Result (List ℕ) Trap) (w : World) → Alike (prints site r w) (prints site r (light w))
light_prints site (Ok bs) w = light_printed site (length bs) bs w
light_prints site (Err t) w = (record { same = refl })

light_external : (s : Setting) (site : ℕ) (e : External) (ts : List Ty) (vs : List ℕ) (w : World) → Alike (external s site e ts vs w) (external s site e ts vs (light w))
light_external s site Malloc ts vs w = light_malloc s.fill (word 0 vs) w
light_external s site Calloc ts vs w = at_if (ltb (word 0 vs * word 1 vs) (2 ^ 64) && fits Heap (word 0 vs * word 1 vs) w) (record { same = refl }) (record { same = refl })
light_external s site Realloc ts vs w =
    at_if (eqb (word 0 vs) 0) (light_malloc s.fill (word 1 vs) w) (at_option (heap_size w (word 0 vs)) (λ old. light_moved s.fill (word 0 vs) old (word 1 vs) w) (record { same = refl }))
light_external s site Free ts vs w = at_if (eqb (word 0 vs) 0) (record { same = refl }) (at_if (is_some (heap_size w (word 0 vs))) (record { same = refl }) (record { same = refl }))
light_external s site Memcpy ts vs w = light_good site (word 0 vs) (word 2 vs) w (light_good site (word 1 vs) (word 2 vs) w (record { same = refl }))
light_external s site Memmove ts vs w = light_good site (word 0 vs) (word 2 vs) w (light_good site (word 1 vs) (word 2 vs) w (record { same = refl }))
light_external s site Memset ts vs w = light_good site (word 0 vs) (word 2 vs) w (record { same = refl })
light_external s site Memcmp ts vs w = light_good site (word 0 vs) (word 2 vs) w (light_good site (word 1 vs) (word 2 vs) w (record { same = refl }))
light_external s site Strlen ts vs w = at_option (string_at w (word 0 vs)) (λ bs. (record { same = refl })) (record { same = refl })
light_external s site Putchar ts vs w = light_printed site (word 0 vs % 256) (word 0 vs % 256 ∷ []) w
light_external s site Puts ts vs w = at_option (string_at w (word 0 vs)) (λ bs. light_printed site 1 (bs ++ 10 ∷ []) w) (record { same = refl })
light_external s site Getchar ts vs w = light_next w.input w
light_external s site Read ts vs w = light_good site (word 1 vs) (word 2 vs) w (at_if (eqb (word 0 vs) 0) (record { same = refl }) (record { same = refl }))
light_external s site Write ts vs w = light_good site (word 1 vs) (word 2 vs) w (at_if (eqb (word 0 vs) 1) (light_printed site (word 2 vs) (bytes_at w.bytes (word 1 vs) (word 2 vs)) w) (record { same = refl }))
light_external s site Exit ts vs w = (record { same = refl })
light_external s site Abort ts vs w = (record { same = refl })
light_external s site LlvmMemcpy ts vs w = light_good site (word 0 vs) (word 2 vs) w (light_good site (word 1 vs) (word 2 vs) w (record { same = refl }))
light_external s site LlvmMemmove ts vs w = light_good site (word 0 vs) (word 2 vs) w (light_good site (word 1 vs) (word 2 vs) w (record { same = refl }))
light_external s site LlvmMemset ts vs w = light_good site (word 0 vs) (word 2 vs) w (record { same = refl })
light_external s site LifetimeStart ts vs w = light_good site (word 1 vs) (word 0 vs) w (record { same = refl })
light_external s site LifetimeEnd ts vs w = (record { same = refl })
light_external s site LlvmTrap ts vs w = (record { same = refl })
light_external s site LlvmAssume ts vs w = at_if (eqb (word 0 vs) 0) (record { same = refl }) (record { same = refl })
light_external s site LlvmObjectSize ts vs w = (record { same = refl })
light_external s site PthreadCreate ts vs w = at_if (leb fiber_limit (length w.threads + 1)) (record { same = refl }) (light_good site (word 0 vs) 8 w (record { same = refl }))
light_external s site PthreadJoin ts vs w =
    at_if (eqb (join_answer w.turn (word 0 vs) w.threads) 0)
    (at_if (has_ended (thread_at (word 0 vs) w.threads)) (at_if (eqb (word 1 vs) 0) (record { same = refl }) (light_good site (word 1 vs) 8 w (record { same = refl }))) (record { same = refl }))
    (record { same = refl })
light_external s site SchedYield ts vs w = (record { same = refl })
light_external s site Printf ts vs w = light_prints site (formatted w ts vs) w
light_external s site (Word f n) ts vs w = light_gives site (word_answer f (bits_of n) (word 0 vs) (word 1 vs) (word 2 vs)) w

pub light_act : (s : Setting) (h : Here) (o : Op) (vs : List ℕ) (w : World) → Alike (act s h o vs w) (act s h o vs (light w))
light_act s h (op.Binary o f t a b) vs w = light_gives h.site (binary_of o f (width_of t) (word 0 vs) (word 1 vs)) w
light_act s h (op.Icmp p f t a b) vs w = light_gives h.site (truth (compare_of p f (width_of t) (word 0 vs) (word 1 vs))) w
light_act s h (op.Cast o f t a u) vs w = light_gives h.site (cast_of o f (width_of t) (word 0 vs) (width_of u)) w
light_act s h (op.Select c t a b) vs w = (record { same = refl })
light_act s h (op.Freeze t a) vs w = (record { same = refl })
light_act s h (op.Phi t es) vs w = (record { same = refl })
light_act s h (op.Alloca t u c) vs w = at_if (fits (local_area w) (size_in s.types t * word 0 vs) w) (record { same = refl }) (record { same = refl })
light_act s h (op.Load t a) vs w = at_if (is_good w (word 0 vs) (stored_size t)) (record { same = refl }) (record { same = refl })
light_act s h (op.Store t v a) vs w = at_if (is_good w (word 1 vs) (stored_size t)) (record { same = refl }) (record { same = refl })
light_act s h (op.Gep t a is) vs w = (record { same = refl })
light_act s h (op.Call r x as') vs w =
    at_option (s.func x) (λ f. (record { same = refl })) (at_option (external_named s.func x) (λ e. light_external s h.site e (map (λ a. a.0) as') vs w) (record { same = refl }))
light_act s h (op.Br to) vs w = (record { same = refl })
light_act s h (op.CondBr c to other) vs w = (record { same = refl })
light_act s h (op.Switch t v other cases) vs w = (record { same = refl })
light_act s h (op.Ret v) vs w = at_if h.main (record { same = refl }) (record { same = refl })
light_act s h op.Unreachable vs w = (record { same = refl })
