-- A step of the plain run only adds to the output.
use Rattle.std.proofs.Common.{◌≡◌, ℕ, zero, suc, ◌+◌, ◌*◌, ◌%◌, ◌^◌, List, [], ◌∷◌, ◌++◌, Bool, true, false, Option, Some, None, Result, Ok, Err, refl, sym, ap, ◌∙◌, subst, append_assoc}
use Rattle.std.specs.Prelude.{if◌then◌else◌, eqb, leb, ltb, length, map, ◌&&◌, is_some}
use Rattle.ms_bits.specs.declared.traps.Trap.{Trap}
use Rattle.ms_bits.specs.declared.traps.Trap.TheVariants.{Depth}
use Rattle.ms_ir.specs.declared.syntax.Name.{Name}
use Rattle.ms_ir.specs.declared.syntax.Ty.{Ty}
use Rattle.ms_ir.specs.declared.syntax.Op.{Op}
use Rattle.ms_ir.specs.declared.syntax.Op.TheVariants as op
use Rattle.ms_ir.specs.declared.syntax.Inst.{Inst}
use Rattle.ms_ir.specs.declared.syntax.Module.{Module}
use Rattle.ms_runs.specs.Threads.{fiber_limit, thread_at, has_ended, join_answer}
use Rattle.ms_runs.specs.declared.runs.End.TheVariants as «end»
use Rattle.ms_ir.specs.declared.calls.External.{External}
use Rattle.ms_ir.specs.declared.calls.External.TheVariants.{Malloc, Calloc, Realloc, Free, Memcpy, Memmove, Memset, Memcmp, Strlen, Putchar, Puts, Getchar, Read, Write, Exit, Abort, LlvmMemcpy, LlvmMemmove, LlvmMemset, LifetimeStart, LifetimeEnd, Printf, LlvmTrap, LlvmAssume, LlvmObjectSize, PthreadCreate, PthreadJoin, SchedYield, Word}
use Rattle.ms_ir.specs.Areas.{Heap}
use Rattle.ms_runs.specs.World.{World, Setting, Here, Effect, Gives, Does, Goes, Enters, Leaves, Ends, word, gives}
use Rattle.ms_ir.specs.Layout.{width_of, stored_size, size_in}
use Rattle.ms_bits.specs.WordFunctions.{bits_of, word_answer}
use Rattle.ms_bits.specs.Arithmetic.{binary_of}
use Rattle.ms_bits.specs.Conversions.{compare_of, cast_of}
use Rattle.ms_runs.specs.Memory.{end_block, end_blocks, local_area, fits, is_good, heap_size}
use Rattle.ms_bits.specs.Maps.{bytes_at}
use Rattle.ms_ir.specs.Instructions.{operands, external_named, HeadUnmarked, NoMarks}
use Rattle.ms_runs.specs.Control.{Frame, Outcome, On, Over, here, rest_of, read_all, entered, left, release, given_back, keeping, after_effect}
use Rattle.ms_runs.specs.Externals.{external, malloc, reallocated, where_good, string_at, printed, next_byte, formatted, prints}
use Rattle.ms_runs.specs.Act.{plain_reading, act, truth}
use Rattle.ms_runs.specs.Plain.{act_marked, slots_after, PlainState, Stepped, More, Stop, and_then, plain_state, through, plain_step, go_on, run}
use Rattle.ms_runs.specs.Faithful.{Prefix}

pub nothing_more : (a : List ℕ) → a ≡ a ++ []
nothing_more [] = refl
nothing_more (x ∷ a) = ap (λ b. x ∷ b) (nothing_more a)

pub whole : (a : List ℕ) → Prefix a a
whole a = record { rest = []; is = nothing_more a }

pub joined : {a b c : List ℕ} → Prefix a b → Prefix b c → Prefix a c
joined {a} p q = record { rest = p.rest ++ q.rest; is = q.is ∙ ap (λ x. x ++ q.rest) p.is ∙ append_assoc a p.rest q.rest }

abbrev world_of : Effect → World
world_of (Gives v w) = w
world_of (Does w) = w
world_of (Goes x w) = w
world_of (Enters f w) = w
world_of (Leaves w) = w
world_of (Ends e w) = w

-- an effect whose output begins with o
record Adds (o : List ℕ) (e : Effect) : Type 0 where
  more : Prefix o (world_of e).output

adds_if : {o : List ℕ} (t : Bool) {x y : Effect} → Adds o x → Adds o y → Adds o (if t then x else y)
adds_if true p q = p
adds_if false p q = q

adds_option : {o : List ℕ} {A : Type 0} (a : Option A) {f : A → Effect} {y : Effect} → ((x : A) → Adds o (f x)) → Adds o y → Adds o (elim a as (λ z. Effect) [ Some x ↦ f x | None ↦ y ])
adds_option (Some x) p q = p x
adds_option None p q = q

adds_gives : (site : ℕ) (r : Result ℕ Trap) (w : World) → Adds w.output (gives site r w)
adds_gives site (Ok v) w = record { more = whole _ }
adds_gives site (Err t) w = record { more = whole _ }

adds_good : (site a n : ℕ) (w : World) {x : Effect} → Adds w.output x → Adds w.output (where_good site a n w x)
adds_good site a n w p = adds_if (is_good w a n) p (record { more = whole _ })

adds_malloc : (fill : List ℕ) (n : ℕ) (w : World) → Adds w.output (malloc fill n w)
adds_malloc fill n w = adds_if (fits Heap n w) (record { more = whole _ }) (record { more = whole _ })

adds_moved : (fill : List ℕ) (p old n : ℕ) (w : World) → Adds w.output (reallocated fill p old n w)
adds_moved fill p old n w = adds_if (fits Heap n w) (record { more = whole _ }) (record { more = whole _ })

adds_printed : (site v : ℕ) (bs : List ℕ) (w : World) → Adds w.output (printed site bs (Gives v) w)
adds_printed site v bs w = adds_if (leb (length w.output + length bs) 1048576) (record { more = record { rest = bs; is = refl } }) (record { more = whole _ })

adds_next : (bs : List ℕ) (w : World) → Adds w.output (next_byte bs w)
adds_next [] w = record { more = whole _ }
adds_next (b ∷ bs) w = record { more = whole _ }

adds_prints : (site : ℕ) (r : Result (List ℕ) Trap) (w : World) → Adds w.output (prints site r w)
adds_prints site (Ok bs) w = adds_printed site (length bs) bs w
adds_prints site (Err t) w = record { more = whole _ }

adds_external : (s : Setting) (site : ℕ) (e : External) (ts : List Ty) (vs : List ℕ) (w : World) → Adds w.output (external s site e ts vs w)
adds_external s site Malloc ts vs w = adds_malloc s.fill (word 0 vs) w
adds_external s site Calloc ts vs w = adds_if (ltb (word 0 vs * word 1 vs) (2 ^ 64) && fits Heap (word 0 vs * word 1 vs) w) (record { more = whole _ }) (record { more = whole _ })
adds_external s site Realloc ts vs w =
    adds_if (eqb (word 0 vs) 0) (adds_malloc s.fill (word 1 vs) w) (adds_option (heap_size w (word 0 vs)) (λ old. adds_moved s.fill (word 0 vs) old (word 1 vs) w) (record { more = whole _ }))
adds_external s site Free ts vs w = adds_if (eqb (word 0 vs) 0) (record { more = whole _ }) (adds_if (is_some (heap_size w (word 0 vs))) (record { more = whole _ }) (record { more = whole _ }))
adds_external s site Memcpy ts vs w = adds_good site (word 0 vs) (word 2 vs) w (adds_good site (word 1 vs) (word 2 vs) w (record { more = whole _ }))
adds_external s site Memmove ts vs w = adds_good site (word 0 vs) (word 2 vs) w (adds_good site (word 1 vs) (word 2 vs) w (record { more = whole _ }))
adds_external s site Memset ts vs w = adds_good site (word 0 vs) (word 2 vs) w (record { more = whole _ })
adds_external s site Memcmp ts vs w = adds_good site (word 0 vs) (word 2 vs) w (adds_good site (word 1 vs) (word 2 vs) w (record { more = whole _ }))
adds_external s site Strlen ts vs w = adds_option (string_at w (word 0 vs)) (λ bs. record { more = whole _ }) (record { more = whole _ })
adds_external s site Putchar ts vs w = adds_printed site (word 0 vs % 256) (word 0 vs % 256 ∷ []) w
adds_external s site Puts ts vs w = adds_option (string_at w (word 0 vs)) (λ bs. adds_printed site 1 (bs ++ 10 ∷ []) w) (record { more = whole _ })
adds_external s site Getchar ts vs w = adds_next w.input w
adds_external s site Read ts vs w = adds_good site (word 1 vs) (word 2 vs) w (adds_if (eqb (word 0 vs) 0) (record { more = whole _ }) (record { more = whole _ }))
adds_external s site Write ts vs w =
    adds_good site (word 1 vs) (word 2 vs) w (adds_if (eqb (word 0 vs) 1) (adds_printed site (word 2 vs) (bytes_at w.bytes (word 1 vs) (word 2 vs)) w) (record { more = whole _ }))
adds_external s site Exit ts vs w = record { more = whole _ }
adds_external s site Abort ts vs w = record { more = whole _ }
adds_external s site LlvmMemcpy ts vs w = adds_good site (word 0 vs) (word 2 vs) w (adds_good site (word 1 vs) (word 2 vs) w (record { more = whole _ }))
adds_external s site LlvmMemmove ts vs w = adds_good site (word 0 vs) (word 2 vs) w (adds_good site (word 1 vs) (word 2 vs) w (record { more = whole _ }))
adds_external s site LlvmMemset ts vs w = adds_good site (word 0 vs) (word 2 vs) w (record { more = whole _ })
adds_external s site LifetimeStart ts vs w = adds_good site (word 1 vs) (word 0 vs) w (record { more = whole _ })
adds_external s site LifetimeEnd ts vs w = record { more = whole _ }
adds_external s site LlvmTrap ts vs w = record { more = whole _ }
adds_external s site LlvmAssume ts vs w = adds_if (eqb (word 0 vs) 0) (record { more = whole _ }) (record { more = whole _ })
adds_external s site LlvmObjectSize ts vs w = record { more = whole _ }
adds_external s site PthreadCreate ts vs w = adds_if (leb fiber_limit (length w.threads + 1)) (record { more = whole _ }) (adds_good site (word 0 vs) 8 w (record { more = whole _ }))
adds_external s site PthreadJoin ts vs w =
    adds_if (eqb (join_answer w.turn (word 0 vs) w.threads) 0)
    (adds_if (has_ended (thread_at (word 0 vs) w.threads)) (adds_if (eqb (word 1 vs) 0) (record { more = whole _ }) (adds_good site (word 1 vs) 8 w (record { more = whole _ }))) (record { more = whole _ }))
    (record { more = whole _ })
adds_external s site SchedYield ts vs w = record { more = whole _ }
adds_external s site Printf ts vs w = adds_prints site (formatted w ts vs) w
adds_external s site (Word f n) ts vs w = adds_gives site (word_answer f (bits_of n) (word 0 vs) (word 1 vs) (word 2 vs)) w

adds_act : (s : Setting) (h : Here) (o : Op) (vs : List ℕ) (w : World) → Adds w.output (act s h o vs w)
adds_act s h (op.Binary o f t a b) vs w = adds_gives h.site (binary_of o f (width_of t) (word 0 vs) (word 1 vs)) w
adds_act s h (op.Icmp p f t a b) vs w = adds_gives h.site (truth (compare_of p f (width_of t) (word 0 vs) (word 1 vs))) w
adds_act s h (op.Cast o f t a u) vs w = adds_gives h.site (cast_of o f (width_of t) (word 0 vs) (width_of u)) w
adds_act s h (op.Select c t a b) vs w = record { more = whole _ }
adds_act s h (op.Freeze t a) vs w = record { more = whole _ }
adds_act s h (op.Phi t es) vs w = record { more = whole _ }
adds_act s h (op.Alloca t u c) vs w = adds_if (fits (local_area w) (size_in s.types t * word 0 vs) w) (record { more = whole _ }) (record { more = whole _ })
adds_act s h (op.Load t a) vs w = adds_if (is_good w (word 0 vs) (stored_size t)) (record { more = whole _ }) (record { more = whole _ })
adds_act s h (op.Store t v a) vs w = adds_if (is_good w (word 1 vs) (stored_size t)) (record { more = whole _ }) (record { more = whole _ })
adds_act s h (op.Gep t a is) vs w = record { more = whole _ }
adds_act s h (op.Call r x as') vs w =
    adds_option (s.func x) (λ f. record { more = whole _ }) (adds_option (external_named s.func x) (λ e. adds_external s h.site e (map (λ a. a.0) as') vs w) (record { more = whole _ }))
adds_act s h (op.Br to) vs w = record { more = whole _ }
adds_act s h (op.CondBr c to other) vs w = record { more = whole _ }
adds_act s h (op.Switch t v other cases) vs w = record { more = whole _ }
adds_act s h (op.Ret v) vs w = adds_if h.main (record { more = whole _ }) (record { more = whole _ })
adds_act s h op.Unreachable vs w = record { more = whole _ }

-- ---- a step, and a run

abbrev moved_world : Outcome ℕ → World
moved_world (On fs w) = w
moved_world (Over e w) = w

ends_output : (l : List ℕ) (w : World) → (end_blocks l w).output ≡ w.output
ends_output [] w = refl
ends_output (a ∷ l) w = ends_output l (end_block a w)

pub given_output : {V : Type 0} (fr : Frame V) (w : World) → (given_back fr w).output ≡ w.output
given_output fr w = ends_output fr.heap (if eqb fr.mark 0 then w else release fr.mark w) ∙ by_mark (eqb fr.mark 0)
  where
    by_mark : (b : Bool) → (if b then w else release fr.mark w).output ≡ w.output
    by_mark true = refl
    by_mark false = refl

left_same : (m : Module) (vs : List ℕ) (fr : Frame ℕ) (below : List (Frame ℕ)) (w : World) → (moved_world (left plain_reading m vs fr below w)).output ≡ w.output
left_same m vs fr [] w = refl
left_same m vs fr (caller ∷ below) w = given_output fr w

over_or_on : (t : Bool) (f : ℕ) (site : ℕ) (fs : List (Frame ℕ)) (w : World) → (moved_world (if t then Over («end».Trap Depth site) w else On fs w)).output ≡ w.output
over_or_on true f site fs w = refl
over_or_on false f site fs w = refl

moves_same : (s : Setting) (m : Module) (site : ℕ) (x : Option Name) (vs : List ℕ) (fr : Frame ℕ) (below : List (Frame ℕ)) (e : Effect)
    → (moved_world (after_effect plain_reading s m site x vs (λ v w. v) (λ v w. w) fr below e)).output ≡ (world_of e).output
moves_same s m site x vs fr below (Gives v w) = refl
moves_same s m site x vs fr below (Does w) = refl
moves_same s m site x vs fr below (Goes to w) = refl
moves_same s m site x vs fr below (Enters f w) = over_or_on (leb 1024 (length below + 1)) f site (entered plain_reading m f vs w ∷ fr ∷ below) w
moves_same s m site x vs fr below (Leaves w) = left_same m vs fr below w
moves_same s m site x vs fr below (Ends e w) = refl

abbrev pub step_world : Stepped PlainState → World
step_world (More c) = c.world
step_world (Stop e w) = w

moved_step : (cells : ℕ → ℕ) (p : Outcome ℕ) → step_world (and_then (plain_state cells p) More) ≡ moved_world p
moved_step cells (On fs w) = refl
moved_step cells (Over e w) = refl

through_adds : (s : Setting) (m : Module) (is : List Inst) (fr : Frame ℕ) (below : List (Frame ℕ)) (cells : ℕ → ℕ) (w : World) → HeadUnmarked is
    → Prefix w.output (step_world (through s m is (record { frames = fr ∷ below; slots = cells; world = w }))).output
through_adds s m [] fr below cells w k = whole _
through_adds s m (i ∷ is) fr below cells w k =
    subst (λ b. Prefix w.output (step_world (and_then (plain_state (if b then slots_after i.op vs cells else cells)
    (after_effect plain_reading s m h.site i.result vs (λ x y. x) (λ x y. y) (keeping i.op (if b then act_marked s h i.op vs cells w else act s h i.op vs w) fr) below (if b then act_marked s h i.op vs cells w else act s h i.op vs w)))
    (if b then through s m is else More))).output)
    (sym k)
    (subst (Prefix w.output) (sym (ap (λ u. u.output) (moved_step cells (after_effect plain_reading s m h.site i.result vs (λ x y. x) (λ x y. y) (keeping i.op (act s h i.op vs w) fr) below (act s h i.op vs w)))
    ∙ moves_same s m h.site i.result vs (keeping i.op (act s h i.op vs w) fr) below (act s h i.op vs w))) (adds_act s h i.op vs w).more)
  where
    h : Here
    h = here s m fr

    vs : List ℕ
    vs = read_all (plain_reading.read s fr.values) (operands i.op) (here s m fr).root

pub step_adds : (s : Setting) (m : Module) → NoMarks m → (fs : List (Frame ℕ)) (cells : ℕ → ℕ) (w : World) → Prefix w.output (step_world (plain_step s m (record { frames = fs; slots = cells; world = w }))).output
step_adds s m k [] cells w = whole _
step_adds s m k (fr ∷ below) cells w = through_adds s m (rest_of m fr) fr below cells w (k fr.func fr.block fr.place)

pub run_adds : (s : Setting) (m : Module) → NoMarks m → (n : ℕ) (p : PlainState) → Prefix p.world.output (run (λ c. c.world) (plain_step s m) n p).output
run_adds s m k zero p = whole _
run_adds s m k (suc n) p = joined (step_adds s m k p.frames p.slots p.world) (rest (plain_step s m p) (λ x. run_adds s m k n x))
  where
    rest : (x : Stepped PlainState) → ((c : PlainState) → Prefix c.world.output (run (λ c'. c'.world) (plain_step s m) n c).output)
        → Prefix (step_world x).output (go_on (run (λ c. c.world) (plain_step s m) n) x).output
    rest (More c) h = h c
    rest (Stop e w) h = whole _
