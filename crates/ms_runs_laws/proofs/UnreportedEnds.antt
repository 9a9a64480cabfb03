-- Instructions themselves never end a run as reported.
use Rattle.std.proofs.Common.{◌≡◌, ℕ, ◌+◌, ◌*◌, ◌%◌, ◌^◌, List, [], ◌∷◌, ◌++◌, map, length, leb, ltb, Bool, true, false, ◌&&◌, eqb, Option, Some, None, is_some, Result, Ok, Err, refl, if◌then◌else◌}
use Rattle.ms_bits.specs.declared.traps.Trap.{Trap}
use Rattle.ms_bits.specs.declared.traps.Trap.TheVariants as trap
use Rattle.ms_bits.specs.Maps.{bytes_at}
use Rattle.ms_ir.specs.declared.syntax.Ty.{Ty}
use Rattle.ms_ir.specs.declared.syntax.Op.{Op}
use Rattle.ms_ir.specs.declared.syntax.Op.TheVariants as op
use Rattle.ms_runs.specs.declared.runs.End.{End}
use Rattle.ms_runs.specs.declared.runs.End.TheVariants as «end»
use Rattle.ms_ir.specs.declared.calls.External.{External}
use Rattle.ms_ir.specs.declared.calls.External.TheVariants.{Malloc, Calloc, Realloc, Free, Memcpy, Memmove, Memset, Memcmp, Strlen, Putchar, Puts, Getchar, Read, Write, Exit, Abort, LlvmMemcpy, LlvmMemmove, LlvmMemset, LifetimeStart, LifetimeEnd, Printf, LlvmTrap, LlvmAssume, LlvmObjectSize, PthreadCreate, PthreadJoin, SchedYield}
use Rattle.ms_ir.specs.declared.calls.External.TheVariants as external_of
use Rattle.ms_bits.specs.WordFunctions.{bits_of, word_answer}
use Rattle.ms_ir.specs.Layout.{stored_size, size_in}
use Rattle.ms_ir.specs.Areas.{Heap}
use Rattle.ms_runs.specs.World.{World, Setting, Here, Effect, Gives, Enters, Ends, traps, stuck, word, gives}
use Rattle.ms_runs.specs.Memory.{fits, local_area, is_good, heap_size}
use Rattle.ms_ir.specs.Instructions.{external_named}
use Rattle.ms_runs.specs.Threads.{fiber_limit, thread_at, has_ended, join_answer}
use Rattle.ms_runs.specs.Externals.{joined, malloc, reallocated, realloc, where_good, string_at, printed, taken, next_byte, external, formatted, prints}
use Rattle.ms_runs.specs.Act.{act}

abbrev pub is_reported : End → Bool
is_reported «end».Reported = true
is_reported e = false

-- an end that is no report
abbrev pub Unreported : End → World → Type 0
Unreported e w = is_reported e ≡ false

-- an effect that doesn't end the run as reported
abbrev pub UnreportedAfter : Effect → Type 0
UnreportedAfter (Ends e w) = Unreported e w
UnreportedAfter _ = Unit {0}

exited : (n : ℕ) (w : World) → Unreported («end».Exit n) w
exited n w = refl

pub trapped : (t : Trap) (site : ℕ) (w : World) → Unreported («end».Trap t site) w
trapped t site w = refl

either_unreported : (t : Bool) (e x : Effect) → UnreportedAfter e → UnreportedAfter x → UnreportedAfter (if t then e else x)
either_unreported true e x h g = h
either_unreported false e x h g = g

-- ---- instructions end by an exit or a trap

gives_unreported : (site : ℕ) (r : Result ℕ Trap) (w : World) → UnreportedAfter (gives site r w)
gives_unreported site (Ok v) w = tt
gives_unreported site (Err t) w = trapped t site w

malloc_unreported : (fill : List ℕ) (n : ℕ) (w : World) → UnreportedAfter (malloc fill n w)
malloc_unreported fill n w = either_unreported (fits Heap n w) _ _ tt tt

realloc_unreported : (fill : List ℕ) (site p n : ℕ) (w : World) → UnreportedAfter (realloc fill site p n w)
realloc_unreported fill site p n w = either_unreported (eqb p 0) _ _ (malloc_unreported fill n w) (by_size (heap_size w p))
  where
    by_size : (o : Option ℕ) → UnreportedAfter (elim o [ Some old ↦ reallocated fill p old n w | None ↦ traps trap.BadFree site w ])
    by_size (Some old) = either_unreported (fits Heap n w) _ _ tt tt
    by_size None = trapped trap.BadFree site w

string_unreported : (w : World) (o : Option (List ℕ)) (f : List ℕ → Effect) (site : ℕ) → ((bs : List ℕ) → UnreportedAfter (f bs)) → UnreportedAfter (elim o [ Some bs ↦ f bs | None ↦ traps trap.BadAddress site w ])
string_unreported w (Some bs) f site h = h bs
string_unreported w None f site h = trapped trap.BadAddress site w

printed_unreported : (site : ℕ) (bs : List ℕ) (v : ℕ) (w : World) → UnreportedAfter (printed site bs (Gives v) w)
printed_unreported site bs v w = either_unreported (leb (length w.output + length bs) 1048576) _ _ tt (trapped trap.Output site w)

prints_unreported : (site : ℕ) (r : Result (List ℕ) Trap) (w : World) → UnreportedAfter (prints site r w)
prints_unreported site (Ok bs) w = printed_unreported site bs (length bs) w
prints_unreported site (Err t) w = trapped t site w

next_unreported : (bs : List ℕ) (w : World) → UnreportedAfter (next_byte bs w)
next_unreported [] w = tt
next_unreported (b ∷ bs) w = tt

good_unreported : (site a n : ℕ) (w : World) (e : Effect) → UnreportedAfter e → UnreportedAfter (where_good site a n w e)
good_unreported site a n w e h = either_unreported (is_good w a n) _ _ h (trapped trap.BadAddress site w)

external_unreported : (s : Setting) (site : ℕ) (e : External) (ts : List Ty) (vs : List ℕ) (w : World) → UnreportedAfter (external s site e ts vs w)
external_unreported s site Malloc ts vs w = malloc_unreported s.fill (word 0 vs) w
external_unreported s site Calloc ts vs w = either_unreported (ltb (word 0 vs * word 1 vs) (2 ^ 64) && fits Heap (word 0 vs * word 1 vs) w) _ _ tt tt
external_unreported s site Realloc ts vs w = realloc_unreported s.fill site (word 0 vs) (word 1 vs) w
external_unreported s site Free ts vs w = either_unreported (eqb (word 0 vs) 0) _ _ tt (either_unreported (is_some (heap_size w (word 0 vs))) _ _ tt (trapped trap.BadFree site w))
external_unreported s site Memcpy ts vs w = good_unreported site (word 0 vs) (word 2 vs) w _ (good_unreported site (word 1 vs) (word 2 vs) w _ tt)
external_unreported s site Memmove ts vs w = good_unreported site (word 0 vs) (word 2 vs) w _ (good_unreported site (word 1 vs) (word 2 vs) w _ tt)
external_unreported s site Memset ts vs w = good_unreported site (word 0 vs) (word 2 vs) w _ tt
external_unreported s site Memcmp ts vs w = good_unreported site (word 0 vs) (word 2 vs) w _ (good_unreported site (word 1 vs) (word 2 vs) w _ tt)
external_unreported s site Strlen ts vs w = string_unreported w (string_at w (word 0 vs)) (λ bs. Gives (length bs) w) site (λ bs. tt)
external_unreported s site Putchar ts vs w = printed_unreported site (word 0 vs % 256 ∷ []) (word 0 vs % 256) w
external_unreported s site Puts ts vs w = string_unreported w (string_at w (word 0 vs)) (λ bs. printed site (bs ++ 10 ∷ []) (Gives 1) w) site (λ bs. printed_unreported site (bs ++ 10 ∷ []) 1 w)
external_unreported s site Getchar ts vs w = next_unreported w.input w
external_unreported s site Read ts vs w = good_unreported site (word 1 vs) (word 2 vs) w _ (either_unreported (eqb (word 0 vs) 0) (taken (word 1 vs) (word 2 vs) w) _ tt tt)
external_unreported s site Write ts vs w = good_unreported site (word 1 vs) (word 2 vs) w _ (either_unreported (eqb (word 0 vs) 1) _ _ (printed_unreported site (bytes_at w.bytes (word 1 vs) (word 2 vs)) (word 2 vs) w) tt)
external_unreported s site Exit ts vs w = exited (word 0 vs) w
external_unreported s site Abort ts vs w = trapped trap.Abort site w
external_unreported s site LlvmMemcpy ts vs w = good_unreported site (word 0 vs) (word 2 vs) w _ (good_unreported site (word 1 vs) (word 2 vs) w _ tt)
external_unreported s site LlvmMemmove ts vs w = good_unreported site (word 0 vs) (word 2 vs) w _ (good_unreported site (word 1 vs) (word 2 vs) w _ tt)
external_unreported s site LlvmMemset ts vs w = good_unreported site (word 0 vs) (word 2 vs) w _ tt
external_unreported s site LifetimeStart ts vs w = good_unreported site (word 1 vs) (word 0 vs) w _ tt
external_unreported s site LifetimeEnd ts vs w = tt
external_unreported s site LlvmTrap ts vs w = trapped trap.Abort site w
external_unreported s site LlvmAssume ts vs w = either_unreported (eqb (word 0 vs) 0) _ _ (trapped trap.Unreachable site w) tt
external_unreported s site LlvmObjectSize ts vs w = tt
external_unreported s site PthreadCreate ts vs w = either_unreported (leb fiber_limit (length w.threads + 1)) _ _ tt (good_unreported site (word 0 vs) 8 w _ tt)
external_unreported s site PthreadJoin ts vs w =
    either_unreported (eqb (join_answer w.turn (word 0 vs) w.threads) 0) (if has_ended (thread_at (word 0 vs) w.threads) then joined site (word 0 vs) (word 1 vs) w else traps trap.Deadlock site w) _
    (either_unreported (has_ended (thread_at (word 0 vs) w.threads)) (joined site (word 0 vs) (word 1 vs) w) _ (either_unreported (eqb (word 1 vs) 0) _ _ tt (good_unreported site (word 1 vs) 8 w _ tt)) (trapped trap.Deadlock site w)) tt
external_unreported s site SchedYield ts vs w = tt
external_unreported s site Printf ts vs w = prints_unreported site (formatted w ts vs) w
external_unreported s site (external_of.Word f n) ts vs w = gives_unreported site (word_answer f (bits_of n) (word 0 vs) (word 1 vs) (word 2 vs)) w

call_unreported : (s : Setting) (site : ℕ) (ts : List Ty) (vs : List ℕ) (w : World) (o : Option ℕ) (e : Option External)
    → UnreportedAfter (elim o [ Some f ↦ Enters f w | None ↦ elim e [ Some x ↦ external s site x ts vs w | None ↦ Ends stuck w ] ])
call_unreported s site ts vs w (Some f) e = tt
call_unreported s site ts vs w None (Some x) = external_unreported s site x ts vs w
call_unreported s site ts vs w None None = trapped trap.Unreachable 0 w

pub act_unreported : (s : Setting) (h : Here) (o : Op) (vs : List ℕ) (w : World) → UnreportedAfter (act s h o vs w)
act_unreported s h (op.Binary o f t a b) vs w = gives_unreported h.site _ w
act_unreported s h (op.Icmp p f t a b) vs w = gives_unreported h.site _ w
act_unreported s h (op.Cast o f t a u) vs w = gives_unreported h.site _ w
act_unreported s h (op.Phi t edges) vs w = trapped trap.Unreachable 0 w
act_unreported s h (op.Alloca t u c) vs w = either_unreported (fits (local_area w) (size_in s.types t * word 0 vs) w) _ _ tt (trapped trap.Stack h.site w)
act_unreported s h (op.Load t a) vs w = either_unreported (is_good w (word 0 vs) (stored_size t)) _ _ tt (trapped trap.BadAddress h.site w)
act_unreported s h (op.Store t v a) vs w = either_unreported (is_good w (word 1 vs) (stored_size t)) _ _ tt (trapped trap.BadAddress h.site w)
act_unreported s h (op.Call r x args) vs w = call_unreported s h.site (map (λ a. a.0) args) vs w (s.func x) (external_named s.func x)
act_unreported s h (op.Ret v) vs w = either_unreported h.main _ _ (exited (word 0 vs) w) tt
act_unreported s h op.Unreachable vs w = trapped trap.Unreachable h.site w
act_unreported s h (op.Select c t a b) vs w = tt
act_unreported s h (op.Freeze t a) vs w = tt
act_unreported s h (op.Gep t a is) vs w = tt
act_unreported s h (op.Br to) vs w = tt
act_unreported s h (op.CondBr c to otherwise) vs w = tt
act_unreported s h (op.Switch t v otherwise cases) vs w = tt
