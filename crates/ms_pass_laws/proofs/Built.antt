-- What an instruction comes to that isn't done with itself: calls, returns and jumps.
use Rattle.std.proofs.Common.{◌≡◌, ℕ, List, [], ◌∷◌, ◌++◌, Bool, true, false, Option, Some, None, Result, Ok, Err, refl, inl, inr}
use Rattle.std.specs.Prelude.{if◌then◌else◌, ◌+◌, ◌*◌, ◌%◌, ◌^◌, ◌&&◌, eqb, ltb, leb, length, map}
use Rattle.ms_bits.specs.declared.traps.Trap.{Trap}
use Rattle.ms_bits.specs.declared.traps.Trap.TheVariants as trap
use Rattle.ms_bits.specs.Maps.{bytes_at}
use Rattle.ms_bits.specs.WordFunctions.{bits_of, word_answer}
use Rattle.ms_ir.specs.declared.syntax.Name.{Name}
use Rattle.ms_ir.specs.declared.syntax.Ty.{Ty}
use Rattle.ms_ir.specs.declared.syntax.Operand.{Operand}
use Rattle.ms_ir.specs.declared.syntax.Op.{Op}
use Rattle.ms_ir.specs.declared.syntax.Op.TheVariants as op
use Rattle.ms_ir.specs.declared.calls.External.{External}
use Rattle.ms_ir.specs.declared.calls.External.TheVariants.{Malloc, Calloc, Realloc, Free, Memcpy, Memmove, Memset, Memcmp, Strlen, Putchar, Puts, Getchar, Read, Write, Exit, Abort, LlvmMemcpy, LlvmMemmove, LlvmMemset, LifetimeStart, LifetimeEnd, Printf, LlvmTrap, LlvmAssume, LlvmObjectSize, PthreadCreate, PthreadJoin, SchedYield, Word}
use Rattle.ms_runs.specs.declared.runs.End.TheVariants as «end»
use Rattle.ms_ir.specs.Areas.{Heap}
use Rattle.ms_runs.specs.World.{World, Setting, Here, Effect, Gives, Does, Goes, Enters, Leaves, Ends, traps, stuck, word, gives}
use Rattle.ms_ir.specs.Layout.{stored_size, size_in}
use Rattle.ms_runs.specs.Memory.{is_good, fits, local_area, heap_size}
use Rattle.ms_ir.specs.Instructions.{external_named}
use Rattle.ms_runs.specs.Externals.{malloc, reallocated, where_good, string_at, printed, taken, next_byte, external, output_limit, formatted, prints, joined}
use Rattle.ms_runs.specs.Act.{act}
use Rattle.ms_runs.specs.Threads.{fiber_limit, thread_at, has_ended, join_answer}
use Rattle.ms_pass_laws.specs.Known.{GoesTo}

-- an effect of an instruction that goes on after itself, or ends the run
abbrev pub IsPlain : Effect → Type 0
IsPlain (Gives v w) = Unit {0}
IsPlain (Does w) = Unit {0}
IsPlain (Ends e w) = Unit {0}
IsPlain _ = ⊥

plain_if : (b : Bool) (e f : Effect) → IsPlain e → IsPlain f → IsPlain (if b then e else f)
plain_if true e f h g = h
plain_if false e f h g = g

plain_reallocated : (fill : List ℕ) (site p n : ℕ) (w : World) (o : Option ℕ) → IsPlain (elim o [ Some old ↦ reallocated fill p old n w | None ↦ traps trap.BadFree site w ])
plain_reallocated fill site p n w None = tt
plain_reallocated fill site p n w (Some old) = plain_if (fits Heap n w) (Gives _ _) (Gives 0 w) tt tt

plain_text : (site : ℕ) (o : Option (List ℕ)) (f : List ℕ → Effect) (w : World) → ((bs : List ℕ) → IsPlain (f bs)) → IsPlain (elim o [ Some bs ↦ f bs | None ↦ traps trap.BadAddress site w ])
plain_text site None f w h = tt
plain_text site (Some bs) f w h = h bs

plain_byte : (bs : List ℕ) (w : World) → IsPlain (next_byte bs w)
plain_byte [] w = tt
plain_byte (b ∷ bs) w = tt

plain_good : (site a n : ℕ) (w : World) (e : Effect) → IsPlain e → IsPlain (where_good site a n w e)
plain_good site a n w e p = plain_if (is_good w a n) e (traps trap.BadAddress site w) p tt

plain_printed : (site : ℕ) (bs : List ℕ) (go : World → Effect) (w : World) → ((u : World) → IsPlain (go u)) → IsPlain (printed site bs go w)
plain_printed site bs go w h = plain_if (leb (length w.output + length bs) output_limit) (go _) (traps trap.Output site w) (h _) tt

plain_prints : (site : ℕ) (r : Result (List ℕ) Trap) (w : World) → IsPlain (prints site r w)
plain_prints site (Ok bs) w = plain_printed site bs (Gives (length bs)) w (λ u. tt)
plain_prints site (Err t) w = tt

plain_gives : (site : ℕ) (r : Result ℕ Trap) (w : World) → IsPlain (gives site r w)
plain_gives site (Ok v) w = tt
plain_gives site (Err t) w = tt

pub external_plain : (s : Setting) (site : ℕ) (e : External) (types : List Ty) (words : List ℕ) (w : World) → IsPlain (external s site e types words w)
external_plain s site Malloc types words w = plain_if (fits Heap (word 0 words) w) (Gives _ _) (Gives 0 w) tt tt
external_plain s site Calloc types words w = plain_if (ltb (word 0 words * word 1 words) (2 ^ 64) && fits Heap (word 0 words * word 1 words) w) (Gives _ _) (Gives 0 w) tt tt
external_plain s site Realloc types words w =
    plain_if (eqb (word 0 words) 0) (malloc s.fill (word 1 words) w) _ (plain_if (fits Heap (word 1 words) w) (Gives _ _) (Gives 0 w) tt tt)
    (plain_reallocated s.fill site (word 0 words) (word 1 words) w (heap_size w (word 0 words)))
external_plain s site Free types words w = plain_if (eqb (word 0 words) 0) (Does w) _ tt (plain_if _ (Does _) (traps trap.BadFree site w) tt tt)
external_plain s site Memcpy types words w = plain_good site (word 0 words) (word 2 words) w _ (plain_good site (word 1 words) (word 2 words) w (Gives _ _) tt)
external_plain s site Memmove types words w = plain_good site (word 0 words) (word 2 words) w _ (plain_good site (word 1 words) (word 2 words) w (Gives _ _) tt)
external_plain s site Memset types words w = plain_good site (word 0 words) (word 2 words) w (Gives _ _) tt
external_plain s site Memcmp types words w = plain_good site (word 0 words) (word 2 words) w _ (plain_good site (word 1 words) (word 2 words) w (Gives _ _) tt)
external_plain s site Strlen types words w = plain_text site (string_at w (word 0 words)) (λ bs. Gives (length bs) w) w (λ bs. tt)
external_plain s site Putchar types words w = plain_printed site (word 0 words % 256 ∷ []) (Gives (word 0 words % 256)) w (λ u. tt)
external_plain s site Puts types words w = plain_text site (string_at w (word 0 words)) (λ bs. printed site (bs ++ 10 ∷ []) (Gives 1) w) w (λ bs. plain_printed site (bs ++ 10 ∷ []) (Gives 1) w (λ u. tt))
external_plain s site Getchar types words w = plain_byte w.input w
external_plain s site Read types words w = plain_good site (word 1 words) (word 2 words) w _ (plain_if (eqb (word 0 words) 0) (taken (word 1 words) (word 2 words) w) (Gives _ w) tt tt)
external_plain s site Write types words w =
    plain_good site (word 1 words) (word 2 words) w _
    (plain_if (eqb (word 0 words) 1) (printed site (bytes_at w.bytes (word 1 words) (word 2 words)) (Gives (word 2 words)) w) (Gives _ w)
    (plain_printed site (bytes_at w.bytes (word 1 words) (word 2 words)) (Gives (word 2 words)) w (λ u. tt)) tt)
external_plain s site Exit types words w = tt
external_plain s site Abort types words w = tt
external_plain s site LlvmMemcpy types words w = plain_good site (word 0 words) (word 2 words) w _ (plain_good site (word 1 words) (word 2 words) w (Does _) tt)
external_plain s site LlvmMemmove types words w = plain_good site (word 0 words) (word 2 words) w _ (plain_good site (word 1 words) (word 2 words) w (Does _) tt)
external_plain s site LlvmMemset types words w = plain_good site (word 0 words) (word 2 words) w (Does _) tt
external_plain s site LifetimeStart types words w = plain_good site (word 1 words) (word 0 words) w (Does _) tt
external_plain s site LifetimeEnd types words w = tt
external_plain s site LlvmTrap types words w = tt
external_plain s site LlvmAssume types words w = plain_if (eqb (word 0 words) 0) (traps trap.Unreachable site w) (Does w) tt tt
external_plain s site LlvmObjectSize types words w = tt
external_plain s site PthreadCreate types words w = plain_if (leb fiber_limit (length w.threads + 1)) (Gives 11 w) _ tt (plain_good site (word 0 words) 8 w (Gives _ _) tt)
external_plain s site PthreadJoin types words w =
    plain_if (eqb (join_answer w.turn (word 0 words) w.threads) 0) _ (Gives _ w)
    (plain_if (has_ended (thread_at (word 0 words) w.threads)) (joined site (word 0 words) (word 1 words) w) (traps trap.Deadlock site w)
    (plain_if (eqb (word 1 words) 0) (Gives 0 _) _ tt (plain_good site (word 1 words) 8 w (Gives 0 _) tt)) tt)
    tt
external_plain s site SchedYield types words w = tt
external_plain s site Printf types words w = plain_prints site (formatted w types words) w
external_plain s site (Word f n) types words w = plain_gives site (word_answer f (bits_of n) (word 0 words) (word 1 words) (word 2 words)) w

-- ---- what an effect tells of its instruction

-- an operation is a call of the function at a place
pub record IsCall (s : Setting) (o : Op) (n : ℕ) : Type 0 where
  pub ret : Option Ty
  pub callee : Name
  pub args : List (Ty × Operand)
  pub is : o ≡ op.Call ret callee args
  pub own : s.func callee ≡ Some n

-- an operation is a return outside `main`
pub record IsReturn (h : Here) (o : Op) : Type 0 where
  pub value : Option (Ty × Operand)
  pub is : o ≡ op.Ret value
  pub outside : h.main ≡ false

-- what an effect tells of the operation that has it
abbrev pub Tells : Setting → Here → Op → Effect → Type 0
Tells s h o (Enters n w) = IsCall s o n
Tells s h o (Leaves w) = IsReturn h o
Tells s h o (Goes to w) = GoesTo o to
Tells s h o _ = Unit {0}

tells_plain : (s : Setting) (h : Here) (o : Op) (e : Effect) → IsPlain e → Tells s h o e
tells_plain s h o (Gives v w) p = tt
tells_plain s h o (Does w) p = tt
tells_plain s h o (Ends e w) p = tt
tells_plain s h o (Goes to w) p = absurd p
tells_plain s h o (Enters n w) p = absurd p
tells_plain s h o (Leaves w) p = absurd p

tells_call : (s : Setting) (h : Here) (ret : Option Ty) (callee : Name) (args : List (Ty × Operand)) (words : List ℕ) (w : World) (o : Option ℕ) → s.func callee ≡ o → (e : Option External)
    → Tells s h (op.Call ret callee args) (elim o [ Some f ↦ Enters f w | None ↦ elim e [ Some x ↦ external s h.site x (map (λ a. a.0) args) words w | None ↦ Ends stuck w ] ])
tells_call s h ret callee args words w (Some f) own e = record { ret = ret; callee = callee; args = args; is = refl; own = own }
tells_call s h ret callee args words w None own None = tt
tells_call s h ret callee args words w None own (Some e) = tells_plain s h (op.Call ret callee args) (external s h.site e (map (λ a. a.0) args) words w) (external_plain s h.site e (map (λ a. a.0) args) words w)

tells_ret : (s : Setting) (h : Here) (v : Option (Ty × Operand)) (k : ℕ) (w : World) (b : Bool) → h.main ≡ b → Tells s h (op.Ret v) (if b then Ends («end».Exit k) w else Leaves w)
tells_ret s h v k w true e = tt
tells_ret s h v k w false e = record { value = v; is = refl; outside = e }

tells_branch : (s : Setting) (h : Here) (c : Operand) (to other : Name) (w : World) (b : Bool) → Tells s h (op.CondBr c to other) (Goes (if b then other else to) w)
tells_branch s h c to other w true = inr refl
tells_branch s h c to other w false = inl refl

pub act_tells : (s : Setting) (h : Here) (o : Op) (words : List ℕ) (w : World) → Tells s h o (act s h o words w)
act_tells s h (op.Binary o flags t a b) words w = tells_plain s h (op.Binary o flags t a b) (gives h.site _ w) (plain_gives h.site _ w)
act_tells s h (op.Icmp p flags t a b) words w = tells_plain s h (op.Icmp p flags t a b) (gives h.site _ w) (plain_gives h.site _ w)
act_tells s h (op.Cast o flags t a u) words w = tells_plain s h (op.Cast o flags t a u) (gives h.site _ w) (plain_gives h.site _ w)
act_tells s h (op.Alloca t u c) words w = tells_plain s h (op.Alloca t u c) (if fits (local_area w) (size_in s.types t * word 0 words) w then Gives _ _ else Ends _ _) (plain_if (fits (local_area w) (size_in s.types t * word 0 words) w) (Gives _ _) (Ends _ _) tt tt)
act_tells s h (op.Load t a) words w = tells_plain s h (op.Load t a) (if is_good w (word 0 words) (stored_size t) then Gives _ _ else Ends _ _) (plain_if (is_good w (word 0 words) (stored_size t)) (Gives _ _) (Ends _ _) tt tt)
act_tells s h (op.Store t v a) words w = tells_plain s h (op.Store t v a) (if is_good w (word 1 words) (stored_size t) then Does _ else Ends _ _) (plain_if (is_good w (word 1 words) (stored_size t)) (Does _) (Ends _ _) tt tt)
act_tells s h (op.Ret v) words w = tells_ret s h v (word 0 words) w h.main refl
act_tells s h (op.Call ret callee args) words w = tells_call s h ret callee args words w (s.func callee) refl (external_named s.func callee)
act_tells s h (op.Br to) words w = refl
act_tells s h (op.CondBr c to other) words w = tells_branch s h c to other w (eqb (word 0 words) 0)
act_tells s h (op.Switch t v other cases) words w = (word 0 words, refl)
act_tells s h _ words w = tt
