-- Planes and checks leave what the plain part looks at; so a shadow step that makes no last report is a plain step.
use Rattle.std.proofs.Common.{◌≡◌, ℕ, zero, suc, ◌+◌, ◌-◌, ◌*◌, ◌/◌, ◌%◌, ◌^◌, List, [], ◌∷◌, ◌++◌, Bool, true, false, Option, Some, None, refl, ◌∙◌}
use Rattle.std.specs.Prelude.{if◌then◌else◌, eqb, leb, ltb, length, ◌&&◌, ◌||◌, not, unwrap_or}
use Rattle.ms_ir.specs.declared.syntax.Ty.{Ty}
use Rattle.ms_ir.specs.declared.syntax.Operand.{Operand}
use Rattle.ms_ir.specs.declared.syntax.Op.{Op}
use Rattle.ms_ir.specs.declared.syntax.Op.TheVariants as op
use Rattle.ms_runs.specs.Threads.{thread_at, has_ended}
use Rattle.ms_runs.specs.declared.runs.End.TheVariants as «end»
use Rattle.ms_ir.specs.declared.calls.External.{External}
use Rattle.ms_ir.specs.declared.calls.External.TheVariants.{Malloc, Calloc, Realloc, Free, Memcpy, Memmove, Memset, Memcmp, Strlen, Putchar, Puts, Getchar, Read, Write, Exit, Abort, LlvmMemcpy, LlvmMemmove, LlvmMemset, LifetimeStart, LifetimeEnd, Printf, LlvmTrap, LlvmAssume, LlvmObjectSize, PthreadCreate, PthreadJoin, SchedYield}
use Rattle.ms_ir.specs.declared.calls.External.TheVariants as called
use Rattle.ms_runs.specs.declared.runs.Report.{Report}
use Rattle.ms_runs.specs.World.{World, Setting, Effect, Gives, Does, Goes, Enters, Leaves, Ends, then_does}
use Rattle.ms_ir.specs.Layout.{stored_size, size_in}
use Rattle.ms_runs.specs.Memory.{is_good, heap_size, set_shadow}
use Rattle.ms_bits.specs.Maps.{byte_of}
use Rattle.ms_ir.specs.Instructions.{external_named}
use Rattle.ms_runs.specs.Origins.{Chained, keeps_old, pair_index, chain, is_hidden, check, check_byte, asks_string_at, count_blind, poison, copy_planes, fill_planes, mark_cells, store_origin, trail}
use Rattle.ms_runs.specs.Poisoned.{Poisoned}
use Rattle.ms_runs.specs.Masks.{word_at}
use Rattle.ms_runs.specs.Uses.{CheckedUse, Word, Bytes, Line, Asked, check_use, check_uses}
use Rattle.ms_runs.specs.Shadow.{external_planes, callee_planes, planes}
use Rattle.ms_runs_laws.proofs.PlainPart.{bare}

-- w shows what v shows
pub record Shows (v w : World) : Type 0 where
  pub same : bare w ≡ bare v

pub here : (w : World) → Shows w w
here w = record { same = refl }

world_if : {v : World} (t : Bool) {x y : World} → Shows v x → Shows v y → Shows v (if t then x else y)
world_if true p q = p
world_if false p q = q

-- ---- planes

chain_if : {v : World} (t : Bool) (x y : Chained) → Shows v x.world → Shows v y.world → Shows v (if t then x else y).world
chain_if true x y p q = p
chain_if false x y p q = q

chain_option : {v : World} (o : Option ℕ) (f : ℕ → Chained) (y : Chained) → ((k : ℕ) → Shows v (f k).world) → Shows v y.world → Shows v (elim o as (λ z. Chained) [ Some k ↦ f k | None ↦ y ]).world
chain_option (Some k) f y p q = p k
chain_option None f y p q = q

chain_shows : (s : Setting) (old site : ℕ) (v w : World) → Shows v w → Shows v (chain s old site w).world
chain_shows s old site v w h =
    chain_if (keeps_old s w old) _ _ h (chain_option (pair_index w.pairs old site) _ _ (λ k. h) (record { same = h.same }))

cells_show : (n a mask origin : ℕ) (v w : World) → Shows v w → Shows v (mark_cells n a mask origin w)
cells_show zero a mask origin v w h = h
cells_show (suc n) a mask origin v w h =
    cells_show n (a + 1) (mask / 256) origin v _ (world_if (eqb (mask % 256) 0 || not (is_good w a 1)) h (record { same = h.same }))

store_shows : (s : Setting) (a mask origin site : ℕ) (v w : World) → Shows v w → Shows v (store_origin s a mask origin site w)
store_shows s a mask origin site v w h =
    world_if (eqb mask 0) h (cells_show 8 a mask (chain s origin site w).id v (chain s origin site w).world (chain_shows s origin site v w h))

poison_shows : (a from to origin : ℕ) (w : World) → Shows w (poison a from to origin w)
poison_shows a from to origin w = world_if (ltb from to && is_good w ((a + from) % 2 ^ 64) (to - from)) (record { same = refl }) (here w)

copy_shows : (t s n : ℕ) (w : World) → Shows w (copy_planes t s n w)
copy_shows t s n w = world_if (is_good w t n && is_good w s n) (record { same = refl }) (here w)

fill_shows : (s : Setting) (a n mask origin site : ℕ) (w : World) → Shows w (fill_planes s a n mask origin site w)
fill_shows s a n mask origin site w =
    world_if (not (is_good w a n)) (here w) (world_if (eqb (mask % 256) 0 || eqb n 0) (record { same = refl }) (record { same = (chain_shows s origin site w w (here w)).same }))

external_shows : (s : Setting) (site root : ℕ) (e : External) (ps : List Poisoned) (before : World) (x : ℕ) (w : World) → Shows w (external_planes s site root e ps before x w)
external_shows s site root Malloc ps before x w = poison_shows x 0 ((word_at 0 ps).value) root w
external_shows s site root Calloc ps before x w = here w
external_shows s site root Realloc ps before x w = poison_shows x (unwrap_or (heap_size before (word_at 0 ps).value) 0) ((word_at 1 ps).value) root w
external_shows s site root Free ps before x w = here w
external_shows s site root Memcpy ps before x w = copy_shows ((word_at 0 ps).value) ((word_at 1 ps).value) ((word_at 2 ps).value) w
external_shows s site root Memmove ps before x w = copy_shows ((word_at 0 ps).value) ((word_at 1 ps).value) ((word_at 2 ps).value) w
external_shows s site root Memset ps before x w = fill_shows s ((word_at 0 ps).value) ((word_at 2 ps).value) ((word_at 1 ps).mask) ((word_at 1 ps).origin) site w
external_shows s site root Memcmp ps before x w = here w
external_shows s site root Strlen ps before x w = here w
external_shows s site root Putchar ps before x w = here w
external_shows s site root Puts ps before x w = here w
external_shows s site root Getchar ps before x w = here w
external_shows s site root Read ps before x w = world_if (is_good w (word_at 1 ps).value x) (record { same = refl }) (here w)
external_shows s site root Write ps before x w = here w
external_shows s site root Exit ps before x w = here w
external_shows s site root Abort ps before x w = here w
external_shows s site root LlvmMemcpy ps before x w = copy_shows ((word_at 0 ps).value) ((word_at 1 ps).value) ((word_at 2 ps).value) w
external_shows s site root LlvmMemmove ps before x w = copy_shows ((word_at 0 ps).value) ((word_at 1 ps).value) ((word_at 2 ps).value) w
external_shows s site root LlvmMemset ps before x w = fill_shows s ((word_at 0 ps).value) ((word_at 2 ps).value) ((word_at 1 ps).mask) ((word_at 1 ps).origin) site w
external_shows s site root LifetimeStart ps before x w = poison_shows ((word_at 1 ps).value) 0 ((word_at 0 ps).value) root w
external_shows s site root LifetimeEnd ps before x w = here w
external_shows s site root LlvmTrap ps before x w = here w
external_shows s site root LlvmAssume ps before x w = here w
external_shows s site root LlvmObjectSize ps before x w = here w
external_shows s site root PthreadCreate ps before x w = world_if (is_good w (word_at 0 ps).value (if eqb x 0 then 8 else 0)) (record { same = refl }) (here w)
external_shows s site root PthreadJoin ps before x w =
    let a = (word_at 1 ps).value in let id = (word_at 0 ps).value in
    world_if (eqb x 0 && not (eqb a 0) && is_good w a 8 && has_ended (thread_at id w.threads))
    (store_shows s a (w.answer_masks id) (w.answer_origins id) site w (set_shadow a 8 (byte_of (w.answer_masks id)) w) (record { same = refl })) (here w)
external_shows s site root SchedYield ps before x w = here w
external_shows s site root Printf ps before x w = here w
external_shows s site root (called.Word f n) ps before x w = here w

callee_shows : (s : Setting) (site root : ℕ) (e : Option External) (ps : List Poisoned) (before : World) (x : ℕ) (w : World) → Shows w (callee_planes s site root e ps before x w)
callee_shows s site root None ps before x w = here w
callee_shows s site root (Some e) ps before x w = external_shows s site root e ps before x w

pub planes_show : (s : Setting) (site root : ℕ) (o : Op) (ps : List Poisoned) (before : World) (x : ℕ) (w : World) → Shows w (planes s site root o ps before x w)
planes_show s site root (op.Binary o f t a b) ps before x w = here w
planes_show s site root (op.Icmp p f t a b) ps before x w = here w
planes_show s site root (op.Cast o f t a u) ps before x w = here w
planes_show s site root (op.Select c t a b) ps before x w = here w
planes_show s site root (op.Freeze t a) ps before x w = here w
planes_show s site root (op.Phi t es) ps before x w = here w
planes_show s site root (op.Alloca t u c) ps before x w = poison_shows x 0 (size_in s.types t * (word_at 0 ps).value) root w
planes_show s site root (op.Load t a) ps before x w = here w
planes_show s site root (op.Store t v a) ps before x w =
    store_shows s ((word_at 1 ps).value) ((word_at 0 ps).mask) ((word_at 0 ps).origin) site w (set_shadow (word_at 1 ps).value (stored_size t) (byte_of (word_at 0 ps).mask) w) (record { same = refl })
planes_show s site root (op.Gep t a is) ps before x w = here w
planes_show s site root (op.Call r f as') ps before x w = callee_shows s site root (external_named s.func f) ps before x w
planes_show s site root (op.Br to) ps before x w = here w
planes_show s site root (op.CondBr c to other) ps before x w = here w
planes_show s site root (op.Switch t v other cases) ps before x w = here w
planes_show s site root (op.Ret v) ps before x w = here w
planes_show s site root op.Unreachable ps before x w = here w

-- ---- checks

-- checks leave what is shown, or end the run as reported
abbrev pub Passes : World → Effect → Type 0
Passes v (Does w) = Shows v w
Passes v (Ends e w) = (e ≡ «end».Reported) × Shows v w
Passes v (Gives x w) = ⊥
Passes v (Goes x w) = ⊥
Passes v (Enters f w) = ⊥
Passes v (Leaves w) = ⊥

pass_if : (v : World) (t : Bool) (x y : Effect) → Passes v x → Passes v y → Passes v (if t then x else y)
pass_if v true x y p q = p
pass_if v false x y p q = q

check_passes : (s : Setting) (mask width origin kind part site : ℕ) (w : World) → Passes w (check s mask width origin kind part site w)
check_passes s mask width origin kind part site w =
    let r : Report = record { site = site; kind = kind; part = part; width = width; mask = mask; origin = origin; chain = trail s w origin } in
    pass_if w (eqb mask 0) _ _ (here w)
    (pass_if w (is_hidden s r w) _ _ (here w) (pass_if w (leb s.limit (length (w.reports ++ r ∷ []))) _ _ (refl, record { same = refl }) (record { same = refl })))

byte_passes : (s : Setting) (kind site a : ℕ) (x : Option ℕ) (w : World) → Passes w (check_byte s kind site a x w)
byte_passes s kind site a None w = here w
byte_passes s kind site a (Some x) w = check_passes s _ _ _ kind _ site w

use_passes : (s : Setting) (site : ℕ) (os : List (Ty × Operand)) (ps : List Poisoned) (u : CheckedUse) (w : World) → Passes w (check_use s site os ps u w)
use_passes s site os ps (Word kind k) w = check_passes s _ _ _ kind k site w
use_passes s site os ps (Bytes kind a n) w = pass_if w (is_good w (word_at a ps).value (word_at n ps).value) _ _ (byte_passes s kind site _ _ w) (here w)
use_passes s site os ps (Line a) w = byte_passes s 10 site _ _ w
use_passes s site os ps (Asked a) w = pass_if w (asks_string_at w (word_at 0 ps).value a) _ _ (byte_passes s 10 site _ _ w) (here w)

pub uses_pass : (s : Setting) (site : ℕ) (os : List (Ty × Operand)) (ps : List Poisoned) (us : List CheckedUse) (w : World) → Passes w (check_uses s site os ps us w)
uses_pass s site os ps [] w = here w
uses_pass s site os ps (u ∷ us) w = next (check_use s site os ps u w) (use_passes s site os ps u w) (λ x. uses_pass s site os ps us x)
  where
    later : (x : World) (e : Effect) → Shows w x → Passes x e → Passes w e
    later x (Does y) h p = record { same = p.same ∙ h.same }
    later x (Ends e y) h p = (p.0, record { same = p.1.same ∙ h.same })
    later x (Gives n y) h p = p
    later x (Goes n y) h p = p
    later x (Enters f y) h p = p
    later x (Leaves y) h p = p

    next : (e : Effect) → Passes w e → ((x : World) → Passes x (check_uses s site os ps us x)) → Passes w (then_does e (check_uses s site os ps us))
    next (Does x) p rest = later x _ p (rest x)
    next (Ends e x) p rest = p
    next (Gives n x) p rest = absurd p
    next (Goes n x) p rest = absurd p
    next (Enters f x) p rest = absurd p
    next (Leaves x) p rest = absurd p

pub blind_shows : (mask : ℕ) (w : World) → Shows w (count_blind mask w)
blind_shows mask w = world_if (eqb mask 0) (here w) (record { same = refl })
