-- What a step does to shadow, but for origins; checks leave it.
use Rattle.std.proofs.Common.{◌≡◌, ℕ, zero, suc, ◌+◌, ◌-◌, ◌*◌, ◌/◌, ◌%◌, ◌^◌, List, [], ◌∷◌, ◌++◌, Bool, true, false, Option, Some, None, refl, sym, ap, ap₂, ◌∙◌}
use Rattle.std.specs.Prelude.{if◌then◌else◌, eqb, leb, ltb, length, ◌&&◌, ◌||◌, not, unwrap_or}
use Rattle.ms_ir.specs.declared.syntax.Ty.{Ty}
use Rattle.ms_ir.specs.declared.syntax.Operand.{Operand}
use Rattle.ms_ir.specs.declared.syntax.Op.{Op}
use Rattle.ms_ir.specs.declared.syntax.Op.TheVariants as op
use Rattle.ms_runs.specs.declared.runs.End.TheVariants as «end»
use Rattle.ms_ir.specs.declared.calls.External.{External}
use Rattle.ms_ir.specs.declared.calls.External.TheVariants.{Malloc, Calloc, Realloc, Free, Memcpy, Memmove, Memset, Memcmp, Strlen, Putchar, Puts, Getchar, Read, Write, Exit, Abort, LlvmMemcpy, LlvmMemmove, LlvmMemset, LifetimeStart, LifetimeEnd, Printf, LlvmTrap, LlvmAssume, LlvmObjectSize, PthreadCreate, PthreadJoin, SchedYield}
use Rattle.ms_ir.specs.declared.calls.External.TheVariants as external
use Rattle.ms_runs.specs.declared.runs.Report.{Report}
use Rattle.ms_runs.specs.World.{World, Setting, Effect, Gives, Does, Goes, Enters, Leaves, Ends, then_does}
use Rattle.ms_ir.specs.Layout.{stored_size, size_in}
use Rattle.ms_runs.specs.Memory.{is_good, heap_size, set_shadow}
use Rattle.ms_bits.specs.Maps.{byte_of}
use Rattle.ms_ir.specs.Instructions.{external_named}
use Rattle.ms_runs.specs.Origins.{Chained, keeps_old, pair_index, chain, is_hidden, check, check_byte, asks_string_at, count_blind, poison, unpoison, copy_planes, fill_planes, mark_cells, store_origin, thread_result, trail}
use Rattle.ms_runs.specs.Threads.{thread_at, has_ended}
use Rattle.ms_runs.specs.Poisoned.{Poisoned}
use Rattle.ms_runs.specs.Masks.{word_at}
use Rattle.ms_runs.specs.Uses.{CheckedUse, Word, Bytes, Line, Asked, check_use, check_uses}
use Rattle.ms_runs.specs.Shadow.{external_planes, callee_planes, planes}
use Rattle.ms_runs_laws.specs.Follows.{light, fill_shadow, answer_shadow, external_shadow, callee_shadow, shadow_left}

-- w shows what v shows
pub record Shows (v w : World) : Type 0 where
  pub same : light w ≡ light v

here : (w : World) → Shows w w
here w = record { same = refl }

world_if : {v : World} (t : Bool) {x y : World} → Shows v x → Shows v y → Shows v (if t then x else y)
world_if true p q = p
world_if false p q = q

-- ---- planes

chain_if : {v : World} (t : Bool) (x y : Chained) → Shows v x.world → Shows v y.world → Shows v (if t then x else y).world
chain_if true x y p q = p
chain_if false x y p q = q

chain_option : {v : World} (o : Option ℕ) (f : ℕ → Chained) (y : Chained) → ((k : ℕ) → Shows v (f k).world) → Shows v y.world → Shows v (elim o as (λ z. Chained) [ Some k ↦ f k | None ↦ y ]).world
chain_option (Some k) f y p q = p k
chain_option None f y p q = q

chain_shows : (s : Setting) (old site : ℕ) (v w : World) → Shows v w → Shows v (chain s old site w).world
chain_shows s old site v w h =
    chain_if (keeps_old s w old) _ _ h (chain_option (pair_index w.pairs old site) _ _ (λ k. h) (record { same = h.same }))

cells_show : (n a mask origin : ℕ) (v w : World) → Shows v w → Shows v (mark_cells n a mask origin w)
cells_show zero a mask origin v w h = h
cells_show (suc n) a mask origin v w h =
    cells_show n (a + 1) (mask / 256) origin v _ (world_if (eqb (mask % 256) 0 || not (is_good w a 1)) h (record { same = h.same }))

store_shows : (s : Setting) (a mask origin site : ℕ) (v w : World) → Shows v w → Shows v (store_origin s a mask origin site w)
store_shows s a mask origin site v w h =
    world_if (eqb mask 0) h (cells_show 8 a mask (chain s origin site w).id v (chain s origin site w).world (chain_shows s origin site v w h))

-- ---- the shadow alone

light_if : (t : Bool) (x y x' y' : World) → light x ≡ light x' → light y ≡ light y' → light (if t then x else y) ≡ light (if t then x' else y')
light_if true x y x' y' p q = p
light_if false x y x' y' p q = q

poison_light : (a from to origin : ℕ) (w : World) → light (poison a from to origin w) ≡ light (poison a from to 0 w)
poison_light a from to origin w = light_if (ltb from to && is_good w ((a + from) % 2 ^ 64) (to - from)) _ _ _ _ refl refl

fill_light : (s : Setting) (a n mask origin site : ℕ) (w : World) → light (fill_planes s a n mask origin site w) ≡ light (fill_shadow a n mask w)
fill_light s a n mask origin site w =
    light_if (not (is_good w a n)) _ _ _ _ refl
    (light_if (eqb (mask % 256) 0 || eqb n 0) _ _ _ _ refl
    (ap (λ (u : World). light (set_shadow a n (λ k. mask % 256) u)) (chain_shows s origin site w w (here w)).same))

answer_light : (s : Setting) (a id answer site : ℕ) (w : World) → light (thread_result s a id answer site w) ≡ light (answer_shadow a id answer w)
answer_light s a id answer site w =
    light_if (eqb answer 0 && not (eqb a 0) && is_good w a 8 && has_ended (thread_at id w.threads)) _ _ _ _
    (store_shows s a (w.answer_masks id) (w.answer_origins id) site (set_shadow a 8 (byte_of (w.answer_masks id)) w) (set_shadow a 8 (byte_of (w.answer_masks id)) w) (here (set_shadow a 8 (byte_of (w.answer_masks id)) w))).same refl

external_light : (s : Setting) (site root : ℕ) (e : External) (ps : List Poisoned) (before : World) (x : ℕ) (w : World)
    → light (external_planes s site root e ps before x w) ≡ light (external_shadow e ps before x w)
external_light s site root Malloc ps before x w = poison_light x 0 (word_at 0 ps).value root w
external_light s site root Calloc ps before x w = refl
external_light s site root Realloc ps before x w = poison_light x (unwrap_or (heap_size before (word_at 0 ps).value) 0) (word_at 1 ps).value root w
external_light s site root Free ps before x w = refl
external_light s site root Memcpy ps before x w = refl
external_light s site root Memmove ps before x w = refl
external_light s site root Memset ps before x w = fill_light s (word_at 0 ps).value (word_at 2 ps).value (word_at 1 ps).mask (word_at 1 ps).origin site w
external_light s site root Memcmp ps before x w = refl
external_light s site root Strlen ps before x w = refl
external_light s site root Putchar ps before x w = refl
external_light s site root Puts ps before x w = refl
external_light s site root Getchar ps before x w = refl
external_light s site root Read ps before x w = refl
external_light s site root Write ps before x w = refl
external_light s site root Exit ps before x w = refl
external_light s site root Abort ps before x w = refl
external_light s site root LlvmMemcpy ps before x w = refl
external_light s site root LlvmMemmove ps before x w = refl
external_light s site root LlvmMemset ps before x w = fill_light s (word_at 0 ps).value (word_at 2 ps).value (word_at 1 ps).mask (word_at 1 ps).origin site w
external_light s site root LifetimeStart ps before x w = poison_light (word_at 1 ps).value 0 (word_at 0 ps).value root w
external_light s site root LifetimeEnd ps before x w = refl
external_light s site root Printf ps before x w = refl
external_light s site root LlvmTrap ps before x w = refl
external_light s site root LlvmAssume ps before x w = refl
external_light s site root LlvmObjectSize ps before x w = refl
external_light s site root PthreadCreate ps before x w = refl
external_light s site root PthreadJoin ps before x w = answer_light s (word_at 1 ps).value (word_at 0 ps).value x site w
external_light s site root SchedYield ps before x w = refl
external_light s site root (external.Word f n) ps before x w = refl

callee_light : (s : Setting) (site root : ℕ) (e : Option External) (ps : List Poisoned) (before : World) (x : ℕ) (w : World)
    → light (callee_planes s site root e ps before x w) ≡ light (callee_shadow e ps before x w)
callee_light s site root None ps before x w = refl
callee_light s site root (Some e) ps before x w = external_light s site root e ps before x w

-- what an instruction does to memory's shadow
pub planes_light : (s : Setting) (site root : ℕ) (o : Op) (ps : List Poisoned) (before : World) (x : ℕ) (w : World)
    → light (planes s site root o ps before x w) ≡ light (shadow_left s o ps before x w)
planes_light s site root (op.Alloca t u c) ps before x w = poison_light x 0 (size_in s.types t * (word_at 0 ps).value) root w
planes_light s site root (op.Store t v a) ps before x w =
    (store_shows s (word_at 1 ps).value (word_at 0 ps).mask (word_at 0 ps).origin site _ (set_shadow (word_at 1 ps).value (stored_size t) (byte_of (word_at 0 ps).mask) w) (here _)).same
planes_light s site root (op.Call r f as') ps before x w = callee_light s site root (external_named s.func f) ps before x w
planes_light s site root (op.Binary o f t a b) ps before x w = refl
planes_light s site root (op.Icmp p f t a b) ps before x w = refl
planes_light s site root (op.Cast o f t a u) ps before x w = refl
planes_light s site root (op.Select c t a b) ps before x w = refl
planes_light s site root (op.Freeze t a) ps before x w = refl
planes_light s site root (op.Phi t es) ps before x w = refl
planes_light s site root (op.Load t a) ps before x w = refl
planes_light s site root (op.Gep t a is) ps before x w = refl
planes_light s site root (op.Br to) ps before x w = refl
planes_light s site root (op.CondBr c to other) ps before x w = refl
planes_light s site root (op.Switch t v other cases) ps before x w = refl
planes_light s site root (op.Ret v) ps before x w = refl
planes_light s site root op.Unreachable ps before x w = refl

-- ---- which looks at nothing else

poison_blind : (a from to : ℕ) (w : World) → light (poison a from to 0 w) ≡ light (poison a from to 0 (light w))
poison_blind a from to w = light_if (ltb from to && is_good w ((a + from) % 2 ^ 64) (to - from)) _ _ _ _ refl refl

copy_blind : (to from n : ℕ) (w : World) → light (copy_planes to from n w) ≡ light (copy_planes to from n (light w))
copy_blind to from n w = light_if (is_good w to n && is_good w from n) _ _ _ _ refl refl

fill_blind : (a n mask : ℕ) (w : World) → light (fill_shadow a n mask w) ≡ light (fill_shadow a n mask (light w))
fill_blind a n mask w = light_if (not (is_good w a n)) _ _ _ _ refl (light_if (eqb (mask % 256) 0 || eqb n 0) _ _ _ _ refl refl)

unpoison_blind : (a n : ℕ) (w : World) → light (unpoison a n w) ≡ light (unpoison a n (light w))
unpoison_blind a n w = light_if (is_good w a n) _ _ _ _ refl refl

external_blind : (e : External) (ps : List Poisoned) (before : World) (x : ℕ) (w : World) → light (external_shadow e ps before x w) ≡ light (external_shadow e ps (light before) x (light w))
external_blind Malloc ps before x w = poison_blind x 0 (word_at 0 ps).value w
external_blind Calloc ps before x w = refl
external_blind Realloc ps before x w = poison_blind x (unwrap_or (heap_size before (word_at 0 ps).value) 0) (word_at 1 ps).value w
external_blind Free ps before x w = refl
external_blind Memcpy ps before x w = copy_blind (word_at 0 ps).value (word_at 1 ps).value (word_at 2 ps).value w
external_blind Memmove ps before x w = copy_blind (word_at 0 ps).value (word_at 1 ps).value (word_at 2 ps).value w
external_blind Memset ps before x w = fill_blind (word_at 0 ps).value (word_at 2 ps).value (word_at 1 ps).mask w
external_blind Memcmp ps before x w = refl
external_blind Strlen ps before x w = refl
external_blind Putchar ps before x w = refl
external_blind Puts ps before x w = refl
external_blind Getchar ps before x w = refl
external_blind Read ps before x w = unpoison_blind (word_at 1 ps).value x w
external_blind Write ps before x w = refl
external_blind Exit ps before x w = refl
external_blind Abort ps before x w = refl
external_blind LlvmMemcpy ps before x w = copy_blind (word_at 0 ps).value (word_at 1 ps).value (word_at 2 ps).value w
external_blind LlvmMemmove ps before x w = copy_blind (word_at 0 ps).value (word_at 1 ps).value (word_at 2 ps).value w
external_blind LlvmMemset ps before x w = fill_blind (word_at 0 ps).value (word_at 2 ps).value (word_at 1 ps).mask w
external_blind LifetimeStart ps before x w = poison_blind (word_at 1 ps).value 0 (word_at 0 ps).value w
external_blind LifetimeEnd ps before x w = refl
external_blind Printf ps before x w = refl
external_blind LlvmTrap ps before x w = refl
external_blind LlvmAssume ps before x w = refl
external_blind LlvmObjectSize ps before x w = refl
external_blind PthreadCreate ps before x w = unpoison_blind (word_at 0 ps).value (if eqb x 0 then 8 else 0) w
external_blind PthreadJoin ps before x w =
    light_if (eqb x 0 && not (eqb (word_at 1 ps).value 0) && is_good w (word_at 1 ps).value 8 && has_ended (thread_at (word_at 0 ps).value w.threads)) _ _ _ _ refl refl
external_blind SchedYield ps before x w = refl
external_blind (external.Word f n) ps before x w = refl

callee_blind : (e : Option External) (ps : List Poisoned) (before : World) (x : ℕ) (w : World) → light (callee_shadow e ps before x w) ≡ light (callee_shadow e ps (light before) x (light w))
callee_blind None ps before x w = refl
callee_blind (Some e) ps before x w = external_blind e ps before x w

left_blind : (s : Setting) (o : Op) (ps : List Poisoned) (before : World) (x : ℕ) (w : World) → light (shadow_left s o ps before x w) ≡ light (shadow_left s o ps (light before) x (light w))
left_blind s (op.Alloca t u c) ps before x w = poison_blind x 0 (size_in s.types t * (word_at 0 ps).value) w
left_blind s (op.Store t v a) ps before x w = refl
left_blind s (op.Call r f as') ps before x w = callee_blind (external_named s.func f) ps before x w
left_blind s (op.Binary o f t a b) ps before x w = refl
left_blind s (op.Icmp p f t a b) ps before x w = refl
left_blind s (op.Cast o f t a u) ps before x w = refl
left_blind s (op.Select c t a b) ps before x w = refl
left_blind s (op.Freeze t a) ps before x w = refl
left_blind s (op.Phi t es) ps before x w = refl
left_blind s (op.Load t a) ps before x w = refl
left_blind s (op.Gep t a is) ps before x w = refl
left_blind s (op.Br to) ps before x w = refl
left_blind s (op.CondBr c to other) ps before x w = refl
left_blind s (op.Switch t v other cases) ps before x w = refl
left_blind s (op.Ret v) ps before x w = refl
left_blind s op.Unreachable ps before x w = refl

-- of worlds that differ in origins, pairs, reports and the blind count alone the same shadow is left
pub left_same : (s : Setting) (o : Op) (ps : List Poisoned) (before other : World) (x : ℕ) (w v : World) → light before ≡ light other → light w ≡ light v
    → light (shadow_left s o ps before x w) ≡ light (shadow_left s o ps other x v)
left_same s o ps before other x w v p q =
    left_blind s o ps before x w ∙ ap₂ (λ b u. light (shadow_left s o ps b x u)) p q ∙ sym (left_blind s o ps other x v)

-- ---- checks

-- checks leave what is shown, or end the run as reported
abbrev pub Passes : World → Effect → Type 0
Passes v (Does w) = Shows v w
Passes v (Ends e w) = (e ≡ «end».Reported) × Shows v w
Passes v (Gives x w) = ⊥
Passes v (Goes x w) = ⊥
Passes v (Enters f w) = ⊥
Passes v (Leaves w) = ⊥

pass_if : (v : World) (t : Bool) (x y : Effect) → Passes v x → Passes v y → Passes v (if t then x else y)
pass_if v true x y p q = p
pass_if v false x y p q = q

check_passes : (s : Setting) (mask width origin kind part site : ℕ) (w : World) → Passes w (check s mask width origin kind part site w)
check_passes s mask width origin kind part site w =
    let r : Report = record { site = site; kind = kind; part = part; width = width; mask = mask; origin = origin; chain = trail s w origin } in
    pass_if w (eqb mask 0) _ _ (here w)
    (pass_if w (is_hidden s r w) _ _ (here w) (pass_if w (leb s.limit (length (w.reports ++ r ∷ []))) _ _ (refl, record { same = refl }) (record { same = refl })))

byte_passes : (s : Setting) (kind site a : ℕ) (x : Option ℕ) (w : World) → Passes w (check_byte s kind site a x w)
byte_passes s kind site a None w = here w
byte_passes s kind site a (Some x) w = check_passes s _ _ _ kind _ site w

use_passes : (s : Setting) (site : ℕ) (os : List (Ty × Operand)) (ps : List Poisoned) (u : CheckedUse) (w : World) → Passes w (check_use s site os ps u w)
use_passes s site os ps (Word kind k) w = check_passes s _ _ _ kind k site w
use_passes s site os ps (Bytes kind a n) w = pass_if w (is_good w (word_at a ps).value (word_at n ps).value) _ _ (byte_passes s kind site _ _ w) (here w)
use_passes s site os ps (Line a) w = byte_passes s 10 site _ _ w
use_passes s site os ps (Asked a) w = pass_if w (asks_string_at w (word_at 0 ps).value a) _ _ (byte_passes s 10 site _ _ w) (here w)

pub uses_pass : (s : Setting) (site : ℕ) (os : List (Ty × Operand)) (ps : List Poisoned) (us : List CheckedUse) (w : World) → Passes w (check_uses s site os ps us w)
uses_pass s site os ps [] w = here w
uses_pass s site os ps (u ∷ us) w = next (check_use s site os ps u w) (use_passes s site os ps u w) (λ x. uses_pass s site os ps us x)
  where
    later : (x : World) (e : Effect) → Shows w x → Passes x e → Passes w e
    later x (Does y) h p = record { same = p.same ∙ h.same }
    later x (Ends e y) h p = (p.0, record { same = p.1.same ∙ h.same })
    later x (Gives n y) h p = p
    later x (Goes n y) h p = p
    later x (Enters f y) h p = p
    later x (Leaves y) h p = p

    next : (e : Effect) → Passes w e → ((x : World) → Passes x (check_uses s site os ps us x)) → Passes w (then_does e (check_uses s site os ps us))
    next (Does x) p rest = later x _ p (rest x)
    next (Ends e x) p rest = p
    next (Gives n x) p rest = absurd p
    next (Goes n x) p rest = absurd p
    next (Enters f x) p rest = absurd p
    next (Leaves x) p rest = absurd p

pub blind_shows : (mask : ℕ) (w : World) → Shows w (count_blind mask w)
blind_shows mask w = world_if (eqb mask 0) (here w) (record { same = refl })
