-- What a step leaves of a world: one that is no thread call what it has of fibers, and checks all but its reports.
use Rattle.std.proofs.Common.{◌≡◌, ℕ, ◌+◌, ◌*◌, ◌-◌, ◌/◌, Bool, true, false, List, [], ◌∷◌, ◌++◌, map, length, eqb, leb, Option, Some, None, unwrap_or, if◌then◌else◌, refl, sym, ap, ◌∙◌, subst, arith}
use Rattle.ms_bits.specs.Maps.{byte_of, first_nonzero}
use Rattle.ms_ir.specs.declared.syntax.Name.{Name}
use Rattle.ms_ir.specs.declared.syntax.Ty.{Ty}
use Rattle.ms_ir.specs.declared.syntax.Operand.{Operand}
use Rattle.ms_ir.specs.declared.syntax.Op.{Op}
use Rattle.ms_ir.specs.declared.syntax.Op.TheVariants as op
use Rattle.ms_ir.specs.declared.syntax.Inst.{Inst}
use Rattle.ms_ir.specs.declared.syntax.Module.{Module}
use Rattle.ms_ir.specs.declared.calls.External.{External}
use Rattle.ms_ir.specs.declared.calls.External.TheVariants as called
use Rattle.ms_ir.specs.declared.calls.RuntimeFn.TheVariants as runtime
use Rattle.ms_ir.specs.Instructions.{operands, count_undefs, external_named}
use Rattle.ms_ir.specs.Layout.{width_of, stored_size, size_in}
use Rattle.ms_ir.specs.ThreadCalls.{is_asked}
use Rattle.ms_runs.specs.declared.runs.End.TheVariants as «end»
use Rattle.ms_runs.specs.declared.runs.Report.{Report}
use Rattle.ms_runs.specs.World.{World, Setting, Here, Effect, Gives, Does, Goes, Enters, Leaves, Ends, then_does, stuck, word}
use Rattle.ms_runs.specs.Memory.{heap_size, is_good, set_shadow, bytes_left, end_block, end_blocks}
use Rattle.ms_runs.specs.Threads.{fibers_of}
use Rattle.ms_runs.specs.Origins.{is_hidden, add_report, check, check_byte, check_string, first_in_string, asks_string_at, count_blind, trail}
use Rattle.ms_runs.specs.Externals.{external}
use Rattle.ms_runs.specs.Control.{Frame, Outcome, On, Over, here, rest_of, read_all, keeping, release, given_back}
use Rattle.ms_runs.specs.Act.{act}
use Rattle.ms_runs.specs.Plain.{Stepped, More, Stop}
use Rattle.ms_runs.specs.Poisoned.{Poisoned}
use Rattle.ms_runs.specs.Masks.{Rules, union, word_at}
use Rattle.ms_runs.specs.Uses.{CheckedUse, Word, Bytes, Line, Asked, type_at, uses, check_use, check_uses, blinded}
use Rattle.ms_runs.specs.Shadow.{ShadowState, read_poisoned, shadow_reading, external_planes, callee_planes, planes, poisoned_result, shadow_moved, shadow_act, after_checks, shadow_first, shadow_frames, shadow_step}
use Rattle.ms_runs_good_laws.specs.GoodWorlds.{GoodAfter}
use Rattle.ms_runs_good_laws.proofs.Frames.{MovedTo, moves_to}
use Rattle.ms_runs_good_laws.proofs.FibersKept.{world_of, Kept, external_keeps, runtime_keeps, marked_keeps, by_if}
use Rattle.ms_runs_good_laws.proofs.ThreadsApart.{NoThread, CallsNoThread, asked_alone}
use Rattle.ms_runs_threads.specs.Fibers.{Own, Asks}
use Rattle.ms_runs_threads.specs.PlainFibers.{due_inst, due_of, due_at, frames_due}
use Rattle.ms_runs_threads.specs.ShadowFibers.{shadow_state}
use Rattle.ms_threads_laws.proofs.DueSame.{due_head}

-- ---- states

abbrev state_in : ShadowState → Stepped ShadowState → ShadowState
state_in c (More z) = z
state_in c (Stop e w) = c

pub more_is : (c d : ShadowState) → More c ≡ More d → c ≡ d
more_is c d e = ap (state_in c) e

-- ---- checks change reports alone

module _ (P : World → Type 0) (told : (w : World) (rs : List Report) → P w → P (record w { reports = rs })) where
  -- where checks let a run go on, its world is so
  abbrev pub Passes : Effect → Type 0
  Passes (Does z) = P z
  Passes (Gives v z) = Unit {0}
  Passes (Goes to z) = Unit {0}
  Passes (Enters f z) = Unit {0}
  Passes (Leaves z) = Unit {0}
  Passes (Ends e z) = Unit {0}

  either_passes : (b : Bool) (x y : Effect) → Passes x → Passes y → Passes (if b then x else y)
  either_passes true x y p q = p
  either_passes false x y p q = q

  report_passes : (s : Setting) (r : Report) (w : World) → P w → Passes (add_report s r w)
  report_passes s r w p =
      let next = record w { reports = w.reports ++ r ∷ [] } in
      let full = leb s.limit (length next.reports) in
      either_passes (is_hidden s r w) (Does w) (if full then Ends «end».Reported next else Does next) p
      (either_passes full (Ends «end».Reported next) (Does next) tt (told w next.reports p))

  check_passes : (s : Setting) (mask width origin kind part site : ℕ) (w : World) → P w → Passes (check s mask width origin kind part site w)
  check_passes s mask width origin kind part site w p =
      let r : Report = record { site = site; kind = kind; part = part; width = width; mask = mask; origin = origin; chain = trail s w origin } in
      either_passes (eqb mask 0) (Does w) (add_report s r w) p (report_passes s r w p)

  byte_passes : (s : Setting) (kind site start : ℕ) (o : Option ℕ) (w : World) → P w → Passes (check_byte s kind site start o w)
  byte_passes s kind site start None w p = p
  byte_passes s kind site start (Some x) w p = check_passes s (w.shadow x) 8 (w.origins (x / 4)) kind (x - start) site w p

  string_passes : (s : Setting) (a site : ℕ) (w : World) → P w → Passes (check_string s a site w)
  string_passes s a site w p = byte_passes s 10 site a (first_in_string w a (bytes_left w a)) w p

  use_passes : (s : Setting) (site : ℕ) (os : List (Ty × Operand)) (ps : List Poisoned) (u : CheckedUse) (w : World) → P w → Passes (check_use s site os ps u w)
  use_passes s site os ps (Word kind k) w p = check_passes s (word_at k ps).mask (width_of (type_at k os)) (word_at k ps).origin kind k site w p
  use_passes s site os ps (Bytes kind a n) w p =
      either_passes (is_good w (word_at a ps).value (word_at n ps).value) (check_byte s kind site (word_at a ps).value (first_nonzero w.shadow (word_at a ps).value (word_at n ps).value) w) (Does w)
      (byte_passes s kind site (word_at a ps).value (first_nonzero w.shadow (word_at a ps).value (word_at n ps).value) w p) p
  use_passes s site os ps (Line a) w p = string_passes s (word_at a ps).value site w p
  use_passes s site os ps (Asked a) w p =
      either_passes (asks_string_at w (word_at 0 ps).value a) (check_string s (word_at a ps).value site w) (Does w) (string_passes s (word_at a ps).value site w p) p

  then_passes : (e : Effect) (go : World → Effect) → Passes e → ((z : World) → P z → Passes (go z)) → Passes (then_does e go)
  then_passes (Does z) go p h = h z p
  then_passes (Gives v z) go p h = tt
  then_passes (Goes to z) go p h = tt
  then_passes (Enters f z) go p h = tt
  then_passes (Leaves z) go p h = tt
  then_passes (Ends e z) go p h = tt

  pub uses_pass : (s : Setting) (site : ℕ) (os : List (Ty × Operand)) (ps : List Poisoned) (us : List CheckedUse) (w : World) → P w → Passes (check_uses s site os ps us w)
  uses_pass s site os ps [] w p = p
  uses_pass s site os ps (u ∷ us) w p = then_passes (check_use s site os ps u w) (check_uses s site os ps us) (use_passes s site os ps u w p) (uses_pass s site os ps us)

-- ---- what a world has of fibers is left

keeps_then : (w : World) (e : Effect) (go : World → Effect) → Kept w e → ((z : World) → Kept z (go z)) → Kept w (then_does e go)
keeps_then w (Does z) go k h = record { kept = (h z).kept ∙ k.kept }
keeps_then w (Gives v z) go k h = record { kept = k.kept }
keeps_then w (Goes to z) go k h = record { kept = k.kept }
keeps_then w (Enters f z) go k h = record { kept = k.kept }
keeps_then w (Leaves z) go k h = record { kept = k.kept }
keeps_then w (Ends e z) go k h = record { kept = k.kept }

use_keeps : (s : Setting) (site : ℕ) (os : List (Ty × Operand)) (ps : List Poisoned) (u : CheckedUse) (w : World) → Kept w (check_use s site os ps u w)
use_keeps s site os ps (Word kind k) w = runtime_keeps s runtime.Check ((word_at k ps).mask ∷ width_of (type_at k os) ∷ (word_at k ps).origin ∷ kind ∷ k ∷ site ∷ []) w
use_keeps s site os ps (Bytes kind a n) w = runtime_keeps s runtime.CheckMemory ((word_at a ps).value ∷ (word_at n ps).value ∷ kind ∷ site ∷ []) w
use_keeps s site os ps (Line a) w = runtime_keeps s runtime.CheckString ((word_at a ps).value ∷ site ∷ []) w
use_keeps s site os ps (Asked a) w = runtime_keeps s runtime.CheckFormat ((word_at 0 ps).value ∷ a ∷ (word_at a ps).value ∷ site ∷ []) w

pub checks_keep : (s : Setting) (site : ℕ) (os : List (Ty × Operand)) (ps : List Poisoned) (us : List CheckedUse) (w : World) → Kept w (check_uses s site os ps us w)
checks_keep s site os ps [] w = record { kept = refl }
checks_keep s site os ps (u ∷ us) w = keeps_then w (check_use s site os ps u w) (check_uses s site os ps us) (use_keeps s site os ps u w) (checks_keep s site os ps us)

counted_keeps : (s : Setting) (mask : ℕ) (w : World) → fibers_of (count_blind mask w) ≡ fibers_of w
counted_keeps s mask w = (runtime_keeps s runtime.Blind (mask ∷ []) w).kept

external_left : (s : Setting) (site root : ℕ) (e : External) (ps : List Poisoned) (before : World) (v : ℕ) (w : World) → fibers_of (external_planes s site root e ps before v w) ≡ fibers_of w
external_left s site root called.Malloc ps before v w = (runtime_keeps s runtime.Poison (v ∷ 0 ∷ (word_at 0 ps).value ∷ root ∷ []) w).kept
external_left s site root called.Realloc ps before v w =
    (runtime_keeps s runtime.Poison (v ∷ unwrap_or (heap_size before (word_at 0 ps).value) 0 ∷ (word_at 1 ps).value ∷ root ∷ []) w).kept
external_left s site root called.Memcpy ps before v w = (runtime_keeps s runtime.Copy ((word_at 0 ps).value ∷ (word_at 1 ps).value ∷ (word_at 2 ps).value ∷ []) w).kept
external_left s site root called.Memmove ps before v w = (runtime_keeps s runtime.Copy ((word_at 0 ps).value ∷ (word_at 1 ps).value ∷ (word_at 2 ps).value ∷ []) w).kept
external_left s site root called.Memset ps before v w =
    (runtime_keeps s runtime.Fill ((word_at 0 ps).value ∷ (word_at 2 ps).value ∷ (word_at 1 ps).mask ∷ (word_at 1 ps).origin ∷ site ∷ []) w).kept
external_left s site root called.Read ps before v w = (runtime_keeps s runtime.Unpoison ((word_at 1 ps).value ∷ v ∷ []) w).kept
external_left s site root called.LlvmMemcpy ps before v w = (runtime_keeps s runtime.Copy ((word_at 0 ps).value ∷ (word_at 1 ps).value ∷ (word_at 2 ps).value ∷ []) w).kept
external_left s site root called.LlvmMemmove ps before v w = (runtime_keeps s runtime.Copy ((word_at 0 ps).value ∷ (word_at 1 ps).value ∷ (word_at 2 ps).value ∷ []) w).kept
external_left s site root called.LlvmMemset ps before v w =
    (runtime_keeps s runtime.Fill ((word_at 0 ps).value ∷ (word_at 2 ps).value ∷ (word_at 1 ps).mask ∷ (word_at 1 ps).origin ∷ site ∷ []) w).kept
external_left s site root called.LifetimeStart ps before v w = (runtime_keeps s runtime.Poison ((word_at 1 ps).value ∷ 0 ∷ (word_at 0 ps).value ∷ root ∷ []) w).kept
external_left s site root called.PthreadCreate ps before v w = (runtime_keeps s runtime.Unpoison ((word_at 0 ps).value ∷ (if eqb v 0 then 8 else 0) ∷ []) w).kept
external_left s site root called.PthreadJoin ps before v w = (runtime_keeps s runtime.ThreadResult ((word_at 1 ps).value ∷ (word_at 0 ps).value ∷ v ∷ site ∷ []) w).kept
external_left s site root e ps before v w = refl

callee_left : (s : Setting) (site root : ℕ) (o : Option External) (ps : List Poisoned) (before : World) (v : ℕ) (w : World) → fibers_of (callee_planes s site root o ps before v w) ≡ fibers_of w
callee_left s site root None ps before v w = refl
callee_left s site root (Some e) ps before v w = external_left s site root e ps before v w

-- shadow and origins of memory are apart from it
pub planes_keep : (s : Setting) (site root : ℕ) (o : Op) (ps : List Poisoned) (before : World) (v : ℕ) (w : World) → fibers_of (planes s site root o ps before v w) ≡ fibers_of w
planes_keep s site root (op.Alloca t u c) ps before v w = (runtime_keeps s runtime.Poison (v ∷ 0 ∷ size_in s.types t * (word_at 0 ps).value ∷ root ∷ []) w).kept
planes_keep s site root (op.Store t x a) ps before v w =
    (runtime_keeps s runtime.StoreOrigin ((word_at 1 ps).value ∷ (word_at 0 ps).mask ∷ (word_at 0 ps).origin ∷ site ∷ [])
    (set_shadow (word_at 1 ps).value (stored_size t) (byte_of (word_at 0 ps).mask) w)).kept
planes_keep s site root (op.Call r x given) ps before v w = callee_left s site root (external_named s.func x) ps before v w
planes_keep s site root o ps before v w = refl

-- so is what a frame has of memory
blocks_keep : (l : List ℕ) (w : World) → fibers_of (end_blocks l w) ≡ fibers_of w
blocks_keep [] w = refl
blocks_keep (a ∷ rest) w = blocks_keep rest (end_block a w)

pub back_keeps : {V : Type 0} (frame : Frame V) (w : World) → fibers_of (given_back frame w) ≡ fibers_of w
back_keeps frame w = blocks_keep frame.heap (if eqb frame.mark 0 then w else release frame.mark w) ∙ by_mark (eqb frame.mark 0)
  where
    by_mark : (b : Bool) → fibers_of (if b then w else release frame.mark w) ≡ fibers_of w
    by_mark true = refl
    by_mark false = refl

-- ---- instructions

calm_external : (s : Setting) (site : ℕ) (o : Option External) (ts : List Ty) (vs : List ℕ) (w : World) → NoThread o
    → Kept w (elim o as (λ z. Effect) [ Some e ↦ external s site e ts vs w | None ↦ Ends stuck w ])
calm_external s site None ts vs w calm = record { kept = refl }
calm_external s site (Some e) ts vs w calm = external_keeps s site e ts vs w calm

pub calm_keeps : (s : Setting) (h : Here) (o : Op) (vs : List ℕ) (w : World) → CallsNoThread s.func o → Kept w (act s h o vs w)
calm_keeps s h (op.Load t a) vs w calm = by_if w (is_good w (word 0 vs) (stored_size t)) (record { kept = refl }) (record { kept = refl })
calm_keeps s h (op.Store t v a) vs w calm = by_if w (is_good w (word 1 vs) (stored_size t)) (record { kept = refl }) (record { kept = refl })
calm_keeps s h (op.Call ret callee args) vs w calm = by_own (s.func callee)
  where
    by_own : (q : Option ℕ)
        → Kept w (elim q as (λ z. Effect) [
          | Some f ↦ Enters f w
          | None ↦ elim (external_named s.func callee) as (λ z. Effect) [ Some e ↦ external s h.site e (map (λ a. a.0) args) vs w | None ↦ Ends stuck w ]
        ])
    by_own (Some f) = record { kept = refl }
    by_own None = calm_external s h.site (external_named s.func callee) (map (λ a. a.0) args) vs w calm
calm_keeps s h o vs w calm = marked_keeps s h o vs (λ k. 0) w

-- ---- steps

not_asked : (b : Bool) → (if b then Asks else Own) ≡ Own → b ≡ false
not_asked true e = grind arith
not_asked false e = refl

-- what isn't a thread call where none is due
pub calm_due : (func : Name → Option ℕ) (main only : Bool) (o : Op) → due_of func main only o ≡ Own → CallsNoThread func o
calm_due func main only (op.Call ret callee args) e = asked_alone (external_named func callee) (not_asked (is_asked (external_named func callee)) e)
calm_due func main only o e = tt

module _ (d : Rules) (s : Setting) (m : Module) (unmarked : (f : Frame Poisoned) (i : Inst) (is : List Inst) → rest_of m f ≡ i ∷ is → i.marked ≡ false) where
  abbrev SameFibers : World → World → Type 0
  SameFibers w z = fibers_of z ≡ fibers_of w

  same_after : (w : World) (e : Effect) → SameFibers w (world_of e) → GoodAfter (λ z. fibers_of z ≡ fibers_of w) e
  same_after w (Gives v z) q = q
  same_after w (Does z) q = q
  same_after w (Goes to z) q = q
  same_after w (Enters f z) q = q
  same_after w (Leaves z) q = q
  same_after w (Ends e z) q = q

  acted_same : (i : Inst) (h : Here) (ps : List Poisoned) (frame : Frame Poisoned) (below : List (Frame Poisoned)) (w z : World) → CallsNoThread s.func i.op → SameFibers w z
      → MovedTo (λ u. fibers_of u ≡ fibers_of w) (shadow_act d s m i h ps frame below z)
  acted_same i h ps frame below w z calm same =
      let e = act s h i.op (map (λ p. p.value) ps) z in
      let root = h.root + count_undefs (operands i.op) + 1 in
      moves_to shadow_reading s m (λ u. fibers_of u ≡ fibers_of w) (λ f u q. back_keeps f u ∙ q) h.site i.result ps (poisoned_result d i.op ps)
      (planes s h.site root i.op ps z) (λ v u q. planes_keep s h.site root i.op ps z v u ∙ q) (keeping i.op e frame) below e
      (same_after w e ((calm_keeps s h i.op (map (λ p. p.value) ps) z calm).kept ∙ same))

  checked_same : (i : Inst) (h : Here) (ps : List Poisoned) (frame : Frame Poisoned) (below : List (Frame Poisoned)) (w : World) (e : Effect) → CallsNoThread s.func i.op → SameFibers w (world_of e)
      → MovedTo (λ u. fibers_of u ≡ fibers_of w) (after_checks d s m i h ps frame below e)
  checked_same i h ps frame below w (Does z) calm q =
      let mask = union (map (λ p. p.mask) (blinded s.func i.op ps)) in acted_same i h ps frame below w (count_blind mask z) calm (counted_keeps s mask z ∙ q)
  checked_same i h ps frame below w (Gives v z) calm q = q
  checked_same i h ps frame below w (Goes to z) calm q = q
  checked_same i h ps frame below w (Enters f z) calm q = q
  checked_same i h ps frame below w (Leaves z) calm q = q
  checked_same i h ps frame below w (Ends x z) calm q = q

  own_first : (frame : Frame Poisoned) (below : List (Frame Poisoned)) (w : World) (l : List Inst) → rest_of m frame ≡ l → due_at s.func (here s m frame).main (eqb (length below) 0) (due_inst l) ≡ Own
      → MovedTo (λ u. fibers_of u ≡ fibers_of w) (shadow_first d s m l frame below w)
  own_first frame below w [] r q = refl
  own_first frame below w (i ∷ is) r q =
      let h = here s m frame in
      let ps = read_all (read_poisoned s frame.values) (operands i.op) h.root in
      checked_same i h ps frame below w (check_uses s h.site (operands i.op) ps (uses s.func h.main i.op) w)
      (calm_due s.func h.main (eqb (length below) 0) i.op (ap (due_at s.func h.main (eqb (length below) 0)) (sym (due_head i is (unmarked frame i is r))) ∙ q))
      (checks_keep s h.site (operands i.op) ps (uses s.func h.main i.op) w).kept

  -- a step of its own leaves what the world has of fibers, also where it ends the run
  pub own_moved : (f : List (Frame Poisoned)) (w : World) → frames_due s m f ≡ Own → MovedTo (λ u. fibers_of u ≡ fibers_of w) (shadow_frames d s m f w)
  own_moved [] w own = refl
  own_moved (frame ∷ below) w own = own_first frame below w (rest_of m frame) refl own

  pub own_keeps : (f : List (Frame Poisoned)) (w : World) (c : ShadowState) → frames_due s m f ≡ Own → shadow_step d s m (shadow_state f w) ≡ More c → fibers_of c.world ≡ fibers_of w
  own_keeps f w c own e = by_moved (shadow_frames d s m f w) (own_moved f w own) e
    where
      by_moved : (o : Outcome Poisoned) → MovedTo (λ u. fibers_of u ≡ fibers_of w) o → shadow_moved o ≡ More c → fibers_of c.world ≡ fibers_of w
      by_moved (On fs z) g q = subst (λ (x : ShadowState). fibers_of x.world ≡ fibers_of w) (more_is (record { frames = fs; world = z }) c q) g
      by_moved (Over x z) g q = absurd (grind arith)
