-- A follower after a step: what stands for the next state of the run.
use Rattle.std.proofs.Common.{◌≡◌, ◌+◌, ℕ, Bool, true, false, List, ◌∷◌, ◌++◌, map, length, reverse, get_or, if◌then◌else◌, Option, Some, None, refl, sym, ap, ◌∙◌, subst, ltb, ◌&&◌, arith}
use Rattle.std.specs.Prelude.{leb}
use Rattle.ms_bits.specs.declared.traps.Trap.TheVariants as trap
use Rattle.ms_ir.specs.declared.syntax.Name.{Name}
use Rattle.ms_ir.specs.declared.syntax.Op.{Op}
use Rattle.ms_ir.specs.declared.syntax.Op.TheVariants as op
use Rattle.ms_ir.specs.declared.syntax.Inst.{Inst}
use Rattle.ms_ir.specs.declared.syntax.Module.{Module}
use Rattle.ms_ir.specs.declared.calls.External.{External}
use Rattle.ms_ir.specs.declared.calls.External.TheVariants.{Malloc, Realloc, LifetimeStart}
use Rattle.ms_ir.specs.Instructions.{operands, count_undefs, insts_at, root_at, site_at, external_named}
use Rattle.ms_runs.specs.declared.runs.End.TheVariants as «end»
use Rattle.ms_runs.specs.declared.runs.Setup.{Setup}
use Rattle.ms_runs.specs.World.{World, Setting, Here, Effect, Gives, Does, Goes, Enters, Leaves}
use Rattle.ms_runs.specs.Memory.{is_good}
use Rattle.ms_runs.specs.Origins.{poison}
use Rattle.ms_runs.specs.Control.{Frame, here, rest_of, read_all, block_name, params_at, one_on, put, jumped, entered, left, given_back, result_at, On, Over, keeping, after_effect}
use Rattle.ms_runs.specs.Plain.{PlainState, More, setting_of}
use Rattle.ms_runs.specs.Poisoned.{Poisoned, clean}
use Rattle.ms_runs.specs.Masks.{by_formulas, word_at}
use Rattle.ms_runs.specs.Shadow.{ShadowState, read_poisoned, shadow_reading, shadow_moved, shadow_step}
use Rattle.ms_runs_good_laws.specs.GoodWorlds.{GoodWorld, FitsCell}
use Rattle.ms_runs_good_laws.proofs.WorldChanges.{either, set_shadow_good, set_cells_good}
use Rattle.ms_host.specs.State.{WorldState, Keeps, nothing_beside}
use Rattle.ms_host.specs.Shows.{Shows}
use Rattle.ms_host.specs.SlotBytes.{ShowsSlots}
use Rattle.ms_machine_frames.specs.declared.fibers.Fiber.{Fiber}
use Rattle.ms_runs_good_laws.specs.GoodStates.{IsMain}
use Rattle.ms_runs_good_laws.proofs.Bottoms.{StateBottom, shadow_bottom}
use Rattle.ms_machine_frames.proofs.HeapBlocks.{same_turn}
use Rattle.ms_machine.specs.Running.{IsRunning}
use Rattle.ms_runs_laws.specs.Follows.{light, bare_frame}
use Rattle.ms_trail_moves.specs.declared.moves.Source.{Source}
use Rattle.ms_trail_moves.specs.declared.moves.Move.{Move}
use Rattle.ms_trail_moves.specs.Sources.{operand_source, sources, source_at, result_source}
use Rattle.ms_trail_moves.specs.Written.{callee_written, external_written, written}
use Rattle.ms_trail_moves.specs.Events.{Numbers, renumbered, innermost, result_move, return_move, param_moves, phi_moves, memory_moves, callee_moves, inst_moves, first_moves, frames_moves, event_moves}
use Rattle.ms_trail_moves.specs.Traces.{Traced}
use Rattle.ms_trail.specs.declared.traced_run.TracedRun.{TracedRun}
use Rattle.ms_trail_bytes.specs.Logs.{IsLog}
use Rattle.ms_trail_uses.specs.Tabled.{AreTables}
use Rattle.ms_trail.specs.Following.{HaveShades, Went, IsFollowed}

-- what no step changes of a follower
pub record KeepsRest (old new : TracedRun) : Type 0 where
  pub whole : new.m.now ≡ old.m.now
  pub tables : new.tables.rows.items ≡ old.tables.rows.items
  pub fill : new.fill.now ≡ old.fill.now

pub onward : (m : Module) (u : Setup) (t : Traced) (old : TracedRun) (o : IsFollowed m u t old) (new : TracedRun) (c : ShadowState) (p : PlainState) → shadow_step by_formulas (setting_of m u) m t.state ≡ More c
    → KeepsRest old new → IsRunning m u nothing_beside new.fiber new.world p → p.frames ≡ map bare_frame c.frames → light p.world ≡ light c.world
    → (ns : Numbers) → renumbered (length c.frames) t.numbers ≡ ns → HaveShades m ns.standing c.frames (new.shade ∷ reverse new.below.items) → new.made ≡ ns.made → new.event ≡ old.event + 1
    → IsLog new.log (t.moves ++ event_moves (setting_of m u) m t.events t.numbers ns t.state c) → Went m u t true new
onward m u t old o new c p went keeps running frames world ns numbers shades made event told = (
  c,
  (
    went,
    record {
      whole = keeps.whole ∙ o.whole;
      bare = o.bare;
      calm = o.calm;
      few = o.few;
      state = p;
      running = running;
      follows = record { frames = frames; world = world };
      bottom = subst (StateBottom (IsMain m)) went (shadow_bottom (IsMain m) by_formulas (setting_of m u) m t.state o.bottom);
      shades = subst (λ (n : Numbers). HaveShades m n.standing c.frames (new.shade ∷ reverse new.below.items)) (sym numbers) shades;
      made = made ∙ sym (ap (λ (n : Numbers). n.made) numbers);
      event = event ∙ ap (λ n. n + 1) o.event;
      log = subst (λ (n : Numbers). IsLog new.log (t.moves ++ event_moves (setting_of m u) m t.events t.numbers n t.state c)) (sym numbers) told;
      tables = subst (AreTables m) (sym keeps.tables) o.tables;
      fill = keeps.fill ∙ o.fill;
      filled = o.filled;
    },
  ),
)

-- ---- the machine's world with another shadow

pub shaded_running : (m : Module) (u : Setup) (fiber : Fiber) (w w' : WorldState) (next : PlainState) (v : World) → IsRunning m u nothing_beside fiber w next → Shows w' nothing_beside v → Keeps w w' → GoodWorld FitsCell v
    → IsRunning m u nothing_beside fiber w' (record next { world = v })
shaded_running m u fiber w w' next v r shows keeps good = record {
  bytes = r.bytes;
  frames = r.frames;
  shows = shows;
  slots = subst (λ (ss : List ℕ). ShowsSlots ss next.slots) (sym keeps.slots) r.slots;
  fill = keeps.fill ∙ r.fill;
  sound = record { frames = r.sound.frames; slots = r.sound.slots; world = good };
  owns = record { spawned = r.owns.spawned ∙ same_turn w w' nothing_beside next.world v r.shows shows; blocks = r.owns.blocks };
}

-- ---- moves of bytes, which don't look at where poisoned bits come from

external_light : (root : ℕ) (e : External) (ps : List Poisoned) (ss : List Source) (before w : World) → external_written root e ps ss before (light w) ≡ external_written root e ps ss before w
external_light root Malloc ps ss before w = refl
external_light root Realloc ps ss before w = refl
external_light root LifetimeStart ps ss before w = refl
external_light root e ps ss before w = refl

callee_light : (root : ℕ) (o : Option External) (ps : List Poisoned) (ss : List Source) (before w : World) → callee_written root o ps ss before (light w) ≡ callee_written root o ps ss before w
callee_light root None ps ss before w = refl
callee_light root (Some e) ps ss before w = external_light root e ps ss before w

written_light : (s : Setting) (root : ℕ) (o : Op) (ps : List Poisoned) (ss : List Source) (before w : World) → written s root o ps ss before (light w) ≡ written s root o ps ss before w
written_light s root (op.Call r x args) ps ss before w = callee_light root (external_named s.func x) ps ss before w
written_light s root (op.Alloca t u c) ps ss before w = refl
written_light s root (op.Store t x a) ps ss before w = refl
written_light s root o ps ss before w = refl

pub memory_same : (s : Setting) (root : ℕ) (o : Op) (ps : List Poisoned) (ss : List Source) (before v w : World) (event site : ℕ) → light v ≡ light w
    → memory_moves event site v.shadow (written s root o ps ss before v) ≡ memory_moves event site w.shadow (written s root o ps ss before w)
memory_same s root o ps ss before v w event site e =
    ap (memory_moves event site v.shadow) (sym (written_light s root o ps ss before v))
    ∙ ap (λ (x : World). memory_moves event site x.shadow (written s root o ps ss before x)) e
    ∙ ap (memory_moves event site w.shadow) (written_light s root o ps ss before w)

-- ---- frames after an effect

same_state : (a b : ShadowState) → More a ≡ More b → a ≡ b
same_state a b e = cc

module _ (s : Setting) (m : Module) (site : ℕ) (r : Option Name) (ps : List Poisoned) (lift : ℕ → World → Poisoned) (after : ℕ → World → World) (fr : Frame Poisoned) (below : List (Frame Poisoned)) (c : ShadowState) (o : Op) (x : Effect)
    (on : shadow_moved (after_effect shadow_reading s m site r ps lift after (keeping o x fr) below x) ≡ More c) where
  pub gives_state : (v : ℕ) (w : World) → keeping o (Gives v w) fr ≡ fr → x ≡ Gives v w → record { frames = put fr r (lift v w) ∷ below; world = after v w } ≡ c
  gives_state v w none e =
      same_state _ c
      (ap (λ (f : Frame Poisoned). shadow_moved (after_effect shadow_reading s m site r ps lift after f below (Gives v w))) (sym none)
      ∙ ap (λ (y : Effect). shadow_moved (after_effect shadow_reading s m site r ps lift after (keeping o y fr) below y)) (sym e) ∙ on)

  pub does_state : (w : World) → x ≡ Does w → record { frames = one_on fr ∷ below; world = after 0 w } ≡ c
  does_state w e = same_state _ c (ap (λ (y : Effect). shadow_moved (after_effect shadow_reading s m site r ps lift after (keeping o y fr) below y)) (sym e) ∙ on)

  pub goes_state : (to : Name) (w : World) → x ≡ Goes to w → record { frames = jumped shadow_reading s m to fr ∷ below; world = w } ≡ c
  goes_state to w e = same_state _ c (ap (λ (y : Effect). shadow_moved (after_effect shadow_reading s m site r ps lift after (keeping o y fr) below y)) (sym e) ∙ on)

  pub enters_state : (f : ℕ) (w : World) → x ≡ Enters f w → record { frames = entered shadow_reading m f ps w ∷ fr ∷ below; world = w } ≡ c
  enters_state f w e = by_test (leb 1024 (length below + 1)) (ap (λ (y : Effect). shadow_moved (after_effect shadow_reading s m site r ps lift after (keeping o y fr) below y)) (sym e) ∙ on)
    where
      by_test : (b : Bool) → shadow_moved (if b then Over («end».Trap trap.Depth site) w else On (entered shadow_reading m f ps w ∷ fr ∷ below) w) ≡ More c
          → record { frames = entered shadow_reading m f ps w ∷ fr ∷ below; world = w } ≡ c
      by_test true h = absurd (cc)
      by_test false h = same_state _ c h

  pub leaves_state : (w : World) (caller : Frame Poisoned) (rest : List (Frame Poisoned)) → x ≡ Leaves w → below ≡ caller ∷ rest
      → record { frames = put caller (result_at m caller) (get_or ps 0 clean) ∷ rest; world = given_back fr w } ≡ c
  leaves_state w caller rest e is =
      same_state _ c
      (ap (λ (fs : List (Frame Poisoned)). shadow_moved (left shadow_reading m ps fr fs w)) (sym is) ∙ ap (λ (y : Effect). shadow_moved (after_effect shadow_reading s m site r ps lift after (keeping o y fr) below y)) (sym e) ∙ on)

-- ---- the moves of a step, by its instruction

module _ (s : Setting) (m : Module) (c : ShadowState) (fr : Frame Poisoned) (below : List (Frame Poisoned)) (first : c.frames ≡ fr ∷ below) (i : Inst) (is : List Inst) (due : rest_of m fr ≡ i ∷ is) where
  pub moves_at : (event : ℕ) (n n' : Numbers) (c' : ShadowState) (next : Frame Poisoned) (rest : List (Frame Poisoned)) → c'.frames ≡ next ∷ rest
      → event_moves s m event n n' c c' ≡ inst_moves s m event i (innermost n.standing) (innermost n'.standing) fr below c.world next c'.world
  moves_at event n n' c' next rest frames =
      ap (λ (fs : List (Frame Poisoned)). frames_moves s m event n n' fs c.world c') first
      ∙ ap (λ (insts : List Inst). first_moves s m event insts (innermost n.standing) (innermost n'.standing) fr below c.world c'.frames c'.world) due
      ∙ ap (λ (fs : List (Frame Poisoned)). first_moves s m event (i ∷ is) (innermost n.standing) (innermost n'.standing) fr below c.world fs c'.world) frames

-- an 'alloca' or a store
abbrev pub IsWriting : Op → Type 0
IsWriting (op.Alloca t u count) = Unit {0}
IsWriting (op.Store t x a) = Unit {0}
IsWriting o = ⊥

memory_alone : (o : Op) → IsWriting o → (jump memory ret result : List Move) (call : Name → List Move)
    → (elim o as (λ z. List Move) [
      | op.Br x ↦ jump
      | op.CondBr c x y ↦ jump
      | op.Switch t v x cases ↦ jump
      | op.Ret v ↦ ret
      | op.Call r x args ↦ call x
      | op.Alloca t u count ↦ memory
      | op.Store t x a ↦ memory
      | _ ↦ result
    ])
    ≡ memory
memory_alone (op.Alloca t u count) w jump memory ret result call = refl
memory_alone (op.Store t x a) w jump memory ret result call = refl
memory_alone o w jump memory ret result call = absurd w

pub writing_moves : (s : Setting) (m : Module) (event : ℕ) (i : Inst) (from to : ℕ) (fr : Frame Poisoned) (below : List (Frame Poisoned)) (w : World) (next : Frame Poisoned) (after : World) → IsWriting i.op
    → inst_moves s m event i from to fr below w next after
    ≡ memory_moves event (here s m fr).site after.shadow
    (written s ((here s m fr).root + count_undefs (operands i.op) + 1) i.op (read_all (read_poisoned s fr.values) (operands i.op) (here s m fr).root) (sources from (operands i.op) (here s m fr).root) w after)
writing_moves s m event i from to fr below w next after writes =
    let h : Here = here s m fr in
    let ps : List Poisoned = read_all (read_poisoned s fr.values) (operands i.op) h.root in
    let ss : List Source = sources from (operands i.op) h.root in
    let jump : List Move = phi_moves event to (read_poisoned s fr.values) (λ n t o. operand_source from n o) s.func (block_name m fr.func fr.block)
    (insts_at m fr.func next.block) (root_at s.func m fr.func next.block 0) (site_at m fr.func next.block 0) in
    let result : List Move = result_move event h.site to i.result next.values (result_source i.op ps ss w) in
    let memory : List Move = memory_moves event h.site after.shadow (written s (h.root + count_undefs (operands i.op) + 1) i.op ps ss w after) in
    memory_alone i.op writes jump memory (return_move m event h.site to (word_at 0 ps) (source_at 0 ss) below) result
    (λ x. elim (s.func x) [
      | Some f ↦ param_moves event h.site to (params_at m f) ps ss
      | None ↦ callee_moves (external_named s.func x) result memory
    ])
