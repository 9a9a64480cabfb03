-- A follower that loaded a word has taken the step.
use Rattle.std.proofs.Common.{◌≡◌, ◌≢◌, ◌+◌, ◌%◌, ◌^◌, ℕ, Bool, true, false, eqb, List, ◌∷◌, ◌++◌, map, Option, Some, refl, sym, ap, ◌∙◌, subst, bit_and, if◌then◌else◌}
use Rattle.std.specs.Prelude.{set, unwrap_or, slice_get}
use Rattle.std.proofs.lemmas.Option.{same_Some}
use Rattle.std.proofs.lemmas.Nat.{and_mask}
use Rattle.ms_bits.specs.Maps.{first_nonzero, number_at}
use Rattle.ms_ir.specs.declared.syntax.Func.{Func}
use Rattle.ms_ir.specs.declared.syntax.Name.{Name}
use Rattle.ms_ir.specs.declared.syntax.Name.TheVariants.{Number}
use Rattle.ms_ir.specs.declared.syntax.Ty.{Ty}
use Rattle.ms_ir.specs.declared.syntax.Operand.{Operand}
use Rattle.ms_ir.specs.declared.syntax.Op.{Op}
use Rattle.ms_ir.specs.declared.syntax.Op.TheVariants as op
use Rattle.ms_ir.specs.declared.syntax.Inst.{Inst}
use Rattle.ms_ir.specs.declared.syntax.Module.{Module}
use Rattle.ms_ir.specs.Layout.{width_of, stored_size}
use Rattle.ms_ir.specs.Instructions.{operands, count_undefs, site_at}
use Rattle.ms_ir.specs.Locals.{locals}
use Rattle.ms_runs.specs.declared.runs.Setup.{Setup}
use Rattle.ms_bits.specs.declared.traps.Trap.TheVariants as trap
use Rattle.ms_runs.specs.World.{World, Setting, Here, Effect, Gives, Does, Goes, Enters, Leaves, Ends, traps, word}
use Rattle.ms_runs.specs.Memory.{is_good}
use Rattle.ms_runs.specs.Origins.{count_blind}
use Rattle.ms_runs.specs.Control.{Frame, here, read_all, keeping, after_effect}
use Rattle.ms_runs.specs.Act.{act}
use Rattle.ms_runs.specs.Plain.{PlainState, More, setting_of}
use Rattle.ms_runs.specs.Poisoned.{Poisoned}
use Rattle.ms_runs.specs.Masks.{by_formulas, union, word_at, result_mask}
use Rattle.ms_runs.specs.Uses.{blinded}
use Rattle.ms_runs.specs.Shadow.{ShadowState, read_poisoned, shadow_reading, planes, shadow_moved, poisoned_result, shadow_act, shadow_step}
use Rattle.ms_machine_code.specs.declared.code.WordSource.{WordSource as Operand_}
use Rattle.ms_machine_code.specs.declared.code.Code.{Code}
use Rattle.ms_machine_code.specs.declared.code.Code.TheVariants as code
use Rattle.ms_machine_code.specs.Words.{word_of}
use Rattle.ms_machine_code.specs.Reads.{IsPlace, IsResult}
use Rattle.ms_machine_code.specs.Encodes.{Where, Encodes}
use Rattle.ms_machine_code.specs.Compiled.{where_is}
use Rattle.ms_host.specs.State.{Beside, nothing_beside}
use Rattle.ms_host.specs.Shows.{Shows}
use Rattle.ms_machine_steps.specs.Advances.{step_of}
use Rattle.ms_machine.specs.Running.{IsRunning}
use Rattle.ms_runs_laws.specs.Follows.{light, bare_frame, step_shadow}
use Rattle.ms_trail_moves.specs.declared.moves.Source.{Source}
use Rattle.ms_trail_moves.specs.declared.moves.Target.TheVariants.{Value}
use Rattle.ms_trail_moves.specs.declared.moves.Move.{Move}
use Rattle.ms_trail_moves.specs.Sources.{sources, byte_source, result_source}
use Rattle.ms_trail_moves.specs.Traces.{Traced}
use Rattle.ms_trail.specs.declared.traced_run.TracedRun.{TracedRun}
use Rattle.ms_trail_uses.specs.declared.tables.InstRow.{InstRow}
use Rattle.ms_trail_bytes.specs.Logs.{IsLog}
use Rattle.ms_trail.specs.Telling.{masked_move}
use Rattle.ms_trail_uses.specs.Tabled.{HasRow}
use Rattle.ms_trail_uses.specs.Due.{IsDue}
use Rattle.ms_trail.specs.Following.{Passes, Went, IsFollowed}
use Rattle.ms_trail_uses.proofs.CodeUses.{source_word}
use Rattle.ms_trail.proofs.Going.{goes, acts}
use Rattle.ms_trail.proofs.Valued.{IsValued}
use Rattle.ms_trail.proofs.ResultSteps.{KeepsCalls, valued_followed, top}
use Rattle.ms_trail.proofs.DueCode.{DueNow, due_now, holds_now}
use Rattle.ms_runs_good_laws.proofs.Readings.{word_number}

-- ---- effects that go on

abbrev pub IsEnd : Effect → Type 0
IsEnd (Ends e w) = Unit {0}
IsEnd e = ⊥

pub not_ended : (s : Setting) (m : Module) (site : ℕ) (r : Option Name) (ps : List Poisoned) (lift : ℕ → World → Poisoned) (after : ℕ → World → World) (fr : Frame Poisoned) (below : List (Frame Poisoned)) (c : ShadowState)
    → (x : Effect) → shadow_moved (after_effect shadow_reading s m site r ps lift after fr below x) ≡ More c → IsEnd x → ⊥
not_ended s m site r ps lift after fr below c (Ends e w) h k = absurd (cc)
not_ended s m site r ps lift after fr below c (Gives v w) h k = k
not_ended s m site r ps lift after fr below c (Does w) h k = k
not_ended s m site r ps lift after fr below c (Goes to w) h k = k
not_ended s m site r ps lift after fr below c (Enters f w) h k = k
not_ended s m site r ps lift after fr below c (Leaves w) h k = k

load_ends : (s : Setting) (h : Here) (t : Ty) (p : Operand) (vs : List ℕ) (w : World) → is_good w (word 0 vs) (stored_size t) ≡ false → IsEnd (act s h (op.Load t p) vs w)
load_ends s h t p vs w bad = subst (λ (b : Bool). IsEnd (if b then Gives (number_at w.bytes (word 0 vs) (stored_size t) % 2 ^ width_of t) w else traps trap.BadAddress h.site w)) (sym bad) tt

pub blind_good : (mask : ℕ) (w : World) (a n : ℕ) → is_good (count_blind mask w) a n ≡ is_good w a n
blind_good mask w a n = by_test (eqb mask 0)
  where
    by_test : (b : Bool) → is_good (if b then w else record w { blind = w.blind + 1 }) a n ≡ is_good w a n
    by_test true = refl
    by_test false = refl

-- ---- a load

module _ (m : Module) (u : Setup) (t : Traced) (old : TracedRun) (o : IsFollowed m u t old) (k : Code) (passes : Passes m u t) (due : IsDue m old.fiber old.world k) (size cut : ℕ) (addr : Operand_) (to : ℕ) (is_load : k ≡ code.Load size cut addr to)
    (next : PlainState) (took : step_of m u o.state ≡ More next) where
  now : DueNow m u t old o k
  now = due_now m u t old o k passes due

  abbrev at : Where
  at = where_is m now.frame.func now.coded.func now.frame.block

  abbrev s : Setting
  s = setting_of m u

  abbrev i : Inst
  i = now.coded.inst

  abbrev h : Here
  h = here s m now.frame

  abbrev ps : List Poisoned
  ps = read_all (read_poisoned s now.frame.values) (operands i.op) h.root

  encoded : Encodes at (code.Load size cut addr to) i
  encoded = subst (λ (x : Code). Encodes at x i) is_load now.coded.encodes

  abbrev ty : Ty
  ty = encoded.0

  is : i.op ≡ op.Load encoded.0 encoded.1
  is = encoded.2.0

  -- its address
  address : word_of old.fill.now old.fiber.frame.values.items addr ≡ (word_at 0 ps).value
  address =
      source_word old.fill.now old.fiber.frame.values.items old.shade.masks.items at u now.frame.values (sym o.fill) (holds_now m u t old o k now) 64 addr encoded.1 encoded.2.3
      ∙ sym (ap (λ (x : Op). (word_at 0 (read_all (read_poisoned s now.frame.values) (operands x) h.root)).value) is)

  gone : (c : ShadowState) × ((shadow_step by_formulas s m t.state ≡ More c) × (next.frames ≡ map bare_frame c.frames) × (light (step_shadow s m t.state next.world) ≡ light c.world))
  gone = goes s m o.bare t.state o.state o.follows now.frame now.below now.first i now.coded.rest now.coded.due now.passes next took

  abbrev blind : ℕ
  blind = union (map (λ p. p.mask) (blinded s.func i.op ps))

  -- bytes that are loaded are good
  good_before : is_good t.state.world (word_at 0 ps).value (stored_size ty) ≡ true
  good_before = by_test (is_good (count_blind blind t.state.world) (word 0 (map (λ p. p.value) ps)) (stored_size ty)) refl
    where
      on : shadow_moved (shadow_act by_formulas s m i h ps now.frame now.below (count_blind blind t.state.world)) ≡ More gone.0
      on = sym (acts s m o.bare t.state o.state o.follows now.frame now.below now.first i now.coded.rest now.coded.due now.passes) ∙ gone.1.0

      by_test : (b : Bool) → is_good (count_blind blind t.state.world) (word 0 (map (λ p. p.value) ps)) (stored_size ty) ≡ b → is_good t.state.world (word_at 0 ps).value (stored_size ty) ≡ true
      by_test true e = ap (λ n. is_good t.state.world n (stored_size ty)) (sym (word_number 0 ps)) ∙ sym (blind_good blind t.state.world (word 0 (map (λ p. p.value) ps)) (stored_size ty)) ∙ e
      by_test false e =
          absurd (not_ended s m h.site i.result ps (poisoned_result by_formulas i.op ps) (planes s h.site (h.root + count_undefs (operands i.op) + 1) i.op ps (count_blind blind t.state.world))
          (keeping i.op (act s h i.op (map (λ p. p.value) ps) (count_blind blind t.state.world)) now.frame) now.below gone.0
          (act s h i.op (map (λ p. p.value) ps) (count_blind blind t.state.world)) on
          (subst (λ (x : Op). IsEnd (act s h x (map (λ p. p.value) ps) (count_blind blind t.state.world))) (sym is) (load_ends s h ty encoded.1 (map (λ p. p.value) ps) (count_blind blind t.state.world) e)))

  -- so they are in the machine's world
  module _ (first : ℕ) (first_is : first ≡ word_of old.fill.now old.fiber.frame.values.items addr) where
    at_first : first ≡ (word_at 0 ps).value
    at_first = first_is ∙ address

    pub good_here : is_good o.state.world first size ≡ true
    good_here =
        ap (λ (w : World). is_good w first size) o.follows.world
        ∙ (λ j. is_good t.state.world (at_first j) (sym encoded.2.1 j))
        ∙ good_before

    module _ (mask : ℕ) (mask_read : (beside : Beside) (meant : World) → Shows old.world beside meant → is_good meant first size ≡ true → mask ≡ bit_and (number_at meant.shadow first size) cut) where
      loaded_mask : (w : World) → w.shadow ≡ t.state.world.shadow → mask ≡ result_mask by_formulas i.op ps w
      loaded_mask w same =
          mask_read nothing_beside o.state.world o.running.shows good_here
          ∙ (λ j. bit_and (number_at ((ap (λ (v : World). v.shadow) o.follows.world ∙ sym same) j) (at_first j) (sym encoded.2.1 j)) (encoded.2.2 j))
          ∙ and_mask (number_at w.shadow (word_at 0 ps).value (stored_size ty)) (width_of ty)
          ∙ (λ j. result_mask by_formulas (sym is j) ps w)

    module _ (from : Source) (mask : ℕ) (from_read : (beside : Beside) (meant : World) → Shows old.world beside meant → is_good meant first size ≡ true → mask ≢ 0 → from ≡ byte_source (first_nonzero meant.shadow first size)) where
      loaded_from : mask ≢ 0 → from ≡ result_source i.op ps (sources old.shade.number (operands i.op) h.root) t.state.world
      loaded_from some =
          from_read nothing_beside o.state.world o.running.shows good_here some
          ∙ (λ j. byte_source (first_nonzero (ap (λ (v : World). v.shadow) o.follows.world j) (at_first j) (sym encoded.2.1 j)))
          ∙ (λ j. result_source (sym is j) ps (sources old.shade.number (operands i.op) h.root) t.state.world)

      module _ (site : ℕ) (row : InstRow) (new : TracedRun) (running : IsRunning m u nothing_beside new.fiber new.world next) (stands : slice_get old.tables.rows.items old.fiber.frame.at ≡ Some row)
          (mask_read : (beside : Beside) (meant : World) → Shows old.world beside meant → is_good meant first size ≡ true → mask ≡ bit_and (number_at meant.shadow first size) cut)
          (keeps : KeepsCalls old new) (event : new.event ≡ old.event + 1) (masks : new.shade.masks.items ≡ set old.shade.masks.items to mask) (number : new.shade.number ≡ old.shade.number)
          (site_is : (v : Setup) (beside : Beside) (state : PlainState) (frame : Frame ℕ) (below : List (Frame ℕ)) → IsRunning m v beside old.fiber old.world state → state.frames ≡ frame ∷ below → site ≡ site_at m frame.func frame.block frame.place)
          (told : IsLog new.log (t.moves ++ masked_move old.event site mask from (Value old.shade.number (unwrap_or row.inst.now.result (Number 0))))) where
        pub loaded_on : Went m u t true new
        loaded_on =
            let listed : HasRow m old.tables.rows.items now.frame.func now.frame.block now.frame.place i = o.tables now.frame.func now.frame.block now.frame.place i now.coded.item in
            let same : row ≡ listed.row = same_Some row listed.row (sym stands ∙ ap (slice_get old.tables.rows.items) now.stands.at ∙ listed.stands) in
            let inst_is : row.inst.now ≡ i = ap (λ (r : InstRow). r.inst.now) same ∙ listed.is.inst_is in
            let res : IsResult (locals now.coded.func) to i.result = encoded.2.4 in
            let x : Name = res.0 in
            let shade = (top m u t old o now.frame now.below now.first i now.coded.rest now.coded.due).shade_is in
            let placed_at : IsPlace (locals shade.func) to x = subst (λ (g : Func). IsPlace (locals g) to x) (same_Some now.coded.func shade.func (sym now.coded.is ∙ shade.is)) res.1.1 in
            let sited : site ≡ h.site =
            site_is u nothing_beside o.state (bare_frame now.frame) (map bare_frame now.below) o.running (o.follows.frames ∙ ap (map bare_frame) now.first)
            in
            let moves = (λ j. t.moves ++ masked_move old.event (sited j) mask from (Value old.shade.number (unwrap_or (inst_is j).result (Number 0))))
            ∙ ap (λ y. t.moves ++ masked_move old.event h.site mask from (Value old.shade.number y)) (ap (λ r. unwrap_or r (Number 0)) res.1.0)
            in
            valued_followed m u t old o now.frame now.below now.first i now.coded.rest now.coded.due now.passes (subst IsValued (sym is) tt) next took new running keeps event x res.1.0 to mask placed_at masks number
            (loaded_mask mask mask_read) from loaded_from (subst (λ (ms : List Move). IsLog new.log ms) moves told)
