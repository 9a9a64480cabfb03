-- A follower after an 'alloca' or a store.
use Rattle.std.proofs.Common.{eqb, ◌≡◌, ◌≤◌, ◌<◌, ◌+◌, ◌*◌, ◌^◌, ℕ, Bool, true, false, List, [], ◌∷◌, ◌++◌, map, length, reverse, get_or, if◌then◌else◌, Some, refl, sym, ap, ◌∙◌, subst, arith, append-nil}
use Rattle.std.specs.Prelude.{set, slice_get}
use Rattle.std.proofs.lemmas.Option.{same_Some}
use Rattle.ms_bits.specs.declared.traps.Trap.TheVariants as trap
use Rattle.ms_bits.specs.Maps.{byte_of}
use Rattle.ms_ir.specs.declared.syntax.Func.{Func}
use Rattle.ms_ir.specs.declared.syntax.Ty.{Ty}
use Rattle.ms_ir.specs.declared.syntax.Op.{Op}
use Rattle.ms_ir.specs.declared.syntax.Op.TheVariants as op
use Rattle.ms_ir.specs.declared.syntax.Inst.{Inst}
use Rattle.ms_ir.specs.declared.syntax.Module.{Module}
use Rattle.ms_ir.specs.Layout.{stored_size, size_in}
use Rattle.ms_ir.specs.Locals.{locals}
use Rattle.ms_ir.specs.Instructions.{operands, count_undefs, site_at}
use Rattle.ms_runs.specs.declared.runs.Setup.{Setup}
use Rattle.ms_runs.specs.World.{World, Setting, Here, Effect, Gives, Does, traps}
use Rattle.ms_runs.specs.Memory.{fits, local_area, next_base, is_good, make_unset, store_number, set_shadow}
use Rattle.ms_runs.specs.Origins.{count_blind, poison}
use Rattle.ms_runs.specs.Control.{Frame, here, read_all, one_on, put, with_value, local_block, keeping}
use Rattle.ms_runs.specs.Threads.{Fibers}
use Rattle.ms_runs.specs.Act.{act}
use Rattle.ms_runs.specs.Plain.{PlainState, More, setting_of}
use Rattle.ms_runs.specs.Poisoned.{Poisoned}
use Rattle.ms_runs.specs.Masks.{by_formulas, union, word_at, result_mask}
use Rattle.ms_runs.specs.Uses.{blinded}
use Rattle.ms_runs.specs.Shadow.{ShadowState, read_poisoned, planes, shadow_moved, poisoned_result, shadow_act, shadow_step}
use Rattle.ms_runs_good_laws.specs.GoodWorlds.{FitsCell}
use Rattle.ms_runs_good_laws.proofs.WorldChanges.{set_shadow_good}
use Rattle.ms_runs_good_laws.proofs.ExternalEffects.{fits_small}
use Rattle.ms_runs_good_laws.proofs.Readings.{word_number}
use Rattle.ms_check_valid.proofs.NameTests.{name_same}
use Rattle.ms_machine_code.specs.declared.code.WordSource.{WordSource as Operand}
use Rattle.ms_machine_code.specs.declared.code.Code.{Code}
use Rattle.ms_machine_code.specs.declared.code.Code.TheVariants as code
use Rattle.ms_machine_code.specs.Words.{word_of}
use Rattle.ms_machine_code.specs.Reads.{Holds, IsPlace, IsResult}
use Rattle.ms_machine_code.specs.Encodes.{Where, Encodes}
use Rattle.ms_machine_code.specs.Compiled.{where_is}
use Rattle.ms_host.specs.State.{WorldState, Beside, Keeps, nothing_beside}
use Rattle.ms_host.specs.Shows.{Shows}
use Rattle.ms_machine_frames.specs.declared.fibers.Fiber.{Fiber}
use Rattle.ms_machine_frames.specs.Standing.{frames_of}
use Rattle.ms_machine_steps.specs.Advances.{step_of}
use Rattle.ms_machine.specs.Running.{StandsFor, AllStandFor, IsRunning}
use Rattle.ms_runs_laws.specs.Follows.{light, bare_frame, shadow_left, leave_shadow, first_shadow, frames_shadow, step_shadow}
use Rattle.ms_runs_laws.proofs.FollowedPlanes.{planes_light}
use Rattle.ms_trail_moves.specs.declared.moves.Source.{Source}
use Rattle.ms_trail_moves.specs.declared.moves.Move.{Move}
use Rattle.ms_trail_moves.specs.Sources.{sources, source_at}
use Rattle.ms_trail_moves.specs.Written.{Filled, made, written}
use Rattle.ms_trail_moves.specs.Events.{innermost, written_moves, memory_moves, event_moves}
use Rattle.ms_trail_moves.specs.Traces.{Traced}
use Rattle.ms_trail_masks.specs.Shades.{mask_of}
use Rattle.ms_trail.specs.declared.traced_run.TracedRun.{TracedRun}
use Rattle.ms_trail_uses.specs.declared.frame_masks.FrameMasks.{FrameMasks}
use Rattle.ms_trail_uses.specs.declared.tables.InstRow.{InstRow}
use Rattle.ms_trail_bytes.specs.Logs.{IsLog}
use Rattle.ms_trail_uses.specs.Tabled.{HasRow}
use Rattle.ms_trail_uses.specs.Due.{IsDue}
use Rattle.ms_trail.specs.Following.{HasShade, HaveShades, Passes, Went, IsFollowed}
use Rattle.ms_trail_uses.proofs.CodeUses.{source_word, source_mask}
use Rattle.ms_trail.proofs.Going.{goes, acts}
use Rattle.ms_trail.proofs.Valued.{same_numbers, masks_set}
use Rattle.ms_trail.proofs.ResultSteps.{TopShade, KeepsCalls, shades_count, top}
use Rattle.ms_trail.proofs.DueCode.{DueNow, due_now, holds_now}
use Rattle.ms_trail.proofs.Loaded.{IsEnd, not_ended}
use Rattle.ms_trail.proofs.Onward.{onward, shaded_running, memory_same, gives_state, does_state, moves_at, IsWriting, writing_moves}
use Rattle.ms_trail_bytes.proofs.Filling.{good_poison}
use Rattle.ms_bits_laws.proofs.MapLemmas.{byte_of-lt}

module _ (m : Module) (u : Setup) (t : Traced) (old : TracedRun) (o : IsFollowed m u t old) (k : Code) (passes : Passes m u t) (due : IsDue m old.fiber old.world k) (next : PlainState) (took : step_of m u o.state ≡ More next) where
  abbrev pub now : DueNow m u t old o k
  now = due_now m u t old o k passes due

  abbrev at : Where
  at = where_is m now.frame.func now.coded.func now.frame.block

  abbrev s : Setting
  s = setting_of m u

  abbrev i : Inst
  i = now.coded.inst

  abbrev h : Here
  h = here s m now.frame

  abbrev ps : List Poisoned
  ps = read_all (read_poisoned s now.frame.values) (operands i.op) h.root

  abbrev own : ℕ
  own = h.root + count_undefs (operands i.op) + 1

  pub gone : (c : ShadowState) × ((shadow_step by_formulas s m t.state ≡ More c) × (next.frames ≡ map bare_frame c.frames) × (light (step_shadow s m t.state next.world) ≡ light c.world))
  gone = goes s m o.bare t.state o.state o.follows now.frame now.below now.first i now.coded.rest now.coded.due now.passes next took

  pub its : TopShade m t.numbers.standing now.frame now.below old.shade (reverse old.below.items)
  its = top m u t old o now.frame now.below now.first i now.coded.rest now.coded.due

  pub number_is : innermost t.numbers.standing ≡ old.shade.number
  number_is = ap innermost its.is ∙ sym its.shade_is.numbered

  pub site_same : (site : ℕ) → ((v : Setup) (beside : Beside) (state : PlainState) (frame : Frame ℕ) (below : List (Frame ℕ)) → IsRunning m v beside old.fiber old.world state → state.frames ≡ frame ∷ below → site ≡ site_at m frame.func frame.block frame.place) → site ≡ h.site
  site_same site is = is u nothing_beside o.state (bare_frame now.frame) (map bare_frame now.below) o.running (o.follows.frames ∙ ap (map bare_frame) now.first)

  pub listed : HasRow m old.tables.rows.items now.frame.func now.frame.block now.frame.place i
  listed = o.tables now.frame.func now.frame.block now.frame.place i now.coded.item

  module _ (row : InstRow) (stands : slice_get old.tables.rows.items old.fiber.frame.at ≡ Some row) where
    pub row_is : row ≡ listed.row
    row_is = same_Some row listed.row (sym stands ∙ ap (slice_get old.tables.rows.items) now.stands.at ∙ listed.stands)

    pub inst_is : row.inst.now ≡ i
    inst_is = ap (λ (r : InstRow). r.inst.now) row_is ∙ listed.is.inst_is

    pub roots_are : row.roots ≡ h.root
    roots_are = ap (λ (r : InstRow). r.roots) row_is ∙ listed.is.roots

  -- the shadow that the step leaves
  pub shade_is : (x : Effect) → act s h i.op (map (λ p. p.value) ps) t.state.world ≡ x → (w : World) → step_shadow s m t.state w ≡ leave_shadow x (shadow_left s i.op ps t.state.world) w
  shade_is x e w =
      ap (λ (fs : List (Frame Poisoned)). frames_shadow s m fs t.state.world w) now.first
      ∙ ap (λ (insts : List Inst). first_shadow s m insts now.frame t.state.world w) now.coded.due
      ∙ ap (λ (y : Effect). leave_shadow y (shadow_left s i.op ps t.state.world) w) e

  -- where nothing is blinded the step is that of the instruction alone
  module _ (sees : blinded s.func i.op ps ≡ []) where
    pub on : shadow_moved (shadow_act by_formulas s m i h ps now.frame now.below t.state.world) ≡ More gone.0
    on =
        sym (ap (λ (qs : List Poisoned). shadow_moved (shadow_act by_formulas s m i h ps now.frame now.below (count_blind (union (map (λ p. p.mask) qs)) t.state.world))) sees)
        ∙ sym (acts s m o.bare t.state o.state o.follows now.frame now.below now.first i now.coded.rest now.coded.due now.passes)
        ∙ gone.1.0

    goes_on : (x : Effect) → act s h i.op (map (λ p. p.value) ps) t.state.world ≡ x → IsEnd x → ⊥
    goes_on x e ends =
        not_ended s m h.site i.result ps (poisoned_result by_formulas i.op ps) (planes s h.site own i.op ps t.state.world) (keeping i.op (act s h i.op (map (λ p. p.value) ps) t.state.world) now.frame) now.below gone.0
        (act s h i.op (map (λ p. p.value) ps) t.state.world) on (subst IsEnd (sym e) ends)

  -- a follower after a step that wrote memory, and nothing but its result's mask
  module _ (writes : IsWriting i.op) (head : Frame Poisoned) (frames : gone.0.frames ≡ head ∷ now.below) (v : World) (left : v ≡ step_shadow s m t.state next.world) (new : TracedRun)
      (running : IsRunning m u nothing_beside new.fiber new.world (record next { world = v })) (keeps : KeepsCalls old new) (event : new.event ≡ old.event + 1) (shade : HasShade m its.number head new.shade) (site : ℕ) (sited : site ≡ h.site)
      (told : IsLog new.log (t.moves ++ memory_moves old.event site v.shadow (written s own i.op ps (sources old.shade.number (operands i.op) h.root) t.state.world v))) where
    wrote : Went m u t true new
    wrote =
        let c : ShadowState = gone.0 in
        let world : light v ≡ light c.world = ap light left ∙ gone.1.2 in
        let depth : length c.frames ≡ length t.numbers.standing =
        ap length frames ∙ sym (ap length now.first) ∙ shades_count m t.numbers.standing t.state.frames (old.shade ∷ reverse old.below.items) o.shades
        in
        let all : HaveShades m (its.number ∷ its.numbers) c.frames (new.shade ∷ reverse new.below.items) =
        subst (λ (fs : List (Frame Poisoned)). HaveShades m (its.number ∷ its.numbers) fs (new.shade ∷ reverse new.below.items)) (sym frames)
        (shade, subst (λ (bs : List FrameMasks). HaveShades m its.numbers now.below (reverse bs)) (sym keeps.below) its.lower)
        in
        let moves : memory_moves old.event site v.shadow (written s own i.op ps (sources old.shade.number (operands i.op) h.root) t.state.world v) ≡ event_moves s m t.events t.numbers t.numbers t.state c =
        (λ j. memory_moves (o.event j) (sited j) v.shadow (written s own i.op ps (sources (sym number_is j) (operands i.op) h.root) t.state.world v))
        ∙ memory_same s own i.op ps (sources (innermost t.numbers.standing) (operands i.op) h.root) t.state.world v c.world t.events h.site world
        ∙ sym (writing_moves s m t.events i (innermost t.numbers.standing) (innermost t.numbers.standing) now.frame now.below t.state.world head c.world writes)
        ∙ sym (moves_at s m t.state now.frame now.below now.first i now.coded.rest now.coded.due t.events t.numbers t.numbers c head now.below frames)
        in
        onward m u t old o new c (record next { world = v }) gone.1.0 (record { whole = keeps.whole; tables = keeps.tables; fill = keeps.fill }) running gone.1.1 world t.numbers
        (same_numbers (length c.frames) t.numbers depth) (subst (λ (ns : List ℕ). HaveShades m ns c.frames (new.shade ∷ reverse new.below.items)) (sym its.is) all) (keeps.made ∙ o.made) event
        (subst (λ (ms : List Move). IsLog new.log (t.moves ++ ms)) moves told)

  -- ---- an 'alloca'

  module _ (size : ℕ) (count : Operand) (to : ℕ) (is_alloca : k ≡ code.Alloca size count to) where
    pub a_code : Encodes at (code.Alloca size count to) i
    a_code = subst (λ (x : Code). Encodes at x i) is_alloca now.coded.encodes

    a_is : i.op ≡ op.Alloca a_code.0 a_code.1 a_code.2
    a_is = a_code.3.0

    abbrev n : ℕ
    n = size_in s.types a_code.0 * (word_at 0 ps).value

    a_sees : blinded s.func i.op ps ≡ []
    a_sees = ap (λ (x : Op). blinded s.func x ps) a_is

    -- how many bytes it makes
    pub many_bytes : (many : ℕ) → many ≡ word_of old.fill.now old.fiber.frame.values.items count → size * many ≡ n
    many_bytes many is =
        let read : many ≡ (word_at 0 ps).value =
        is ∙ source_word old.fill.now old.fiber.frame.values.items old.shade.masks.items at u now.frame.values (sym o.fill) (holds_now m u t old o k now) _ count a_code.2 a_code.3.2
        ∙ sym (ap (λ (x : Op). (word_at 0 (read_all (read_poisoned s now.frame.values) (operands x) h.root)).value) a_is)
        in
        (λ j. sym a_code.3.1 j * read j)

    a_act : act s h i.op (map (λ p. p.value) ps) t.state.world ≡ (if fits (local_area t.state.world) n t.state.world then Gives (next_base (local_area t.state.world) t.state.world) (make_unset s.fill (local_area t.state.world) n t.state.world) else traps trap.Stack h.site t.state.world)
    a_act =
        ap (λ (x : Op). act s h x (map (λ p. p.value) ps) t.state.world) a_is
        ∙ ap (λ b. if fits (local_area t.state.world) (size_in s.types a_code.0 * b) t.state.world then Gives (next_base (local_area t.state.world) t.state.world) (make_unset s.fill (local_area t.state.world) (size_in s.types a_code.0 * b) t.state.world) else traps trap.Stack h.site t.state.world) (word_number 0 ps)

    pub a_fits : fits (local_area t.state.world) n t.state.world ≡ true
    a_fits = by_test (fits (local_area t.state.world) n t.state.world) refl
      where
        by_test : (b : Bool) → fits (local_area t.state.world) n t.state.world ≡ b → fits (local_area t.state.world) n t.state.world ≡ true
        by_test true e = e
        by_test false e =
            absurd (goes_on a_sees (traps trap.Stack h.site t.state.world)
            (a_act ∙ ap (λ (b : Bool). if b then Gives (next_base (local_area t.state.world) t.state.world) (make_unset s.fill (local_area t.state.world) n t.state.world) else traps trap.Stack h.site t.state.world) e) tt)

    pub few_bytes : n ≤ 2 ^ 26
    few_bytes = (fits_small (local_area t.state.world) n t.state.world a_fits).0

    a_gives : act s h i.op (map (λ p. p.value) ps) t.state.world ≡ Gives (next_base (local_area t.state.world) t.state.world) (make_unset s.fill (local_area t.state.world) n t.state.world)
    a_gives = a_act ∙ ap (λ (b : Bool). if b then Gives (next_base (local_area t.state.world) t.state.world) (make_unset s.fill (local_area t.state.world) n t.state.world) else traps trap.Stack h.site t.state.world) a_fits

    abbrev result : Poisoned
    result = poisoned_result by_formulas i.op ps (next_base (local_area t.state.world) t.state.world) (make_unset s.fill (local_area t.state.world) n t.state.world)

    a_named : IsResult (locals now.coded.func) to i.result
    a_named = a_code.3.3

    -- `main` alone goes on, whose room is on the stack
    a_turn : t.state.world.turn ≡ 0
    a_turn = sym (ap (λ (w : World). w.turn) o.follows.world) ∙ ap (λ (f : Fibers). f.turn) o.running.shows.fibers

    a_none : keeping i.op (Gives (next_base (local_area t.state.world) t.state.world) (make_unset s.fill (local_area t.state.world) n t.state.world)) now.frame ≡ now.frame
    a_none = ap (λ (k : ℕ). record now.frame { heap = (if eqb k 0 then [] else local_block i.op (next_base (local_area t.state.world) t.state.world)) ++ now.frame.heap }) a_turn

    a_frames : gone.0.frames ≡ put now.frame (Some a_named.0) result ∷ now.below
    a_frames =
        sym (ap (λ (c : ShadowState). c.frames)
        (gives_state s m h.site i.result ps (poisoned_result by_formulas i.op ps) (planes s h.site own i.op ps t.state.world) now.frame now.below gone.0 i.op (act s h i.op (map (λ p. p.value) ps) t.state.world) (on a_sees)
        (next_base (local_area t.state.world) t.state.world) (make_unset s.fill (local_area t.state.world) n t.state.world) a_none a_gives))
        ∙ ap (λ r. put now.frame r result ∷ now.below) a_named.1.0

    a_shade : (w : World) → step_shadow s m t.state w ≡ poison (next_base (local_area t.state.world) t.state.world) 0 n 0 w
    a_shade w = shade_is (Gives (next_base (local_area t.state.world) t.state.world) (make_unset s.fill (local_area t.state.world) n t.state.world)) a_gives w ∙ ap (λ (x : Op). shadow_left s x ps t.state.world (next_base (local_area t.state.world) t.state.world) w) a_is

    -- its result is the base of the bytes
    pub base_is : (fiber : Fiber) (w : WorldState) → IsRunning m u nothing_beside fiber w next → get_or fiber.frame.values.items to 0 ≡ next_base (local_area t.state.world) t.state.world
    base_is fiber w r =
        let stands : StandsFor m fiber.frame (bare_frame (put now.frame (Some a_named.0) result)) =
        (subst (AllStandFor m (frames_of fiber)) (gone.1.1 ∙ ap (map bare_frame) a_frames) r.frames).0
        in
        let same : stands.func ≡ now.coded.func = same_Some stands.func now.coded.func (sym stands.is ∙ now.coded.is) in
        let place : IsPlace (locals stands.func) to a_named.0 = subst (λ (g : Func). IsPlace (locals g) to a_named.0) (sym same) a_named.1.1 in
        ap (λ j. get_or fiber.frame.values.items j 0) place.is
        ∙ stands.holds.same a_named.0 place.known
        ∙ ap (λ b. (if b then result else now.frame.values a_named.0).value) (name_same a_named.0)

    pub base_within : (fiber : Fiber) (w : WorldState) → IsRunning m u nothing_beside fiber w next → to < length fiber.frame.values.items
    base_within fiber w r =
        let stands : StandsFor m fiber.frame (bare_frame (put now.frame (Some a_named.0) result)) =
        (subst (AllStandFor m (frames_of fiber)) (gone.1.1 ∙ ap (map bare_frame) a_frames) r.frames).0
        in
        let same : stands.func ≡ now.coded.func = same_Some stands.func now.coded.func (sym stands.is ∙ now.coded.is) in
        let place : IsPlace (locals stands.func) to a_named.0 = subst (λ (g : Func). IsPlace (locals g) to a_named.0) (sym same) a_named.1.1 in
        omega (arith, place.is, place.known, stands.holds.count)

    module _ (new : TracedRun) (w : WorldState) (running : IsRunning m u nothing_beside new.fiber w next) (base root many site : ℕ) (row : InstRow) (stands : slice_get old.tables.rows.items old.fiber.frame.at ≡ Some row)
        (based : base ≡ get_or new.fiber.frame.values.items to 0) (counted : many ≡ word_of old.fill.now old.fiber.frame.values.items count) (rooted : root ≡ row.roots + count_undefs (operands row.inst.now.op) + 1)
        (site_is : (v : Setup) (beside : Beside) (state : PlainState) (frame : Frame ℕ) (below : List (Frame ℕ)) → IsRunning m v beside old.fiber old.world state → state.frames ≡ frame ∷ below → site ≡ site_at m frame.func frame.block frame.place)
        (keeps : KeepsCalls old new) (event : new.event ≡ old.event + 1) (masks : new.shade.masks.items ≡ set old.shade.masks.items to 0) (number : new.shade.number ≡ old.shade.number) (slots : Keeps w new.world)
        (unset : Shows new.world nothing_beside (poison base 0 (size * many) 0 next.world)
        × IsLog new.log (t.moves ++ memory_moves old.event site (poison base 0 (size * many) 0 next.world).shadow (made (poison base 0 (size * many) 0 next.world) base 0 (size * many) root))) where
      pub alloca_on : Went m u t true new
      alloca_on =
          let same_base : base ≡ next_base (local_area t.state.world) t.state.world = based ∙ base_is new.fiber w running in
          let same_count : size * many ≡ n = many_bytes many counted in
          let same_root : root ≡ own = rooted ∙ (λ j. roots_are row stands j + count_undefs (operands (inst_is row stands j).op) + 1) in
          let v : World = poison (next_base (local_area t.state.world) t.state.world) 0 n 0 next.world in
          let shown : Shows new.world nothing_beside v = subst (λ (x : World). Shows new.world nothing_beside x) (λ j. poison (same_base j) 0 (same_count j) 0 next.world) unset.0 in
          let none : result.mask ≡ 0 = ap (λ (x : Op). result_mask by_formulas x ps (make_unset s.fill (local_area t.state.world) n t.state.world)) a_is in
          let placed : IsPlace (locals its.shade_is.func) to a_named.0 = subst (λ (g : Func). IsPlace (locals g) to a_named.0) (same_Some now.coded.func its.shade_is.func (sym now.coded.is ∙ its.shade_is.is)) a_named.1.1 in
          let shade : HasShade m its.number (put now.frame (Some a_named.0) result) new.shade = record {
            func = its.shade_is.func;
            is = its.shade_is.is;
            numbered = number ∙ its.shade_is.numbered;
            masks = subst (λ (ms : List ℕ). Holds (locals its.shade_is.func) ms (λ y. (with_value now.frame.values a_named.0 result y).mask)) (ap (set old.shade.masks.items to) none ∙ sym masks)
                (masks_set (locals its.shade_is.func) old.shade.masks.items now.frame.values to a_named.0 result placed its.shade_is.masks);
          } in
          wrote (subst IsWriting (sym a_is) tt) (put now.frame (Some a_named.0) result) a_frames v (sym (a_shade next.world)) new (shaded_running m u new.fiber w new.world next v running shown slots (good_poison (next_base (local_area t.state.world) t.state.world) 0 n next.world running.sound.world)) keeps event shade site
          (site_same site site_is)
          (subst (λ (ms : List Move). IsLog new.log (t.moves ++ ms))
          ((λ j. memory_moves old.event site (poison (same_base j) 0 (same_count j) 0 next.world).shadow (made (poison (same_base j) 0 (same_count j) 0 next.world) (same_base j) 0 (same_count j) (same_root j)))
          ∙ sym (ap (λ (x : Op). memory_moves old.event site v.shadow (written s own x ps (sources old.shade.number (operands i.op) h.root) t.state.world v)) a_is)) unset.1)

  -- ---- a store

  module _ (size : ℕ) (value addr : Operand) (is_store : k ≡ code.Store size value addr) where
    pub s_code : Encodes at (code.Store size value addr) i
    s_code = subst (λ (x : Code). Encodes at x i) is_store now.coded.encodes

    s_is : i.op ≡ op.Store s_code.0 s_code.1 s_code.2
    s_is = s_code.3.0

    abbrev ty : Ty
    ty = s_code.0

    s_sees : blinded s.func i.op ps ≡ []
    s_sees = ap (λ (x : Op). blinded s.func x ps) s_is

    address : word_of old.fill.now old.fiber.frame.values.items addr ≡ (word_at 1 ps).value
    address =
        source_word old.fill.now old.fiber.frame.values.items old.shade.masks.items at u now.frame.values (sym o.fill) (holds_now m u t old o k now) 64 addr s_code.2 s_code.3.3
        ∙ sym (ap (λ (x : Op). (word_at 1 (read_all (read_poisoned s now.frame.values) (operands x) h.root)).value) s_is)

    stored_mask : mask_of old.shade.masks.items value ≡ (word_at 0 ps).mask
    stored_mask =
        source_mask old.fill.now old.fiber.frame.values.items old.shade.masks.items at u now.frame.values (sym o.fill) (holds_now m u t old o k now) _ value s_code.1 s_code.3.2
        ∙ sym (ap (λ (x : Op). (word_at 0 (read_all (read_poisoned s now.frame.values) (operands x) h.root)).mask) s_is)

    abbrev after : World
    after = store_number (word_at 1 ps).value (stored_size ty) (word_at 0 ps).value t.state.world

    s_act : act s h i.op (map (λ p. p.value) ps) t.state.world ≡ (if is_good t.state.world (word_at 1 ps).value (stored_size ty) then Does after else traps trap.BadAddress h.site t.state.world)
    s_act =
        ap (λ (x : Op). act s h x (map (λ p. p.value) ps) t.state.world) s_is
        ∙ (λ j. if is_good t.state.world (word_number 1 ps j) (stored_size ty) then Does (store_number (word_number 1 ps j) (stored_size ty) (word_number 0 ps j) t.state.world) else traps trap.BadAddress h.site t.state.world)

    s_good : is_good t.state.world (word_at 1 ps).value (stored_size ty) ≡ true
    s_good = by_test (is_good t.state.world (word_at 1 ps).value (stored_size ty)) refl
      where
        by_test : (b : Bool) → is_good t.state.world (word_at 1 ps).value (stored_size ty) ≡ b → is_good t.state.world (word_at 1 ps).value (stored_size ty) ≡ true
        by_test true e = e
        by_test false e = absurd (goes_on s_sees (traps trap.BadAddress h.site t.state.world) (s_act ∙ ap (λ (b : Bool). if b then Does after else traps trap.BadAddress h.site t.state.world) e) tt)

    s_does : act s h i.op (map (λ p. p.value) ps) t.state.world ≡ Does after
    s_does = s_act ∙ ap (λ (b : Bool). if b then Does after else traps trap.BadAddress h.site t.state.world) s_good

    s_state : record { frames = one_on now.frame ∷ now.below; world = planes s h.site own i.op ps t.state.world 0 after } ≡ gone.0
    s_state =
        does_state s m h.site i.result ps (poisoned_result by_formulas i.op ps) (planes s h.site own i.op ps t.state.world) now.frame now.below gone.0 i.op (act s h i.op (map (λ p. p.value) ps) t.state.world) (on s_sees) after s_does

    s_shade : (w : World) → step_shadow s m t.state w ≡ set_shadow (word_at 1 ps).value (stored_size ty) (byte_of (word_at 0 ps).mask) w
    s_shade w = shade_is (Does after) s_does w ∙ ap (λ (x : Op). shadow_left s x ps t.state.world 0 w) s_is

    -- the bytes are good in the machine's world after the step
    good_after : is_good next.world (word_at 1 ps).value (stored_size ty) ≡ true
    good_after =
        ap (λ (w : World). is_good w (word_at 1 ps).value (stored_size ty)) (sym (s_shade next.world))
        ∙ ap (λ (w : World). is_good w (word_at 1 ps).value (stored_size ty)) gone.1.2
        ∙ ap (λ (c : ShadowState). is_good c.world (word_at 1 ps).value (stored_size ty)) (sym s_state)
        ∙ ap (λ (w : World). is_good w (word_at 1 ps).value (stored_size ty)) (planes_light s h.site own i.op ps t.state.world 0 after)
        ∙ ap (λ (x : Op). is_good (shadow_left s x ps t.state.world 0 after) (word_at 1 ps).value (stored_size ty)) s_is
        ∙ s_good

    module _ (first : ℕ) (first_is : first ≡ word_of old.fill.now old.fiber.frame.values.items addr) where
      pub good_stored : is_good next.world first size ≡ true
      good_stored = (λ j. is_good next.world ((first_is ∙ address) j) (sym s_code.3.1 j)) ∙ good_after

      module _ (new : TracedRun) (w : WorldState) (running : IsRunning m u nothing_beside new.fiber w next) (mask site : ℕ) (from : Source) (row : InstRow) (stands : slice_get old.tables.rows.items old.fiber.frame.at ≡ Some row)
          (masked : mask ≡ mask_of old.shade.masks.items value) (from_is : from ≡ source_at 0 (sources old.shade.number (operands row.inst.now.op) row.roots))
          (site_is : (v : Setup) (beside : Beside) (state : PlainState) (frame : Frame ℕ) (below : List (Frame ℕ)) → IsRunning m v beside old.fiber old.world state → state.frames ≡ frame ∷ below → site ≡ site_at m frame.func frame.block frame.place)
          (keeps : KeepsCalls old new) (event : new.event ≡ old.event + 1) (shade_same : new.shade ≡ old.shade) (slots : Keeps w new.world)
          (stored : Shows new.world nothing_beside (set_shadow first size (byte_of mask) next.world)
          × IsLog new.log (t.moves ++ written_moves old.event site (set_shadow first size (byte_of mask) next.world).shadow (Filled first size from))) where
        pub store_on : Went m u t true new
        store_on =
            let same_first : first ≡ (word_at 1 ps).value = first_is ∙ address in
            let same_size : size ≡ stored_size ty = sym s_code.3.1 in
            let same_mask : mask ≡ (word_at 0 ps).mask = masked ∙ stored_mask in
            let same_from : from ≡ source_at 0 (sources old.shade.number (operands i.op) h.root) = from_is ∙ (λ j. source_at 0 (sources old.shade.number (operands (inst_is row stands j).op) (roots_are row stands j))) in
            let v : World = set_shadow first size (byte_of mask) next.world in
            let v_is : v ≡ set_shadow (word_at 1 ps).value (stored_size ty) (byte_of (word_at 0 ps).mask) next.world = (λ j. set_shadow (same_first j) (same_size j) (byte_of (same_mask j)) next.world) in
            let shade : HasShade m its.number (one_on now.frame) new.shade = subst (λ (x : FrameMasks). HasShade m its.number (one_on now.frame) x) (sym shade_same) (record {
              func = its.shade_is.func;
              is = its.shade_is.is;
              numbered = its.shade_is.numbered;
              masks = its.shade_is.masks;
            }) in
            wrote (subst IsWriting (sym s_is) tt) (one_on now.frame) (sym (ap (λ (c : ShadowState). c.frames) s_state)) v (v_is ∙ sym (s_shade next.world)) new
            (shaded_running m u new.fiber w new.world next v running stored.0 slots (set_shadow_good FitsCell first size (byte_of mask) next.world running.sound.world (byte_of-lt mask))) keeps event shade site (site_same site site_is)
            (subst (λ (ms : List Move). IsLog new.log (t.moves ++ ms))
            (sym (append-nil (written_moves old.event site v.shadow (Filled first size from)))
            ∙ (λ j. written_moves old.event site v.shadow (Filled (same_first j) (same_size j) (same_from j)) ++ [])
            ∙ sym (ap (λ (x : Op). memory_moves old.event site v.shadow (written s own x ps (sources old.shade.number (operands i.op) h.root) t.state.world v)) s_is)) stored.1)
