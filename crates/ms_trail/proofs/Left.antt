-- A follower after a return.
use Rattle.std.proofs.Common.{◌≡◌, ◌<◌, ◌+◌, ◌-◌, ℕ, suc, Bool, true, false, true≢false, List, [], ◌∷◌, ◌++◌, map, drop, length, reverse, get_or, set, if◌then◌else◌, Option, Some, None, option_and_then, refl, sym, ap, ap₂, ◌∙◌, subst, arith}
use Rattle.std.specs.Prelude.{slice_get}
use Rattle.std.proofs.lemmas.Bool.{le-ltb}
use Rattle.std.proofs.lemmas.List.{length-append, length-reverse, reverse-append, reverse-reverse}
use Rattle.std.proofs.lemmas.Option.{same_Some, slice_get_within}
use Rattle.ms_ir.specs.declared.syntax.Func.{Func}
use Rattle.ms_ir.specs.declared.syntax.Name.{Name}
use Rattle.ms_ir.specs.declared.syntax.Ty.{Ty}
use Rattle.ms_ir.specs.declared.syntax.Operand.{Operand}
use Rattle.ms_ir.specs.declared.syntax.Op.{Op}
use Rattle.ms_ir.specs.declared.syntax.Op.TheVariants as op
use Rattle.ms_ir.specs.declared.syntax.Inst.{Inst}
use Rattle.ms_ir.specs.declared.syntax.Module.{Module}
use Rattle.ms_ir.specs.Layout.{width_of}
use Rattle.ms_ir.specs.Locals.{locals}
use Rattle.ms_ir.specs.Instructions.{func_at, operands, count_undefs, insts_at, root_at, site_at, external_named}
use Rattle.ms_runs.specs.declared.runs.End.TheVariants as «end»
use Rattle.ms_runs.specs.declared.runs.Setup.{Setup}
use Rattle.ms_runs.specs.World.{World, Setting, Here, Leaves, Ends, word}
use Rattle.ms_runs.specs.Control.{Frame, here, read_all, block_name, params_at, put, given_back, result_at}
use Rattle.ms_runs.specs.Act.{act}
use Rattle.ms_runs.specs.Plain.{PlainState, More, setting_of}
use Rattle.ms_runs.specs.Poisoned.{Poisoned, clean}
use Rattle.ms_runs.specs.Masks.{by_formulas, word_at}
use Rattle.ms_runs.specs.Uses.{blinded}
use Rattle.ms_runs.specs.Shadow.{ShadowState, read_poisoned, planes, poisoned_result}
use Rattle.ms_runs_good_laws.specs.GoodStates.{IsBelow, GoodFrames, StandsAtCall, IsMain, Bottom}
use Rattle.ms_runs_good_laws.proofs.Frames.{same_insts, top_good}
use Rattle.ms_runs_good_laws.proofs.SitedMoves.{last_is_main}
use Rattle.ms_check_valid.specs.Formed.{Formed}
use Rattle.ms_check_valid.specs.Valid.{Valid}
use Rattle.ms_machine_code.specs.declared.code.WordSource.{WordSource}
use Rattle.ms_machine_code.specs.declared.code.Code.{Code}
use Rattle.ms_machine_code.specs.declared.code.Code.TheVariants as code
use Rattle.ms_machine_code.specs.declared.code.Program.{Program}
use Rattle.ms_machine_code.specs.Fits.{IsPut}
use Rattle.ms_machine_code.specs.Reads.{Holds, PutsResult}
use Rattle.ms_machine_code.specs.Encodes.{Where, number_of, Returns, Encodes}
use Rattle.ms_machine_code.specs.Compiled.{Compiled, where_is}
use Rattle.ms_host.specs.State.{Beside, nothing_beside}
use Rattle.ms_machine_frames.specs.declared.frames.Frame.{Frame as Kept}
use Rattle.ms_machine_frames.specs.declared.fibers.Fiber.{Fiber}
use Rattle.ms_machine_frames.specs.Meaning.{put_of, put_value}
use Rattle.ms_machine_frames.specs.Standing.{Stands, FramesStand, IsState, frames_of}
use Rattle.ms_machine_steps.specs.Advances.{step_of}
use Rattle.ms_machine_steps.proofs.Due.{Due, due_good, code_stands}
use Rattle.ms_machine_steps.proofs.Crossings.{call_puts}
use Rattle.ms_machine.specs.Running.{IsRunning}
use Rattle.ms_machine.proofs.Programs.{state_to}
use Rattle.ms_runs_laws.specs.Follows.{light, bare_frame}
use Rattle.ms_trail_moves.specs.declared.moves.Source.{Source as From}
use Rattle.ms_trail_moves.specs.declared.moves.Target.TheVariants.{Value}
use Rattle.ms_trail_moves.specs.declared.moves.Move.{Move}
use Rattle.ms_trail_moves.specs.Sources.{operand_source, sources, source_at, result_source}
use Rattle.ms_trail_moves.specs.Written.{written}
use Rattle.ms_trail_moves.specs.Events.{Numbers, renumbered, innermost, result_move, return_move, param_moves, phi_moves, memory_moves, callee_moves, inst_moves, event_moves}
use Rattle.ms_trail_moves.specs.Traces.{Traced}
use Rattle.ms_trail_masks.specs.Shades.{mask_of}
use Rattle.ms_trail_masks.proofs.Reading.{source_difference, reads_mask}
use Rattle.ms_trail.specs.declared.traced_run.TracedRun.{TracedRun}
use Rattle.ms_trail_uses.specs.declared.frame_masks.FrameMasks.{FrameMasks}
use Rattle.ms_trail_uses.specs.declared.tables.InstRow.{InstRow}
use Rattle.ms_trail.specs.Calling.{returned_told}
use Rattle.ms_trail_bytes.specs.Logs.{IsLog}
use Rattle.ms_trail_uses.specs.Tabled.{HasRow}
use Rattle.ms_trail_uses.specs.Due.{IsDue}
use Rattle.ms_trail.specs.Telling.{masked_move}
use Rattle.ms_trail.specs.Following.{HasShade, HaveShades, Passes, Went, IsFollowed}
use Rattle.ms_trail.proofs.Valued.{masks_set}
use Rattle.ms_trail.proofs.ResultSteps.{shades_count}
use Rattle.ms_trail.proofs.DueCode.{DueNow, due_now, holds_now}
use Rattle.ms_trail.proofs.Onward.{KeepsRest, onward, leaves_state, moves_at}
use Rattle.ms_trail.proofs.Writing.{gone, number_is, shade_is, on, site_same, inst_is, roots_are}

-- ---- lists

last_read : (xs : List Kept) (x : Kept) → slice_get (xs ++ x ∷ []) (length xs) ≡ Some x
last_read [] x = refl
last_read (y ∷ ys) x = last_read ys x

-- the first of a reversed list is the last
last_is : (xs : List Kept) (k : Kept) (ks : List Kept) → reverse xs ≡ k ∷ ks → slice_get xs (length xs - 1) ≡ Some k
last_is xs k ks e =
    let whole : xs ≡ reverse ks ++ k ∷ [] = sym (reverse-reverse xs) ∙ ap reverse e ∙ reverse-append (k ∷ []) ks in
    let place : length (reverse ks ++ k ∷ []) - 1 ≡ length (reverse ks) = (let h : length (reverse ks ++ k ∷ []) ≡ length (reverse ks) + 1 = length-append (reverse ks) (k ∷ []) in omega (arith, h)) in
    ap (λ (ys : List Kept). slice_get ys (length ys - 1)) whole ∙ ap (slice_get (reverse ks ++ k ∷ [])) place ∙ last_read (reverse ks) k

some_below : (xs : List Kept) (k : Kept) (ks : List Kept) → reverse xs ≡ k ∷ ks → 0 < length xs
some_below xs k ks e = let h : length xs ≡ suc (length ks) = sym (length-reverse xs) ∙ ap length e in omega (arith, h)

-- ---- masks

word_first : (ps : List Poisoned) → get_or ps 0 clean ≡ word_at 0 ps
word_first [] = refl
word_first (p ∷ ps) = refl

-- the mask of the word that a return gives
return_mask : (at : Where) (v : WordSource) (value : Option (Ty × Operand)) → Returns at v value → (u : Setup) (ms : List ℕ) (values : Name → Poisoned) (root : ℕ) → Holds at.names ms (λ x. (values x).mask)
    → mask_of ms v ≡ (word_at 0 (read_all (read_poisoned (setting_of at.whole u) values) (operands (op.Ret value)) root)).mask
return_mask at v None r u ms values root holds = source_difference at.names ms v ∙ ap₂ (λ a b. a - b) (r (255 ∷ []) ms) (r (0 ∷ []) (map (λ x. 0) at.names))
return_mask at v (Some x) r u ms values root holds = reads_mask at.whole at.names (width_of x.0) v x.1 r ms values holds

-- the masks of a frame with the result of its call
pub put_masks : (names : List Name) (ms : List ℕ) (fr : Frame Poisoned) (to : Option ℕ) (r : Option Name) (p : Poisoned) → PutsResult names to r → Holds names ms (λ x. (fr.values x).mask)
    → Holds names (put_value to (Some p.mask) ms) (λ x. ((put fr r p).values x).mask)
put_masks names ms fr (Some to) r p puts holds = subst (λ (q : Option Name). Holds names (set ms to p.mask) (λ x. ((put fr q p).values x).mask)) (sym puts.1.0) (masks_set names ms fr.values to puts.0 p puts.1.1 holds)
put_masks names ms fr None r p puts holds = subst (λ (q : Option Name). Holds names ms (λ x. ((put fr q p).values x).mask)) (sym puts) holds

pub puts_within : (names : List Name) (n : ℕ) (to : Option ℕ) (r : Option Name) → n ≡ length names → PutsResult names to r → IsPut n to
puts_within names n (Some to) r same puts = let place : to < length names = (let e = puts.1.1.is in omega (arith, e, puts.1.1.known)) in omega (arith, same, place)
puts_within names n None r same puts = tt

returned_same : (event event' site site' frame frame' mask : ℕ) (r : Option Name) (p : Poisoned) (from from' : From) → event ≡ event' → site ≡ site' → frame ≡ frame' → mask ≡ p.mask → from ≡ from'
    → returned_told event site frame r mask from ≡ result_move event' site' frame' r (λ x. p) from'
returned_same event event' site site' frame frame' mask None p from from' e s f m g = refl
returned_same event event' site site' frame frame' mask (Some x) p from from' e s f m g = (λ j. masked_move (e j) (s j) (m j) (g j) (Value (f j) x))

-- the moves of a return
pub ret_moves : (s : Setting) (m : Module) (event : ℕ) (i : Inst) (from to : ℕ) (fr : Frame Poisoned) (below : List (Frame Poisoned)) (w : World) (next : Frame Poisoned) (after : World) (value : Option (Ty × Operand)) → i.op ≡ op.Ret value
    → inst_moves s m event i from to fr below w next after
    ≡ return_move m event (here s m fr).site to (word_at 0 (read_all (read_poisoned s fr.values) (operands i.op) (here s m fr).root)) (source_at 0 (sources from (operands i.op) (here s m fr).root)) below
ret_moves s m event i from to fr below w next after value is =
    let h : Here = here s m fr in
    let ps : List Poisoned = read_all (read_poisoned s fr.values) (operands i.op) h.root in
    let ss : List From = sources from (operands i.op) h.root in
    let jump : List Move = phi_moves event to (read_poisoned s fr.values) (λ n t o. operand_source from n o) s.func (block_name m fr.func fr.block)
    (insts_at m fr.func next.block) (root_at s.func m fr.func next.block 0) (site_at m fr.func next.block 0) in
    let result : List Move = result_move event h.site to i.result next.values (result_source i.op ps ss w) in
    let memory : List Move = memory_moves event h.site after.shadow (written s (h.root + count_undefs (operands i.op) + 1) i.op ps ss w after) in
    let back : List Move = return_move m event h.site to (word_at 0 ps) (source_at 0 ss) below in
    ap (λ (o : Op). elim o as (λ z. List Move) [
      | op.Br x ↦ jump
      | op.CondBr c x y ↦ jump
      | op.Switch t v x cases ↦ jump
      | op.Ret v ↦ back
      | op.Call r x args ↦ elim (s.func x) [ Some f ↦ param_moves event h.site to (params_at m f) ps ss | None ↦ callee_moves (external_named s.func x) result memory ]
      | op.Alloca t u count ↦ memory
      | op.Store t x a ↦ memory
      | _ ↦ result
    ]) is

-- ---- the caller

pub record CallerNow (m : Module) (p : Program) (fiber : Fiber) (below : List (Frame Poisoned)) : Type 0 where
  pub caller : Frame Poisoned
  pub rest : List (Frame Poisoned)
  pub is : below ≡ caller ∷ rest
  pub kept : Kept
  pub lower : List Kept
  pub kept_is : reverse fiber.below.items ≡ kept ∷ lower
  pub func : Func
  pub func_is : func_at m caller.func ≡ Some func
  pub inst : Inst
  pub item : slice_get (insts_at m caller.func caller.block) caller.place ≡ Some inst
  pub at : kept.at ≡ number_of m caller.func caller.block caller.place
  pub made : Code
  pub stands : slice_get p.code kept.at ≡ Some made
  pub puts : PutsResult (locals func) (put_of made) inst.result

caller_now : (m : Module) (p : Program) (s : Setting) → Compiled m p → (fiber : Fiber) (fr : Frame Poisoned) (below : List (Frame Poisoned)) → FramesStand m p (frames_of fiber) (bare_frame fr ∷ map bare_frame below)
    → GoodFrames IsBelow m (bare_frame fr ∷ map bare_frame below) → Bottom (IsMain m) (fr ∷ below) → (here s m fr).main ≡ false → CallerNow m p fiber below
caller_now m p s compiled fiber fr [] stand good last inside = absurd (true≢false (sym (last_is_main s m fr last) ∙ inside))
caller_now m p s compiled fiber fr (caller ∷ rest) stand good last inside = by_kept (reverse fiber.below.items) refl stand.1
  where
    by_kept : (ks : List Kept) → reverse fiber.below.items ≡ ks → FramesStand m p ks (bare_frame caller ∷ map bare_frame rest) → CallerNow m p fiber (caller ∷ rest)
    by_kept [] e h = absurd h
    by_kept (kept ∷ lower) e h =
        let both : Stands m p kept (bare_frame caller) = h.0 in
        let d : Due m p (bare_frame caller) kept both = due_good m p compiled (bare_frame caller) kept both (top_good IsBelow m (bare_frame caller) (map bare_frame rest) good.2) in
        let at_call : StandsAtCall m (bare_frame caller) fr.func = good.1 in
        let due : slice_get (insts_at m caller.func caller.block) caller.place ≡ Some at_call.inst =
        ap (λ (xs : List Inst). slice_get xs caller.place) (same_insts m caller.func at_call.func caller.block at_call.stands) ∙ at_call.due in
        let calls : d.inst.op ≡ op.Call at_call.ret at_call.callee at_call.args = ap (λ (i : Inst). i.op) (same_Some d.inst at_call.inst (sym d.item ∙ due)) ∙ at_call.calls in
        record {
          caller = caller;
          rest = rest;
          is = refl;
          kept = kept;
          lower = lower;
          kept_is = e;
          func = both.func;
          func_is = both.is;
          inst = d.inst;
          item = d.item;
          at = both.at;
          made = d.encoded.made;
          stands = code_stands m p compiled (bare_frame caller) kept both d;
          puts = call_puts (where_is m caller.func both.func caller.block) d.encoded.made d.inst at_call.ret at_call.callee at_call.args calls d.encoded.encodes;
        }

-- ---- a step that returns

module _ (m : Module) (p : Program) (formed : Formed m) (valid : Valid m) (compiled : Compiled m p) (u : Setup) (t : Traced) (old : TracedRun) (o : IsFollowed m u t old) (k : Code) (passes : Passes m u t) (due : IsDue m old.fiber old.world k)
    (v : WordSource) (is_return : k ≡ code.Return v) where
  abbrev d : DueNow m u t old o k
  d = due_now m u t old o k passes due

  abbrev fr : Frame Poisoned
  fr = d.frame

  abbrev at : Where
  at = where_is m fr.func d.coded.func fr.block

  abbrev s : Setting
  s = setting_of m u

  abbrev i : Inst
  i = d.coded.inst

  abbrev h : Here
  h = here s m fr

  abbrev ps : List Poisoned
  ps = read_all (read_poisoned s fr.values) (operands i.op) h.root

  enc : Encodes at (code.Return v) i
  enc = subst (λ (x : Code). Encodes at x i) is_return d.coded.encodes

  is : i.op ≡ op.Ret enc.0
  is = enc.1.0

  inside : h.main ≡ false
  inside = enc.1.2

  -- its caller
  pub its_caller : CallerNow m p old.fiber d.below
  its_caller =
      let plain : o.state.frames ≡ bare_frame fr ∷ map bare_frame d.below = o.follows.frames ∙ ap (map bare_frame) d.first in
      let state : IsState m p u nothing_beside old.fiber old.world o.state = state_to m p compiled formed valid u nothing_beside old.fiber old.world o.state o.running in
      caller_now m p s compiled old.fiber fr d.below (subst (FramesStand m p (frames_of old.fiber)) plain state.frames) (subst (GoodFrames IsBelow m) plain state.sound.frames) (subst (Bottom (IsMain m)) d.first o.bottom) inside

  pub below_there : 0 < length old.fiber.below.items
  below_there = some_below old.fiber.below.items its_caller.kept its_caller.lower its_caller.kept_is

  pub kept_same : (kept : Kept) → slice_get old.fiber.below.items (length old.fiber.below.items - 1) ≡ Some kept → kept ≡ its_caller.kept
  kept_same kept e = same_Some kept its_caller.kept (sym e ∙ last_is old.fiber.below.items its_caller.kept its_caller.lower its_caller.kept_is)

  -- the row and the code of its call
  listed_call : HasRow m old.tables.rows.items its_caller.caller.func its_caller.caller.block its_caller.caller.place its_caller.inst
  listed_call = o.tables its_caller.caller.func its_caller.caller.block its_caller.caller.place its_caller.inst its_caller.item

  module _ (kept : Kept) (is_kept : slice_get old.fiber.below.items (length old.fiber.below.items - 1) ≡ Some kept) where
    pub kept_at : kept.at ≡ its_caller.kept.at
    kept_at = ap (λ (q : Kept). q.at) (kept_same kept is_kept)

    row_there : slice_get old.tables.rows.items kept.at ≡ Some listed_call.row
    row_there = ap (slice_get old.tables.rows.items) (kept_at ∙ its_caller.at) ∙ listed_call.stands

    pub row_at : kept.at < length old.tables.rows.items
    row_at = slice_get_within old.tables.rows.items kept.at listed_call.row row_there

    pub call_within : kept.at < length p.code
    call_within = slice_get_within p.code kept.at its_caller.made (ap (slice_get p.code) kept_at ∙ its_caller.stands)

    pub call_is : (call : Code) → slice_get p.code kept.at ≡ Some call → call ≡ its_caller.made
    call_is call e = same_Some call its_caller.made (sym e ∙ ap (slice_get p.code) kept_at ∙ its_caller.stands)

    pub call_inst : (row : InstRow) → slice_get old.tables.rows.items kept.at ≡ Some row → row.inst.now ≡ its_caller.inst
    call_inst row e = ap (λ (q : InstRow). q.inst.now) (same_Some row listed_call.row (sym e ∙ row_there)) ∙ listed_call.is.inst_is

  -- ---- masks of its caller

  shades_below : HaveShades m t.numbers.standing (fr ∷ its_caller.caller ∷ its_caller.rest) (old.shade ∷ reverse old.below.items)
  shades_below = subst (λ (fs : List (Frame Poisoned)). HaveShades m t.numbers.standing fs (old.shade ∷ reverse old.below.items)) (d.first ∙ ap (λ bs. fr ∷ bs) its_caller.is) o.shades

  pub never_alone : old.below.items ≡ [] → ⊥
  never_alone e = by_numbers t.numbers.standing (subst (λ (ss : List FrameMasks). HaveShades m t.numbers.standing (fr ∷ its_caller.caller ∷ its_caller.rest) (old.shade ∷ reverse ss)) e shades_below)
    where
      by_numbers : (ns : List ℕ) → HaveShades m ns (fr ∷ its_caller.caller ∷ its_caller.rest) (old.shade ∷ []) → ⊥
      by_numbers [] x = x
      by_numbers (n ∷ []) x = x.1
      by_numbers (n ∷ l ∷ ns) x = x.1

  module _ (shade : FrameMasks) (left_below : List FrameMasks) (popped : old.below.items ≡ left_below ++ shade ∷ []) where
    pub record ShadesLeft : Type 0 where
      pub inner : ℕ
      pub number : ℕ
      pub numbers : List ℕ
      pub standing : t.numbers.standing ≡ inner ∷ number ∷ numbers
      pub first : HasShade m number its_caller.caller shade
      pub lower : HaveShades m numbers its_caller.rest (reverse left_below)

    shades_left : ShadesLeft
    shades_left =
        by_numbers t.numbers.standing refl
        (subst (λ (ss : List FrameMasks). HaveShades m t.numbers.standing (fr ∷ its_caller.caller ∷ its_caller.rest) (old.shade ∷ ss)) (ap reverse popped ∙ reverse-append left_below (shade ∷ [])) shades_below)
      where
        by_numbers : (ns : List ℕ) → t.numbers.standing ≡ ns → HaveShades m ns (fr ∷ its_caller.caller ∷ its_caller.rest) (old.shade ∷ shade ∷ reverse left_below) → ShadesLeft
        by_numbers [] e x = absurd x
        by_numbers (n ∷ []) e x = absurd x.1
        by_numbers (n ∷ l ∷ ns) e x = record { inner = n; number = l; numbers = ns; standing = e; first = x.1.0; lower = x.1.1 }

    func_same : shades_left.first.func ≡ its_caller.func
    func_same = same_Some shades_left.first.func its_caller.func (sym shades_left.first.is ∙ its_caller.func_is)

    caller_masks : Holds (locals its_caller.func) shade.masks.items (λ x. (its_caller.caller.values x).mask)
    caller_masks = subst (λ (f : Func). Holds (locals f) shade.masks.items (λ x. (its_caller.caller.values x).mask)) func_same shades_left.first.masks

    pub put_within : (call : Code) → call ≡ its_caller.made → IsPut (length shade.masks.items) (put_of call)
    put_within call e =
        subst (λ (c : Code). IsPut (length shade.masks.items) (put_of c)) (sym e) (puts_within (locals its_caller.func) (length shade.masks.items) (put_of its_caller.made) its_caller.inst.result caller_masks.count its_caller.puts)

    module _ (next : PlainState) (took : step_of m u o.state ≡ More next) where
      abbrev c : ShadowState
      c = (gone m u t old o k passes due next took).0

      sees : blinded s.func i.op ps ≡ []
      sees = ap (λ (x : Op). blinded s.func x ps) is

      leaves : act s h i.op (map (λ q. q.value) ps) t.state.world ≡ Leaves t.state.world
      leaves =
          ap (λ (x : Op). act s h x (map (λ q. q.value) ps) t.state.world) is
          ∙ ap (λ (b : Bool). if b then Ends («end».Exit (word 0 (map (λ q. q.value) ps))) t.state.world else Leaves t.state.world) inside

      abbrev given : Poisoned
      given = get_or ps 0 clean

      state : record { frames = put its_caller.caller (result_at m its_caller.caller) given ∷ its_caller.rest; world = given_back fr t.state.world } ≡ c
      state =
          leaves_state s m h.site i.result ps (poisoned_result by_formulas i.op ps) (planes s h.site (h.root + count_undefs (operands i.op) + 1) i.op ps t.state.world) fr d.below c i.op (act s h i.op (map (λ q. q.value) ps) t.state.world)
          (on m u t old o k passes due next took sees) t.state.world its_caller.caller its_caller.rest leaves its_caller.is

      frames : c.frames ≡ put its_caller.caller (result_at m its_caller.caller) given ∷ its_caller.rest
      frames = sym (ap (λ (x : ShadowState). x.frames) state)

      result_is : result_at m its_caller.caller ≡ its_caller.inst.result
      result_is = ap (option_and_then (λ (x : Inst). x.result)) its_caller.item

      module _ (new : TracedRun) (running : IsRunning m u nothing_beside new.fiber new.world next) (keeps : KeepsRest old new) (below : new.below.items ≡ left_below) (made : new.made ≡ old.made) (event : new.event ≡ old.event + 1)
          (call : Code) (is_call : call ≡ its_caller.made) (mask : ℕ) (mask_is : mask ≡ mask_of old.shade.masks.items v) (masks : new.shade.masks.items ≡ put_value (put_of call) (Some mask) shade.masks.items) (number : new.shade.number ≡ shade.number)
          (row : InstRow) (stands : slice_get old.tables.rows.items old.fiber.frame.at ≡ Some row) (site : ℕ)
          (sited : (v : Setup) (beside : Beside) (state : PlainState) (frame : Frame ℕ) (below : List (Frame ℕ)) → IsRunning m v beside old.fiber old.world state → state.frames ≡ frame ∷ below → site ≡ site_at m frame.func frame.block frame.place)
          (inst : Inst) (is_inst : inst ≡ its_caller.inst)
          (told : IsLog new.log (t.moves ++ returned_told old.event site shade.number inst.result mask (source_at 0 (sources old.shade.number (operands row.inst.now.op) row.roots)))) where
        pub leave_on : Went m u t true new
        leave_on =
            let after = gone m u t old o k passes due next took in
            let light_is : light next.world ≡ light c.world = ap light (sym (shade_is m u t old o k passes due next took (Leaves t.state.world) leaves next.world)) ∙ after.1.2 in
            let l : ShadesLeft = shades_left in
            let ns : Numbers = record { standing = l.number ∷ l.numbers; made = t.numbers.made } in
            let few : length its_caller.rest ≡ length l.numbers = shades_count m l.numbers its_caller.rest (reverse left_below) l.lower in
            let depth : length c.frames ≡ suc (length l.numbers) = ap length frames ∙ ap suc few in
            let numbers : renumbered (length c.frames) t.numbers ≡ ns =
            (λ j. renumbered (depth j) (record { standing = l.standing j; made = t.numbers.made }))
            ∙ ap (λ b. if b then record { standing = t.numbers.made ∷ l.inner ∷ l.number ∷ l.numbers; made = t.numbers.made + 1 }
            else record { standing = drop (length (l.inner ∷ l.number ∷ l.numbers) - suc (length l.numbers)) (l.inner ∷ l.number ∷ l.numbers); made = t.numbers.made })
            (le-ltb (length (l.inner ∷ l.number ∷ l.numbers)) (suc (length l.numbers)) (omega arith))
            ∙ (let one : length (l.inner ∷ l.number ∷ l.numbers) - suc (length l.numbers) ≡ 1 = omega arith in
            ap (λ n. record { standing = drop n (l.inner ∷ l.number ∷ l.numbers); made = t.numbers.made }) one)
            in
            let word_is : given ≡ word_at 0 ps = word_first ps in
            let same_mask : mask ≡ (word_at 0 ps).mask =
            mask_is ∙ return_mask at v enc.0 enc.1.1 u old.shade.masks.items fr.values h.root (holds_now m u t old o k d).masks
            ∙ sym (ap (λ (x : Op). (word_at 0 (read_all (read_poisoned s fr.values) (operands x) h.root)).mask) is)
            in
            let held : Holds (locals its_caller.func) (put_value (put_of its_caller.made) (Some given.mask) shade.masks.items) (λ x. ((put its_caller.caller its_caller.inst.result given).values x).mask) =
            put_masks (locals its_caller.func) shade.masks.items its_caller.caller (put_of its_caller.made) its_caller.inst.result given its_caller.puts caller_masks
            in
            let masks_are : new.shade.masks.items ≡ put_value (put_of its_caller.made) (Some given.mask) shade.masks.items =
            masks ∙ (λ j. put_value (put_of (is_call j)) (Some ((same_mask ∙ sym (ap (λ (q : Poisoned). q.mask) word_is)) j)) shade.masks.items)
            in
            let first : HasShade m l.number (put its_caller.caller (result_at m its_caller.caller) given) new.shade =
            subst (λ (r : Option Name). HasShade m l.number (put its_caller.caller r given) new.shade) (sym result_is) (one l new held masks_are number)
            in
            let all : HaveShades m ns.standing c.frames (new.shade ∷ reverse new.below.items) =
            subst (λ (fs : List (Frame Poisoned)). HaveShades m ns.standing fs (new.shade ∷ reverse new.below.items)) (sym frames)
            (first, subst (λ (bs : List FrameMasks). HaveShades m l.numbers its_caller.rest (reverse bs)) (sym below) l.lower)
            in
            let from_is : innermost t.numbers.standing ≡ old.shade.number = number_is m u t old o k passes due next took in
            let moves : returned_told old.event site shade.number inst.result mask (source_at 0 (sources old.shade.number (operands row.inst.now.op) row.roots)) ≡ event_moves s m t.events t.numbers ns t.state c =
            ap (λ (r : Option Name). returned_told old.event site shade.number r mask (source_at 0 (sources old.shade.number (operands row.inst.now.op) row.roots))) (ap (λ (x : Inst). x.result) is_inst ∙ sym result_is)
            ∙ returned_same old.event t.events site h.site shade.number l.number mask (result_at m its_caller.caller) (word_at 0 ps) (source_at 0 (sources old.shade.number (operands row.inst.now.op) row.roots))
            (source_at 0 (sources (innermost t.numbers.standing) (operands i.op) h.root)) o.event (site_same m u t old o k passes due next took site sited) l.first.numbered same_mask
            (λ j. source_at 0 (sources (sym from_is j) (operands (inst_is m u t old o k passes due next took row stands j).op) (roots_are m u t old o k passes due next took row stands j)))
            ∙ ap (return_move m t.events h.site l.number (word_at 0 ps) (source_at 0 (sources (innermost t.numbers.standing) (operands i.op) h.root))) (sym its_caller.is)
            ∙ sym (ret_moves s m t.events i (innermost t.numbers.standing) l.number fr d.below t.state.world (put its_caller.caller (result_at m its_caller.caller) given) c.world enc.0 is)
            ∙ sym (moves_at s m t.state fr d.below d.first i d.coded.rest d.coded.due t.events t.numbers ns c (put its_caller.caller (result_at m its_caller.caller) given) its_caller.rest frames)
            in
            onward m u t old o new c next after.1.0 keeps running after.1.1 light_is ns numbers all (made ∙ o.made) event (subst (λ (qs : List Move). IsLog new.log (t.moves ++ qs)) moves told)
          where
            one : (l : ShadesLeft) (new : TracedRun) → Holds (locals its_caller.func) (put_value (put_of its_caller.made) (Some given.mask) shade.masks.items) (λ x. ((put its_caller.caller its_caller.inst.result given).values x).mask)
                → new.shade.masks.items ≡ put_value (put_of its_caller.made) (Some given.mask) shade.masks.items → new.shade.number ≡ shade.number
                → HasShade m l.number (put its_caller.caller its_caller.inst.result given) new.shade
            one l new held masks_are number = by_result its_caller.inst.result (subst (λ (ms : List ℕ). Holds (locals its_caller.func) ms (λ x. ((put its_caller.caller its_caller.inst.result given).values x).mask)) (sym masks_are) held)
              where
                by_result : (r : Option Name) → Holds (locals its_caller.func) new.shade.masks.items (λ x. ((put its_caller.caller r given).values x).mask) → HasShade m l.number (put its_caller.caller r given) new.shade
                by_result None held = record { func = its_caller.func; is = its_caller.func_is; numbered = number ∙ l.first.numbered; masks = held }
                by_result (Some x) held = record { func = its_caller.func; is = its_caller.func_is; numbered = number ∙ l.first.numbered; masks = held }
