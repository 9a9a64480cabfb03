-- A follower after an instruction that sets its result.
use Rattle.std.proofs.Common.{◌≡◌, ◌+◌, ℕ, suc, Bool, true, false, eqb, List, [], ◌∷◌, ◌++◌, map, length, reverse, if◌then◌else◌, Some, refl, sym, ap, ◌∙◌, subst}
use Rattle.std.specs.Prelude.{set}
use Rattle.std.proofs.lemmas.Bool.{eqb-false}
use Rattle.ms_ir.specs.declared.syntax.Name.{Name}
use Rattle.ms_ir.specs.declared.syntax.Inst.{Inst}
use Rattle.ms_ir.specs.declared.syntax.Module.{Module}
use Rattle.ms_ir.specs.Instructions.{operands}
use Rattle.ms_ir.specs.Locals.{locals}
use Rattle.ms_runs.specs.declared.runs.Setup.{Setup}
use Rattle.ms_runs.specs.World.{World, Setting, Here, Does}
use Rattle.ms_runs.specs.Origins.{count_blind}
use Rattle.ms_runs.specs.Control.{Frame, here, rest_of, read_all, put, with_value}
use Rattle.ms_runs.specs.Plain.{PlainState, More, setting_of}
use Rattle.ms_runs.specs.Poisoned.{Poisoned}
use Rattle.ms_runs.specs.Masks.{by_formulas, union, result_mask}
use Rattle.ms_runs.specs.Uses.{uses, check_uses, blinded}
use Rattle.ms_runs.specs.Shadow.{ShadowState, read_poisoned, poisoned_result, shadow_step}
use Rattle.ms_machine_code.specs.Reads.{Holds, IsPlace}
use Rattle.ms_host.specs.State.{nothing_beside}
use Rattle.ms_machine_steps.specs.Advances.{step_of}
use Rattle.ms_runs_good_laws.specs.GoodStates.{IsMain}
use Rattle.ms_runs_good_laws.proofs.Bottoms.{StateBottom, shadow_bottom}
use Rattle.ms_machine.specs.Running.{IsRunning}
use Rattle.ms_runs_laws.specs.Follows.{light}
use Rattle.ms_trail_moves.specs.declared.moves.Source.{Source}
use Rattle.ms_trail_moves.specs.declared.moves.Target.{Target}
use Rattle.ms_trail_moves.specs.declared.moves.Target.TheVariants.{Value}
use Rattle.ms_trail_moves.specs.declared.moves.Move.{Move}
use Rattle.ms_trail_moves.specs.Sources.{sources, result_source}
use Rattle.ms_trail_moves.specs.Events.{Numbers, renumbered, innermost, moved, event_moves}
use Rattle.ms_trail_moves.specs.Traces.{Traced, traced_on}
use Rattle.ms_trail.specs.declared.traced_run.TracedRun.{TracedRun}
use Rattle.ms_trail_uses.specs.declared.frame_masks.FrameMasks.{FrameMasks}
use Rattle.ms_trail_bytes.specs.Logs.{IsLog}
use Rattle.ms_trail_uses.specs.Tabled.{AreTables}
use Rattle.ms_trail.specs.Telling.{masked_move}
use Rattle.ms_trail.specs.Following.{HaveShades, HasShade, IsFollowed}
use Rattle.ms_trail.proofs.Going.{goes, acts}
use Rattle.ms_trail.proofs.Valued.{IsValued, Sets, same_numbers, shadow_same, sets, moves_are, masks_set}

-- ---- masks of frames

-- the masks of the innermost frame
pub record TopShade (m : Module) (ns : List ℕ) (fr : Frame Poisoned) (below : List (Frame Poisoned)) (shade : FrameMasks) (rest : List FrameMasks) : Type 0 where
  pub number : ℕ
  pub numbers : List ℕ
  pub is : ns ≡ number ∷ numbers
  pub shade_is : HasShade m number fr shade
  pub lower : HaveShades m numbers below rest

pub top_shade : (m : Module) (ns : List ℕ) (fr : Frame Poisoned) (below : List (Frame Poisoned)) (shade : FrameMasks) (rest : List FrameMasks) → HaveShades m ns (fr ∷ below) (shade ∷ rest) → TopShade m ns fr below shade rest
top_shade m [] fr below shade rest h = absurd h
top_shade m (n ∷ ns) fr below shade rest h = record { number = n; numbers = ns; is = refl; shade_is = h.0; lower = h.1 }

pub shades_count : (m : Module) (ns : List ℕ) (fs : List (Frame Poisoned)) (ss : List FrameMasks) → HaveShades m ns fs ss → length fs ≡ length ns
shades_count m [] [] [] h = refl
shades_count m [] [] (s ∷ ss) h = absurd h
shades_count m [] (f ∷ fs) ss h = absurd h
shades_count m (n ∷ ns) [] ss h = absurd h
shades_count m (n ∷ ns) (f ∷ fs) [] h = absurd h
shades_count m (n ∷ ns) (f ∷ fs) (s ∷ ss) h = ap suc (shades_count m ns fs ss h.1)

-- ---- moves

-- what moves doesn't matter where nothing does
masked_same : (e e' site k k' : ℕ) (from from' : Source) (to to' : Target) → e ≡ e' → k ≡ k' → ((k ≡ 0 → ⊥) → from ≡ from') → to ≡ to' → masked_move e site k from to ≡ masked_move e' site k' from' to'
masked_same e e' site k k' from from' to to' events masks sources places = (λ i. masked_move (events i) site (masks i) from (places i)) ∙ by_test (eqb k' 0) refl
  where
    by_test : (b : Bool) → eqb k' 0 ≡ b → (if b then [] else moved e' site from to' ∷ []) ≡ (if b then [] else moved e' site from' to' ∷ [])
    by_test true is = refl
    by_test false is = ap (λ f. moved e' site f to' ∷ []) (sources (λ z. eqb-false k' 0 is (sym masks ∙ z)))

-- ---- what stays

-- what no step changes of a follower, and its frames but for the innermost
pub record KeepsCalls (old new : TracedRun) : Type 0 where
  pub whole : new.m.now ≡ old.m.now
  pub below : new.below.items ≡ old.below.items
  pub made : new.made ≡ old.made
  pub tables : new.tables.rows.items ≡ old.tables.rows.items
  pub fill : new.fill.now ≡ old.fill.now

-- ---- one step on

blind_shadow : (mask : ℕ) (w : World) → (count_blind mask w).shadow ≡ w.shadow
blind_shadow mask w = by_test (eqb mask 0)
  where
    by_test : (b : Bool) → (if b then w else record w { blind = w.blind + 1 }).shadow ≡ w.shadow
    by_test true = refl
    by_test false = refl

module _ (m : Module) (u : Setup) (t : Traced) (old : TracedRun) (o : IsFollowed m u t old) (fr : Frame Poisoned) (below : List (Frame Poisoned)) (first : t.state.frames ≡ fr ∷ below) (i : Inst) (is : List Inst) (due : rest_of m fr ≡ i ∷ is) where
  abbrev s : Setting
  s = setting_of m u

  abbrev at : Here
  at = here s m fr

  abbrev ps : List Poisoned
  ps = read_all (read_poisoned s fr.values) (operands i.op) at.root

  -- the masks of the frame in which the step is taken
  pub top : TopShade m t.numbers.standing fr below old.shade (reverse old.below.items)
  top = top_shade m t.numbers.standing fr below old.shade (reverse old.below.items) (subst (λ (fs : List (Frame Poisoned)). HaveShades m t.numbers.standing fs (old.shade ∷ reverse old.below.items)) first o.shades)

  number_is : innermost t.numbers.standing ≡ old.shade.number
  number_is = ap innermost top.is ∙ sym top.shade_is.numbered

  module _ (passes : check_uses s at.site (operands i.op) ps (uses s.func at.main i.op) t.state.world ≡ Does t.state.world) (valued : IsValued i.op) (next : PlainState) (took : step_of m u o.state ≡ More next) (new : TracedRun)
      (running : IsRunning m u nothing_beside new.fiber new.world next) (keeps : KeepsCalls old new) (event : new.event ≡ old.event + 1)
      (x : Name) (named : i.result ≡ Some x) (k mask : ℕ) (place : IsPlace (locals top.shade_is.func) k x) (masks : new.shade.masks.items ≡ set old.shade.masks.items k mask) (number : new.shade.number ≡ old.shade.number)
      (mask_is : (w : World) → w.shadow ≡ t.state.world.shadow → mask ≡ result_mask by_formulas i.op ps w) (from : Source) (from_is : (mask ≡ 0 → ⊥) → from ≡ result_source i.op ps (sources old.shade.number (operands i.op) at.root) t.state.world)
      (told : IsLog new.log (t.moves ++ masked_move old.event at.site mask from (Value old.shade.number x))) where
    pub valued_followed : (c : ShadowState) × ((shadow_step by_formulas s m t.state ≡ More c) × IsFollowed m u (traced_on s m t c) new)
    valued_followed =
        let gone = goes s m o.bare t.state o.state o.follows fr below first i is due passes next took in
        let c : ShadowState = gone.0 in
        let w : World = count_blind (union (map (λ p. p.mask) (blinded s.func i.op ps))) t.state.world in
        let set_to : Sets s m t.state fr below first i is due valued w c = sets s m t.state fr below first i is due valued w c (sym (acts s m o.bare t.state o.state o.follows fr below first i is due passes) ∙ gone.1.0) in
        let shaded : set_to.world.shadow ≡ t.state.world.shadow = ap (λ (x : World). x.shadow) set_to.same ∙ blind_shadow (union (map (λ p. p.mask) (blinded s.func i.op ps))) t.state.world in
        let word : Poisoned = poisoned_result by_formulas i.op ps set_to.value set_to.world in
        let frames : c.frames ≡ put fr (Some x) word ∷ below = set_to.frames ∙ ap (λ n. put fr n word ∷ below) named in
        let depth : length c.frames ≡ length t.numbers.standing =
        ap length frames ∙ sym (ap length first) ∙ shades_count m t.numbers.standing t.state.frames (old.shade ∷ reverse old.below.items) o.shades
        in
        let numbers : renumbered (length c.frames) t.numbers ≡ t.numbers = same_numbers (length c.frames) t.numbers depth in
        let its : HasShade m top.number (put fr (Some x) word) new.shade = record {
          func = top.shade_is.func;
          is = top.shade_is.is;
          numbered = number ∙ top.shade_is.numbered;
          masks = subst (λ (ms : List ℕ). Holds (locals top.shade_is.func) ms (λ y. (with_value fr.values x word y).mask)) (sym (masks ∙ ap (set old.shade.masks.items k) (mask_is set_to.world shaded)))
              (masks_set (locals top.shade_is.func) old.shade.masks.items fr.values k x word place top.shade_is.masks);
        } in
        let all : HaveShades m (top.number ∷ top.numbers) c.frames (new.shade ∷ reverse new.below.items) =
        subst (λ (fs : List (Frame Poisoned)). HaveShades m (top.number ∷ top.numbers) fs (new.shade ∷ reverse new.below.items)) (sym frames)
        (its, subst (λ (bs : List FrameMasks). HaveShades m top.numbers below (reverse bs)) (sym keeps.below) top.lower)
        in
        let moves = masked_same old.event t.events at.site mask word.mask from (result_source i.op ps (sources (innermost t.numbers.standing) (operands i.op) at.root) t.state.world) (Value old.shade.number x) (Value (innermost t.numbers.standing) x)
        o.event (mask_is set_to.world shaded) (λ some. from_is some ∙ ap (λ n. result_source i.op ps (sources n (operands i.op) at.root) t.state.world) (sym number_is)) (ap (λ n. Value n x) (sym number_is))
        ∙ sym (moves_are s m t.state fr below first i is due valued t.events t.numbers c x word named set_to.frames)
        ∙ ap (λ n. event_moves s m t.events t.numbers n t.state c) (sym numbers)
        in (
          c,
          (
            gone.1.0,
            record {
              whole = keeps.whole ∙ o.whole;
              bare = o.bare;
              calm = o.calm;
              few = o.few;
              state = next;
              running = running;
              follows = record { frames = gone.1.1; world = sym (ap light (shadow_same s m t.state fr below first i is due valued next.world)) ∙ gone.1.2 };
              bottom = subst (StateBottom (IsMain m)) gone.1.0 (shadow_bottom (IsMain m) by_formulas s m t.state o.bottom);
              shades = subst (λ (ns : List ℕ). HaveShades m ns c.frames (new.shade ∷ reverse new.below.items)) (sym (ap (λ (n : Numbers). n.standing) numbers ∙ top.is)) all;
              made = keeps.made ∙ o.made ∙ sym (ap (λ (n : Numbers). n.made) numbers);
              event = event ∙ ap (λ n. n + 1) o.event;
              log = subst (λ (ms : List Move). IsLog new.log (t.moves ++ ms)) moves told;
              tables = subst (AreTables m) (sym keeps.tables) o.tables;
              fill = keeps.fill ∙ o.fill;
              filled = o.filled;
            },
          ),
        )
