-- Where a step of a shadow run of a formed and valid module without marks ends the run, it has a site.
use Rattle.std.proofs.Common.{◌≡◌, ◌+◌, ℕ, List, [], ◌∷◌, map, false, Some, slice_get, refl, sym, subst}
use Rattle.ms_ir.specs.declared.syntax.Ty.{Ty}
use Rattle.ms_ir.specs.declared.syntax.Operand.{Operand}
use Rattle.ms_ir.specs.declared.syntax.Inst.{Inst}
use Rattle.ms_ir.specs.declared.syntax.Module.{Module}
use Rattle.ms_runs.specs.declared.runs.Setup.{Setup}
use Rattle.ms_ir.specs.Layout.{width_of}
use Rattle.ms_runs.specs.World.{World, Setting, Here, Effect, Gives, Does, Goes, Enters, Leaves, Ends, then_does}
use Rattle.ms_ir.specs.Instructions.{operands, count_undefs, NoMarks, HeadUnmarked, is_phi}
use Rattle.ms_runs.specs.Control.{Frame, Outcome, On, Over, here, rest_of, read_all, keeping}
use Rattle.ms_runs.specs.Origins.{count_blind}
use Rattle.ms_runs.specs.Act.{act}
use Rattle.ms_runs.specs.Plain.{setting_of, Stepped, More, Stop}
use Rattle.ms_runs.specs.Poisoned.{Poisoned}
use Rattle.ms_runs.specs.Masks.{Rules, union, word_at}
use Rattle.ms_runs.specs.Uses.{CheckedUse, Word, Bytes, Line, Asked, uses, type_at, check_use, check_uses, blinded}
use Rattle.ms_runs.specs.Shadow.{read_poisoned, shadow_reading, planes, ShadowState, shadow_moved, poisoned_result, shadow_act, after_checks, shadow_first, shadow_frames, shadow_step}
use Rattle.ms_check_valid.specs.Paths.{insts_of}
use Rattle.ms_check_valid.specs.Formed.{Formed}
use Rattle.ms_runs_good_laws.specs.GoodStates.{PoisonedBelow, GoodFrame, GoodFrames, GoodShadow, IsMain, Bottom}
use Rattle.ms_check_valid.specs.Valid.{Valid}
use Rattle.ms_runs_good_laws.proofs.NextFrames.{stands_formed}
use Rattle.ms_runs_good_laws.specs.Sited.{IsSite, HasSite}
use Rattle.ms_runs_good_laws.proofs.Sites.{site_here}
use Rattle.ms_runs_good_laws.proofs.SitedEffects.{Checks, check_checks, memory_checks, string_checks, format_checks, act_sited}
use Rattle.ms_runs_good_laws.proofs.SitedMoves.{after_phis, MovedSited, moves_sited}
use Rattle.ms_runs_good_laws.proofs.Frames.{top_good, kept_frames, kept_bottom, due_first, nothing_left}
use Rattle.ms_runs_good_laws.proofs.PlainSteps.{calls_known}

-- ---- checks

then_checks : (e : Effect) (go : World → Effect) → Checks e → ((w : World) → Checks (go w)) → Checks (then_does e go)
then_checks (Does w) go h f = f w
then_checks (Ends x w) go h f = h
then_checks (Gives v w) go h f = absurd h
then_checks (Goes to w) go h f = absurd h
then_checks (Enters n w) go h f = absurd h
then_checks (Leaves w) go h f = absurd h

use_checks : (s : Setting) (site : ℕ) (os : List (Ty × Operand)) (ps : List Poisoned) (u : CheckedUse) (w : World) → Checks (check_use s site os ps u w)
use_checks s site os ps (Word kind k) w = check_checks s w (word_at k ps).mask (width_of (type_at k os)) (word_at k ps).origin kind k site
use_checks s site os ps (Bytes kind a n) w = memory_checks s w (word_at a ps).value (word_at n ps).value kind site
use_checks s site os ps (Line a) w = string_checks s w (word_at a ps).value site
use_checks s site os ps (Asked a) w = format_checks s w (word_at 0 ps).value a (word_at a ps).value site

uses_check : (s : Setting) (site : ℕ) (os : List (Ty × Operand)) (ps : List Poisoned) (us : List CheckedUse) (w : World) → Checks (check_uses s site os ps us w)
uses_check s site os ps [] w = tt
uses_check s site os ps (u ∷ us) w = then_checks (check_use s site os ps u w) (check_uses s site os ps us) (use_checks s site os ps u w) (λ v. uses_check s site os ps us v)

-- ---- steps

-- what goes on has `main` at its bottom, and what stops has a site
abbrev pub StopsBelowMain : Module → Stepped ShadowState → Type 0
StopsBelowMain m (More state) = Bottom (IsMain m) state.frames
StopsBelowMain m (Stop e w) = HasSite m e

moved_stops : (m : Module) (moved : Outcome Poisoned) → MovedSited m moved → StopsBelowMain m (shadow_moved moved)
moved_stops m (On frames w) h = h
moved_stops m (Over e w) h = h

module _ (d : Rules) (m : Module) (formed : Formed m) (valid : Valid m) (bare : NoMarks m) (setup : Setup) where
  module _ (frame : Frame Poisoned) (below : List (Frame Poisoned)) (frames : GoodFrames PoisonedBelow m (frame ∷ below)) (last : Bottom (IsMain m) (frame ∷ below)) (good : GoodFrame PoisonedBelow m frame)
      (i : Inst) (due : slice_get (insts_of good.func frame.block) frame.place ≡ Some i) (unmarked : i.marked ≡ false) (ps : List Poisoned) where
    abbrev at_inst : Here
    at_inst = here (setting_of m setup) m frame

    site : IsSite m at_inst.site
    site = site_here m formed valid frame.func frame.block frame.place good.func i good.stands due

    not_phi : is_phi i.op ≡ false
    not_phi = after_phis (insts_of good.func frame.block) frame.place i (stands_formed m formed frame.func good.func good.stands frame.block frame.place i due).body good.after_phis due

    act_stops : (w : World) → MovedSited m (shadow_act d (setting_of m setup) m i at_inst ps frame below w)
    act_stops w =
        let e = act (setting_of m setup) at_inst i.op (map (λ p. p.value) ps) w in
        moves_sited PoisonedBelow shadow_reading (setting_of m setup) m at_inst.site site i.result ps (poisoned_result d i.op ps)
        (planes (setting_of m setup) at_inst.site (at_inst.root + count_undefs (operands i.op) + 1) i.op ps w) (keeping i.op e frame) below (kept_frames PoisonedBelow m i.op e frame below frames) (kept_bottom (IsMain m) i.op e frame below last) e
        (act_sited m (setting_of m setup) at_inst site w i.op (map (λ p. p.value) ps) not_phi
        (calls_known m valid frame.func frame.block frame.place good.func i good.stands due unmarked i.op refl))

    checked_stops : (e : Effect) → Checks e → MovedSited m (after_checks d (setting_of m setup) m i at_inst ps frame below e)
    checked_stops (Does w) h = act_stops (count_blind (union (map (λ p. p.mask) (blinded (setting_of m setup).func i.op ps))) w)
    checked_stops (Ends e w) h = subst (HasSite m) (sym h) tt
    checked_stops (Gives v w) h = absurd h
    checked_stops (Goes to w) h = absurd h
    checked_stops (Enters n w) h = absurd h
    checked_stops (Leaves w) h = absurd h

  rest_stops : (is : List Inst) (frame : Frame Poisoned) (below : List (Frame Poisoned)) (w : World) → GoodFrames PoisonedBelow m (frame ∷ below) → Bottom (IsMain m) (frame ∷ below) → rest_of m frame ≡ is
      → MovedSited m (shadow_first d (setting_of m setup) m is frame below w)
  rest_stops [] frame below w frames last rest = absurd (nothing_left PoisonedBelow m frame (top_good PoisonedBelow m frame below frames) rest)
  rest_stops (i ∷ is) frame below w frames last rest =
      let good = top_good PoisonedBelow m frame below frames in
      let h = here (setting_of m setup) m frame in
      let ps = read_all (read_poisoned (setting_of m setup) frame.values) (operands i.op) h.root in
      let us = uses (setting_of m setup).func h.main i.op in
      checked_stops frame below frames last good i (due_first PoisonedBelow m frame good i is rest) (subst HeadUnmarked rest (bare frame.func frame.block frame.place)) ps
      (check_uses (setting_of m setup) h.site (operands i.op) ps us w) (uses_check (setting_of m setup) h.site (operands i.op) ps us w)

  frames_stop : (fs : List (Frame Poisoned)) (w : World) → GoodFrames PoisonedBelow m fs → Bottom (IsMain m) fs → MovedSited m (shadow_frames d (setting_of m setup) m fs w)
  frames_stop [] w frames last = absurd frames
  frames_stop (frame ∷ below) w frames last = rest_stops (rest_of m frame) frame below w frames last refl

  pub step_stops : (state : ShadowState) → GoodShadow m state → Bottom (IsMain m) state.frames → StopsBelowMain m (shadow_step d (setting_of m setup) m state)
  step_stops state good last = moved_stops m (shadow_frames d (setting_of m setup) m state.frames state.world) (frames_stop state.frames state.world good last)
