-- A step of the machine is one of the shadow run, where the checks of its instruction pass.
use Rattle.std.proofs.Common.{◌≡◌, ◌≢◌, List, ◌∷◌, map, refl, sym, ap, ◌∙◌, subst}
use Rattle.ms_ir.specs.declared.syntax.Inst.{Inst}
use Rattle.ms_ir.specs.declared.syntax.Module.{Module}
use Rattle.ms_ir.specs.Instructions.{operands, NoMarks}
use Rattle.ms_runs.specs.declared.runs.End.{End}
use Rattle.ms_runs.specs.declared.runs.End.TheVariants as «end»
use Rattle.ms_runs.specs.World.{World, Setting, Here, Effect, Does, Ends}
use Rattle.ms_runs.specs.Origins.{count_blind}
use Rattle.ms_runs.specs.Control.{Frame, Outcome, On, Over, here, rest_of, read_all}
use Rattle.ms_runs.specs.Plain.{PlainState, Stepped, More, Stop, plain_step}
use Rattle.ms_runs.specs.Poisoned.{Poisoned}
use Rattle.ms_runs.specs.Masks.{by_formulas, union}
use Rattle.ms_runs.specs.Uses.{uses, check_uses, blinded}
use Rattle.ms_runs.specs.Shadow.{ShadowState, read_poisoned, shadow_moved, shadow_act, after_checks, shadow_first, shadow_frames, shadow_step}
use Rattle.ms_runs_laws.specs.Follows.{light, bare_frame, step_shadow, Follows, StepFollows}
use Rattle.ms_runs_laws.proofs.FollowedSteps.{step_follows}
use Rattle.ms_runs_laws.proofs.UnreportedEnds.{is_reported}
use Rattle.ms_trail_laws.proofs.EndsAtUse.{ReadMoved, after_read}

stop_same : (x e : End) (w v : World) → ◌≡◌ {A = Stepped ShadowState} (Stop x w) (Stop e v) → x ≡ e
stop_same x e w v h = cc

module _ (s : Setting) (m : Module) (bare : NoMarks m) (c : ShadowState) (p : PlainState) (follows : Follows c p) (fr : Frame Poisoned) (below : List (Frame Poisoned)) (first : c.frames ≡ fr ∷ below) (i : Inst) (is : List Inst)
    (due : rest_of m fr ≡ i ∷ is) where
  abbrev at : Here
  at = here s m fr

  abbrev ps : List Poisoned
  ps = read_all (read_poisoned s fr.values) (operands i.op) at.root

  abbrev checks : Effect
  checks = check_uses s at.site (operands i.op) ps (uses s.func at.main i.op) c.world

  shadow_is : shadow_step by_formulas s m c ≡ shadow_moved (after_checks by_formulas s m i at ps fr below checks)
  shadow_is =
      ap (λ (fs : List (Frame Poisoned)). shadow_moved (shadow_frames by_formulas s m fs c.world)) first
      ∙ ap (λ (insts : List Inst). shadow_moved (shadow_first by_formulas s m insts fr below c.world)) due

  -- an end at a report
  pub reports : (v : World) → checks ≡ Ends «end».Reported v → shadow_step by_formulas s m c ≡ Stop «end».Reported v
  reports v e = shadow_is ∙ ap (λ (x : Effect). shadow_moved (after_checks by_formulas s m i at ps fr below x)) e

  module _ (passes : checks ≡ Does c.world) where
    pub acts : shadow_step by_formulas s m c ≡ shadow_moved (shadow_act by_formulas s m i at ps fr below (count_blind (union (map (λ p. p.mask) (blinded s.func i.op ps))) c.world))
    acts = shadow_is ∙ ap (λ (x : Effect). shadow_moved (after_checks by_formulas s m i at ps fr below x)) passes

    never_reported : ReadMoved ⊥ (after_checks by_formulas s m i at ps fr below (Does c.world))
    never_reported = after_read by_formulas s m ⊥ c.world i at ps fr below (Does c.world) refl

    pub not_reported : (e : End) (v : World) → shadow_step by_formulas s m c ≡ Stop e v → e ≢ «end».Reported
    not_reported e v stops same =
        by_outcome (after_checks by_formulas s m i at ps fr below (Does c.world)) never_reported
        (sym (shadow_is ∙ ap (λ (x : Effect). shadow_moved (after_checks by_formulas s m i at ps fr below x)) passes) ∙ stops)
      where
        by_outcome : (o : Outcome Poisoned) → ReadMoved ⊥ o → shadow_moved o ≡ Stop e v → ⊥
        by_outcome (On fs w) h stop = absurd (cc)
        by_outcome (Over x w) h stop = h (ap is_reported (stop_same x e w v stop ∙ same))

    -- the machine goes on
    pub goes : (p' : PlainState) → plain_step s m p ≡ More p' → (c' : ShadowState) × ((shadow_step by_formulas s m c ≡ More c') × (p'.frames ≡ map bare_frame c'.frames) × (light (step_shadow s m c p'.world) ≡ light c'.world))
    goes p' more = by_step (shadow_step by_formulas s m c) refl (subst (StepFollows s m c (shadow_step by_formulas s m c)) more (step_follows by_formulas s m bare c p follows))
      where
        by_end : (e : End) (v : World) → shadow_step by_formulas s m c ≡ Stop e v → StepFollows s m c (Stop e v) (More p') → ⊥
        by_end («end».Exit n) v stops h = h
        by_end («end».Trap t site) v stops h = h
        by_end «end».Reported v stops h = not_reported «end».Reported v stops refl
        by_end «end».Spent v stops h = h

        by_step : (x : Stepped ShadowState) → shadow_step by_formulas s m c ≡ x → StepFollows s m c x (More p')
            → (c' : ShadowState) × ((shadow_step by_formulas s m c ≡ More c') × (p'.frames ≡ map bare_frame c'.frames) × (light (step_shadow s m c p'.world) ≡ light c'.world))
        by_step (More c') e h = (c', (e, h.0, h.1))
        by_step (Stop x v) e h = absurd (by_end x v e h)

    -- the machine ends
    pub ends : (e : End) (last : World) → plain_step s m p ≡ Stop e last → (x : End) × (v : World) × ((shadow_step by_formulas s m c ≡ Stop x v) × (x ≢ «end».Reported))
    ends e last stop = by_step (shadow_step by_formulas s m c) refl (subst (StepFollows s m c (shadow_step by_formulas s m c)) stop (step_follows by_formulas s m bare c p follows))
      where
        by_step : (x : Stepped ShadowState) → shadow_step by_formulas s m c ≡ x → StepFollows s m c x (Stop e last) → (x : End) × (v : World) × ((shadow_step by_formulas s m c ≡ Stop x v) × (x ≢ «end».Reported))
        by_step (More c') e' h = absurd h
        by_step (Stop x v) e' h = (x, v, (e', not_reported x v e'))
