-- The runs of a formed and valid module: their starts, steps and states.
use Rattle.std.proofs.Common.{◌≡◌, ◌<◌, ℕ, List, ◌∷◌, true, All, sym, subst, arith}
use Rattle.ms_ir.specs.declared.syntax.Inst.{Inst}
use Rattle.ms_ir.specs.declared.syntax.Module.{Module}
use Rattle.ms_runs.specs.declared.runs.Setup.{Setup}
use Rattle.ms_runs.specs.Act.{plain_reading}
use Rattle.ms_runs.specs.Plain.{Stepped, More, Stop, steps, PlainState, plain_inst, plain_step, setting_of, plain, plain_start}
use Rattle.ms_runs.specs.Masks.{Rules}
use Rattle.ms_runs.specs.Shadow.{ShadowState, shadow_reading, shadow_step, shadow_by, shadow_start}
use Rattle.ms_ir.specs.Instructions.{NoMarks}
use Rattle.ms_check_valid.specs.Formed.{Formed}
use Rattle.ms_runs_good_laws.specs.GoodStates.{IsBelow, PoisonedBelow, GoodShadow, IsMain, Bottom}
use Rattle.ms_check_valid.specs.Valid.{Valid}
use Rattle.ms_runs_good_laws.proofs.Starts.{start_good, start_is_main}
use Rattle.ms_runs_good_laws.specs.GoodWorlds.{GoodWorld, GivesBytes, FitsCell, AnyOrigin}
use Rattle.ms_runs_good_laws.specs.GoodRules.{KeepWidths}
use Rattle.ms_runs_good_laws.specs.GoodRuns.{SoundPlain, SoundShadow, LeadsTo}
use Rattle.ms_runs_good_laws.proofs.Starting.{plain_setting, shadow_setting, start_world_good}
use Rattle.ms_runs_good_laws.proofs.PlainSteps.{AtRest, RestsOn}
use Rattle.ms_runs_good_laws.proofs.PlainSteps as plain_steps
use Rattle.ms_runs_good_laws.proofs.ShadowSteps as shadow_steps
use Rattle.ms_runs_good_laws.specs.Sited.{HasSite, StopsAtSite}
use Rattle.ms_runs_good_laws.proofs.SitedShadow.{StopsBelowMain, step_stops}
use Rattle.ms_runs_good_laws.proofs.RunsReached.{steps_keep, run_is, answer_bytes, steps_stop, answer_sited}

pub plain_sound : (m : Module) → Formed m → Valid m → (setup : Setup) → GivesBytes setup → SoundPlain m (plain_start m setup)
plain_sound m formed valid setup bytes = record {
  frames = start_good IsBelow plain_reading m formed valid;
  slots = λ a. omega arith;
  world = start_world_good FitsCell (omega arith) m formed valid setup bytes;
}

pub shadow_sound : (m : Module) → Formed m → Valid m → (setup : Setup) → GivesBytes setup → SoundShadow m (shadow_start m setup)
shadow_sound m formed valid setup bytes = record {
  frames = start_good PoisonedBelow shadow_reading m formed valid;
  world = start_world_good AnyOrigin tt m formed valid setup bytes;
}

pub plain_keeps : (m : Module) → Formed m → Valid m → (setup : Setup) → GivesBytes setup → (state : PlainState) → SoundPlain m state
    → LeadsTo (SoundPlain m) (GoodWorld FitsCell) (plain_step (setting_of m setup) m state)
plain_keeps m formed valid setup bytes state sound =
    without_bottom (plain_step (setting_of m setup) m state) (plain_steps.step_good m formed valid setup (plain_setting m formed setup bytes) ⊥ state sound (λ no. absurd no)).0
  where
    without_bottom : (r : Stepped PlainState) → LeadsTo (plain_steps.SoundBelow m formed valid setup (plain_setting m formed setup bytes) ⊥) (GoodWorld FitsCell) r → LeadsTo (SoundPlain m) (GoodWorld FitsCell) r
    without_bottom (More s) h = h.0
    without_bottom (Stop e w) h = h

-- one instruction keeps a good state, and a marked one goes on after itself
pub plain_inst_keeps : (m : Module) → Formed m → Valid m → (setup : Setup) → GivesBytes setup → (inst : Inst) (insts : List Inst) (state : PlainState) → SoundPlain m state → AtRest m state.frames (inst ∷ insts)
    → LeadsTo (λ s. SoundPlain m s × (inst.marked ≡ true → RestsOn m insts state.frames s.frames)) (GoodWorld FitsCell) (plain_inst (setting_of m setup) m inst state state.frames)
plain_inst_keeps m formed valid setup bytes inst insts state sound rest = (plain_steps.inst_keeps m formed valid setup (plain_setting m formed setup bytes) ⊥ inst insts state sound rest (λ no. absurd no)).0

pub shadow_keeps : (d : Rules) → KeepWidths d → (m : Module) → Formed m → Valid m → (setup : Setup) → GivesBytes setup → (state : ShadowState) → SoundShadow m state
    → LeadsTo (SoundShadow m) (GoodWorld AnyOrigin) (shadow_step d (setting_of m setup) m state)
shadow_keeps d keep m formed valid setup bytes = shadow_steps.step_good m formed valid setup (shadow_setting m setup bytes) d keep

pub plain_reached : (m : Module) → Formed m → Valid m → (setup : Setup) → GivesBytes setup → (n : ℕ)
    → LeadsTo (SoundPlain m) (GoodWorld FitsCell) (steps (plain_step (setting_of m setup) m) n (plain_start m setup))
plain_reached m formed valid setup bytes n =
    steps_keep (SoundPlain m) (GoodWorld FitsCell) (plain_step (setting_of m setup) m) (plain_keeps m formed valid setup bytes) n (plain_start m setup) (plain_sound m formed valid setup bytes)

pub shadow_reached : (d : Rules) → KeepWidths d → (m : Module) → Formed m → Valid m → (setup : Setup) → GivesBytes setup → (n : ℕ)
    → LeadsTo (SoundShadow m) (GoodWorld AnyOrigin) (steps (shadow_step d (setting_of m setup) m) n (shadow_start m setup))
shadow_reached d keep m formed valid setup bytes n =
    steps_keep (SoundShadow m) (GoodWorld AnyOrigin) (shadow_step d (setting_of m setup) m) (shadow_keeps d keep m formed valid setup bytes) n (shadow_start m setup)
    (shadow_sound m formed valid setup bytes)

pub plain_bytes : (m : Module) → Formed m → Valid m → (setup : Setup) → GivesBytes setup → All (λ b. b < 256) (plain m setup).output
plain_bytes m formed valid setup bytes =
    subst (λ r. All (λ b. b < 256) r.output) (sym (run_is (λ s. s.world) (plain_step (setting_of m setup) m) setup.steps (plain_start m setup)))
    (answer_bytes (SoundPlain m) (GoodWorld FitsCell) (λ s. s.world) (λ s h. h.world) (λ w h. h.output) (steps (plain_step (setting_of m setup) m) setup.steps (plain_start m setup))
    (plain_reached m formed valid setup bytes setup.steps))

-- ---- sites

-- a state of which the last frame is `main`'s
abbrev PlainBelow : Module → PlainState → Type 0
PlainBelow m s = SoundPlain m s × Bottom (IsMain m) s.frames

abbrev ShadowBelow : Module → ShadowState → Type 0
ShadowBelow m s = SoundShadow m s × Bottom (IsMain m) s.frames

pub plain_stops : (m : Module) → Formed m → Valid m → (setup : Setup) → GivesBytes setup → (state : PlainState) → SoundPlain m state → Bottom (IsMain m) state.frames
    → StopsAtSite m (plain_step (setting_of m setup) m state)
plain_stops m formed valid setup bytes state sound last =
    (plain_steps.step_good m formed valid setup (plain_setting m formed setup bytes) (Bottom (IsMain m) state.frames) state sound (λ h. h)).1 last

-- a step of a run below whose frames stands `main` keeps that
plain_below : (m : Module) → Formed m → Valid m → (setup : Setup) → GivesBytes setup → (state : PlainState) → PlainBelow m state
    → LeadsTo (PlainBelow m) (GoodWorld FitsCell) (plain_step (setting_of m setup) m state)
plain_below m formed valid setup bytes state sound =
    with_bottom (plain_step (setting_of m setup) m state)
    (plain_steps.step_good m formed valid setup (plain_setting m formed setup bytes) (Bottom (IsMain m) state.frames) state sound.0 (λ h. h)).0
  where
    with_bottom : (r : Stepped PlainState) → LeadsTo (plain_steps.SoundBelow m formed valid setup (plain_setting m formed setup bytes) (Bottom (IsMain m) state.frames)) (GoodWorld FitsCell) r
        → LeadsTo (PlainBelow m) (GoodWorld FitsCell) r
    with_bottom (More s) h = (h.0, h.1 sound.1)
    with_bottom (Stop e w) h = h

pub plain_sited : (m : Module) → Formed m → Valid m → (setup : Setup) → GivesBytes setup → HasSite m (plain m setup).«end»
plain_sited m formed valid setup bytes =
    subst (λ r. HasSite m r.«end») (sym (run_is (λ s. s.world) (plain_step (setting_of m setup) m) setup.steps (plain_start m setup)))
    (answer_sited m (λ s. s.world) (steps (plain_step (setting_of m setup) m) setup.steps (plain_start m setup))
    (steps_stop m (PlainBelow m) (GoodWorld FitsCell) (plain_step (setting_of m setup) m) (plain_below m formed valid setup bytes)
    (λ state sound. plain_stops m formed valid setup bytes state sound.0 sound.1) setup.steps
    (plain_start m setup) (plain_sound m formed valid setup bytes, start_is_main m valid)))

pub shadow_stops : (d : Rules) (m : Module) → Formed m → Valid m → NoMarks m → (setup : Setup) → (state : ShadowState) → GoodShadow m state → Bottom (IsMain m) state.frames
    → StopsAtSite m (shadow_step d (setting_of m setup) m state)
shadow_stops d m formed valid bare setup state good last = by_step (shadow_step d (setting_of m setup) m state) (step_stops d m formed valid bare setup state good last)
  where
    by_step : (r : Stepped ShadowState) → StopsBelowMain m r → StopsAtSite m r
    by_step (More s) h = tt
    by_step (Stop e w) h = h

shadow_below : (d : Rules) → KeepWidths d → (m : Module) → Formed m → Valid m → NoMarks m → (setup : Setup) → GivesBytes setup → (state : ShadowState) → ShadowBelow m state
    → LeadsTo (ShadowBelow m) (GoodWorld AnyOrigin) (shadow_step d (setting_of m setup) m state)
shadow_below d keep m formed valid bare setup bytes state sound =
    by_step (shadow_step d (setting_of m setup) m state) (shadow_keeps d keep m formed valid setup bytes state sound.0) (step_stops d m formed valid bare setup state sound.0.frames sound.1)
  where
    by_step : (r : Stepped ShadowState) → LeadsTo (SoundShadow m) (GoodWorld AnyOrigin) r → StopsBelowMain m r → LeadsTo (ShadowBelow m) (GoodWorld AnyOrigin) r
    by_step (More s) h b = (h, b)
    by_step (Stop e w) h b = h

pub shadow_sited : (d : Rules) → KeepWidths d → (m : Module) → Formed m → Valid m → NoMarks m → (setup : Setup) → GivesBytes setup → HasSite m (shadow_by d m setup).«end»
shadow_sited d keep m formed valid bare setup bytes =
    subst (λ r. HasSite m r.«end») (sym (run_is (λ s. s.world) (shadow_step d (setting_of m setup) m) setup.steps (shadow_start m setup)))
    (answer_sited m (λ s. s.world) (steps (shadow_step d (setting_of m setup) m) setup.steps (shadow_start m setup))
    (steps_stop m (ShadowBelow m) (GoodWorld AnyOrigin) (shadow_step d (setting_of m setup) m) (shadow_below d keep m formed valid bare setup bytes)
    (λ state sound. shadow_stops d m formed valid bare setup state sound.0.frames sound.1) setup.steps (shadow_start m setup) (shadow_sound m formed valid setup bytes, start_is_main m valid)))
