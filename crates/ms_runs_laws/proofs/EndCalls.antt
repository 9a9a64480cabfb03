-- The calls that stand where a shadow run ends without a report, or its steps are spent, stand there in the plain run of the same
-- module.
use Rattle.std.proofs.Common.{◌≡◌, ◌≢◌, ℕ, zero, suc, List, [], ◌∷◌, map, refl, ap, ◌∙◌, inl, inr, Some}
use Rattle.ms_ir.specs.declared.syntax.Module.{Module}
use Rattle.ms_ir.specs.Instructions.{site_at, NoMarks}
use Rattle.ms_runs.specs.declared.runs.Calls.{Calls}
use Rattle.ms_runs.specs.declared.runs.Setup.{Setup}
use Rattle.ms_runs.specs.declared.runs.End.TheVariants as «end»
use Rattle.ms_runs.specs.World.{Setting}
use Rattle.ms_runs.specs.Control.{Frame}
use Rattle.ms_runs.specs.Plain.{PlainState, Stepped, More, Stop, plain_step, go_on, run, setting_of, plain_start}
use Rattle.ms_runs.specs.Calls.{main_calls, ends_after, ends_in, plain_end_calls, shadow_end_calls_by}
use Rattle.ms_runs.specs.Poisoned.{Poisoned}
use Rattle.ms_runs.specs.Masks.{Rules}
use Rattle.ms_runs.specs.Shadow.{ShadowState, shadow_step, shadow_start, shadow_by}
use Rattle.ms_runs_laws.specs.Follows.{bare_frame}
use Rattle.ms_runs_laws.proofs.SameOutput.{Mirrors, Steps, step_mirrors}

module _ (m : Module) where
  lower_sites : (fs : List (Frame Poisoned)) → map (λ (g : Frame ℕ). site_at m g.func g.block g.place) (map bare_frame fs) ≡ map (λ (g : Frame Poisoned). site_at m g.func g.block g.place) fs
  lower_sites [] = refl
  lower_sites (f ∷ fs) = ap (λ (sites : List ℕ). site_at m f.func f.block f.place ∷ sites) (lower_sites fs)

  -- frames with their words alone stand at the same calls
  bare_calls : (fs : List (Frame Poisoned)) → main_calls m (map bare_frame fs) ≡ main_calls m fs
  bare_calls [] = refl
  bare_calls (f ∷ below) = ap (λ (sites : List ℕ). let c : Calls = record { sites = sites; started = 0 } in c) (lower_sites below)

  mirrored_calls : (c : ShadowState) (p : PlainState) → Mirrors c p → main_calls m p.frames ≡ main_calls m c.frames
  mirrored_calls c p h = ap (λ (fs : List (Frame ℕ)). main_calls m fs) h.frames ∙ bare_calls c.frames

-- from states with the same frames and world on, where the shadow run doesn't end as reported
ends_alike : (d : Rules) (s : Setting) (m : Module) → NoMarks m → (n : ℕ) (c : ShadowState) (p : PlainState) → Mirrors c p → (run (λ (k : ShadowState). k.world) (shadow_step d s m) n c).«end» ≢ «end».Reported
    → ends_in (λ (q : PlainState). main_calls m q.frames) (plain_step s m) n p ≡ ends_in (λ (q : ShadowState). main_calls m q.frames) (shadow_step d s m) n c
ends_alike d s m k zero c p h other = ap Some (mirrored_calls m c p h)
ends_alike d s m k (suc n) c p h other = after (shadow_step d s m c) (plain_step s m p) (step_mirrors d s m k c p h) other (λ x y. ends_alike d s m k n x y)
  where
    after : (x : Stepped ShadowState) (y : Stepped PlainState) → Steps p.world.output x y → (go_on (run (λ (k : ShadowState). k.world) (shadow_step d s m) n) x).«end» ≢ «end».Reported
        → ((c' : ShadowState) (p' : PlainState) → Mirrors c' p' → (run (λ (k : ShadowState). k.world) (shadow_step d s m) n c').«end» ≢ «end».Reported
        → ends_in (λ (q : PlainState). main_calls m q.frames) (plain_step s m) n p' ≡ ends_in (λ (q : ShadowState). main_calls m q.frames) (shadow_step d s m) n c')
        → ends_after (main_calls m p.frames) (ends_in (λ (q : PlainState). main_calls m q.frames) (plain_step s m) n) y ≡ ends_after (main_calls m c.frames) (ends_in (λ (q : ShadowState). main_calls m q.frames) (shadow_step d s m) n) x
    after (More c') (More p') f other rest = rest c' p' f other
    after (More c') (Stop e w) f other rest = absurd f
    after (Stop e w) y (inl r) other rest = absurd (other r.0)
    after (Stop e w) (More p') (inr r) other rest = absurd r
    after (Stop e w) (Stop x v) (inr r) other rest = ap Some (mirrored_calls m c p h)

pub end_calls_alike : (d : Rules) (m : Module) → NoMarks m → (setup : Setup) → (shadow_by d m setup).«end» ≢ «end».Reported → plain_end_calls m setup ≡ shadow_end_calls_by d m setup
end_calls_alike d m k setup other = ends_alike d (setting_of m setup) m k setup.steps (shadow_start m setup) (plain_start m setup) (record { frames = refl; world = refl }) other
