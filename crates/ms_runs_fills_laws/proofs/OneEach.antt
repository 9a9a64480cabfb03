-- Each report of a run has its calls, and each blind use a site.
use Rattle.std.proofs.Common.{◌≡◌, ◌≤◌, ℕ, List, [], length, refl, sym, ap, ◌∙◌}
use Rattle.ms_ir.specs.declared.syntax.Module.{Module}
use Rattle.ms_runs.specs.declared.runs.RunResult.{RunResult}
use Rattle.ms_runs.specs.declared.runs.Setup.{Setup}
use Rattle.ms_runs.specs.World.{World}
use Rattle.ms_runs.specs.Globals.{address_of}
use Rattle.ms_runs.specs.Plain.{PlainState, Stepped, More, Stop, plain_step, plain_start, plain, setting_of}
use Rattle.ms_runs.specs.Masks.{by_formulas}
use Rattle.ms_runs.specs.Shadow.{ShadowState, shadow_step, shadow_start, shadow}
use Rattle.ms_runs.specs.Faithful.{Fair, Faithful}
use Rattle.ms_runs.specs.Calls.{main_calls, innermost_site, reports_made, plain_calls, plain_blind, shadow_calls, shadow_blind, SameCalls}
use Rattle.ms_runs.proofs.EachSaid.{counted_after, each_said}
use Rattle.ms_runs_laws.proofs.ExactRules.{computed}
use Rattle.ms_runs_laws.proofs.SameCalls.{computed_blind}
use Rattle.ms_runs_good_laws.proofs.ReportsGrow.{stepped_world, step_grows, step_blind_grows}
use Rattle.ms_runs_fills_laws.proofs.Kept.{globals_kept}
use Rattle.ms_runs_fills_laws.proofs.Runs.{stepped_blind, step_blind}

-- ---- plain runs

plain_after : (count : World → ℕ) (x : Stepped PlainState) (n : ℕ) → n ≤ count (stepped_world x) → n ≤ counted_after count (λ (p : PlainState). p.world) x
plain_after count (More c) n le = le
plain_after count (Stop e w) n le = le

pub one_each : (m : Module) (setup : Setup) → length (plain_calls m setup) ≡ length (plain m setup).reports
one_each m setup =
    let s = setting_of m setup in
    each_said reports_made (λ (r : RunResult). length r.reports) (λ e w. refl) (λ (p : PlainState). p.world) (λ (p : PlainState). main_calls m p.frames) (plain_step s m)
    (λ p. plain_after reports_made (plain_step s m p) (length p.world.reports) (step_grows s m p))
    setup.steps (plain_start m setup) [] (sym (ap length (globals_kept m.types (address_of m) m.globals _).reports))

pub plain_blind_each : (m : Module) (setup : Setup) → length (plain_blind m setup) ≡ (plain m setup).blind
plain_blind_each m setup =
    let s = setting_of m setup in
    each_said (λ (w : World). w.blind) (λ (r : RunResult). r.blind) (λ e w. refl) (λ (p : PlainState). p.world) (λ (p : PlainState). innermost_site m p.frames) (plain_step s m)
    (λ p. plain_after (λ (w : World). w.blind) (plain_step s m p) p.world.blind (step_blind_grows s m p))
    setup.steps (plain_start m setup) [] (sym (globals_kept m.types (address_of m) m.globals _).blind)

-- ---- shadow runs

-- where a faithful form tells the same calls
pub shadow_one_each : (m j : Module) → Faithful m j → SameCalls m j → (setup : Setup) → Fair setup → length (shadow_calls m setup) ≡ length (shadow m setup).reports
shadow_one_each m j faithful same setup fair =
    ap length (sym (same.same setup fair)) ∙ one_each j setup ∙ ap (λ (r : RunResult). length r.reports) (faithful.runs setup fair)

module _ (m : Module) (setup : Setup) where
  shadow_after : (x : Stepped ShadowState) (n : ℕ) → n ≤ stepped_blind (setting_of m setup) m x → n ≤ counted_after (λ (w : World). w.blind) (λ (c : ShadowState). c.world) x
  shadow_after (More c) n le = le
  shadow_after (Stop e w) n le = le

  pub blind_each : length (shadow_blind m setup) ≡ (shadow m setup).blind
  blind_each =
      let s = setting_of m setup in
      ap length (computed_blind m setup)
      ∙ each_said (λ (w : World). w.blind) (λ (r : RunResult). r.blind) (λ e w. refl) (λ (c : ShadowState). c.world) (λ (c : ShadowState). innermost_site m c.frames) (shadow_step by_formulas s m)
      (λ c. shadow_after (shadow_step by_formulas s m c) c.world.blind (step_blind s m c))
      setup.steps (shadow_start m setup) [] (sym (globals_kept m.types (address_of m) m.globals _).blind)
      ∙ ap (λ (r : RunResult). r.blind) (sym (computed m setup))
