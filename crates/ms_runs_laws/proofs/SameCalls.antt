-- Rules that give the same masks give the same calls at each report and at the end, and blind uses at the same sites.
use Rattle.std.proofs.Common.{◌≡◌, []}
use Rattle.ms_ir.specs.declared.syntax.Module.{Module}
use Rattle.ms_runs.specs.declared.runs.Setup.{Setup}
use Rattle.ms_runs.specs.World.{World}
use Rattle.ms_runs.specs.Plain.{setting_of}
use Rattle.ms_runs.specs.Masks.{Rules, SameRules, by_formulas}
use Rattle.ms_runs.specs.Shadow.{ShadowState, shadow_start}
use Rattle.ms_runs.specs.Calls.{main_calls, innermost_site, told_in, said_in, ends_in, shadow_calls, shadow_calls_by, shadow_end_calls, shadow_end_calls_by, shadow_blind, shadow_blind_by}
use Rattle.ms_runs_laws.proofs.SameRuns.{same_step}
use Rattle.ms_runs_laws.proofs.ExactRules.{formulas_exact}

pub same_calls : {d e : Rules} → SameRules d e → (m : Module) (setup : Setup) → shadow_calls_by d m setup ≡ shadow_calls_by e m setup
same_calls same m setup = λ i.
    told_in (λ (c : ShadowState). c.world) (λ (c : ShadowState). main_calls m c.frames) (λ c. same_step same (setting_of m setup) m c i) setup.steps (shadow_start m setup) []

pub computed_calls : (m : Module) (setup : Setup) → shadow_calls m setup ≡ shadow_calls_by by_formulas m setup
computed_calls m setup = same_calls formulas_exact m setup

pub computed_ends : (m : Module) (setup : Setup) → shadow_end_calls m setup ≡ shadow_end_calls_by by_formulas m setup
computed_ends m setup = λ i. ends_in (λ (c : ShadowState). main_calls m c.frames) (λ c. same_step formulas_exact (setting_of m setup) m c i) setup.steps (shadow_start m setup)

pub computed_blind : (m : Module) (setup : Setup) → shadow_blind m setup ≡ shadow_blind_by by_formulas m setup
computed_blind m setup = λ i.
    said_in (λ (w : World). w.blind) (λ (c : ShadowState). c.world) (λ (c : ShadowState). innermost_site m c.frames) (λ c. same_step formulas_exact (setting_of m setup) m c i) setup.steps (shadow_start m setup) []
