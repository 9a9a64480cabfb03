-- What worlds count of which a run says something: their reports and their blind uses.
use Rattle.std.proofs.Common.{◌≡◌, ◌≤◌, ◌-◌, ◌^◌, ℕ, length, min, refl, ap, ◌∙◌, arith}
use Rattle.ms_ir.specs.declared.syntax.Module.{Module}
use Rattle.ms_runs.specs.declared.runs.Calls.{Calls}
use Rattle.ms_runs.specs.declared.runs.End.{End}
use Rattle.ms_runs.specs.declared.runs.RunResult.{RunResult}
use Rattle.ms_runs.specs.declared.runs.Setup.{Setup}
use Rattle.ms_runs.specs.World.{World, result}
use Rattle.ms_runs.specs.Plain.{PlainState, setting_of}
use Rattle.ms_runs.specs.Calls.{reports_made, main_calls, innermost_site}
use Rattle.ms_runs_good_laws.proofs.ReportsGrow.{stepped_world, step_grows, step_blind_grows}
use Rattle.ms_host.specs.State.{WorldState, Beside}
use Rattle.ms_host.specs.Shows.{Shows}
use Rattle.ms_machine_steps.specs.Advances.{step_of, Within}
use Rattle.ms_runtime.specs.declared.runs.Running.{Running}
use Rattle.ms_runtime.specs.Served.{IsBeside}

-- what worlds count, what is said of each by the state in whose step it came, and how many a result has
pub record Counting {B : Type 0} (count : World → ℕ) (says : PlainState → B) (made : RunResult → ℕ) (m : Module) (u : Setup) : Type 0 where
  pub grows : (s : PlainState) → count s.world ≤ count (stepped_world (step_of m u s))
  pub alike : (a b : PlainState) → Within m u a b → says a ≡ says b
  pub up : (a b : PlainState) → Within m u a b → count a.world ≤ count b.world
  pub returned : (e : End) (w : World) → made (result e w) ≡ count w
  pub held : (beside : Beside) (w : WorldState) (last : World) (r : Running) → Shows w beside last → IsBeside r.depot r.told beside → r.told.blind ≤ 2 ^ 62 → count last ≡ made r.told

-- a count below its type's end is no cut one
pub uncut : (b t : ℕ) → t ≡ min b (2 ^ 64 - 1) → t ≤ 2 ^ 62 → b ≡ t
uncut b t e few = omega (arith, e, few)

-- ---- reports, with the calls that stand at them

abbrev pub made_reports : RunResult → ℕ
made_reports t = length t.reports

pub of_reports : (m : Module) (u : Setup) → Counting reports_made (λ (p : PlainState). main_calls m p.frames) made_reports m u
of_reports m u = record {
  grows = step_grows (setting_of m u) m;
  alike = λ a b same. ap (λ sites. let c : Calls = record { sites = sites; started = 0 } in c) same.calls;
  up = λ a b same. same.reports;
  returned = λ e w. refl;
  held = λ beside w last r shows told few. ap length (shows.reports ∙ told.reports);
}

-- ---- blind uses, with their sites

abbrev pub blind_made : World → ℕ
blind_made w = w.blind

abbrev pub made_blind : RunResult → ℕ
made_blind t = t.blind

pub of_blind : (m : Module) (u : Setup) → Counting blind_made (λ (p : PlainState). innermost_site m p.frames) made_blind m u
of_blind m u = record {
  grows = step_blind_grows (setting_of m u) m;
  alike = λ a b same. same.site;
  up = λ a b same. same.blind;
  returned = λ e w. refl;
  held = λ beside w last r shows told few. shows.blind ∙ uncut beside.blind r.told.blind told.blind few;
}
