-- What the result of a checked run promises of runs under other fills (own).
use Rattle.std.specs.Prelude.{◌≡◌, ℕ, List, [], ◌∷◌}
use Rattle.ms_ir.specs.declared.syntax.Module.{Module}
use Rattle.ms_runs.specs.declared.runs.Setup.{Setup}
use Rattle.ms_runs.specs.declared.runs.Report.{Report}
use Rattle.ms_runs.specs.declared.runs.RunResult.{RunResult}
use Rattle.ms_runs.specs.Plain.{plain}
use Rattle.ms_runs.specs.Shadow.{shadow}
use Rattle.ms_runs.specs.Verdict.{Clean, verdict_of}
use Rattle.ms_runs_good_laws.specs.Fills.{IsFill, refilled, to_first_report, SameShown}

-- where the verdict is clean, the program itself prints the same and ends in the same way under every fill; where no blind
-- use was counted, the run up to the first report is the same under every fill: its output, its end and that report
pub record HoldsUnderFills (m : Module) (setup : Setup) (r : RunResult) : Type 0 where
  pub clean : verdict_of r ≡ Clean → (fill : List ℕ) → IsFill fill → SameShown (plain m (refilled setup fill)) r
  pub first : r.blind ≡ 0 → (report : Report) (rest : List Report) → r.reports ≡ report ∷ rest
      → (shadow m (to_first_report setup)).reports ≡ report ∷ []
  pub same : r.blind ≡ 0 → (fill : List ℕ) → IsFill fill → shadow m (refilled (to_first_report setup) fill) ≡ shadow m (to_first_report setup)
