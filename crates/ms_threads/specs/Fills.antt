-- What the result of a checked run with threads promises of runs under other fills (own).
use Rattle.std.specs.Prelude.{◌≡◌, ℕ, List, [], ◌∷◌}
use Rattle.ms_ir.specs.declared.syntax.Module.{Module}
use Rattle.ms_runs.specs.declared.runs.Calls.{Calls}
use Rattle.ms_runs.specs.declared.runs.Setup.{Setup}
use Rattle.ms_runs.specs.declared.runs.Report.{Report}
use Rattle.ms_runs.specs.declared.runs.RunResult.{RunResult}
use Rattle.ms_runs.specs.Verdict.{Clean, verdict_of}
use Rattle.ms_runs_good_laws.specs.Fills.{IsFill, refilled, to_first_report, SameShown}
use Rattle.ms_runs_threads.specs.PlainFibers.{plain_threads}
use Rattle.ms_runs_threads.specs.ShadowFibers.{shadow_threads}
use Rattle.ms_runs_threads.specs.Calls.{shadow_threads_calls}

-- where the verdict is clean, the program itself prints the same and ends in the same way under every fill; where no blind use was
-- counted, the run up to the first report is the same under every fill: its output, its end and that report. All runs have one
-- schedule
pub record ThreadsHoldUnderFills (m : Module) (setup : Setup) (schedule : List ℕ) (r : RunResult) : Type 0 where
  pub clean : verdict_of r ≡ Clean → (fill : List ℕ) → IsFill fill → SameShown (plain_threads m (refilled setup fill) schedule) r
  pub first : r.blind ≡ 0 → (report : Report) (rest : List Report) → r.reports ≡ report ∷ rest
      → (shadow_threads m (to_first_report setup) schedule).reports ≡ report ∷ []
  pub same : r.blind ≡ 0 → (fill : List ℕ) → IsFill fill
      → shadow_threads m (refilled (to_first_report setup) fill) schedule ≡ shadow_threads m (to_first_report setup) schedule

-- what the calls at the reports of a checked run promise: where no blind use was counted, those at the first report are those at the
-- report of the run up to it, and the same under every fill. All runs have one schedule
pub record ThreadsCallsUnderFills (m : Module) (setup : Setup) (schedule : List ℕ) (blind : ℕ) (calls : List Calls) : Type 0 where
  pub first : blind ≡ 0 → (one : Calls) (rest : List Calls) → calls ≡ one ∷ rest → shadow_threads_calls m (to_first_report setup) schedule ≡ one ∷ []
  pub same : blind ≡ 0 → (fill : List ℕ) → IsFill fill
      → shadow_threads_calls m (refilled (to_first_report setup) fill) schedule ≡ shadow_threads_calls m (to_first_report setup) schedule
