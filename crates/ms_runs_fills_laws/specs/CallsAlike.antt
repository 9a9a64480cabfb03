-- What the calls at the reports of a checked run promise of runs under other fills (own).
use Rattle.std.specs.Prelude.{◌≡◌, ℕ, List, [], ◌∷◌}
use Rattle.ms_ir.specs.declared.syntax.Module.{Module}
use Rattle.ms_runs.specs.declared.runs.Calls.{Calls}
use Rattle.ms_runs.specs.declared.runs.Setup.{Setup}
use Rattle.ms_runs.specs.Calls.{shadow_calls}
use Rattle.ms_runs_good_laws.specs.Fills.{IsFill, refilled, to_first_report}

-- where no blind use was counted, the calls at the first report are those at the report of the run up to it, and the same under
-- every fill
pub record CallsUnderFills (m : Module) (setup : Setup) (blind : ℕ) (calls : List Calls) : Type 0 where
  pub first : blind ≡ 0 → (one : Calls) (rest : List Calls) → calls ≡ one ∷ rest → shadow_calls m (to_first_report setup) ≡ one ∷ []
  pub same : blind ≡ 0 → (fill : List ℕ) → IsFill fill → shadow_calls m (refilled (to_first_report setup) fill) ≡ shadow_calls m (to_first_report setup)
