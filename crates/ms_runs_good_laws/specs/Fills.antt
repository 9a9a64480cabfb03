-- Runs that are the same whatever uninitialised memory holds (own).
use Rattle.std.specs.Prelude.{◌≡◌, ◌≤◌, ◌<◌, ◌^◌, ℕ, List, [], length, All}
use Rattle.ms_ir.specs.declared.syntax.Module.{Module}
use Rattle.ms_runs.specs.declared.runs.Setup.{Setup}
use Rattle.ms_runs.specs.declared.runs.RunResult.{RunResult}
use Rattle.ms_runs.specs.Plain.{plain}
use Rattle.ms_runs.specs.Shadow.{shadow}

-- a fill: bytes, at least one
pub record IsFill (fill : List ℕ) : Type 0 where
  pub some : 1 ≤ length fill
  pub bytes : All (λ b. b < 2 ^ 8) fill

-- a setup with another fill
abbrev pub refilled : Setup → List ℕ → Setup
refilled setup fill = record setup { fill = fill }

-- a setup whose run ends at its first report
abbrev pub to_first_report : Setup → Setup
to_first_report setup = record setup { reports = 1 }

-- up to its first report a run loses no uninitialised bit without a report
abbrev pub NoBlindUse : Module → Setup → Type 0
NoBlindUse m setup = (shadow m (to_first_report setup)).blind ≡ 0

-- two runs print the same and end in the same way
pub record SameShown (r q : RunResult) : Type 0 where
  pub output : r.output ≡ q.output
  pub ends : r.«end» ≡ q.«end»

-- under every other fill the run up to its first report answers the same, and where it has no report the program itself
-- prints the same and ends in the same way
pub record SameUnderFills (m : Module) (setup : Setup) : Type 0 where
  pub reported : (fill : List ℕ) → IsFill fill → shadow m (refilled (to_first_report setup) fill) ≡ shadow m (to_first_report setup)
  pub shown : (shadow m (to_first_report setup)).reports ≡ [] → (fill : List ℕ) → IsFill fill → SameShown (plain m (refilled setup fill)) (plain m setup)

-- the same of an instrumented module, whose plain run up to its first report it says
pub record InsertedUnderFills (j : Module) (setup : Setup) : Type 0 where
  pub reported : (plain j (to_first_report setup)).blind ≡ 0 → (fill : List ℕ) → IsFill fill → plain j (refilled (to_first_report setup) fill) ≡ plain j (to_first_report setup)
