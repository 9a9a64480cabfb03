-- Runs up to their first report (own).
use Rattle.std.specs.Prelude.{◌≡◌, ◌≤◌, List, [], ◌∷◌, ◌⊎◌}
use Rattle.ms_runs.specs.declared.runs.End.TheVariants as «end»
use Rattle.ms_runs.specs.declared.runs.Report.{Report}
use Rattle.ms_runs.specs.declared.runs.RunResult.{RunResult}

-- a run ends with the first report of another one, which counts no fewer blind uses
pub record BeginsWith (r q : RunResult) : Type 0 where
  pub report : Report
  pub rest : List Report
  pub one : r.reports ≡ report ∷ []
  pub more : q.reports ≡ report ∷ rest
  pub blind : r.blind ≤ q.blind
  pub ends : r.«end» ≡ «end».Reported

-- a run up to the first report of another one: the other one where that has none
abbrev pub FirstOf : RunResult → RunResult → Type 0
FirstOf r q = ((r ≡ q) × (q.reports ≡ [])) ⊎ BeginsWith r q
