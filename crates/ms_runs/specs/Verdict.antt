-- What a run says about a program (own).
use Rattle.std.specs.Prelude.{ℕ, zero, suc, List, [], ◌∷◌}
use Rattle.ms_runs.specs.declared.runs.Report.{Report}
use Rattle.ms_runs.specs.declared.runs.RunResult.{RunResult}

-- a use of uninitialised bits was reported; none was, but some were lost without a report; neither
pub data Verdict : Type 0 where
  Poisoned : Verdict
  Unsure : Verdict
  Clean : Verdict

-- the verdict of reports and of the number of blind uses
abbrev pub verdict_by : List Report → ℕ → Verdict
verdict_by (r ∷ rest) blind = Poisoned
verdict_by [] zero = Clean
verdict_by [] (suc n) = Unsure

-- the verdict of a run
abbrev pub verdict_of : RunResult → Verdict
verdict_of r = verdict_by r.reports r.blind
