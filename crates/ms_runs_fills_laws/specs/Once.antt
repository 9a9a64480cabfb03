-- Runs that report each use each time (own).
use Rattle.std.specs.Prelude.{ℕ, false}
use Rattle.ms_runs.specs.declared.runs.Setup.{Setup}

-- a setup that has each use reported each time, up to another number of reports
abbrev pub each_time : Setup → ℕ → Setup
each_time setup n = record setup { reports = n; once = false }
