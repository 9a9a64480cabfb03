-- What a run may be given (own).
use Rattle.std.specs.Prelude.{◌≤◌, ℕ, length}
use Rattle.ms_runs.specs.declared.runs.Setup.{Setup}

-- the bytes of input that a run may be given
abbrev pub input_limit : ℕ
input_limit = 1048576

-- at most 1 MiB of input, a fill of 1 to 2048 bytes, at most a thousand million steps, and a limit of 1 to 1000 reports
pub record WithinLimits (s : Setup) : Type 0 where
  pub input : length s.input ≤ input_limit
  pub filled : 1 ≤ length s.fill
  pub fill : length s.fill ≤ 2048
  pub steps : s.steps ≤ 1000000000
  pub some_reports : 1 ≤ s.reports
  pub reports : s.reports ≤ 1000
