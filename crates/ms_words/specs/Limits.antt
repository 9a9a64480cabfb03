-- What the fields of a command may be (own).
use Rattle.std.specs.Prelude.{◌≡◌, ◌≤◌, ◌<◌, ◌^◌, ℕ, List, All, length, ⊤}
use Rattle.ms_words.specs.declared.commands.Command.{Command}
use Rattle.ms_words.specs.declared.commands.Command.TheVariants.{Instrument, Run, Check, CheckSchedules, Explain, Corpus, Gen, Help, Version}
use Rattle.ms_words.specs.declared.commands.Options.{Options}
use Rattle.ms_words.specs.Table.{Word}

-- a fill of 1 to 2048 bytes, at most a thousand million steps, a limit of 1 to 1000 reports, and a schedule of 1 to 2048 bytes
pub record RunsWithinLimits (o : Options) : Type 0 where
  pub filled : 1 ≤ length o.fill
  pub fill : length o.fill ≤ 2048
  pub bytes : All (λ b. b < 2 ^ 8) o.fill
  pub steps : o.steps ≤ 1000000000
  pub some_reports : 1 ≤ o.reports
  pub reports : o.reports ≤ 1000
  pub scheduled : 1 ≤ length o.schedule
  pub schedule : length o.schedule ≤ 2048
  pub schedule_bytes : All (λ b. b < 2 ^ 8) o.schedule

-- 1 to 1000000 runs, and 1 to 8 workers
pub record SchedulesWithinLimits (o : Options) (runs workers : ℕ) : Type 0 where
  pub options : RunsWithinLimits o
  pub some_runs : 1 ≤ runs
  pub few_runs : runs ≤ 1000000
  pub some_workers : 1 ≤ workers
  pub few_workers : workers ≤ 8

-- options with a limit of one report
pub record ExplainsWithinLimits (o : Options) : Type 0 where
  pub runs : RunsWithinLimits o
  pub one_report : o.reports ≡ 1

-- 1 to 256 inputs, and 1 to 8 workers
pub record CorpusWithinLimits (inputs : List Word) (o : Options) (workers : ℕ) : Type 0 where
  pub runs : RunsWithinLimits o
  pub some_inputs : 1 ≤ length inputs
  pub few_inputs : length inputs ≤ 256
  pub some_workers : 1 ≤ workers
  pub few_workers : workers ≤ 8

-- a seed of 64 bits, and 1 to 1000 functions
pub record MadeWithinLimits (seed functions : ℕ) : Type 0 where
  pub bits : seed < 2 ^ 64
  pub some : 1 ≤ functions
  pub few : functions ≤ 1000

-- the fields of a command are within their limits; `instrument` has none but the name of its file, `help` and `version` none at all
abbrev pub IsWithinLimits : Command → Type 0
IsWithinLimits (Instrument file) = ⊤
IsWithinLimits (Run file options) = RunsWithinLimits options
IsWithinLimits (Check file options) = RunsWithinLimits options
IsWithinLimits (CheckSchedules file options runs workers) = SchedulesWithinLimits options runs workers
IsWithinLimits (Explain file options) = ExplainsWithinLimits options
IsWithinLimits (Corpus file inputs options workers) = CorpusWithinLimits inputs options workers
IsWithinLimits (Gen seed functions run) = MadeWithinLimits seed functions
IsWithinLimits Help = ⊤
IsWithinLimits Version = ⊤
