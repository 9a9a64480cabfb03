-- What a `SureFiles` shows.
use Rattle.std.specs.Prelude.{ℕ}
use Rattle.ms_io.specs.declared.memory_files.SureFiles.{SureFiles}
use Rattle.ms_io.specs.Named.{files_of}
use Rattle.ms_io.specs.Reading.{Holdings}

-- the files that it holds
abbrev pub held_by : SureFiles → Holdings
held_by files = files_of files.held

-- the number of bytes taken so far
abbrev pub taken_by : SureFiles → ℕ
taken_by files = files.taken
