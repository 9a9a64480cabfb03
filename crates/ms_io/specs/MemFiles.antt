-- What a `MemFiles` shows.
use Rattle.std.specs.Prelude.{ℕ, List}
use Rattle.ms_io.specs.declared.memory_files.MemFiles.{MemFiles}
use Rattle.ms_io.specs.Named.{files_of}
use Rattle.ms_io.specs.Reading.{Holdings}

-- the files that it holds
abbrev pub held_by : MemFiles → Holdings
held_by files = files_of files.held

-- the numbers of the calls that fail, counted from 0
abbrev pub failing_reads : MemFiles → List ℕ
failing_reads files = files.failing.items

-- the number of the next call
abbrev pub next_read : MemFiles → ℕ
next_read files = files.calls

-- the number of bytes taken so far
abbrev pub taken_by : MemFiles → ℕ
taken_by files = files.taken

-- the number of failed calls so far
abbrev pub faults_of : MemFiles → ℕ
faults_of files = files.faults
