-- What a `RealFiles` shows.
use Rattle.std.specs.Prelude.{ℕ}
use Rattle.ms_io.specs.declared.real.RealFiles.{RealFiles}

-- the number of bytes taken so far
abbrev pub taken_by : {R : Type 0} → RealFiles R → ℕ
taken_by files = files.counters.taken

-- the number of opens and reads that failed so far
abbrev pub faults_of : {R : Type 0} → RealFiles R → ℕ
faults_of files = files.counters.faults
