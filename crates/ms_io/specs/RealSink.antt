-- What a `RealSink` shows.
use Rattle.std.specs.Prelude.{ℕ}
use Rattle.ms_io.specs.declared.real.RealSink.{RealSink}

-- the writer that it stands over
abbrev pub writer_of : {W : Type 0} → RealSink W → W
writer_of sink = sink.writer

-- the number of writes so far that failed or took nothing
abbrev pub faults_of : {W : Type 0} → RealSink W → ℕ
faults_of sink = sink.faults
