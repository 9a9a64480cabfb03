-- What a `MemSink` shows.
use Rattle.std.specs.Prelude.{ℕ, ◌-◌, List, take, length}
use Rattle.ms_io.specs.declared.memory_sinks.MemSink.{MemSink}

-- the bytes put so far
abbrev pub put_so_far : MemSink → List ℕ
put_so_far sink = take sink.used sink.room.items

-- how many more bytes fit
abbrev pub room_left : MemSink → ℕ
room_left sink = length sink.room.items - sink.used

-- the numbers of the calls that fail, counted from 0
abbrev pub failing_puts : MemSink → List ℕ
failing_puts sink = sink.failing.items

-- the number of the next call
abbrev pub next_put : MemSink → ℕ
next_put sink = sink.calls

-- the number of failed calls so far
abbrev pub faults_of : MemSink → ℕ
faults_of sink = sink.faults
