use Rattle.std.proofs.Common.{length, ◌-◌, ◌≡◌, ◌≤◌, take}
use Rattle.ms_io.specs.Writing.{with_appended}
use Rattle.ms_top.proofs.output.put_text.Given as goal

abbrev pub invariant-loop-at : goal.invariant-loop-at
invariant-loop-at g l = record {
  written : g.S.Sink.written l.sink ≡ with_appended (g.S.Sink.written l.fn.sink) (take l.at l.text);
  within : l.at ≤ length l.text;
  faults : g.S.Sink.faults l.fn.sink ≤ g.S.Sink.faults l.sink;
}

abbrev pub decreases-loop-at : goal.decreases-loop-at
decreases-loop-at g l = length l.text - l.at
