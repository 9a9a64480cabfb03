use Rattle.std.proofs.Common.{List, length, OnOk, subst}
use Rattle.ms_runs.specs.declared.runs.Report.{Report}
use Rattle.ms_runtime.specs.Recorded.{Noted}
use Rattle.ms_runtime.proofs.runs.note_calls.Goals as goal

pub returns : goal.returns
returns c = λ wanted.
    subst (λ (reports : List Report). OnOk c.record_calls.result (Noted c.args.m.now c.args.running.now.fiber c.args.started (length reports) c.args.recorded.now.items c.record_calls.new.recorded.items))
    c.as_slice-count.ensures c.record_calls.ensures
