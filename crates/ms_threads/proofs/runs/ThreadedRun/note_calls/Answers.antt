use Rattle.std.proofs.Common.{ℕ, length, subst}
use Rattle.std.specs.Prelude.{OnOk}
use Rattle.ms_runtime.specs.Recorded.{Noted}
use Rattle.ms_threads.proofs.runs.ThreadedRun.note_calls.Goals as goal

pub returns-clause-noted : goal.returns-clause-noted
returns-clause-noted c = λ wanted.
    let run = c.args.self.now.running in
    subst (λ (n : ℕ). OnOk c.note_calls.result (Noted c.args.m.now run.fiber n (length run.told.reports) c.args.self.now.calls.items c.note_calls.new.recorded.items)) c.start-started.ensures (c.note_calls.ensures wanted)
