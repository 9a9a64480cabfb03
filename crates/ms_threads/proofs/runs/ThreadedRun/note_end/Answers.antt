use Rattle.std.proofs.Common.{Some}
use Rattle.ms_threads.proofs.runs.ThreadedRun.note_end.Goals as goal

pub calls_below-requires : goal.calls_below-requires
calls_below-requires c = c.requires

pub returns-clause-ended : goal.returns-clause-ended
returns-clause-ended c = λ frames callers wanted. λ i. Some (record { sites = c.in_ok-sites.ensures frames callers i; started = c.start-started.ensures i })
