use Rattle.std.proofs.Common.{ℕ, List, Some, ap}
use Rattle.ms_runs.specs.declared.runs.Calls.{Calls}
use Rattle.ms_runtime.proofs.runs.Recorded.note_end.Goals as goal

pub calls_below-requires : goal.calls_below-requires
calls_below-requires c = c.requires

pub returns-clause-ended : goal.returns-clause-ended
returns-clause-ended c = λ frames callers wanted. ap (λ (sites : List ℕ). Some (let k : Calls = record { sites = sites; started = 0 } in k)) (c.in_ok-sites.ensures frames callers)
