use Rattle.ms_runs_fills_laws.proofs.Whole.{same_fills, inserted_fills}
use Rattle.ms_runs_fills_laws.proofs.fills.two_fills.Goals as goal

pub returns-clause-shadow_runs : goal.returns-clause-shadow_runs
returns-clause-shadow_runs c = λ m formed valid calm bare setup bytes quiet. same_fills m formed valid calm bare setup bytes quiet

pub returns-clause-instrumented : goal.returns-clause-instrumented
returns-clause-instrumented c = λ m formed valid calm j faithful setup fair. inserted_fills m formed valid calm j faithful setup fair
