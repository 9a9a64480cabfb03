use Rattle.ms_runs_origins_laws.proofs.Runs.{from_reached, from_completions}
use Rattle.ms_runs_origins_laws.proofs.reached.origins_lead_back.Goals as goal

pub returns-clause-by_completions : goal.returns-clause-by_completions
returns-clause-by_completions c = from_completions

pub returns-clause-by_rules : goal.returns-clause-by_rules
returns-clause-by_rules c = λ d keep widths m formed valid calm bare setup bytes. from_reached d keep widths m formed valid calm bare setup bytes
