use Rattle.ms_runs.specs.Masks.{by_completions}
use Rattle.ms_runs_good_laws.proofs.MaskRanges.{completions_keep}
use Rattle.ms_runs_clean_laws.proofs.CleanRules.{completions_clean}
use Rattle.ms_threads_runs_laws.proofs.ThreadTrails.{from_threads}
use Rattle.ms_threads_runs_laws.proofs.origins.thread_origins_lead_back.Goals as goal

pub returns-clause-by_completions : goal.returns-clause-by_completions
returns-clause-by_completions c = λ m formed valid bare setup bytes schedule. from_threads by_completions completions_clean completions_keep m formed valid bare setup bytes schedule

pub returns-clause-by_rules : goal.returns-clause-by_rules
returns-clause-by_rules c = λ d clean keep m formed valid bare setup bytes schedule. from_threads d clean keep m formed valid bare setup bytes schedule
