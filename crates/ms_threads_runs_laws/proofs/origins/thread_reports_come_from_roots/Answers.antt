use Rattle.ms_runs.specs.Masks.{by_completions}
use Rattle.ms_runs_good_laws.proofs.MaskRanges.{completions_keep}
use Rattle.ms_runs_clean_laws.proofs.CleanRules.{completions_clean}
use Rattle.ms_threads_runs_laws.proofs.ThreadTrails.{reports_come, reports_known}
use Rattle.ms_threads_runs_laws.proofs.origins.thread_reports_come_from_roots.Goals as goal

pub returns-clause-reached : goal.returns-clause-reached
returns-clause-reached c = λ m formed valid bare setup bytes schedule r within. reports_come by_completions completions_clean completions_keep m formed valid bare setup bytes schedule r within

pub returns-clause-known : goal.returns-clause-known
returns-clause-known c = λ m formed valid bare setup bytes schedule r within. reports_known by_completions completions_clean completions_keep m formed valid bare setup bytes schedule r within
