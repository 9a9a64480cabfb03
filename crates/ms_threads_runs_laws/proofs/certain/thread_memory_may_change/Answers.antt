use Rattle.ms_threads_runs_laws.proofs.ChangingRuns.{certain_changing, clean_changing}
use Rattle.ms_threads_runs_laws.proofs.certain.thread_memory_may_change.Goals as goal

pub returns-clause-certain : goal.returns-clause-certain
returns-clause-certain c = λ m formed valid can setup bytes schedule n z told comes. certain_changing m formed valid can setup bytes schedule n z told comes

pub returns-clause-clean : goal.returns-clause-clean
returns-clause-clean c = λ m formed valid can setup bytes schedule clean z comes. clean_changing m formed valid can setup bytes schedule clean z comes
