use Rattle.ms_top.specs.Instrumented.{IsInstrumented}
use Rattle.ms_top.proofs.Added.{run_added, check_added, schedules_added, explain_added, corpus_added, run_taken_out, fault_taken_out, run_alone, fault_alone}
use Rattle.ms_top.proofs.laws.law_lines_are_added.Goals as goal

pub returns-clause-run : goal.returns-clause-run
returns-clause-run c = λ file inputs o text a. run_added IsInstrumented file o inputs text a

pub returns-clause-check : goal.returns-clause-check
returns-clause-check c = λ file inputs o text a. check_added IsInstrumented file o inputs text a

pub returns-clause-schedules : goal.returns-clause-schedules
returns-clause-schedules c = λ file inputs o runs workers text a. schedules_added IsInstrumented file o runs workers inputs text a

pub returns-clause-explain : goal.returns-clause-explain
returns-clause-explain c = λ file inputs o text a. explain_added IsInstrumented file o inputs text a

pub returns-clause-corpus : goal.returns-clause-corpus
returns-clause-corpus c = λ file names inputs o workers text a. corpus_added IsInstrumented file names inputs o workers text a

pub returns-clause-runs : goal.returns-clause-runs
returns-clause-runs c = run_taken_out

pub returns-clause-faults : goal.returns-clause-faults
returns-clause-faults c = fault_taken_out

pub returns-clause-none_in_runs : goal.returns-clause-none_in_runs
returns-clause-none_in_runs c = run_alone

pub returns-clause-none_in_faults : goal.returns-clause-none_in_faults
returns-clause-none_in_faults c = fault_alone
