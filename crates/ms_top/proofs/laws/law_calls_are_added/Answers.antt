use Rattle.ms_top.specs.Instrumented.{IsInstrumented}
use Rattle.ms_top.proofs.Uncalled.{run_told, check_told, schedules_told, explain_told, corpus_told, run_left}
use Rattle.ms_top.proofs.laws.law_calls_are_added.Goals as goal

pub returns-clause-run : goal.returns-clause-run
returns-clause-run c = run_told IsInstrumented

pub returns-clause-check : goal.returns-clause-check
returns-clause-check c = check_told IsInstrumented

pub returns-clause-schedules : goal.returns-clause-schedules
returns-clause-schedules c = schedules_told IsInstrumented

pub returns-clause-explain : goal.returns-clause-explain
returns-clause-explain c = explain_told IsInstrumented

pub returns-clause-corpus : goal.returns-clause-corpus
returns-clause-corpus c = corpus_told IsInstrumented

pub returns-clause-runs : goal.returns-clause-runs
returns-clause-runs c = run_left
