use Rattle.ms_runs_fills_laws.proofs.FirstOfEach.{first_of_each, plain_first_of_each}
use Rattle.ms_runs_fills_laws.proofs.once.first_of_each.Goals as goal

pub returns-clause-shadow_runs : goal.returns-clause-shadow_runs
returns-clause-shadow_runs c = λ m setup every some n few. first_of_each m setup n every some few

pub returns-clause-instrumented : goal.returns-clause-instrumented
returns-clause-instrumented c = plain_first_of_each
