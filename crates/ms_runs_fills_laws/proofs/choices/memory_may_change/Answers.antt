use Rattle.ms_runs_fills_laws.proofs.ChangingMemory.{certain_changing, clean_changing}
use Rattle.ms_runs_fills_laws.proofs.choices.memory_may_change.Goals as goal

pub returns-clause-certain : goal.returns-clause-certain
returns-clause-certain c = certain_changing

pub returns-clause-clean : goal.returns-clause-clean
returns-clause-clean c = clean_changing
