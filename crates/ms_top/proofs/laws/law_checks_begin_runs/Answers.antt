use Rattle.ms_top.proofs.Answered.{valid_begins, text_begins}
use Rattle.ms_top.proofs.laws.law_checks_begin_runs.Goals as goal

pub returns-clause-valid : goal.returns-clause-valid
returns-clause-valid c = valid_begins

pub returns-clause-text : goal.returns-clause-text
returns-clause-text c = text_begins
