use Rattle.ms_pass_tasks.proofs.Marked.{tasks_marked, tasks_more}
use Rattle.ms_pass_tasks.proofs.language.law_code_is_marked.Goals as goal

pub returns-clause-marked : goal.returns-clause-marked
returns-clause-marked c = tasks_marked

pub returns-clause-numbers : goal.returns-clause-numbers
returns-clause-numbers c = tasks_more
