use Rattle.ms_top.proofs.Questions.{help_answer, version_answer, unknown_answer}
use Rattle.ms_top.proofs.laws.law_questions_are_answered.Goals as goal

pub returns-clause-help : goal.returns-clause-help
returns-clause-help c = help_answer

pub returns-clause-version : goal.returns-clause-version
returns-clause-version c = version_answer

pub returns-clause-unknown : goal.returns-clause-unknown
returns-clause-unknown c = unknown_answer
