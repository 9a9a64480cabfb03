use Rattle.ms_top.proofs.OneAnswer.{one_answer, one_answer_to_commands, one_answer_to_words}
use Rattle.ms_top.proofs.laws.law_one_answer.Goals as goal

pub returns-clause-text : goal.returns-clause-text
returns-clause-text c = one_answer

pub returns-clause-commands : goal.returns-clause-commands
returns-clause-commands c = one_answer_to_commands

pub returns-clause-words : goal.returns-clause-words
returns-clause-words c = one_answer_to_words
