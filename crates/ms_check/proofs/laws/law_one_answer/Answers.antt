use Rattle.ms_check_valid.proofs.Refused.{invalid}
use Rattle.ms_check.proofs.OneAnswer.{one_answer}
use Rattle.ms_check.proofs.laws.law_one_answer.Goals as goal

pub returns-clause-invalid : goal.returns-clause-invalid
returns-clause-invalid c = invalid

pub returns-clause-unique : goal.returns-clause-unique
returns-clause-unique c = one_answer
