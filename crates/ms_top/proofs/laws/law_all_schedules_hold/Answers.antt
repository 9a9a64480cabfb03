use Rattle.ms_top.proofs.Promised.{schedules_promise, schedules_words_promise}
use Rattle.ms_top.proofs.laws.law_all_schedules_hold.Goals as goal

pub returns-clause-words : goal.returns-clause-words
returns-clause-words c = schedules_words_promise

pub returns-clause-commands : goal.returns-clause-commands
returns-clause-commands c = schedules_promise
