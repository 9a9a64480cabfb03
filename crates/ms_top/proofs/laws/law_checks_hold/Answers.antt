use Rattle.ms_top.proofs.Promised.{texts_are_bytes, check_is_fair, check_promises, words_promise}
use Rattle.ms_words.proofs.WithinLimits.{command_within}
use Rattle.ms_top.proofs.laws.law_checks_hold.Goals as goal

pub returns-clause-words : goal.returns-clause-words
returns-clause-words c = words_promise

pub returns-clause-commands : goal.returns-clause-commands
returns-clause-commands c = check_promises

pub returns-clause-fair : goal.returns-clause-fair
returns-clause-fair c = check_is_fair

pub returns-clause-bytes : goal.returns-clause-bytes
returns-clause-bytes c = texts_are_bytes

pub returns-clause-limits : goal.returns-clause-limits
returns-clause-limits c = command_within
