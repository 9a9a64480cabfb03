use Rattle.ms_top.proofs.Promised.{explain_promises, explaining_words_promise}
use Rattle.ms_top.proofs.laws.law_explanations_hold.Goals as goal

pub returns-clause-words : goal.returns-clause-words
returns-clause-words c = explaining_words_promise c.moves_read_poison.ensures.ways

pub returns-clause-commands : goal.returns-clause-commands
returns-clause-commands c = explain_promises c.moves_read_poison.ensures.ways
