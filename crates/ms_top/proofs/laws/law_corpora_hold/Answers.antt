use Rattle.ms_top.proofs.Promised.{corpus_promises, corpus_words_promise}
use Rattle.ms_top.proofs.laws.law_corpora_hold.Goals as goal

pub returns-clause-words : goal.returns-clause-words
returns-clause-words c = corpus_words_promise

pub returns-clause-commands : goal.returns-clause-commands
returns-clause-commands c = corpus_promises
