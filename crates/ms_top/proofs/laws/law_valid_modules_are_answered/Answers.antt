use Rattle.ms_top.proofs.Answered.{text_answered, words_answered, generated_answered, valid_done, corpus_refused}
use Rattle.ms_top.proofs.laws.law_valid_modules_are_answered.Goals as goal

pub returns-clause-text : goal.returns-clause-text
returns-clause-text c = text_answered

pub returns-clause-words : goal.returns-clause-words
returns-clause-words c = words_answered

pub returns-clause-generated : goal.returns-clause-generated
returns-clause-generated c = generated_answered

pub returns-clause-status : goal.returns-clause-status
returns-clause-status c = valid_done

pub returns-clause-threads : goal.returns-clause-threads
returns-clause-threads c = corpus_refused
