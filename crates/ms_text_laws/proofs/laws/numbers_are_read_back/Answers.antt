use Rattle.ms_text_laws.proofs.Numbers.{decimal_back}
use Rattle.ms_text_laws.proofs.Values.{word_back}
use Rattle.ms_text_laws.proofs.laws.numbers_are_read_back.Goals as goal

pub returns-clause-digits : goal.returns-clause-digits
returns-clause-digits c = decimal_back

pub returns-clause-words : goal.returns-clause-words
returns-clause-words c = word_back
