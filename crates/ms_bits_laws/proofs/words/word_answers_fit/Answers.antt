use Rattle.ms_bits_laws.proofs.WordAgreement.{answer_lt, second_fits}
use Rattle.ms_bits_laws.proofs.words.word_answers_fit.Goals as goal

pub returns : goal.returns
returns s = λ f w a b c x some few p q h. answer_lt f w a b c x some few p (second_fits f w b q) h
