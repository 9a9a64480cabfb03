use Rattle.ms_bits_laws.proofs.OperationAgreement.{left_shift-lt, right_shift-lt, signed_shift-lt}
use Rattle.ms_bits_laws.proofs.shifts.shifted_words_fit.Goals as goal

pub returns-clause-shl : goal.returns-clause-shl
returns-clause-shl c = λ f w a k r e. left_shift-lt f w a k r e

pub returns-clause-lshr : goal.returns-clause-lshr
returns-clause-lshr c = λ f w a k r p e. right_shift-lt f w a k r p e

pub returns-clause-ashr : goal.returns-clause-ashr
returns-clause-ashr c = λ f w a k r e. signed_shift-lt f w a k r e
