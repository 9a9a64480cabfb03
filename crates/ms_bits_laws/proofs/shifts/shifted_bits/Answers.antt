use Rattle.ms_bits_laws.proofs.OperationAgreement.{left_bit_low, left_bit_high, right_bit, signed_bit}
use Rattle.ms_bits_laws.proofs.shifts.shifted_bits.Goals as goal

pub returns-clause-shl_low : goal.returns-clause-shl_low
returns-clause-shl_low c = λ f w a k i r e l g. left_bit_low f w a k i r e l g

pub returns-clause-shl_high : goal.returns-clause-shl_high
returns-clause-shl_high c = λ f w a k i r e l g. left_bit_high f w a k i r e l g

pub returns-clause-lshr : goal.returns-clause-lshr
returns-clause-lshr c = λ f w a k i r e. right_bit f w a k i r e

pub returns-clause-ashr : goal.returns-clause-ashr
returns-clause-ashr c = λ f w a k i r p e l. signed_bit f w a k i r p e l
