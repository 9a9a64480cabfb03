use Rattle.ms_bits_laws.proofs.SignedShift.{product_fits, shl_nsw_answers}
use Rattle.ms_bits_laws.proofs.shifts.signed_wrap_by_bits.Goals as goal

pub returns-clause-fits : goal.returns-clause-fits
returns-clause-fits c = λ w a k l p. product_fits w a k l p

pub returns-clause-answers : goal.returns-clause-answers
returns-clause-answers c = λ f w a k s u l p. shl_nsw_answers f w a k s u l p
