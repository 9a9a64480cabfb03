use Rattle.ms_bits_laws.proofs.CarryMasks.{carry_bit, carry_mask-lt, union_bit_up_to}
use Rattle.ms_bits_laws.proofs.sums.carries.Goals as goal

pub returns-clause-bits : goal.returns-clause-bits
returns-clause-bits c = λ w s i p l. carry_bit w s i p l

pub returns-clause-of_unions : goal.returns-clause-of_unions
returns-clause-of_unions c = λ m k i. union_bit_up_to m k i

pub returns-clause-fits : goal.returns-clause-fits
returns-clause-fits c = λ w s p. carry_mask-lt w s p
