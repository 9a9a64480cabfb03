use Rattle.ms_bits_laws.proofs.CarryMasks.{union_bit}
use Rattle.ms_bits_laws.proofs.Agreement.{union_left, union_right}
use Rattle.ms_bits_laws.proofs.sums.unions.Goals as goal

pub returns-clause-bits : goal.returns-clause-bits
returns-clause-bits c = λ m k i. union_bit m k i

pub returns-clause-left : goal.returns-clause-left
returns-clause-left c = λ w m k a c h. union_left w m k a c h

pub returns-clause-right : goal.returns-clause-right
returns-clause-right c = λ w m k a c h. union_right w m k a c h
