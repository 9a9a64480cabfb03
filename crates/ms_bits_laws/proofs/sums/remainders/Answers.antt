use Rattle.ms_bits_laws.proofs.Agreement.{same_remainder, agrees_from_remainders}
use Rattle.ms_bits_laws.proofs.sums.remainders.Goals as goal

pub returns-clause-known : goal.returns-clause-known
returns-clause-known c = λ w s a c i p h l z. same_remainder w s a c i p h l z

pub returns-clause-agrees : goal.returns-clause-agrees
returns-clause-agrees c = λ w s a c h. agrees_from_remainders w s a c h
