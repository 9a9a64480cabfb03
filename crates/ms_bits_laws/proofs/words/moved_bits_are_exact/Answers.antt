use Rattle.ms_bits_laws.proofs.MovedBits.{bswap_exact, bitreverse_exact, fshl_exact, fshr_exact}
use Rattle.ms_bits_laws.proofs.words.moved_bits_are_exact.Goals as goal

pub returns-clause-bswap : goal.returns-clause-bswap
returns-clause-bswap c = λ w v m u k e p q. bswap_exact w v m u k e p.value p.mask q.value

pub returns-clause-bitreverse : goal.returns-clause-bitreverse
returns-clause-bitreverse c = λ w v m u k p q. bitreverse_exact w v m u k p.value p.mask q.value

pub returns-clause-fshl : goal.returns-clause-fshl
returns-clause-fshl c = λ w v m u k amount some p q. fshl_exact w v m u k amount p.value p.mask q.value q.mask

pub returns-clause-fshr : goal.returns-clause-fshr
returns-clause-fshr c = λ w v m u k amount some p q. fshr_exact w v m u k amount some p.value p.mask q.value q.mask
