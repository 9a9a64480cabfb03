use Rattle.ms_bits_laws.proofs.OperationAgreement.{casts_agree, cast-lt}
use Rattle.ms_bits_laws.proofs.casts.casts_agree.Goals as goal

pub returns-clause-agrees : goal.returns-clause-agrees
returns-clause-agrees c = λ o f g h w to m a c n r s l e p q x y z t. casts_agree o f g h w to m a c n r s l e p q x y z t

pub returns-clause-fits : goal.returns-clause-fits
returns-clause-fits c = λ o f w to a r l e p x. cast-lt o f w to a r l e p x
