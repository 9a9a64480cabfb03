use Rattle.ms_bits_laws.proofs.OperationAgreement.{sums_agree, differences_agree, products_agree}
use Rattle.ms_bits_laws.proofs.sums.sums_agree.Goals as goal

pub returns-clause-add : goal.returns-clause-add
returns-clause-add c = λ f g w m k a b c d r s ra rb rc rd p q x y. sums_agree f g w m k a b c d r s ra rb p q x y

pub returns-clause-sub : goal.returns-clause-sub
returns-clause-sub c = λ f g w m k a b c d r s ra rb rc rd p q x y. differences_agree f g w m k a b c d r s ra rb rd.value p q x y

pub returns-clause-mul : goal.returns-clause-mul
returns-clause-mul c = λ f g w m k a b c d r s ra rb rc rd p q x y. products_agree f g w m k a b c d r s ra rb p q x y
