use Rattle.ms_bits_laws.proofs.ByteAgreement.{stored_bytes_agree, ranges_agree, copies_agree, loaded_agree}
use Rattle.ms_bits_laws.proofs.OperationAgreement.{cut}
use Rattle.ms_bits_laws.proofs.maps.bytes_agree.Goals as goal

pub returns-clause-stored : goal.returns-clause-stored
returns-clause-stored c = λ w m a c k p q h. stored_bytes_agree w m a c k p q h

pub returns-clause-changed : goal.returns-clause-changed
returns-clause-changed c = λ shadow map other mask new new_other a n h g x. ranges_agree shadow map other a n mask new new_other h g x

pub returns-clause-copied : goal.returns-clause-copied
returns-clause-copied c = λ shadow map other to from n h x. copies_agree shadow map other to from n h x

pub returns-clause-loaded : goal.returns-clause-loaded
returns-clause-loaded c = λ shadow map other a n p q r h. loaded_agree n a shadow map other p q r h

pub returns-clause-cut : goal.returns-clause-cut
returns-clause-cut c = λ w to m a c l h. cut w to m a c l h
