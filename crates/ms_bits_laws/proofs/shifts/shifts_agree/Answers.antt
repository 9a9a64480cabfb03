use Rattle.ms_bits_laws.proofs.OperationAgreement.{left_shifts_agree, right_shifts_agree, signed_shifts_agree, nothing_outside_ones}
use Rattle.ms_bits_laws.proofs.shifts.shifts_agree.Goals as goal

pub returns-clause-shl : goal.returns-clause-shl
returns-clause-shl c = λ f g h w m a c k n r s p q e x y z. left_shifts_agree f g h w m a c k n r s e x y z

pub returns-clause-lshr : goal.returns-clause-lshr
returns-clause-lshr c = λ f g h w m a c k n r s p q e x y z. right_shifts_agree f g h w m a c k n r s p q e x y z

pub returns-clause-ashr : goal.returns-clause-ashr
returns-clause-ashr c = λ f g h w m a c k n r s p q e x y z. signed_shifts_agree f g h w m a c k n r s p q e x y z

pub returns-clause-all_poisoned : goal.returns-clause-all_poisoned
returns-clause-all_poisoned c = λ w r s. nothing_outside_ones w r s
