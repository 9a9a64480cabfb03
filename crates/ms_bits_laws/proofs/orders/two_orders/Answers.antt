use Rattle.ms_bits.specs.Conversions.{holds}
use Rattle.ms_bits.specs.Formulas.{compare_mask}
use Rattle.ms_bits.specs.declared.operations.Pred.TheVariants.{Ult, Slt}
use Rattle.ms_bits_laws.proofs.FormulaMasks.{compare_mask_exact}
use Rattle.ms_bits_laws.proofs.orders.two_orders.Goals as goal

pub returns-clause-unsigned : goal.returns-clause-unsigned
unfolding holds compare_mask
returns-clause-unsigned c = λ w v m u k s p q. compare_mask_exact Ult w v m u k s p q

pub returns-clause-signed : goal.returns-clause-signed
unfolding holds compare_mask
returns-clause-signed c = λ w v m u k s p q. compare_mask_exact Slt w v m u k s p q
