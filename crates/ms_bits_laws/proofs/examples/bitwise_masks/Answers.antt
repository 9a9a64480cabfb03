use Rattle.std.proofs.Common.{refl}
use Rattle.ms_bits.specs.Formulas.{union_mask, and_mask, or_mask}
use Rattle.ms_bits_laws.proofs.examples.bitwise_masks.Goals as goal

pub returns-clause-and_zero : goal.returns-clause-and_zero
unfolding union_mask and_mask or_mask
returns-clause-and_zero c = refl

pub returns-clause-and_ones : goal.returns-clause-and_ones
unfolding union_mask and_mask or_mask
returns-clause-and_ones c = refl

pub returns-clause-or_ones : goal.returns-clause-or_ones
unfolding union_mask and_mask or_mask
returns-clause-or_ones c = refl

pub returns-clause-xor : goal.returns-clause-xor
unfolding union_mask and_mask or_mask
returns-clause-xor c = refl
