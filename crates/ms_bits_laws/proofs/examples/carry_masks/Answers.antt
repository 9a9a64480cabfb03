use Rattle.std.proofs.Common.{refl}
use Rattle.ms_bits.specs.Formulas.{carry_mask}
use Rattle.ms_bits_laws.proofs.examples.carry_masks.Goals as goal

pub returns-clause-some : goal.returns-clause-some
unfolding carry_mask
returns-clause-some c = refl

pub returns-clause-none : goal.returns-clause-none
unfolding carry_mask
returns-clause-none c = refl

pub returns-clause-top : goal.returns-clause-top
unfolding carry_mask
returns-clause-top c = refl
