use Rattle.std.proofs.Common.{refl}
use Rattle.ms_bits.specs.Formulas.{select_mask}
use Rattle.ms_bits.specs.Conversions.{select_of}
use Rattle.ms_bits_laws.proofs.examples.select_masks.Goals as goal

pub returns-clause-chosen : goal.returns-clause-chosen
unfolding select_mask select_of
returns-clause-chosen c = refl

pub returns-clause-other : goal.returns-clause-other
unfolding select_mask select_of
returns-clause-other c = refl

pub returns-clause-poisoned : goal.returns-clause-poisoned
unfolding select_mask select_of
returns-clause-poisoned c = refl
