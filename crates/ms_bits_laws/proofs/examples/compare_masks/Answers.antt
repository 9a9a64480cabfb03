use Rattle.std.proofs.Common.{refl}
use Rattle.ms_bits.specs.Formulas.{eq_mask, order_mask, greatest, least, turned_sign, compare_mask}
use Rattle.ms_bits_laws.proofs.examples.compare_masks.Goals as goal

pub returns-clause-never_equal : goal.returns-clause-never_equal
unfolding eq_mask order_mask greatest least turned_sign compare_mask
returns-clause-never_equal c = refl

pub returns-clause-maybe_equal : goal.returns-clause-maybe_equal
unfolding eq_mask order_mask greatest least turned_sign compare_mask
returns-clause-maybe_equal c = refl

pub returns-clause-always_below : goal.returns-clause-always_below
unfolding eq_mask order_mask greatest least turned_sign compare_mask
returns-clause-always_below c = refl

pub returns-clause-maybe_below : goal.returns-clause-maybe_below
unfolding eq_mask order_mask greatest least turned_sign compare_mask
returns-clause-maybe_below c = refl

pub returns-clause-signed : goal.returns-clause-signed
unfolding eq_mask order_mask greatest least turned_sign compare_mask
returns-clause-signed c = refl

pub returns-clause-unsigned : goal.returns-clause-unsigned
unfolding eq_mask order_mask greatest least turned_sign compare_mask
returns-clause-unsigned c = refl
