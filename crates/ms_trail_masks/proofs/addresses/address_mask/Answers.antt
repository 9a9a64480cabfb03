use Rattle.std.proofs.lemmas.Nat.{or_lt}
use Rattle.ms_trail_masks.proofs.addresses.address_mask.Goals as goal

pub carry_mask-requires-clause-fits : goal.carry_mask-requires-clause-fits
carry_mask-requires-clause-fits c = or_lt 64 c.mask_of.result c.strides_mask.result c.mask_of.ensures.fits c.strides_mask.ensures.fits
