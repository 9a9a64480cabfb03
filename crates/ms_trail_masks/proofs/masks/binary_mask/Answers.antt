use Rattle.std.proofs.lemmas.Nat.{or_lt}
use Rattle.ms_trail_masks.proofs.masks.binary_mask.Goals as goal

pub carry_mask-requires-clause-fits : goal.carry_mask-requires-clause-fits
carry_mask-requires-clause-fits c = or_lt c.args.width c.args.a.mask c.args.b.mask c.requires.first c.requires.second
