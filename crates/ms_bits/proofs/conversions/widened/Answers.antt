use Rattle.ms_bits.proofs.Powers.{wider}
use Rattle.ms_bits.proofs.conversions.widened.Goals as goal

pub new-requires-clause-fits : goal.new-requires-clause-fits
new-requires-clause-fits c = wider c.value.result c.args.a.width c.args.to c.value.ensures.fits c.requires.more
