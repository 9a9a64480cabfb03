use Rattle.ms_flow.proofs.BitSets.{has_with}
use Rattle.ms_flow.proofs.places.with.Goals as goal

pub returns : goal.returns
returns c = has_with c.args.word c.args.place c.requires
