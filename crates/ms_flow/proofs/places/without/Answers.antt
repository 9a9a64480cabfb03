use Rattle.std.proofs.Common.{arith}
use Rattle.ms_flow.proofs.BitSets.{has_without}
use Rattle.ms_flow.proofs.places.without.Goals as goal

pub returns : goal.returns
returns c i below = has_without c.args.word c.args.other i (omega arith) below
