use Rattle.ms_trail_laws.proofs.Whole.{ordered}
use Rattle.ms_trail_laws.proofs.ways.moves_are_in_order.Goals as goal

pub returns : goal.returns
returns c = ordered
