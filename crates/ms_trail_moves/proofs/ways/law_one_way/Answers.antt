use Rattle.ms_trail_moves.proofs.Chains.{one_way}
use Rattle.ms_trail_moves.proofs.ways.law_one_way.Goals as goal

pub returns : goal.returns
returns c = one_way
