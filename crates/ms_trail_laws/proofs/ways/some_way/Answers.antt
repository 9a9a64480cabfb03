use Rattle.ms_trail_laws.proofs.Whole.{some_way}
use Rattle.ms_trail_laws.proofs.ways.some_way.Goals as goal

pub returns : goal.returns
returns c = some_way
