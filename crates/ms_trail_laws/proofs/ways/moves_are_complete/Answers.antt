use Rattle.ms_trail_laws.proofs.AllMoves.{complete}
use Rattle.ms_trail_laws.proofs.ways.moves_are_complete.Goals as goal

pub returns : goal.returns
returns c = complete
