use Rattle.ms_runs_good_laws.proofs.Walks.{from_walk}
use Rattle.ms_runs_good_laws.proofs.reached.walked_runs.Goals as goal

pub returns : goal.returns
returns c = from_walk
