use Rattle.ms_runs_laws.proofs.RootLists.{root_placed}
use Rattle.ms_runs_laws.proofs.numbered.placed_roots.Goals as goal

pub returns : goal.returns
returns c = root_placed
