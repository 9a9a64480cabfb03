use Rattle.ms_threads_explore.proofs.Alike.{explored_alike}
use Rattle.ms_threads_explore.proofs.laws.explored_alike.Goals as goal

pub returns : goal.returns
returns c = explored_alike
