use Rattle.ms_threads_explore.proofs.Counted.{ends_apart}
use Rattle.ms_threads_explore.proofs.laws.ends_are_told_apart.Goals as goal

pub returns : goal.returns
returns c = ends_apart
