use Rattle.ms_threads_explore.proofs.Counted.{outcomes_counted}
use Rattle.ms_threads_explore.proofs.laws.outcomes_are_counted.Goals as goal

pub returns : goal.returns
returns c = outcomes_counted
