use Rattle.ms_runs.specs.Act.{plain_reading}
use Rattle.ms_runs.specs.Shadow.{shadow_reading}
use Rattle.ms_runs_good_laws.specs.GoodStates.{IsBelow, PoisonedBelow}
use Rattle.ms_runs_good_laws.proofs.Starts.{start_good}
use Rattle.ms_runs_good_laws.proofs.states.good_starts.Goals as goal

pub returns-clause-plain_runs : goal.returns-clause-plain_runs
returns-clause-plain_runs c = λ m formed v setup. start_good IsBelow plain_reading m formed v

pub returns-clause-shadow_runs : goal.returns-clause-shadow_runs
returns-clause-shadow_runs c = λ m formed v setup. start_good PoisonedBelow shadow_reading m formed v
