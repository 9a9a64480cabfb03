use Rattle.std.proofs.Common.{refl}
use Rattle.ms_bits.specs.Words.{words}
use Rattle.ms_runs.specs.Origins.{depth_limit}
use Rattle.ms_runs_examples.proofs.thread_runs.shadow_rows.Goals as goal

pub returns-clause-deadlock : goal.returns-clause-deadlock
unfolding words depth_limit
returns-clause-deadlock c = refl

pub returns-clause-unset : goal.returns-clause-unset
unfolding words depth_limit
returns-clause-unset c = refl
