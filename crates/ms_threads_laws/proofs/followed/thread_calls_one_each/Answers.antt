use Rattle.ms_threads_laws.proofs.OneEach.{threads_one_each, shadow_one_each}
use Rattle.ms_threads_laws.proofs.followed.thread_calls_one_each.Goals as goal

pub returns-clause-plain_runs : goal.returns-clause-plain_runs
returns-clause-plain_runs c = threads_one_each

pub returns-clause-shadow_runs : goal.returns-clause-shadow_runs
returns-clause-shadow_runs c = shadow_one_each
