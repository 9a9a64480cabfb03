use Rattle.ms_threads_laws.proofs.FollowedRuns.{same_threads, computed_threads}
use Rattle.ms_threads_laws.proofs.rules.same_threads.Goals as goal

pub returns-clause-rules : goal.returns-clause-rules
returns-clause-rules c = λ d e same. same_threads {d = d} {e = e} same

pub returns-clause-computed : goal.returns-clause-computed
returns-clause-computed c = computed_threads
