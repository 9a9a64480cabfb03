use Rattle.ms_threads_laws.proofs.SameShown.{threads_undisturbed}
use Rattle.ms_threads_laws.proofs.undisturbed.threads_undisturbed.Goals as goal

pub returns : goal.returns
returns c = threads_undisturbed
