use Rattle.ms_threads_laws.proofs.Reaching.{top_due}
use Rattle.ms_threads_laws.proofs.due.both_reach.Goals as goal

pub returns : goal.returns
returns c = λ s numbers m known. top_due s numbers m known
