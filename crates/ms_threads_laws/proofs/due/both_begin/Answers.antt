use Rattle.ms_threads_laws.proofs.Beginning.{begins_both}
use Rattle.ms_threads_laws.proofs.due.both_begin.Goals as goal

pub returns : goal.returns
returns c = λ s numbers m known. begins_both s numbers m known
