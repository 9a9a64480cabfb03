use Rattle.ms_threads_laws.proofs.Performing.{performs_both}
use Rattle.ms_threads_laws.proofs.due.both_perform.Goals as goal

pub returns : goal.returns
returns c = λ s numbers m known. performs_both s numbers m known
