use Rattle.ms_threads_laws.proofs.Returning.{returns_both}
use Rattle.ms_threads_laws.proofs.due.both_return.Goals as goal

pub returns : goal.returns
returns c = λ s numbers m. returns_both s numbers m
