use Rattle.ms_runs.specs.Origins.{unpoison}
use Rattle.ms_host.specs.Shows.{Shows}
use Rattle.ms_runtime.proofs.OnMemory.{with2}
use Rattle.ms_runtime.proofs.memory.unpoison.Goals as goal

pub returns-clause-served : goal.returns-clause-served
returns-clause-served c = λ setting beside meant shows.
    with2 (λ a n. Shows c.unpoison.new.self beside (unpoison a n meant)) c.word-addr.ensures c.word-n.ensures (c.unpoison.ensures.cleaned beside meant shows)
