use Rattle.ms_runs.specs.Origins.{poison}
use Rattle.ms_host.specs.Shows.{Shows}
use Rattle.ms_runtime.proofs.OnMemory.{with4}
use Rattle.ms_runtime.proofs.memory.poison.Goals as goal

pub returns-clause-served : goal.returns-clause-served
returns-clause-served c = λ setting beside meant shows.
    with4 (λ a from to origin. Shows c.poison.new.self beside (poison a from to origin meant)) c.word-addr.ensures c.word-from.ensures c.word-to.ensures c.small-origin.ensures (c.poison.ensures.poisoned beside meant shows)
