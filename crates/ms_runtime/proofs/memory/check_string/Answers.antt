use Rattle.ms_runs.specs.Memory.{bytes_left}
use Rattle.ms_runs.specs.Origins.{check_string, first_in_string}
use Rattle.ms_runtime.specs.Served.{Served}
use Rattle.ms_runtime.proofs.OnMemory.{with2}
use Rattle.ms_runtime.proofs.memory.check_string.Goals as goal

pub returns-clause-served : goal.returns-clause-served
returns-clause-served c = λ setting beside meant for kept shows.
    with2 (λ a site. Served (check_string setting a site meant) c.in_ok-answer.answer c.args.world.now c.args.depot.now c.check_byte.new.told) c.word-start.ensures c.small-site.ensures
    (c.in_ok-answer.ensures.served setting beside c.args.world.now meant c.word-start.result (first_in_string meant c.word-start.result (bytes_left meant c.word-start.result)) for kept shows (c.first_poisoned_in_string-found.ensures beside meant shows))
