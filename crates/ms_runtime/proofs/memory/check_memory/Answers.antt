use Rattle.std.proofs.Common.{sym, None}
use Rattle.ms_bits.specs.Maps.{first_nonzero}
use Rattle.ms_runs.specs.Origins.{check_memory}
use Rattle.ms_host.specs.declared.calls.Answer.TheVariants.{Resumed}
use Rattle.ms_runtime.specs.Served.{Served}
use Rattle.ms_runtime.proofs.OnMemory.{with4, memory-bad, memory-good}
use Rattle.ms_runtime.proofs.memory.check_memory.Goals as goal

pub returns-then-not-covers-clause-served : goal.returns-then-not-covers-clause-served
returns-then-not-covers-clause-served c = λ setting beside meant for kept shows.
    with4 (λ a n kind site. Served (check_memory setting a n kind site meant) (Resumed None) c.args.world.now c.args.depot.now c.args.told.now) c.word-start.ensures c.word-n.ensures c.small-kind.ensures c.small-site.ensures
    (memory-bad setting c.args.world.now beside meant c.args.depot.now c.args.told.now c.word-start.result c.word-n.result c.small-kind.result c.small-site.result (sym (c.if-not-covers.ensures.good beside meant shows)) kept shows)

pub returns-clause-served : goal.returns-clause-served
returns-clause-served c = λ setting beside meant for kept shows.
    with4 (λ a n kind site. Served (check_memory setting a n kind site meant) c.in_ok-answer.answer c.args.world.now c.args.depot.now c.check_byte.new.told) c.word-start.ensures c.word-n.ensures c.small-kind.ensures c.small-site.ensures
    (memory-good setting c.args.world.now meant c.args.depot.now c.check_byte.new.told c.in_ok-answer.answer c.word-start.result c.word-n.result c.small-kind.result c.small-site.result (sym (c.if-not-covers.ensures.good beside meant shows))
    (c.in_ok-answer.ensures.served setting beside c.args.world.now meant c.word-start.result (first_nonzero meant.shadow c.word-start.result c.word-n.result) for kept shows (c.first_poisoned-found.ensures beside meant shows)))
