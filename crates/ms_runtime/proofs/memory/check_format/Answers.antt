use Rattle.std.proofs.Common.{◌≡◌, true, false, IfOk, sym, ◌∙◌, arith, None}
use Rattle.ms_runs.specs.Memory.{bytes_left}
use Rattle.ms_runs.specs.Origins.{check_format, first_in_string}
use Rattle.ms_host.specs.declared.calls.Answer.TheVariants.{Resumed}
use Rattle.ms_runtime.specs.Served.{Served}
use Rattle.ms_runtime.proofs.OnMemory.{with4, format-skips, format-checks}
use Rattle.ms_runtime.proofs.memory.check_format.Goals as goal

pub returns-then-not-asks_string-clause-served : goal.returns-then-not-asks_string-clause-served
returns-then-not-asks_string-clause-served c = λ setting beside meant for kept shows.
    let no : c.asks_string.result ≡ false = grind (arith, c.if-not-asks_string.true) in
    with4 (λ f k a site. Served (check_format setting f k a site meant) (Resumed None) c.args.world.now c.args.depot.now c.args.told.now) c.word-format.ensures c.word-index.ensures c.word-start.ensures c.small-site.ensures
    (format-skips setting c.args.world.now beside meant c.args.depot.now c.args.told.now c.word-format.result c.word-index.result c.word-start.result c.small-site.result (sym (c.asks_string.ensures beside meant shows) ∙ no) kept shows)

pub returns-clause-served : goal.returns-clause-served
returns-clause-served c = λ setting beside meant for kept shows.
    let yes : c.asks_string.result ≡ true = grind (arith, c.if-not-asks_string.false) in
    with4 (λ f k a site. IfOk c.check_byte.result (λ x. Served (check_format setting f k a site meant) x c.args.world.now c.args.depot.now c.check_byte.new.told)) c.word-format.ensures c.word-index.ensures c.word-start.ensures c.small-site.ensures
    (format-checks (λ e. IfOk c.check_byte.result (λ x. Served e x c.args.world.now c.args.depot.now c.check_byte.new.told)) setting meant c.word-format.result c.word-index.result c.word-start.result c.small-site.result (sym (c.asks_string.ensures beside meant shows) ∙ yes)
    (c.check_byte.ensures.served setting beside c.args.world.now meant c.word-start.result (first_in_string meant c.word-start.result (bytes_left meant c.word-start.result)) for kept shows (c.first_poisoned_in_string-found.ensures beside meant shows)))
