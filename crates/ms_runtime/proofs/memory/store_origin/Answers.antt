use Rattle.std.proofs.Common.{get_or, None, OnOk}
use Rattle.ms_runs.specs.World.{Does}
use Rattle.ms_runs.specs.Origins.{store_origin}
use Rattle.ms_host.specs.declared.calls.Answer.TheVariants.{Resumed}
use Rattle.ms_runtime.specs.Served.{Served}
use Rattle.std.proofs.lemmas.Result.{on_ok_weaker}
use Rattle.ms_runtime.proofs.OnMemory.{with2, with4, does-as, store-clean, store-marked}
use Rattle.ms_runtime.proofs.memory.store_origin.Goals as goal

pub returns-then-mask-eq0-clause-served : goal.returns-then-mask-eq0-clause-served
returns-then-mask-eq0-clause-served c = λ setting beside meant told roots kept shows.
    with2 (λ a mask. Served (Does (store_origin setting a mask (get_or c.args.args.now 2 0) (get_or c.args.args.now 3 0) meant)) (Resumed None) c.args.world.now c.args.depot.now told) c.word-addr.ensures c.word-mask.ensures
    (does-as c.args.world.now c.args.depot.now told meant (store_origin setting c.word-addr.result c.word-mask.result (get_or c.args.args.now 2 0) (get_or c.args.args.now 3 0) meant)
    (store-clean setting meant c.word-addr.result c.word-mask.result (get_or c.args.args.now 2 0) (get_or c.args.args.now 3 0) c.if-mask-eq0.true) (beside, (kept, shows)))

pub returns-clause-served : goal.returns-clause-served
returns-clause-served c = λ setting beside meant told roots kept shows.
    with4 (λ a mask origin site. OnOk c.mark_chained.result (Served (Does (store_origin setting a mask origin site meant)) (Resumed None) c.mark_chained.new.world c.mark_chained.new.depot told)) c.word-addr.ensures c.word-mask.ensures c.small.ensures c.small-2.ensures
    (on_ok_weaker c.mark_chained.result
    (does-as c.mark_chained.new.world c.mark_chained.new.depot told _ (store_origin setting c.word-addr.result c.word-mask.result c.small.result c.small-2.result meant)
    (store-marked setting meant c.word-addr.result c.word-mask.result c.small.result c.small-2.result c.if-mask-eq0.false))
    (c.mark_chained.ensures.served setting beside meant told roots kept shows))
