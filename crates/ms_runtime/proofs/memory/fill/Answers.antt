use Rattle.std.proofs.Common.{◌≡◌, ◌⊎◌, inl, inr, get_or, sym}
use Rattle.ms_runs.specs.World.{Does}
use Rattle.ms_runs.specs.Origins.{fill_planes}
use Rattle.ms_host.specs.declared.calls.Answer.TheVariants.{Resumed}
use Rattle.std.proofs.Common.{None, OnOk}
use Rattle.ms_runtime.specs.Served.{Served}
use Rattle.std.proofs.lemmas.Result.{on_ok_weaker}
use Rattle.ms_runtime.proofs.OnMemory.{with2, with4, does-as, fill-bad, fill-clean, fill-marked}
use Rattle.ms_runtime.proofs.memory.fill.Goals as goal
use Rattle.ms_runtime.proofs.memory.fill.Goals.{then-mask-eq0-via-then-mask-eq0, then-mask-eq0-via-else-mask-eq0+then-n-eq0}

pub returns-then-not-covers-clause-served : goal.returns-then-not-covers-clause-served
returns-then-not-covers-clause-served c = λ setting beside meant told roots kept shows.
    with2 (λ a n. Served (Does (fill_planes setting a n (get_or c.args.args.now 2 0) (get_or c.args.args.now 3 0) (get_or c.args.args.now 4 0) meant)) (Resumed None) c.args.world.now c.args.depot.now told) c.word-addr.ensures c.word-n.ensures
    (does-as c.args.world.now c.args.depot.now told meant (fill_planes setting c.word-addr.result c.word-n.result (get_or c.args.args.now 2 0) (get_or c.args.args.now 3 0) (get_or c.args.args.now 4 0) meant)
    (fill-bad setting meant c.word-addr.result c.word-n.result (get_or c.args.args.now 2 0) (get_or c.args.args.now 3 0) (get_or c.args.args.now 4 0) (sym (c.if-not-covers.ensures.good beside meant shows))) (beside, (kept, shows)))

pub returns-then-mask-eq0-clause-served : goal.returns-then-mask-eq0-clause-served
returns-then-mask-eq0-clause-served c = λ setting beside meant told roots kept shows.
    let none : (c.low_byte-mask.result ≡ 0) ⊎ (c.word-n.result ≡ 0) = elim c.then-mask-eq0.branch [ then-mask-eq0-via-then-mask-eq0 w ↦ inl w.if-mask-eq0.true | then-mask-eq0-via-else-mask-eq0+then-n-eq0 w ↦ inr w.if-n-eq0.true ] in
    with2 (λ a n. Served (Does (fill_planes setting a n (get_or c.args.args.now 2 0) (get_or c.args.args.now 3 0) (get_or c.args.args.now 4 0) meant)) (Resumed None) c.unpoison.new.self c.args.depot.now told) c.word-addr.ensures c.word-n.ensures
    (does-as c.unpoison.new.self c.args.depot.now told _ (fill_planes setting c.word-addr.result c.word-n.result (get_or c.args.args.now 2 0) (get_or c.args.args.now 3 0) (get_or c.args.args.now 4 0) meant)
    (fill-clean setting meant c.word-addr.result c.word-n.result (get_or c.args.args.now 2 0) c.low_byte-mask.result (get_or c.args.args.now 3 0) (get_or c.args.args.now 4 0) (sym (c.if-not-covers.ensures.good beside meant shows)) c.low_byte-mask.ensures none)
    (beside, (kept, c.unpoison.ensures.cleaned beside meant shows)))

pub returns-clause-served : goal.returns-clause-served
returns-clause-served c = λ setting beside meant told roots kept shows.
    with4 (λ a n origin site. OnOk c.fill_chained.result (Served (Does (fill_planes setting a n (get_or c.args.args.now 2 0) origin site meant)) (Resumed None) c.fill_chained.new.world c.fill_chained.new.depot told)) c.word-addr.ensures c.word-n.ensures c.small.ensures c.small-2.ensures
    (on_ok_weaker c.fill_chained.result
    (does-as c.fill_chained.new.world c.fill_chained.new.depot told _ (fill_planes setting c.word-addr.result c.word-n.result (get_or c.args.args.now 2 0) c.small.result c.small-2.result meant)
    (fill-marked setting meant c.word-addr.result c.word-n.result (get_or c.args.args.now 2 0) c.low_byte-mask.result c.small.result c.small-2.result (sym (c.if-not-covers.ensures.good beside meant shows)) c.low_byte-mask.ensures c.if-mask-eq0.false c.if-n-eq0.false))
    (c.fill_chained.ensures.served setting beside meant told roots kept shows))
