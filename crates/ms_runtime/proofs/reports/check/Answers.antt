use Rattle.std.proofs.Common.{length, sym, ap, ◌∙◌, arith}
use Rattle.ms_runtime.proofs.Reporting.{hidden, reported-last, reported-on}
use Rattle.ms_runtime.proofs.reports.check.Goals as goal

pub returns-then-hides-clause-served : goal.returns-then-hides-clause-served
returns-then-hides-clause-served c = λ setting beside w meant for kept shows.
    hidden c.args.depot.now c.args.told.now c.args.limit setting beside w meant c.args.used.now for kept shows c.if-used-eq0.false c.requires (sym c.hides.ensures ∙ c.if-hides.true)

pub returns-then-as_slice-limit-clause-served : goal.returns-then-as_slice-limit-clause-served
returns-then-as_slice-limit-clause-served c = λ setting beside w meant for kept shows.
    reported-last c.args.depot.now c.args.told.now c.push.new.items c.args.limit setting beside w meant
    (record { site = c.args.used.now.site; kind = c.args.used.now.kind; part = c.args.used.now.part; width = c.args.used.now.width; mask = c.args.used.now.mask; origin = c.args.used.now.origin; chain = c.in_ok-chain.chain })
    for kept shows c.if-used-eq0.false (sym c.hides.ensures ∙ c.if-hides.false) (c.in_ok-chain.ensures setting meant for.same_roots (shows.pairs ∙ kept.pairs)) c.in_ok-push.ensures.pushed
    (omega (arith, c.if-as_slice-limit.true, ap (λ rs. length rs) c.as_slice.ensures))

pub returns-else-as_slice-limit-clause-served : goal.returns-else-as_slice-limit-clause-served
returns-else-as_slice-limit-clause-served c = λ setting beside w meant for kept shows.
    reported-on c.args.depot.now c.args.told.now c.push.new.items c.args.limit setting beside w meant
    (record { site = c.args.used.now.site; kind = c.args.used.now.kind; part = c.args.used.now.part; width = c.args.used.now.width; mask = c.args.used.now.mask; origin = c.args.used.now.origin; chain = c.in_ok-chain.chain })
    for kept shows c.if-used-eq0.false (sym c.hides.ensures ∙ c.if-hides.false) (c.in_ok-chain.ensures setting meant for.same_roots (shows.pairs ∙ kept.pairs)) c.in_ok-push.ensures.pushed
    (omega (arith, c.if-as_slice-limit.false, ap (λ rs. length rs) c.as_slice.ensures))
