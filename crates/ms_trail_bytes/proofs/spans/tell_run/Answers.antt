use Rattle.std.proofs.Common.{◌≡◌, ◌<◌, ◌+◌, refl, subst, arith}
use Rattle.ms_host.proofs.StringSteps.{fits-word}
use Rattle.ms_trail_bytes.proofs.Runs.{telling_clean, telling_run}
use Rattle.ms_trail_bytes.proofs.spans.tell_run.Goals as goal

pub run_source-requires : goal.run_source-requires
run_source-requires c = λ a e. omega (arith, c.requires.low a e, c.requires.within)

pub overflow_add-first : goal.overflow_add-first
overflow_add-first c = omega (arith, fits-word c.args.world.now.planes.table c.args.addr c.args.n c.args.k c.law_laid_out.ensures c.requires.live c.requires.within)

pub returns-in_ok-add-clause-told : goal.returns-in_ok-add-clause-told
returns-in_ok-add-clause-told c = λ beside meant moves shows whole t.
    let past = c.past_poisoned-end.ensures in
    telling_run c.args.stamp.event c.args.stamp.site c.args.from.now c.args.copied c.args.addr c.args.n meant.shadow moves c.args.log.now c.add.new.self c.args.k c.past_poisoned-end.result c.in_ok-source.source _ c.if-k-end.true past.end
    (past.poisoned beside meant shows whole) (past.stops beside meant shows) c.in_ok-source.ensures refl c.in_ok-add.ensures.told t

pub returns-else-k-end-clause-told : goal.returns-else-k-end-clause-told
returns-else-k-end-clause-told c = λ beside meant moves shows whole t.
    let past = c.past_poisoned-end.ensures in
    let same : c.past_poisoned-end.result ≡ c.args.k = omega (arith, c.if-k-end.false, past.past) in
    let within : c.past_poisoned-end.result < c.args.n = omega (arith, same, c.requires.within) in
    telling_clean c.args.stamp.event c.args.stamp.site c.args.from.now c.args.copied c.args.addr c.args.n meant.shadow moves c.args.log.now c.args.k c.requires.within
    (subst (λ j. meant.shadow (c.args.addr + j) ≡ 0) same (past.stops beside meant shows within)) t
