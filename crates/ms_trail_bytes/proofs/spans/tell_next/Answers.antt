use Rattle.std.proofs.Common.{◌<◌, ◌-◌, ℕ, arith}
use Rattle.std.proofs.lemmas.Result.{IfOk-weaker}
use Rattle.ms_trail_bytes.proofs.Runs.{telling_upto}
use Rattle.ms_trail_bytes.proofs.spans.tell_next.Goals as goal

pub returns-then-start-n-clause-further : goal.returns-then-start-n-clause-further
returns-then-start-n-clause-further c =
    IfOk-weaker c.tell_run.result (λ (next : ℕ). c.past_clean-start.result < next) (λ (next : ℕ). c.args.k < next) (λ next lt. omega (arith, lt, c.past_clean-start.ensures.past)) c.tell_run.ensures.further

pub returns-then-start-n-clause-told : goal.returns-then-start-n-clause-told
returns-then-start-n-clause-told c = λ beside meant moves shows whole t.
    let past = c.past_clean-start.ensures in
    c.tell_run.ensures.told beside meant moves shows whole
    (telling_upto c.args.stamp.event c.args.stamp.site c.args.from.now c.args.copied c.args.addr c.args.n meant.shadow moves c.args.log.now (c.past_clean-start.result - c.args.k) c.args.k c.past_clean-start.result
    (omega (arith, past.past)) past.end (past.clean beside meant shows) t)

pub returns-else-start-n-clause-told : goal.returns-else-start-n-clause-told
returns-else-start-n-clause-told c = λ beside meant moves shows whole t.
    let past = c.past_clean-start.ensures in
    telling_upto c.args.stamp.event c.args.stamp.site c.args.from.now c.args.copied c.args.addr c.args.n meant.shadow moves c.args.log.now (c.args.n - c.args.k) c.args.k c.args.n
    (omega (arith, c.requires.within)) (omega arith) (λ i le lt. past.clean beside meant shows i le (omega (arith, lt, c.if-start-n.false))) t
