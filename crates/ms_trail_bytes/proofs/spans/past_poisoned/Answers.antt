use Rattle.std.proofs.Common.{◌≢◌, ◌+◌, sym, ◌∙◌, arith}
use Rattle.ms_trail_bytes.proofs.Runs.{upto}
use Rattle.ms_trail_bytes.proofs.spans.past_poisoned.Goals as goal

pub loop-k-init : goal.loop-k-init
loop-k-init c = c.past_full-start.ensures.poisoned

pub loop-k-preserved : goal.loop-k-preserved
loop-k-preserved c = λ beside meant shows whole j le lt.
    upto (λ i. meant.shadow (c.args.addr + i) ≢ 0) c.args.first c.loop-k.k (c.loop-k.invariant beside meant shows whole) (λ z. c.if-shadow-eq0.false (c.shadow_at-shadow.ensures beside meant shows ∙ z)) j le lt

pub returns-then-shadow-eq0-clause-poisoned : goal.returns-then-shadow-eq0-clause-poisoned
returns-then-shadow-eq0-clause-poisoned c = c.loop-k.invariant

pub returns-then-shadow-eq0-clause-stops : goal.returns-then-shadow-eq0-clause-stops
returns-then-shadow-eq0-clause-stops c = λ beside meant shows lt. sym (c.shadow_at-shadow.ensures beside meant shows) ∙ c.if-shadow-eq0.true

pub returns-clause-poisoned : goal.returns-clause-poisoned
returns-clause-poisoned c = λ beside meant shows whole j le lt. c.loop-k.invariant beside meant shows whole j le (omega (arith, lt, c.loop-k-test.false))

pub returns-clause-stops : goal.returns-clause-stops
returns-clause-stops c = λ beside meant shows lt. absurd (omega (arith, lt))
