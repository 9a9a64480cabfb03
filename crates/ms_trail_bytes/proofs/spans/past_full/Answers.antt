use Rattle.std.proofs.Common.{◌≢◌, ◌+◌, ℕ, arith}
use Rattle.ms_trail_bytes.proofs.Runs.{either_part}
use Rattle.ms_trail_bytes.proofs.spans.past_full.Goals as goal

pub loop-k-init : goal.loop-k-init
loop-k-init c = record {
  past = omega arith;
  end = omega (arith, c.requires.within);
  poisoned = λ beside meant shows whole j le lt. absurd (omega (arith, le, lt));
}

pub loop-k-preserved : goal.loop-k-preserved
loop-k-preserved c = record {
  past = omega (arith, c.loop-k.invariant.past);
  end = omega (arith, c.loop-k.invariant.end, c.loop-k-test.true);
  poisoned = λ beside meant shows whole j le lt.
      either_part (λ (i : ℕ). meant.shadow (c.args.addr + i) ≢ 0) c.loop-k.k j (λ below. c.loop-k.invariant.poisoned beside meant shows whole j le below)
      (λ from. c.is_full-full.ensures beside meant shows whole c.if-not-full.false j from lt);
}

pub returns-then-not-full-clause-poisoned : goal.returns-then-not-full-clause-poisoned
returns-then-not-full-clause-poisoned c = c.loop-k.invariant.poisoned

pub returns-clause-poisoned : goal.returns-clause-poisoned
returns-clause-poisoned c = c.loop-k.invariant.poisoned
