use Rattle.std.proofs.Common.{subst, arith, ℕ}
use Rattle.ms_raw.proofs.Copying.{all-copied, IsPartly}
use Rattle.ms_raw.proofs.bytes.RawBytes.copy_within.Goals as goal

pub overflow_add-from : goal.overflow_add-from
overflow_add-from c = record { fits = omega (arith, c.requires.from, c.loop-k.self.all, c.loop-k.self.small, c.loop-k.invariant.0.len, c.loop-k-test.true) }

pub overflow_add-to : goal.overflow_add-to
overflow_add-to c = record { fits = omega (arith, c.requires.to, c.loop-k.self.all, c.loop-k.self.small, c.loop-k.invariant.0.len, c.loop-k-test.true) }

pub overflow_add-from-in-loop-k-else-to-from : goal.overflow_add-from-in-loop-k-else-to-from
overflow_add-from-in-loop-k-else-to-from c = record { fits = omega (arith, c.requires.from, c.loop-k-else-to-from.self.all, c.loop-k-else-to-from.self.small, c.loop-k-else-to-from.invariant.0.len, c.loop-k-else-to-from.invariant.1) }

pub overflow_add-to-in-loop-k-else-to-from : goal.overflow_add-to-in-loop-k-else-to-from
overflow_add-to-in-loop-k-else-to-from c = record { fits = omega (arith, c.requires.to, c.loop-k-else-to-from.self.all, c.loop-k-else-to-from.self.small, c.loop-k-else-to-from.invariant.0.len, c.loop-k-else-to-from.invariant.1) }

pub returns-after-loop-k : goal.returns-after-loop-k
returns-after-loop-k c =
    let p = c.loop-k.invariant.0 in
    (all-copied c.args.self.now.items c.args.to c.args.from c.args.n c.requires.to c.requires.from c.loop-k.self.items (subst (λ (k : ℕ). IsPartly c.args.self.now.items c.args.to c.args.from 0 k c.loop-k.self.items) (omega (arith, c.loop-k.auto.k-end, c.loop-k-test.false)) p), p.len, c.loop-k.invariant.1, c.loop-k.invariant.2)

pub returns-after-loop-k-else-to-from : goal.returns-after-loop-k-else-to-from
returns-after-loop-k-else-to-from c =
    let p = c.loop-k-else-to-from.invariant.0 in
    (all-copied c.args.self.now.items c.args.to c.args.from c.args.n c.requires.to c.requires.from c.loop-k-else-to-from.self.items (subst (λ (k : ℕ). IsPartly c.args.self.now.items c.args.to c.args.from k c.args.n c.loop-k-else-to-from.self.items) (omega (arith, c.loop-k-else-to-from-test.false)) p), p.len, c.loop-k-else-to-from.invariant.2, c.loop-k-else-to-from.invariant.3)
