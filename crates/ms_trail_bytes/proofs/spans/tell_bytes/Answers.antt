use Rattle.std.proofs.Common.{arith}
use Rattle.ms_trail_bytes.proofs.Runs.{telling_none, telling_all}
use Rattle.ms_trail_bytes.proofs.spans.tell_bytes.Goals as goal

pub loop-k-init : goal.loop-k-init
loop-k-init c = record {
  within = omega arith;
  count = omega arith;
  told = λ beside meant moves shows whole is. telling_none c.args.stamp.event c.args.stamp.site c.args.from.now c.args.copied c.args.addr c.args.n meant.shadow moves c.args.log.now is;
}

pub tell_next-requires-clause-few : goal.tell_next-requires-clause-few
tell_next-requires-clause-few c = omega (arith, c.loop-k.invariant.count, c.requires.few, c.loop-k-test.true)

pub loop-k-preserved : goal.loop-k-preserved
loop-k-preserved c = record {
  within = c.in_ok-k.ensures.end;
  count = omega (arith, c.loop-k.invariant.count, c.in_ok-k.ensures.further, c.tell_next.ensures.count);
  told = λ beside meant moves shows whole is. c.in_ok-k.ensures.told beside meant moves shows whole (c.loop-k.invariant.told beside meant moves shows whole is);
}

pub returns-clause-told : goal.returns-clause-told
returns-clause-told c = λ beside meant moves shows whole is.
    telling_all c.args.stamp.event c.args.stamp.site c.args.from.now c.args.copied c.args.addr c.args.n meant.shadow moves c.loop-k.log c.loop-k.k c.loop-k-test.false (c.loop-k.invariant.told beside meant moves shows whole is)
