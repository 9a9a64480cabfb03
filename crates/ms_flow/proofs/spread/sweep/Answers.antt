use Rattle.std.proofs.Common.{◌+◌, arith}
use Rattle.ms_flow.proofs.States.{swept_on, swept_off, swept_all, swept_none}
use Rattle.ms_flow.proofs.spread.sweep.Goals as goal
use Rattle.ms_flow.proofs.spread.sweep.Goals.{then-queued-block, else-queued-block}

pub loop-block-init : goal.loop-block-init
loop-block-init c = record { state = c.requires.state; swept = swept_none c.args.words.now c.args.queued.now c.args.order.now }

pub loop-block-preserved : goal.loop-block-preserved
loop-block-preserved c =
    let order = c.args.order.now in
    let n = c.loop-block.block-index in
    elim c.if-queued-block.branch [
      | then-queued-block w ↦ rw (w.words-is, w.queued-is) record {
        state = w.hand_on.ensures.state;
        swept = swept_on c.args.words.now c.loop-block.words w.hand_on.new.words c.args.queued.now c.loop-block.queued w.hand_on.new.queued order n (n + 1) c.loop-block.invariant.swept w.hand_on.ensures.work;
      }
      | else-queued-block w ↦ rw (w.words-is, w.queued-is) record {
        state = c.loop-block.invariant.state;
        swept = swept_off c.args.words.now c.loop-block.words c.args.queued.now c.loop-block.queued order n c.loop-block.invariant.swept w.if-queued-block.false;
      }
    ]

pub returns-clause-work : goal.returns-clause-work
returns-clause-work c =
    swept_all c.args.words.now c.loop-block.words c.args.queued.now c.loop-block.queued c.args.order.now c.loop-block.block-index c.loop-block-test.false (λ b h. c.requires.all b (omega arith)) c.loop-block.invariant.swept
