use Rattle.std.proofs.Common.{length, true, arith}
use Rattle.ms_flow.proofs.States.{state_first, state_last, none_queued, is_true, is_false}
use Rattle.ms_flow.proofs.spread.spread.Goals as goal

pub loop-words-init : goal.loop-words-init
loop-words-init c =
    state_first c.args.g.now c.args.kills.now c.fill.new.self c.fill-2.new.self (length c.args.words.now) (omega arith) (c.fill.ensures.after (λ y e. e)) (omega arith)

pub loop-words-smaller : goal.loop-words-smaller
loop-words-smaller c =
    let some = c.loop-words-test.ensures.cases in
    c.sweep.ensures.work (some.0, some.1, is_true _ (some.2 true))

pub returns : goal.returns
returns c =
    let none = c.loop-words-test.ensures.cases in
    state_last c.args.g.now c.args.kills.now c.loop-words.words c.loop-words.queued c.loop-words.invariant
    (none_queued c.loop-words.queued (λ k d h. is_false _ (none k d (omega arith) h)))
