use Rattle.std.proofs.Common.{arith}
use Rattle.ms_flow.proofs.States.{state_handed, work_handed}
use Rattle.ms_flow.proofs.spread.hand_on.Goals as goal

pub returns-clause-state : goal.returns-clause-state
returns-clause-state c =
    state_handed c.args.g.now c.args.kills.now c.args.words.now c.merge.new.words c.args.queued.now c.merge.new.queued c.args.block c.without-leaving.result
    (omega arith) c.requires.state c.without-leaving.ensures (rw c.successors.ensures at c.merge.ensures)

pub returns-clause-work : goal.returns-clause-work
returns-clause-work c =
    work_handed c.successors.result.now c.args.words.now c.merge.new.words c.args.queued.now c.merge.new.queued c.args.block c.without-leaving.result
    (omega arith) c.requires.waits c.merge.ensures
