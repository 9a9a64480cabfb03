use Rattle.std.proofs.Common.{refl}
use Rattle.ms_flow.proofs.Answered.{judged_same, right_same}
use Rattle.ms_flow.proofs.dataflow.Dataflow.judge.Goals as goal

pub returns-clause-marked : goal.returns-clause-marked
returns-clause-marked c =
    judged_same c.args.uses.now c.args.values.now c.args.values.now c.args.self.now.kills.items c.deref.result.now c.args.self.now.arriving.items c.deref-2.result.now c.judge.new.undefined c.args.questions.now
    refl c.deref.ensures.value c.deref-2.ensures.value c.judge.ensures.marked

pub returns-clause-right : goal.returns-clause-right
returns-clause-right c k on =
    right_same c.args.uses.now c.args.values.now c.args.values.now c.args.self.now.kills.items c.deref.result.now c.args.self.now.arriving.items c.deref-2.result.now c.args.undefined.now k
    refl c.deref.ensures.value c.deref-2.ensures.value (c.judge.ensures.right k on)
