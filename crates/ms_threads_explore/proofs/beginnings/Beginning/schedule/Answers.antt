use Rattle.std.proofs.Common.{◌<◌, length, arith}
use Rattle.ms_threads_explore.proofs.Marked.{next_within, next_put}
use Rattle.ms_threads_explore.proofs.beginnings.Beginning.schedule.Goals as goal

pub bounds-schedule-mark : goal.bounds-schedule-mark
bounds-schedule-mark c =
    let lt : c.loop-k.k < length c.args.self.now.marks.items = omega arith in
    next_within c.args.self.now.marks.items c.loop-k.k c.index-mark.result.now c.index-mark.ensures c.requires lt

pub loop-k-preserved : goal.loop-k-preserved
loop-k-preserved c =
    let lt : c.loop-k.k < length c.args.self.now.marks.items = omega arith in
    next_put c.args.self.now.marks.items c.loop-k.k c.index-mark.result.now c.loop-k.schedule c.index-mark.ensures c.requires lt c.loop-k.invariant
