use Rattle.std.proofs.Common.{◌<◌, length, arith}
use Rattle.ms_threads_explore.proofs.Marked.{next_count}
use Rattle.ms_threads_explore.proofs.beginnings.Beginning.count.Goals as goal

pub loop-k-preserved : goal.loop-k-preserved
loop-k-preserved c =
    let lt : c.loop-k.k < length c.args.self.now.marks.items = omega arith in
    next_count c.args.self.now.marks.items c.loop-k.k c.index.result.now c.index.ensures c.requires lt
