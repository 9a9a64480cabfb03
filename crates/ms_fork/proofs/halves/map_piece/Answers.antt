use Rattle.std.proofs.Common.{arith}
use Rattle.ms_fork.proofs.Rows.{rows_more}
use Rattle.ms_fork.proofs.halves.map_piece.Goals as goal

pub loop-index-preserved : goal.loop-index-preserved
loop-index-preserved g c =
    let kept = c.loop-index.invariant in (
      omega arith,
      rows_more (g.W.Work.answer c.args.work.now) c.args.from c.loop-index.index kept.0 c.in_ok-push.ensures.items kept.1 c.in_ok-make.ensures,
    )
