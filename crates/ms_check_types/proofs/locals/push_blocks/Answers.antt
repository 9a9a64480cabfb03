use Rattle.ms_check_types.proofs.Values.{blocks_grow}
use Rattle.ms_check_types.proofs.locals.push_blocks.Goals as goal

pub loop-block-preserved : goal.loop-block-preserved
loop-block-preserved c =
    let l = c.loop-block in
    blocks_grow _ _ c.args.blocks.now l.block-index c.block-item.result c.as_slice.result.now _
    c.loop-block-test.true c.block-item.is c.as_slice.ensures c.in_ok-push_results.ensures l.invariant
