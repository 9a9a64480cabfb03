use Rattle.ms_machine.proofs.Placing.{block_found, block_passed}
use Rattle.ms_machine.proofs.places.find_block.Goals as goal

pub returns-then-left-count-clause-found : goal.returns-then-left-count-clause-found
returns-then-left-count-clause-found c =
    let l = c.loop-index in
    block_found c.args.blocks.now l.index l.left c.args.number c.index-blocks-index.result c.as_slice-count.result.now c.loop-index-test.true c.index-blocks-index.is l.invariant c.as_slice-count.ensures
    c.if-left-count.true

pub loop-index-preserved : goal.loop-index-preserved
loop-index-preserved c =
    let l = c.loop-index in
    block_passed c.args.blocks.now l.index l.left c.args.number c.index-blocks-index.result c.as_slice-count.result.now c.loop-index-test.true c.index-blocks-index.is l.invariant c.as_slice-count.ensures
    c.if-left-count.false
