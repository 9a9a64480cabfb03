use Rattle.ms_ir.proofs.Searching.{block_found, blocks_passed}
use Rattle.ms_ir.proofs.sites.find_block.Goals as goal

pub returns-then-left-count-clause-found : goal.returns-then-left-count-clause-found
returns-then-left-count-clause-found c =
    let l = c.loop-index in
    block_found c.args.blocks.now l.index l.left c.args.number c.sites_of_insts-count.result c.index-blocks-index.result c.as_slice.result.now c.loop-index-test.true c.index-blocks-index.is
    l.invariant.rest c.as_slice.ensures c.sites_of_insts-count.ensures c.if-left-count.true

pub loop-index-preserved : goal.loop-index-preserved
loop-index-preserved c =
    let l = c.loop-index in
    let passed = blocks_passed c.args.blocks.now l.index l.left c.args.number c.sites_of_insts-count.result c.index-blocks-index.result c.as_slice.result.now c.loop-index-test.true c.index-blocks-index.is
    c.requires.few l.invariant.rest l.invariant.below c.as_slice.ensures c.sites_of_insts-count.ensures c.if-left-count.false in
    record { rest = passed.0; below = passed.1 }
