use Rattle.ms_ir.specs.ValueTypes.{type_of}
use Rattle.ms_machine.proofs.Naming.{block_hit, block_miss}
use Rattle.ms_machine.proofs.names.result_in_blocks.Goals as goal

pub returns-in-Some : goal.returns-in-Some
returns-in-Some c =
    let l = c.loop-block in
    block_hit c.args.blocks.now l.block-index c.block-item.result c.as_slice.result.now c.args.name.now (type_of c.in-Some.ty) _ c.loop-block-test.true c.block-item.is c.as_slice.ensures c.in-Some.ensures l.invariant

pub loop-block-preserved : goal.loop-block-preserved
loop-block-preserved c =
    let l = c.loop-block in
    block_miss c.args.blocks.now l.block-index c.block-item.result c.as_slice.result.now c.args.name.now _ c.loop-block-test.true c.block-item.is c.as_slice.ensures c.in-None.ensures l.invariant
