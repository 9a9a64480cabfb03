use Rattle.ms_text_grammar.specs.LayoutModules.{block_lines}
use Rattle.ms_write_values.proofs.Loops.{lines_step}
use Rattle.ms_write.proofs.functions.write_more_blocks.Goals as goal

pub loop-block-preserved : goal.loop-block-preserved
loop-block-preserved c =
    lines_step (block_lines c.args.dotted) c.args.blocks.now c.loop-block.block-index c.block-item.result c.loop-block.writer c.write_block_lines.new.writer _
    c.loop-block-test.true c.block-item.is c.in_ok-write_block_lines.ensures c.loop-block.invariant
