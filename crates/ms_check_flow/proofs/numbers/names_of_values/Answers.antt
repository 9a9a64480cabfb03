use Rattle.ms_check_flow.proofs.Appended.{room_for_block}
use Rattle.ms_check_flow.proofs.numbers.names_of_values.Goals as goal

pub push_block-requires : goal.push_block-requires
push_block-requires c =
    room_for_block c.loop-block.names c.as_slice-block-items.result.now c.args.func.now.blocks c.loop-block.block-index c.block-item.result _ c.loop-block-test.true c.block-item.is
    c.loop-block.invariant.items c.loop-block.invariant.names c.requires
