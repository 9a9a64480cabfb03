use Rattle.std.proofs.Common.{◌≡◌, List, subst}
use Rattle.std.specs.Prelude.{IfOk}
use Rattle.ms_ir.specs.declared.syntax.Block.{Block}
use Rattle.ms_pass.specs.Passed.{given_by}
use Rattle.ms_pass.proofs.Room.{values_fit, blocks_seen, func_room_at}
use Rattle.ms_pass.proofs.functions.blocks_by.Goals as goal

pub entry_of-requires : goal.entry_of-requires
entry_of-requires c = values_fit c.args.extents.now c.args.func.now c.args.values.now c.requires.values c.requires.ready

pub passed_blocks-requires-clause-values : goal.passed_blocks-requires-clause-values
passed_blocks-requires-clause-values c = values_fit c.args.extents.now c.args.func.now c.args.values.now c.requires.values c.requires.ready

pub passed_blocks-requires-clause-room : goal.passed_blocks-requires-clause-room
passed_blocks-requires-clause-room c =
    func_room_at (given_by c.args.extents.now c.args.functions.now) c.args.before c.args.func.now c.args.values.now c.args.clean.now c.is.result c.as_slice.result.now c.as_slice-2.result.now c.in_ok-start.start
    c.requires.values c.is.ensures c.as_slice.ensures c.as_slice-2.ensures c.in_ok-start.ensures c.args.extents.now c.requires.ready

pub returns : goal.returns
returns c =
    subst (λ (made : List Block). IfOk c.passed_blocks.result (λ bs. bs ≡ made))
    (blocks_seen (given_by c.args.extents.now c.args.functions.now) c.args.before c.args.func.now c.args.values.now c.args.clean.now c.is.result c.as_slice.result.now c.as_slice-2.result.now c.in_ok-start.start
    c.requires.values c.is.ensures c.as_slice.ensures c.as_slice-2.ensures c.in_ok-start.ensures) c.passed_blocks.ensures.blocks
