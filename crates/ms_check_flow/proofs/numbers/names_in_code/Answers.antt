use Rattle.std.proofs.Common.{◌≤◌, length, arith}
use Rattle.std.specs.Prelude.{flat_map}
use Rattle.ms_ir.specs.Locals.{block_locals}
use Rattle.ms_check_flow.proofs.Appended.{blocks_within}
use Rattle.ms_check_flow.proofs.numbers.names_in_code.Goals as goal

pub block_numbers-requires : goal.block_numbers-requires
block_numbers-requires c =
    let within : length c.args.func.now.blocks ≤ length (flat_map block_locals c.args.func.now.blocks) = blocks_within c.args.func.now.blocks in
    omega arith
