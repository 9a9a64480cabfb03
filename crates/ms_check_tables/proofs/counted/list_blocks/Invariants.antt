use Rattle.std.proofs.Common.{◌≡◌, ◌+◌, length, take}
use Rattle.std.specs.Prelude.{flat_map}
use Rattle.ms_ir.specs.Locals.{block_locals}
use Rattle.ms_check_tables.proofs.counted.list_blocks.Given as goal

abbrev pub invariant-loop-block : goal.invariant-loop-block
invariant-loop-block l = length l.names.items ≡ length l.fn.names.items + length (flat_map block_locals (take l.block-index l.blocks))
