use Rattle.std.proofs.Common.{◌≡◌, ◌++◌, take}
use Rattle.std.specs.Prelude.{flat_map}
use Rattle.ms_ir.specs.Locals.{block_locals}
use Rattle.ms_check_tables.proofs.defined.push_blocks.Given as goal

abbrev pub invariant-loop-block : goal.invariant-loop-block
invariant-loop-block l = l.names ≡ l.fn.names ++ flat_map block_locals (take l.block-index l.blocks)
