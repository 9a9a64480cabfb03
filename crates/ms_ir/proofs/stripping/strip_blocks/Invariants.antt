use Rattle.std.proofs.Common.{◌≡◌}
use Rattle.std.specs.Prelude.{map, take}
use Rattle.ms_ir.specs.Instructions.{strip_block}
use Rattle.ms_ir.proofs.stripping.strip_blocks.Given as goal

abbrev pub invariant-loop-block : goal.invariant-loop-block
invariant-loop-block l = l.left.items ≡ map strip_block (take l.block-index l.blocks)
