use Rattle.std.proofs.Common.{◌≡◌, ◌+◌, ◌++◌, drop}
use Rattle.ms_ir.specs.Instructions.{func_index, one_unmarked, over_blocks}
use Rattle.ms_ir.specs.Roots.{blocks_roots}
use Rattle.ms_ir.proofs.rooting.push_blocks.Given as goal

abbrev pub invariant-loop-block : goal.invariant-loop-block
invariant-loop-block l = record {
  roots : l.roots.items ++ blocks_roots (func_index l.callees.funcs.now) l.site (drop l.block-index l.blocks) ≡ l.fn.roots.items ++ blocks_roots (func_index l.callees.funcs.now) l.fn.site l.blocks;
  site : l.site + over_blocks one_unmarked (drop l.block-index l.blocks) ≡ l.fn.site + over_blocks one_unmarked l.blocks;
}
