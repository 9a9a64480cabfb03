use Rattle.std.proofs.Common.{◌≡◌, ◌+◌, ◌≤◌, drop}
use Rattle.ms_ir.specs.Instructions.{one_unmarked, over_blocks}
use Rattle.ms_ir.proofs.sites.find_block.Given as goal

abbrev pub invariant-loop-index : goal.invariant-loop-index
invariant-loop-index l = record {
  rest : over_blocks one_unmarked l.blocks + l.left ≡ over_blocks one_unmarked (drop l.index l.blocks) + l.number;
  below : l.left ≤ l.number;
}
