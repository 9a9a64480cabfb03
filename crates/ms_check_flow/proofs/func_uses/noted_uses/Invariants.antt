use Rattle.std.proofs.Common.{◌≡◌, ◌+◌, ◌++◌, drop}
use Rattle.ms_ir.specs.Instructions.{one_unmarked, over_blocks}
use Rattle.ms_check_flow.specs.Noted.{blocks_noted}
use Rattle.ms_check_flow.proofs.func_uses.noted_uses.Given as goal

abbrev pub invariant-loop-number : goal.invariant-loop-number
invariant-loop-number l = record {
  noted : l.noted.items ++ blocks_noted l.numbers l.number l.site (drop l.number l.func.blocks) ≡ blocks_noted l.numbers 0 l.fn.site l.func.blocks;
  site : l.site + over_blocks one_unmarked (drop l.number l.func.blocks) ≡ l.fn.site + over_blocks one_unmarked l.func.blocks;
  items : l.block-items ≡ l.func.blocks;
}
