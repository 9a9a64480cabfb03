use Rattle.std.proofs.Common.{◌≡◌, ◌<◌, ◌+◌, ◌-◌, ◌^◌, min, drop}
use Rattle.ms_ir.specs.Instructions.{one_unmarked, over_blocks}
use Rattle.ms_ir.proofs.numbers.sites_of_blocks.Given as goal

abbrev pub invariant-loop-block : goal.invariant-loop-block
invariant-loop-block l = record {
  counted : min (l.count + over_blocks one_unmarked (drop l.block-index l.blocks)) (2 ^ 32 - 1) ≡ min (over_blocks one_unmarked l.blocks) (2 ^ 32 - 1);
  fits : l.count < 2 ^ 32;
}
