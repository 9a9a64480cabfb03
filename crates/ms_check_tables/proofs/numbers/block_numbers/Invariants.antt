use Rattle.std.proofs.Common.{◌≡◌, map, take}
use Rattle.ms_check_tables.proofs.numbers.block_numbers.Given as goal

abbrev pub invariant-loop-block : goal.invariant-loop-block
invariant-loop-block l = record {
  names : l.names ≡ map (λ b. b.name) (take l.block-index l.block-items);
  items : l.block-items ≡ l.func.blocks;
}
