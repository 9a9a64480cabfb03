use Rattle.std.proofs.Common.{◌≡◌, take}
use Rattle.std.specs.Prelude.{flat_map}
use Rattle.ms_ir.specs.Locals.{block_locals}
use Rattle.ms_check_flow.proofs.numbers.names_of_values.Given as goal

abbrev pub invariant-loop-block : goal.invariant-loop-block
invariant-loop-block l = record {
  names : l.names ≡ flat_map block_locals (take l.block-index l.block-items);
  items : l.block-items ≡ l.func.blocks;
}
