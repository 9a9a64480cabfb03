use Rattle.std.proofs.Common.{◌≡◌, map, take}
use Rattle.ms_check_flow.specs.Numbered.{defs_row}
use Rattle.ms_check_flow.proofs.graphs.defs_rows.Given as goal

abbrev pub invariant-loop-block : goal.invariant-loop-block
invariant-loop-block l = record {
  rows : l.rows.items ≡ map (defs_row l.values) (take l.block-index l.block-items);
  items : l.block-items ≡ l.func.blocks;
}
