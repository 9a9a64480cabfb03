use Rattle.std.proofs.Common.{◌≡◌, map, take}
use Rattle.ms_check_flow.specs.Numbered.{next_row}
use Rattle.ms_check_flow.proofs.graphs.next_rows.Given as goal

abbrev pub invariant-loop-block : goal.invariant-loop-block
invariant-loop-block l = record {
  rows : l.rows.items ≡ map (next_row l.blocks) (take l.block-index l.block-items);
  items : l.block-items ≡ l.func.blocks;
}
