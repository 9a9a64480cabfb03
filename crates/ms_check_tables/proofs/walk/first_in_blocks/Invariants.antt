use Rattle.std.proofs.Common.{◌≡◌, ◌+◌, drop}
use Rattle.std.specs.Prelude.{slice_get}
use Rattle.ms_ir.specs.Instructions.{one_unmarked, over_blocks}
use Rattle.ms_ir.specs.Spots.{over_block_spots}
use Rattle.ms_check_tables.proofs.walk.first_in_blocks.Given as goal

abbrev pub invariant-loop-number : goal.invariant-loop-number
invariant-loop-number g l = record {
  first : slice_get (over_block_spots (g.C.Clause.look l.clause) l.func l.number l.site (drop l.number l.blocks)) 0 ≡ slice_get (over_block_spots (g.C.Clause.look l.clause) l.func 0 l.fn.site l.blocks) 0;
  sites : l.site + over_blocks one_unmarked (drop l.number l.blocks) ≡ l.fn.site + over_blocks one_unmarked l.blocks;
  tables : g.C.Clause.AreOf l.clause l.func l.tables;
}
