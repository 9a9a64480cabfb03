use Rattle.std.proofs.Common.{◌≡◌, ◌+◌, drop}
use Rattle.std.specs.Prelude.{slice_get}
use Rattle.ms_ir.specs.Instructions.{one_unmarked, over_insts}
use Rattle.ms_ir.specs.Spots.{spot, over_spots}
use Rattle.ms_check_tables.proofs.walk.first_in_insts.Given as goal

abbrev pub invariant-loop-place : goal.invariant-loop-place
invariant-loop-place g l = record {
  first : slice_get (over_spots (g.C.Clause.look l.clause) (spot l.func l.block l.place l.site) (drop l.place l.insts)) 0 ≡ slice_get (over_spots (g.C.Clause.look l.clause) (spot l.func l.block 0 l.fn.site) l.insts) 0;
  sites : l.site + over_insts one_unmarked (drop l.place l.insts) ≡ l.fn.site + over_insts one_unmarked l.insts;
  tables : g.C.Clause.AreOf l.clause l.func l.tables;
}
