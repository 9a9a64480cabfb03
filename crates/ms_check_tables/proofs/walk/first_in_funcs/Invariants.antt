use Rattle.std.proofs.Common.{◌≡◌, ◌+◌, drop}
use Rattle.std.specs.Prelude.{slice_get}
use Rattle.ms_ir.specs.Instructions.{one_unmarked, over_funcs}
use Rattle.ms_ir.specs.Spots.{over_func_spots}
use Rattle.ms_check_tables.proofs.walk.first_in_funcs.Given as goal

abbrev pub invariant-loop-func : goal.invariant-loop-func
invariant-loop-func g l = record {
  first : slice_get (over_func_spots (g.C.Clause.head l.clause) (g.C.Clause.look l.clause) l.site (drop l.func-index l.funcs)) 0 ≡ slice_get (over_func_spots (g.C.Clause.head l.clause) (g.C.Clause.look l.clause) 1 l.funcs) 0;
  sites : l.site + over_funcs one_unmarked (drop l.func-index l.funcs) ≡ 1 + over_funcs one_unmarked l.funcs;
}
