use Rattle.std.proofs.Common.{◌≡◌, ◌<◌, ◌^◌, [], take}
use Rattle.ms_ir.specs.Instructions.{roots_in, func_index, over_funcs}
use Rattle.ms_check_tables.specs.FirstPlace.{first_place}
use Rattle.ms_machine_compile.specs.Flat.{EachFunc}
use Rattle.ms_machine_compile.proofs.Pushes.{Pushing}
use Rattle.ms_trail_uses.specs.Tabled.{IsRow}
use Rattle.ms_trail_uses.proofs.tables.rows_of.Given as goal

abbrev pub invariant-loop-func : goal.invariant-loop-func
invariant-loop-func l = record {
  found : first_place l.functions ≡ func_index l.m.funcs;
  roots : l.roots ≡ over_funcs (roots_in (first_place l.functions)) (take l.func-index l.m.funcs);
  few : over_funcs (roots_in (first_place l.functions)) l.m.funcs < 2 ^ 32;
  pushing : Pushing (EachFunc (IsRow l.m)) [] l.rows.items l.func-index l.m.funcs;
}
