use Rattle.std.proofs.Common.{◌≡◌, ◌++◌, map, take}
use Rattle.ms_check_tables.specs.FirstPlace.{first_place}
use Rattle.ms_elide.specs.Needed.{row_needs, result_rows}
use Rattle.ms_elide.proofs.needs.push_results.Given as goal

abbrev pub invariant-loop-inst : goal.invariant-loop-inst
invariant-loop-inst l =
    l.needs.items ≡ l.initial.needs.items ++ map (row_needs (first_place l.scope.locals.now) (first_place l.scope.functions.now)) (result_rows (take l.inst-index l.insts))
