use Rattle.std.proofs.Common.{◌≡◌}
use Rattle.std.specs.Prelude.{slice_get, flat_map}
use Rattle.ms_check_types.specs.SizedParts.{func_faults}
use Rattle.ms_check_types.proofs.FirstFaults.{first_from}
use Rattle.ms_check_types.proofs.faults.first_func.Given as goal

abbrev pub invariant-loop-func : goal.invariant-loop-func
invariant-loop-func l = first_from (func_faults l.extents) l.funcs l.func-index ≡ slice_get (flat_map (func_faults l.extents) l.funcs) 0
