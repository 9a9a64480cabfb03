use Rattle.std.proofs.Common.{◌≡◌}
use Rattle.std.specs.Prelude.{slice_get, flat_map}
use Rattle.ms_check_externals.specs.Outside.{func_faults}
use Rattle.ms_check_externals.proofs.Firsts.{first_from}
use Rattle.ms_check_externals.proofs.outside.first_in_funcs.Given as goal

abbrev pub invariant-loop-func : goal.invariant-loop-func
invariant-loop-func l = first_from (func_faults l.functions) l.funcs l.func-index ≡ slice_get (flat_map (func_faults l.functions) l.funcs) 0
