use Rattle.std.proofs.Common.{◌∙◌}
use Rattle.std.specs.Prelude.{slice_get, flat_map}
use Rattle.std.proofs.Math.Path.{ap₂}
use Rattle.ms_check_externals.specs.Outside.{func_faults}
use Rattle.ms_check_externals.proofs.outside.first_bad_func.Goals as goal

pub returns : goal.returns
returns c = c.first_in_funcs.ensures ∙ ap₂ (λ names fs. slice_get (flat_map (func_faults names) fs) 0) c.in_ok-functions.ensures c.as_slice.ensures
