use Rattle.std.proofs.Common.{◌≡◌}
use Rattle.std.specs.Prelude.{slice_get, flat_map}
use Rattle.ms_check_valid.specs.ExternalsFit.{name_unless, global_fits}
use Rattle.ms_check_externals.proofs.Firsts.{first_from}
use Rattle.ms_check_externals.proofs.outside.first_global.Given as goal

abbrev pub invariant-loop-global : goal.invariant-loop-global
invariant-loop-global l = first_from (λ g. name_unless (global_fits g) g.name) l.globals l.global-index ≡ slice_get (flat_map (λ g. name_unless (global_fits g) g.name) l.globals) 0
