use Rattle.std.proofs.Common.{◌≡◌}
use Rattle.std.specs.Prelude.{slice_get, flat_map}
use Rattle.ms_check_valid.specs.ExternalsFit.{name_unless, decl_fits}
use Rattle.ms_check_externals.proofs.Firsts.{first_from}
use Rattle.ms_check_externals.proofs.outside.first_decl.Given as goal

abbrev pub invariant-loop-decl : goal.invariant-loop-decl
invariant-loop-decl l = first_from (λ d. name_unless (decl_fits l.called d) d.name) l.decls l.decl-index ≡ slice_get (flat_map (λ d. name_unless (decl_fits l.called d) d.name) l.decls) 0
