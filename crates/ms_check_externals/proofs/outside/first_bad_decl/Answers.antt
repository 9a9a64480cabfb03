use Rattle.std.proofs.Common.{◌∙◌}
use Rattle.std.specs.Prelude.{slice_get, flat_map}
use Rattle.std.proofs.Math.Path.{ap₂}
use Rattle.ms_check_valid.specs.ExternalsFit.{name_unless, decl_fits}
use Rattle.ms_check_externals.proofs.outside.first_bad_decl.Goals as goal

pub returns : goal.returns
returns c =
    c.first_decl.ensures ∙ ap₂ (λ called ds. slice_get (flat_map (λ d. name_unless (decl_fits called d) d.name) ds) 0) c.in_ok-called.ensures c.as_slice.ensures
