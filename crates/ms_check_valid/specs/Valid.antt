-- What a valid module is.
use Rattle.std.specs.Prelude.{◌≡◌, [], IsTrue}
use Rattle.ms_ir.specs.declared.syntax.Module.{Module}
use Rattle.ms_check_valid.specs.NamesOnce.{duplicates}
use Rattle.ms_check_valid.specs.NamesKnown.{unknowns}
use Rattle.ms_check_valid.specs.TypesAgree.{mismatches}
use Rattle.ms_check_valid.specs.PhisFit.{bad_edges}
use Rattle.ms_check_valid.specs.HasMain.{defines_main}
use Rattle.ms_check_valid.specs.ExternalsFit.{bad_externals}
use Rattle.ms_check_valid.specs.UsesDefined.{UsesDefined}
use Rattle.ms_check_valid.specs.MarksFit.{bad_marks}
use Rattle.ms_check_valid.specs.SizesFit.{unsized}

-- names are defined once and known, types agree, phis and branches fit, `main` is there, externals are as they are known,
-- each use of a value is defined, marks stand on inserted code alone, and types have sizes
pub record Valid (m : Module) : Type 0 where
  pub names_once : duplicates m ≡ []
  pub names_known : unknowns m ≡ []
  pub types_agree : mismatches m ≡ []
  pub phis_fit : bad_edges m ≡ []
  pub has_main : IsTrue (defines_main m)
  pub externals_fit : bad_externals m ≡ []
  pub uses_defined : UsesDefined m
  pub marks_fit : bad_marks m ≡ []
  pub sizes_fit : unsized m ≡ []
