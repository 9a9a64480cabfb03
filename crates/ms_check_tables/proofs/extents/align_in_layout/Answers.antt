use Rattle.std.proofs.Common.{sym, ap, ◌∙◌}
use Rattle.std.specs.Prelude.{option_map}
use Rattle.ms_ir.specs.Extents.{as_extent}
use Rattle.ms_ir.proofs.Sizes.{align_none, align_some}
use Rattle.ms_check_tables.proofs.extents.align_in_layout.Goals as goal

pub returns-in-None-clause-is : goal.returns-in-None-clause-is
returns-in-None-clause-is c = λ o h. align_none o (ap (option_map as_extent) (sym c.in-None.is) ∙ h)

pub returns-in-Some-clause-is : goal.returns-in-Some-clause-is
returns-in-Some-clause-is c = λ o h. align_some o (as_extent c.in-Some.layout) (ap (option_map as_extent) (sym c.in-Some.is) ∙ h)
