use Rattle.std.proofs.Common.{sym, ap, ◌∙◌}
use Rattle.std.specs.Prelude.{option_map}
use Rattle.ms_ir.specs.Extents.{as_extent}
use Rattle.ms_ir.proofs.Sizes.{size_none, size_some, size_large}
use Rattle.ms_check_tables.proofs.extents.small_size.Goals as goal

pub returns-in-None : goal.returns-in-None
returns-in-None c = λ o h. size_none o (ap (option_map as_extent) (sym c.in-None.is) ∙ h)

pub returns-then-layout-le-LARGEST : goal.returns-then-layout-le-LARGEST
returns-then-layout-le-LARGEST c = λ o h. size_some o (as_extent c.in-Some.layout) (ap (option_map as_extent) (sym c.in-Some.is) ∙ h) c.if-layout-le-LARGEST.true

pub returns-else-layout-le-LARGEST : goal.returns-else-layout-le-LARGEST
returns-else-layout-le-LARGEST c = λ o h. size_large o (as_extent c.in-Some.layout) (ap (option_map as_extent) (sym c.in-Some.is) ∙ h) c.if-layout-le-LARGEST.false
