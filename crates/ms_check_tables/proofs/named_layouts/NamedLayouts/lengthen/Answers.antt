use Rattle.std.proofs.Common.{◌≡◌, map, option_map, subst, sym}
use Rattle.ms_ir.specs.Names.{lookup}
use Rattle.ms_ir.specs.Layout.{type_extent, named_extent}
use Rattle.ms_ir.specs.Extents.{limit_extent}
use Rattle.ms_check_tables.specs.Kept.{laid_rows}
use Rattle.ms_check_tables.proofs.ExtentRows.{longer_kept}
use Rattle.ms_check_tables.proofs.named_layouts.NamedLayouts.lengthen.Goals as goal

pub invariant_of-self : goal.invariant_of-self
invariant_of-self c =
    longer_kept c.self.inside.types.now c.self.inside.names c.self.inside.links c.in_ok-layouts.layouts.items c.self.invariant.names_are
    (subst
    (λ v. laid_rows c.in_ok-layouts.layouts.items ≡ map (λ t. option_map limit_extent (type_extent (named_extent (lookup v.types) v.links) t.1)) v.types)
    (sym c.self.view_is) c.in_ok-layouts.ensures.is)
    c.in_ok-layouts.ensures.layouts
