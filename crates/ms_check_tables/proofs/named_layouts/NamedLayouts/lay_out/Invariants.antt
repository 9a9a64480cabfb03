use Rattle.std.proofs.Common.{◌≡◌, map, take, All, IfSome, option_map}
use Rattle.ms_ir.specs.Names.{lookup}
use Rattle.ms_ir.specs.Layout.{type_extent, named_extent}
use Rattle.ms_ir.specs.Extents.{IsLayout, limit_extent}
use Rattle.ms_check_tables.specs.Kept.{laid_rows}
use Rattle.ms_check_tables.proofs.named_layouts.NamedLayouts.lay_out.Given as goal

abbrev pub invariant-loop-ty : goal.invariant-loop-ty
invariant-loop-ty l = record {
  is : laid_rows l.layouts.items ≡ map (λ t. option_map limit_extent (type_extent (named_extent (lookup l.fn.self.types) l.fn.self.links) t.1)) (take l.ty-index l.types);
  layouts : All (λ row. IfSome row IsLayout) l.layouts.items;
}
