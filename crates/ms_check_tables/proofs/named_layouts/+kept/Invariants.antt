use Rattle.std.proofs.Common.{◌≡◌, drop, map}
use Rattle.std.specs.Prelude.{option_map}
use Rattle.ms_ir.specs.Names.{lookup}
use Rattle.ms_ir.specs.Layout.{extent, place_fields, type_extent, named_extent}
use Rattle.ms_ir.specs.Extents.{IsLayout, limit_extent, as_extent}
use Rattle.ms_check_tables.proofs.named_layouts.+kept.Given as goal

abbrev pub invariant-struct_layout-loop-field : goal.invariant-struct_layout-loop-field
invariant-struct_layout-loop-field l = record {
  is : option_map limit_extent (place_fields l.packed (as_extent l.so_far) (map (type_extent (named_extent (lookup l.kept.types) l.kept.links)) (drop l.field-index l.fields)))
      ≡ option_map limit_extent (place_fields l.packed (extent 0 1) (map (type_extent (named_extent (lookup l.kept.types) l.kept.links)) l.fields));
  layout : IsLayout l.so_far;
}
